-- The result of reading bytes, by whether they are text and whether the text is TOML.
use Rattle.std.proofs.Common.{◌≡◌, ℕ, List, Option, Err, inl, inr}
use Rattle.std.specs.Str.{IsUtf8, is_utf8}
use Rattle.std.proofs.lemmas.Bool.{cases_Bool}
use Rattle.std.proofs.lemmas.Str.{IsUtf8-from_is_utf8, is_utf8-from_IsUtf8}
use Rattle.crpd_base.specs.declared.data.TaskSet.{TaskSet}
use Rattle.toml.specs.Data.{Members}
use Rattle.toml.specs.Parse.{parse_document}
use Rattle.script_reader.specs.declared.error.ScriptError.TheVariants.{NotToml}
use Rattle.script_reader.specs.Reading.{reading, document}

pub reading_of_text : (bytes : List ℕ) (set : TaskSet) (o : Option Members) → IsUtf8 bytes
    → parse_document bytes ≡ o → reading bytes set ≡ document set o
unfolding reading
reading_of_text bytes set o text is = rw (is_utf8-from_IsUtf8 bytes text, is)

pub reading_of_bytes : (bytes : List ℕ) (set : TaskSet) → ¬ (IsUtf8 bytes)
    → reading bytes set ≡ Err NotToml
unfolding reading
reading_of_bytes bytes set no_text =
    elim (cases_Bool (is_utf8 bytes)) [
      | inl is ↦ absurd (no_text (IsUtf8-from_is_utf8 bytes is))
      | inr not_is ↦ rw not_is
    ]
