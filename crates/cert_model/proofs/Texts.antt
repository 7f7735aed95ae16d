-- The result of reading bytes, by whether they are text and whether the text is JSON.
use Rattle.std.proofs.Common.{◌≡◌, ℕ, List, Option, Err, inl, inr}
use Rattle.std.specs.Str.{IsUtf8, is_utf8}
use Rattle.std.proofs.lemmas.Bool.{cases_Bool}
use Rattle.std.proofs.lemmas.Str.{IsUtf8-from_is_utf8, is_utf8-from_IsUtf8}
use Rattle.serde_json.specs.Data.{Data}
use Rattle.serde_json.specs.Read.{read}
use Rattle.cert_model.specs.declared.error.CertError.TheVariants.{NotJson}
use Rattle.cert_model.specs.Reading.{reading, document}

pub reading_of_text : (bytes : List ℕ) (o : Option Data) → IsUtf8 bytes → read bytes ≡ o
    → reading bytes ≡ document o
unfolding reading
reading_of_text bytes o text is = rw (is_utf8-from_IsUtf8 bytes text, is)

pub reading_of_bytes : (bytes : List ℕ) → ¬ (IsUtf8 bytes) → reading bytes ≡ Err NotJson
unfolding reading
reading_of_bytes bytes no_text =
    elim (cases_Bool (is_utf8 bytes)) [
      | inl is ↦ absurd (no_text (IsUtf8-from_is_utf8 bytes is))
      | inr not_is ↦ rw not_is
    ]
