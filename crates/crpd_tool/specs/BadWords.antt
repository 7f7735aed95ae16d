-- What is written for words of no command's form, whatever the files contain.
use Rattle.std.specs.Prelude.{◌≡◌, ◌⊎◌, ℕ, List, Option}
use Rattle.crpd_io.specs.Outside.{AppendsPrefix, output_after}
use Rattle.crpd_tool.specs.Texts.{bad_words_text}
use Rattle.crpd_tool.specs.declared.status.Status.{Status}
use Rattle.crpd_tool.specs.declared.status.Status.TheVariants.{BadWords, WriteFault}

-- the whole line with BadWords, or a prefix of it with WriteFault
abbrev pub TellsBadWords : (old new : Option (List ℕ)) → Status → Type 0
TellsBadWords old new s =
    ((s ≡ BadWords) × (new ≡ output_after old bad_words_text))
    ⊎ ((s ≡ WriteFault) × AppendsPrefix old new bad_words_text)
