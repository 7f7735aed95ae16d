use Rattle.std.proofs.Common.{arith, refl}
use Rattle.cert_model.proofs.Texts.{reading_of_text, reading_of_bytes}
use Rattle.cert_model.proofs.reading.certificate_of.Goals as goal

pub returns-in-Err : goal.returns-in-Err
returns-in-Err c = λ n. absurd (n refl)

pub returns-in_default : goal.returns-in_default
returns-in_default c = grind (arith, reading_of_text, reading_of_bytes)

pub returns-in-Ok-from_str : goal.returns-in-Ok-from_str
returns-in-Ok-from_str c = grind (arith, reading_of_text, reading_of_bytes)

pub returns-in-Err-2 : goal.returns-in-Err-2
returns-in-Err-2 c = grind (arith, reading_of_text, reading_of_bytes)
