use Rattle.std.proofs.Common.{◌≡◌, ◌<◌, ◌∙◌, ℕ, Err, ap, arith}
use Rattle.std.proofs.lemmas.Bool.Decides.{nat_tests}
use Rattle.crpd_base.specs.Limits.{most_entries}
use Rattle.crpd_base.specs.declared.data.Certificate.{Certificate}
use Rattle.cert_model.specs.Reading.{entries, within_entry_limit}
use Rattle.cert_model.specs.declared.error.CertError.TheVariants.{TooLong}
use Rattle.cert_model.proofs.reading.counted.Goals as goal

over_limit : (c : Certificate) (n : ℕ) → most_entries < n → n ≡ entries c.tasks
    → Err (TooLong n) ≡ within_entry_limit c
unfolding within_entry_limit
over_limit c n over is = grind (arith, nat_tests)

pub returns-then-too_many : goal.returns-then-too_many
returns-then-too_many c =
    over_limit c.args.certificate c.entries-entries.result (omega arith)
    (c.entries-entries.ensures ∙ ap entries c.as_slice.ensures)
