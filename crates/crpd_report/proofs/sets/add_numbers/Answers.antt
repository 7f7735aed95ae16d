use Rattle.std.proofs.Common.{◌≡◌, ◌+◌, ◌++◌, ◌∙◌, refl, sym, ap, arith, string_bytes, flat_map}
use Rattle.crpd_base.specs.Sets.{has}
use Rattle.crpd_report.specs.List.{those_below}
use Rattle.crpd_report.specs.Sets.{number_text, numbers_text}
use Rattle.crpd_report.proofs.Members.{passed, failed, none_yet, is_the_test}
use Rattle.crpd_report.proofs.sets.add_numbers.Goals as goal
use Rattle.crpd_report.proofs.sets.add_numbers.Goals.{then-has+in_ok-add_number, else-has}

pub loop-number-init : goal.loop-number-init
loop-number-init c = none_yet number_text (has c.args.set.now) (string_bytes c.args.text.now)

pub loop-number-preserved : goal.loop-number-preserved
loop-number-preserved c =
    let n = c.loop-number.number in
    let same : c.has.result ≡ has c.args.set.now n =
    is_the_test c.args.set.now n c.has.result c.has.ensures in
    elim c.if-has.branch [
      | then-has+in_ok-add_number w ↦
          let e = passed number_text (has c.args.set.now) (string_bytes c.args.text.now)
          (string_bytes c.loop-number.text) n (n + 1) refl (sym same ∙ w.if-has.true)
          c.loop-number.invariant in
          grind (arith, e, w.text-is, w.in_ok-add_number.ensures)
      | else-has w ↦
          let e = failed number_text (has c.args.set.now) (string_bytes c.args.text.now)
          (string_bytes c.loop-number.text) n (n + 1) refl (sym same ∙ w.if-has.false)
          c.loop-number.invariant in
          grind (arith, e, w.text-is)
    ]

pub returns : goal.returns
unfolding numbers_text
returns c =
    let all : c.loop-number.number ≡ 512 =
    omega (arith, c.loop-number-test.false, c.loop-number.auto.number-end) in
    c.loop-number.invariant ∙ ap
    (λ n. string_bytes c.args.text.now
    ++ flat_map number_text (those_below n (has c.args.set.now))) all
