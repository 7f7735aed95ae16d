use Rattle.std.proofs.Common.{◌≡◌, ℕ, ◌<◌, ◌/◌, ◌%◌, length, Option, Some, None, sym, subst, arith}
use Rattle.std.specs.Prelude.{IfSome}
use Rattle.std.proofs.lemmas.List.Elements.{All-get_or}
use Rattle.rv_decode.specs.declared.Ins.{Ins}
use Rattle.rv_decode.specs.Range.{HasFieldsInRange}
use Rattle.rv_decode.specs.Table.{ins_of_word}
use Rattle.rv_decode.proofs.Ranges.{row_in_range}
use Rattle.preempt_machine.specs.declared.decoded.Decoding.{Decoding}
use Rattle.preempt_machine.proofs.decoded.Decoded.meaning.Goals as goal

found_in_range : (found : Option Ins) (w : ℕ) → found ≡ ins_of_word w
    → IfSome found HasFieldsInRange
found_in_range None w e = tt
found_in_range (Some ins) w e = row_in_range w ins e

pub returns-then-kept-word-clause-in_range : goal.returns-then-kept-word-clause-in_range
returns-then-kept-word-clause-in_range c =
    let kept = c.index-kept.result.now in
    let at = (c.args.address / 4) % c.len.result in
    let below : at < length c.self.inside.places.items =
    omega (arith, c.self.invariant.some, c.len.ensures) in
    let means = subst (λ (d : Decoding). d.meaning ≡ ins_of_word d.word) (sym c.index-kept.ensures)
    (All-get_or (λ (d : Decoding). d.meaning ≡ ins_of_word d.word) c.self.inside.places.items at
    kept below c.self.invariant.each) in
    found_in_range kept.meaning kept.word means
