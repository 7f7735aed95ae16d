use Rattle.std.proofs.Common.{◌∙◌, sym, arith, refl}
use Rattle.std.proofs.lemmas.Bool.Decides.{Decides-eqb}
use Rattle.std.proofs.lemmas.Slice.Eq.{slice_eq-Decides}
use Rattle.std.proofs.lemmas.Bool.{not-false}
use Rattle.code_map.proofs.Valued.{symbols_more}
use Rattle.code_map.proofs.symbols.are_same.Goals as goal

pub loop-i-preserved : goal.loop-i-preserved
loop-i-preserved c =
    let equal = not-false _ (sym c.ne.ensures ∙ c.if-ne.false) in
    let names =
    (slice_eq-Decides Decides-eqb c.as_slice.result.now c.as_slice-else-symbol-other.result.now _
    refl).0 equal in
    symbols_more c.args.symbols.now c.args.others.now c.loop-i.i c.index-symbols-i.result
    c.index-others-i.result c.loop-i-test.true (grind arith) c.index-symbols-i.is
    c.index-others-i.is
    (sym c.as_slice.ensures ∙ (names ∙ c.as_slice-else-symbol-other.ensures))
    c.if-symbol-other.false c.loop-i.invariant
