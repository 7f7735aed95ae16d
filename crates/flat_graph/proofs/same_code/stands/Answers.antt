use Rattle.std.proofs.Common.{◌≡◌, ◌∙◌, ◌<◌, ◌^◌, Some, sym, ap, subst, arith}
use Rattle.std.proofs.lemmas.Bool.{eqb-true, eq-eqb}
use Rattle.rv_decode.specs.Range.{HasFieldsInRange}
use Rattle.rv_decode.specs.Table.{ins_of_word}
use Rattle.rv_decode.specs.declared.Ins.{Ins}
use Rattle.flat_graph.proofs.SameCode.{ins_in_range}
use Rattle.flat_graph.proofs.same_code.stands.Goals as goal

pub encode-requires : goal.encode-requires
encode-requires c =
    subst (λ (i : Ins). HasFieldsInRange i) (sym c.ins.ensures)
    (ins_in_range c.args.graph.now c.graph_law.ensures.code c.args.id.0 c.requires)

pub returns-in-Some : goal.returns-in-Some
returns-in-Some c = (
  (λ t.
      let same : c.encode.result ≡ c.in-Some.word = eqb-true _ _ t in (
        c.in-Some.word,
        cc,
        ap ins_of_word (sym same) ∙ c.encode.ensures.is_word.decoded ∙ ap (λ (i : Ins). Some i)
            c.ins.ensures,
      )),
  (λ s.
      let word : s.0 ≡ c.in-Some.word = cc (s.1, c.in-Some.ensures.is) in
      let below : s.0 < 2 ^ 32 = omega arith in
      let same : c.encode.result ≡ c.in-Some.word =
      c.encode.ensures.is_word.only s.0 below (s.2 ∙ ap (λ (i : Ins). Some i) (sym c.ins.ensures))
      ∙ word in
      eq-eqb _ _ same),
)
