use Rattle.std.proofs.Common.{◌≡◌, ℕ, ◌∙◌, sym, ap, subst}
use Rattle.std.proofs.lemmas.Bool.{eqb-true, eq-eqb}
use Rattle.crpd_base.proofs.Options.{some_injective}
use Rattle.rv_decode.specs.Encoding.{IsWordOf, encoding}
use Rattle.rv_decode.specs.Range.{HasFieldsInRange}
use Rattle.rv_decode.specs.Table.{ins_of_word}
use Rattle.rv_decode.specs.declared.Ins.{Ins}
use Rattle.flat_graph.proofs.SameCode.{ins_in_range}
use Rattle.cert_update.proofs.same.has_same_instruction.Goals as goal

-- instructions of one word are the same
of_one_word : (a b : Ins) (v w : ℕ) → IsWordOf a v → IsWordOf b w → v ≡ w → a ≡ b
of_one_word a b v w A B same =
    some_injective (sym A.decoded ∙ ap ins_of_word same ∙ B.decoded)

pub encode-requires : goal.encode-requires
encode-requires c =
    subst (λ (i : Ins). HasFieldsInRange i) (sym c.ins.ensures)
    (ins_in_range c.args.old.now c.graph_law.ensures.code c.args.id.0 c.requires.old)

pub encode-requires-2 : goal.encode-requires-2
encode-requires-2 c =
    subst (λ (i : Ins). HasFieldsInRange i) (sym c.ins-2.ensures)
    (ins_in_range c.args.new.now c.graph_law-2.ensures.code c.args.id.0 c.requires.new)

pub returns : goal.returns
returns c = (
  (λ t.
      sym c.ins.ensures
      ∙ of_one_word _ _ _ _ c.encode.ensures.is_word c.encode-2.ensures.is_word (eqb-true _ _ t)
      ∙ c.ins-2.ensures),
  (λ e.
      eq-eqb _ _
      (c.encode.ensures.value ∙ ap encoding (c.ins.ensures ∙ e ∙ sym c.ins-2.ensures)
      ∙ sym c.encode-2.ensures.value)),
)
