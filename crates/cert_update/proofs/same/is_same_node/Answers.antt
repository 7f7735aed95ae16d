use Rattle.std.proofs.Common.{◌∙◌, sym, refl}
use Rattle.cert_update.proofs.same.is_same_node.Goals as goal

pub returns : goal.returns
returns c = (
  λ t. record {
    context = sym c.context.ensures ∙ c.are_same_calls.ensures.0 t ∙ c.context-2.ensures;
    address = sym c.address.ensures ∙ c.if-address.false ∙ c.address-2.ensures;
    instruction = c.if-not-has_same_instruction.ensures.0 refl;
  },
  λ same. c.are_same_calls.ensures.1 (c.context.ensures ∙ same.context ∙ sym c.context-2.ensures),
)
