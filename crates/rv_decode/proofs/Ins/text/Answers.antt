use Rattle.std.proofs.Common.{◌∙◌}
use Rattle.rv_decode.proofs.Forms.{text_is}
use Rattle.rv_decode.proofs.Ins.text.Goals as goal

pub returns : goal.returns
returns c =
    c.in_ok-add_text.ensures ∙ text_is c.args.self.now _ _ _ c.new-text.ensures.bytes c.name.ensures
    c.operands.ensures
