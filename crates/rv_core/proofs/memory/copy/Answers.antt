use Rattle.std.proofs.Common.{◌≡◌, ◌+◌, ◌-◌, length, ◌∙◌, ap, arith}
use borrow.Rule.Slice.PartMut.{put_mid}
use Rattle.rv_core.proofs.Bytes.{copied, fits_byte}
use Rattle.rv_core.proofs.memory.copy.Goals as goal

pub returns : goal.returns
returns c =
    let bytes = c.args.bytes.now in
    let page = c.args.page.now in
    let at = c.args.at in
    let many : at + length bytes - at ≡ length bytes = omega arith in
    ap (λ n. put_mid at n page c.copy_from_slice.new.self) many
    ∙ ap (put_mid at (length bytes) page) c.copy_from_slice.ensures.after
    ∙ copied bytes page at (λ i. fits_byte (c.type_inv.bytes i)) (omega arith)
