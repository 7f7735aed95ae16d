use Rattle.std.proofs.Common.{Some, ◌∙◌, ap, sym, is_some}
use Rattle.code_map.proofs.KeptWords.{runs_at, own_apart, own_word}
use Rattle.code_map.proofs.files.Files.own.Goals as goal

pub word-requires : goal.word-requires
word-requires c =
    rw c.from_ref-image.ensures.value
    (own_apart c.self.inside c.args.self.now _ c.args.place c.self.invariant c.self.view_is
    c.requires
    (runs_at c.self.inside.own c.args.place c.index-runs.result.now c.as_slice.result.now
    c.index-runs.ensures c.as_slice.ensures) c.index.result.now c.index.ensures)

pub returns : goal.returns
returns c =
    own_word c.self.inside c.args.self.now c.as_slice.result.now c.args.place c.self.invariant
    c.self.view_is c.requires
    (runs_at c.self.inside.own c.args.place c.index-runs.result.now c.as_slice.result.now
    c.index-runs.ensures c.as_slice.ensures) c.index.result.now c.index.ensures c.args.address
    ∙ ap Some (ap is_some (sym (rw c.from_ref-image.ensures.value at c.word.ensures))
    ∙ sym c.is_some.ensures)
