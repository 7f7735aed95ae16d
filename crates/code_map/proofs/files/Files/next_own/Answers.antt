use Rattle.std.proofs.Common.{◌≡◌, ◌∙◌, List, [], ◌∷◌, ap, get_or, subst}
use Rattle.std.proofs.lemmas.Option.{get_or_from_slice_get}
use Rattle.crpd_base.specs.declared.data.Image.{Image}
use Rattle.code_map.specs.Inner.NextPassing.{IsNextAddress}
use Rattle.code_map.specs.Inner.Runs.{have_word}
use Rattle.code_map.proofs.KeptWords.{runs_at, own_apart}
use Rattle.code_map.proofs.NextWord.{kept_next}
use Rattle.code_map.proofs.files.Files.next_own.Goals as goal

pub next_word-requires : goal.next_word-requires
next_word-requires c =
    rw c.from_ref-image.ensures.value
    (own_apart c.self.inside c.args.self.now _ c.args.place c.self.invariant c.self.view_is
    c.requires
    (runs_at c.self.inside.own c.args.place c.index-own.result.now c.as_slice.result.now
    c.index-own.ensures c.as_slice.ensures) c.index.result.now c.index.ensures)

pub returns-clause-is : goal.returns-clause-is
returns-clause-is c = λ i at.
    let same : c.index.result.now ≡ i =
    c.index.ensures
    ∙ (ap (λ (xs : List Image). get_or xs c.args.place c.index.result.now) c.self.view_is
    ∙ get_or_from_slice_get c.args.self.now c.args.place i c.index.result.now at) in
    kept_next c.self.inside c.args.self.now c.as_slice.result.now c.args.place c.self.invariant
    c.self.view_is c.requires
    (runs_at c.self.inside.own c.args.place c.index-own.result.now c.as_slice.result.now
    c.index-own.ensures c.as_slice.ensures)
    i at c.args.from c.next_word.result
    (subst (λ (xs : List Image). IsNextAddress (have_word xs c.as_slice.result.now) c.args.from
    c.next_word.result) (c.from_ref-image.ensures.value ∙ ap (λ x. x ∷ []) same)
    c.next_word.ensures.is)
