use Rattle.std.proofs.Common.{◌≡◌, ◌≢◌, ◌<◌, ◌==◌, [], Some, None, true, false, length, get_or, sym}
use Rattle.std.proofs.Common.{ap, ◌∙◌, subst, ⊎_elim, arith, ne_eqb}
use Rattle.std.proofs.lemmas.Bool.{cases_eq, false≢true}
use Rattle.std.proofs.lemmas.List.{get_or_default}
use Rattle.crpd_base.specs.Sets.{member, has}
use Rattle.icache.specs.Cache.{Cache, held}
use Rattle.must_cache.specs.Marks.{sets_at}
use Rattle.must_cache.specs.States.{state_at}
use Rattle.must_cache.proofs.sure.prepaid_at.Goals as goal

pub has-marked-requires : goal.has-marked-requires
has-marked-requires g c =
    (omega (arith, c.requires.few), omega (arith, c.requires.set, c.requires.room_for_sets))

pub at-requires : goal.at-requires
at-requires g c = (omega (arith, c.requires.few, c.requires.room_for_sets), c.requires.set)

pub returns-else-is_sure : goal.returns-else-is_sure
returns-else-is_sure g c m =
    let l = c.requires.parts.kept c.args.node.0 c.requires.node c.requires.kept in
    let marks : c.index-2.result.now ≡ sets_at c.args.parts.now.unsure.items c.args.node.0 =
    c.index-2.ensures ∙ get_or_default c.args.parts.now.unsure.items c.args.node.0 _ []
    (omega (arith, c.requires.node, c.requires.parts.unsure_count)) in
    let marked : has (sets_at c.args.parts.now.unsure.items c.args.node.0) c.args.set ≡ true =
    ap (λ w. has w c.args.set) (sym marks) ∙ ap (λ k. k == 1) (c.has-marked.ensures.0
    c.if-is_sure.false) in (
      λ none. absurd (let h : None ≡ Some m = none in cc),
      λ sure. absurd (false≢true (sym ((l.each c.args.set m).1 sure).0 ∙ marked)),
    )

pub returns-then-is_sure : goal.returns-then-is_sure
returns-then-is_sure g c m =
    let l = c.requires.parts.kept c.args.node.0 c.requires.node c.requires.kept in
    let marks : c.index-2.result.now ≡ sets_at c.args.parts.now.unsure.items c.args.node.0 =
    c.index-2.ensures ∙ get_or_default c.args.parts.now.unsure.items c.args.node.0 _ []
    (omega (arith, c.requires.node, c.requires.parts.unsure_count)) in
    let unmarked : has (sets_at c.args.parts.now.unsure.items c.args.node.0) c.args.set ≡ false =
    ap (λ w. has w c.args.set) (sym marks) ∙ ⊎_elim
    (λ (one : member c.index-2.result.now c.args.set ≡ 1).
    absurd (false≢true (sym c.if-is_sure.true ∙ c.has-marked.ensures.1 one)))
    (λ (ne : member c.index-2.result.now c.args.set ≢ 1).
    ne_eqb (member c.index-2.result.now c.args.set) 1 ne)
    (cases_eq (member c.index-2.result.now c.args.set) 1) in
    let place : get_or c.args.parts.now.places.items c.args.node.0 None ≡ Some c.in-Some.state =
    get_or_default c.args.parts.now.places.items c.args.node.0 None _
    (omega (arith, c.requires.node, c.requires.parts.places_count)) ∙ sym c.index.ensures
    ∙ c.in-Some.is in
    let same : l.at ≡ c.in-Some.state = let h : Some l.at ≡ Some c.in-Some.state =
    sym l.is ∙ place in cc in
    let within : c.in-Some.state < length c.args.parts.now.states.items =
    subst (λ k. k < length c.args.parts.now.states.items) same l.within in
    let read : c.index-then-is_sure.result.now ≡ state_at c.args.parts.now.states.items l.at =
    c.index-then-is_sure.ensures
    ∙ get_or_default c.args.parts.now.states.items c.in-Some.state _ [] within
    ∙ ap (λ k. state_at c.args.parts.now.states.items k) (sym same) in
    let is : c.at.result ≡ held (state_at c.args.parts.now.states.items l.at) c.args.set =
    c.at.ensures ∙ ap (λ (st : Cache). held st c.args.set) read in (
      λ e. (l.each c.args.set m).0 (unmarked, sym is ∙ e),
      λ sure. is ∙ ((l.each c.args.set m).1 sure).1,
    )
