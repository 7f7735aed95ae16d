use Rattle.std.proofs.Common.{◌≡◌, ◌<◌, Some, None, IsSome, map, length, get_or, sym, subst, ap, ◌∙◌}
use Rattle.std.proofs.Common.{arith}
use Rattle.std.proofs.lemmas.Bool.{false≢true}
use Rattle.std.proofs.lemmas.List.{get_or_default, map-append, take_all}
use Rattle.crpd_base.proofs.Elements.{copied_more}
use Rattle.must_cache.proofs.facts.all_present.Goals as goal

pub loop-fact-preserved : goal.loop-fact-preserved
loop-fact-preserved g c =
    copied_more _ _ _ _ _ _ (omega arith) c.loop-fact.invariant c.fact-item.is (sym c.in-Some.is)
    (ap (map Some) c.in_ok-push-in-Some.ensures.items ∙ map-append Some _ _)

pub unreachable-requires : goal.unreachable-requires
unreachable-requires g c =
    let i = c.loop-fact.fact-index in
    let within : i < length c.args.facts.now = omega arith in
    let none : get_or c.args.facts.now i None ≡ None =
    get_or_default c.args.facts.now i None _ within ∙ sym c.fact-item.is ∙ c.in-None.is in
    false≢true (subst IsSome none (c.requires i within))

pub returns : goal.returns
returns g c = c.loop-fact.invariant ∙ take_all _ _ c.loop-fact-test.false
