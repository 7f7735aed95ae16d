use Rattle.std.proofs.Common.{arith, ◌≡◌, ℕ, suc, ◌+◌, ◌*◌, ◌∙◌, ap, sym, max, [], length}
use Rattle.std.proofs.lemmas.List.{get_or_read}
use Rattle.crpd_base.specs.Sets.{has}
use Rattle.delay_count.specs.Gamma.{shared_count}
use Rattle.delay_count.specs.Demand.{greatest_from}
use Rattle.delay_count.proofs.Greatest.{greatest_more}
use Rattle.delay_classic.specs.Gamma.{useful_in}
use Rattle.delay_classic.proofs.Lists.{larger_is}
use Rattle.delay_classic.proofs.delays.classic_ecb.Goals as goal

pub returns : goal.returns
returns g c =
    let all : c.loop-useful.useful-index ≡ length c.args.lower.now = omega arith in
    c.reloads.ensures
    ∙ ap (λ z. c.args.miss * c.args.jobs * z)
    (c.loop-useful.invariant.is
    ∙ ap (greatest_from (λ k.
    shared_count (useful_in c.args.lower.now k) (has c.args.evicting_up.now) (64 * g.row.W)) 0) all)

pub loop-useful-preserved : goal.loop-useful-preserved
loop-useful-preserved g c =
    let i = c.loop-useful.useful-index in
    let count : ℕ → ℕ = λ k.
    shared_count (useful_in c.args.lower.now k) (has c.args.evicting_up.now) (64 * g.row.W) in
    let item = get_or_read c.args.lower.now i c.useful-item.result c.loop-useful-test.true
    c.useful-item.is [] in
    let here : c.shared.result ≡ count i =
    c.shared.ensures.is
    ∙ ap (λ u. shared_count (has u) (has c.args.evicting_up.now) (64 * g.row.W)) item in
    let next : c.max-most.result ≡ max c.loop-useful.most c.shared.result =
    c.max-most.ensures ∙ larger_is c.loop-useful.most c.shared.result in
    let so_far : c.loop-useful.most ≡ greatest_from count 0 i = c.loop-useful.invariant.is in
    let same : max c.loop-useful.most c.shared.result ≡ max (count i) (greatest_from count 0 i) =
    omega (arith, here, so_far) in
    let more = greatest_more count 0 i (omega arith) in
    let following : suc i ≡ i + 1 = omega arith in
    record {
      is = next ∙ same ∙ sym more ∙ ap (greatest_from count 0) following;
      most = omega (arith, next, c.shared.ensures.most, c.requires, c.loop-useful.invariant.most);
    }
