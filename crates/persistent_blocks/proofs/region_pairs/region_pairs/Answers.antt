use Rattle.std.proofs.Common.{◌≡◌, ℕ, ◌<◌, List, ◌++◌, if◌then◌else◌, None, length, take, drop, sym}
use Rattle.std.proofs.Common.{◌∙◌, subst, arith}
use Rattle.std.proofs.Math.Seq.{take-append_seam}
use Rattle.crpd_base.specs.Sets.{has}
use Rattle.flat_graph.specs.CodeGraph.{places_of}
use Rattle.icache.specs.Accesses.{accesses}
use Rattle.icache.specs.Cache.{Cache, held}
use Rattle.loop_regions.specs.CodeNest.{nest_of}
use Rattle.must_cache.specs.Marks.{sets_at}
use Rattle.must_cache.specs.States.{state_at}
use Rattle.persistent_blocks.specs.Inner.Noted.{ArePersistentPairs}
use Rattle.persistent_blocks.proofs.Noting.{persistent_pairs}
use Rattle.persistent_blocks.proofs.region_pairs.region_pairs.Goals as goal

-- a whole list that is written back
written : {A : Type 0} (n : ℕ) (new old : List A) → length new ≡ n
    → take n (new ++ drop (length new) old) ≡ new
written n new old count =
    subst (λ k. take k (new ++ drop (length new) old) ≡ new) count
    (take-append_seam new (drop (length new) old))

pub returns : goal.returns
returns c =
    let a = accesses c.args.geometry.now.platform (places_of c.args.graph.now).address in
    let nest = nest_of c.args.nest.now in
    let n = c.in_ok-first.first.len in
    let noted = c.note_nodes.new.first in
    let mixed = c.note_nodes.new.mixed in
    let pairs = c.forget_mixed.new.first in
    let size : n ≡ nest.size = omega (arith, c.in_ok-first.ensures.len, c.len-regions.ensures) in
    let all_noted : length noted ≡ n =
    omega (arith, c.note_nodes.auto.first, c.deref_mut.ensures.len) in
    let all_mixed : length mixed ≡ c.in_ok-mixed.mixed.len =
    omega (arith, c.note_nodes.auto.mixed, c.deref_mut-2.ensures.len) in
    let same : c.deref_mut-3.result.now ≡ noted =
    c.deref_mut-3.ensures.value ∙ written n noted _ all_noted in
    let sets : c.deref.result.now ≡ mixed =
    c.deref.ensures.value ∙ written c.in_ok-mixed.mixed.len mixed _ all_mixed in
    let all_pairs : length pairs ≡ n =
    omega (arith, c.forget_mixed.auto.first, c.deref_mut-3.ensures.len) in
    let forgotten : (r s : ℕ) → r < length noted → held (state_at pairs r) s
    ≡ (if has (sets_at mixed r) s then None else held (state_at noted r) s) = λ r s lt.
    subst (λ (l : List Cache). held (state_at pairs r) s
    ≡ (if has (sets_at mixed r) s then None else held (state_at l r) s)) same
    (subst (λ (l : List (List ℕ)). held (state_at pairs r) s
    ≡ (if has (sets_at l r) s then None else held (state_at c.deref_mut-3.result.now r) s)) sets
    (c.forget_mixed.ensures r s (omega (arith, lt, all_noted, c.deref_mut-3.ensures.len)))) in
    let whole : take n (pairs ++ drop (length pairs) _) ≡ pairs = written n pairs _ all_pairs in
    subst (λ (l : List Cache). ArePersistentPairs a nest l) (sym whole)
    (persistent_pairs a nest noted pairs mixed (all_noted ∙ size) (all_pairs ∙ size)
    c.note_nodes.ensures forgotten)
