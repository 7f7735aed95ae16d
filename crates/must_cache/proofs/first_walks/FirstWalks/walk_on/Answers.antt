use Rattle.std.proofs.Common.{◌≡◌, ◌<◌, refl, ◌==◌, ℕ, if◌then◌else◌, Some, subst, sym, ap, arith, lit<}
use Rattle.icache.specs.Cache.{held, set_of, block_of}
use Rattle.icache.specs.Accesses.{accesses}
use Rattle.flat_graph.specs.CodeGraph.{graph_of, places_of}
use Rattle.must_cache.specs.Events.{events}
use Rattle.must_cache.specs.Inner.FirstWalks.{HasWalkSearch, with_next, still_to_do, held_in}
use Rattle.must_cache.proofs.WalkSteps.{waiting_in, taken_next, next_is_one, next_is_more}
use Rattle.must_cache.proofs.first_walks.FirstWalks.walk_on.Goals as goal

pub address-requires : goal.address-requires
address-requires g c = c.loop-next.invariant.next c.in-Some.node c.in-Some.is

pub pass_on-requires : goal.pass_on-requires
pass_on-requires g c =
    let p = c.args.geometry.now.platform in
    let is = ap (λ o. with_next (held_in c.loop-next.self.todo.items) o (λ n. held c.loop-next.state))
    c.in-Some.is in (
      lit< tt,
      (
        omega (arith, c.requires.few),
        (
          c.requires.room,
          (
            c.requires.few,
            (
              c.requires.words,
              (
                c.requires.room_for_sets,
                (
                  c.loop-next.invariant.next c.in-Some.node c.in-Some.is,
                  (
                    c.requires.own,
                    taken_next _ (events (accesses p (places_of c.args.graph.now).address)
                        (g.B.Brings.brings c.args.brings.now)
                        (g.B.Brings.at_start c.args.brings.now)) _ _ _ _ _
                        (held_in c.loop-next.self.todo.items)
                        (c.in-Some.node, held c.loop-next.state)
                        c.access.new.self is
                        (subst (λ (k : ℕ). (s : ℕ)
                        → held c.access.new.self s
                        ≡ (if set_of p (block_of p k) == s then Some (block_of p k)
                        else held c.loop-next.state s)) c.address.ensures c.access.ensures)
                        c.loop-next.invariant.under_way,
                  ),
                ),
              ),
            ),
          ),
        ),
      ),
    )

pub loop-next-init : goal.loop-next-init
loop-next-init g c = record {
  under_way = c.requires.under_way;
  next = λ v e.
      let same : c.args.node ≡ v = let h : Some c.args.node ≡ Some v = e in cc in
      subst (λ n. n < (graph_of c.args.graph.now).size) same
      (waiting_in _ _ _ _ _ _ _ (held_in c.args.self.now.todo.items)
      (c.args.node, held c.args.state.now) refl c.graph_law.ensures.graph c.requires.under_way);
  falls = omega arith;
}

pub loop-next-preserved : goal.loop-next-preserved
loop-next-preserved g c = record {
  under_way =
      subst (HasWalkSearch (graph_of c.args.graph.now)
      (events (accesses c.args.geometry.now.platform (places_of c.args.graph.now).address)
      (g.B.Brings.brings c.args.brings.now) (g.B.Brings.at_start c.args.brings.now))
      c.pass_on.new.self.met.items c.pass_on.new.self.states.items
      c.pass_on.new.self.hits.items c.pass_on.new.self.apart.items)
      (sym (c.put_next.ensures (held_in c.pass_on.new.self.todo.items)))
      c.in_ok-next.ensures.under_way;
  next = c.in_ok-next.ensures.next;
  falls = omega (
    arith,
    c.in_ok-next.ensures.falls (λ n. held c.access.new.self),
    c.loop-next.invariant.falls,
    next_is_more c.pass_on.new.self.met.items (held_in c.pass_on.new.self.todo.items)
        c.in_ok-next.next (λ n. held c.access.new.self),
  );
}

pub loop-next-smaller : goal.loop-next-smaller
loop-next-smaller g c =
    let before = ap
    (λ o. still_to_do c.loop-next.self.met.items
    (with_next (held_in c.loop-next.self.todo.items) o (λ n. held c.loop-next.state)))
    c.in-Some.is in
    let one = next_is_one c.loop-next.self.met.items (held_in c.loop-next.self.todo.items)
    c.in-Some.node (λ n. held c.loop-next.state) in
    omega (arith, before, one, c.in_ok-next.ensures.falls (λ n. held c.put_next.new.state))
