use Rattle.std.proofs.Common.{sym, ap}
use Rattle.icache.specs.Cache.{held}
use Rattle.must_cache.specs.Events.{or_before}
use Rattle.must_cache.proofs.first_walks.FirstWalks.find_across.Goals as goal

pub returns-in_ok-find-clause-found : goal.returns-in_ok-find-clause-found
returns-in_ok-find-clause-found g c = record {
  before = c.put.new.state;
  across = c.put.ensures;
  place = c.in_ok-find.ensures.met;
  kept = c.in_ok-find.ensures.states;
  hit = c.in_ok-find.ensures.hits.0;
  stored = c.in_ok-find.ensures.hits.1;
  is_hit = c.in_ok-find.ensures.hits.2;
}

pub returns-in_ok-find-2-clause-found : goal.returns-in_ok-find-2-clause-found
returns-in_ok-find-2-clause-found g c = record {
  before = c.args.state.now;
  across = λ s.
      ap (λ o. or_before o (held c.args.state.now s)) (sym (c.any.ensures c.if-any.false s));
  place = c.in_ok-find-2.ensures.met;
  kept = c.in_ok-find-2.ensures.states;
  hit = c.in_ok-find-2.ensures.hits.0;
  stored = c.in_ok-find-2.ensures.hits.1;
  is_hit = c.in_ok-find-2.ensures.hits.2;
}
