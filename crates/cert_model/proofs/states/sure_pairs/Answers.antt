use Rattle.std.proofs.Common.{arith, ◌∙◌, sym, ap, option_and_then}
use Rattle.cert_model.specs.Kinds.{sure_pairs, pairs_from}
use Rattle.cert_model.proofs.Pairs.{pairs_start, pairs_more, pairs_fault, pairs_odd, pairs_all}
use Rattle.cert_model.proofs.states.sure_pairs.Goals as goal

pub returns-in_default : goal.returns-in_default
unfolding sure_pairs
returns-in_default c = ap (option_and_then (pairs_from 0 c.args.limit)) c.in_default.ensures

pub loop-i-init : goal.loop-i-init
loop-i-init c = record {
  small = omega arith;
  read =
      pairs_start c.new-found.result.items c.args.limit c.in-Some.values.now.items
      c.new-found.ensures.items;
}

pub returns-in_default-pair : goal.returns-in_default-pair
unfolding sure_pairs
returns-in_default-pair c =
    sym (pairs_fault c.loop-i.found.items c.loop-i.low c.args.limit c.in-Some.values.now.items
    c.loop-i.i c.index.result.now c.index-in-loop-i.result.now _
    (omega (arith, c.len-i-end.ensures)) c.index.ensures c.index-in-loop-i.ensures
    c.in_default-pair.ensures.is c.loop-i.invariant.read)
    ∙ ap (option_and_then (pairs_from 0 c.args.limit)) c.in-Some.ensures

pub loop-i-preserved : goal.loop-i-preserved
loop-i-preserved c = record {
  small = omega (arith, c.in-Some-pair.ensures.bound);
  read =
      pairs_more c.loop-i.found.items _ c.loop-i.low c.args.limit c.in-Some.values.now.items
      c.loop-i.i c.from-low.result c.index.result.now c.index-in-loop-i.result.now
      c.in-Some-pair.next _
      (omega (arith, c.len-i-end.ensures)) c.index.ensures c.index-in-loop-i.ensures
      c.in-Some-pair.ensures.is c.in_ok-push.ensures.items c.from-low.ensures
      c.loop-i.invariant.read;
}

pub returns-else-even : goal.returns-else-even
unfolding sure_pairs
returns-else-even c =
    sym (pairs_odd c.loop-i.found.items c.loop-i.low c.args.limit c.in-Some.values.now.items
    c.loop-i.i _ (omega (arith, c.len.ensures, c.len-i-end.ensures)) c.loop-i.invariant.read)
    ∙ ap (option_and_then (pairs_from 0 c.args.limit)) c.in-Some.ensures

pub returns-then-even : goal.returns-then-even
unfolding sure_pairs
returns-then-even c =
    sym (pairs_all c.loop-i.found.items c.loop-i.low c.args.limit c.in-Some.values.now.items
    c.loop-i.i _ (omega (arith, c.len.ensures, c.len-i-end.ensures)) c.loop-i.invariant.read)
    ∙ ap (option_and_then (pairs_from 0 c.args.limit)) c.in-Some.ensures
