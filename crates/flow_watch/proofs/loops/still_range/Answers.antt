use Rattle.std.proofs.Common.{sym, ◌∙◌, arith}
use Rattle.flow_watch.proofs.Counts.{found_holds, kept_apart, kept_found, still_closed, still_held}
use Rattle.flow_watch.proofs.loops.still_range.Goals as goal

pub returns-then-turns-eq0-clause-still : goal.returns-then-turns-eq0-clause-still
returns-then-turns-eq0-clause-still c =
    λ a low high.
    let s = c.beside_head-around.ensures.beside a low high in
    (s.0, s.1, still_closed a c.args.stated.now c.args.turns s.2 c.if-turns-eq0.true)

pub returns-then-turns-eq0-clause-near : goal.returns-then-turns-eq0-clause-near
returns-then-turns-eq0-clause-near c =
    λ small among keeps.
    c.beside_head-around.ensures.near small among
    (kept_apart c.args.near c.args.stated.now c.args.turns keeps)

pub returns-then-turns-stated-clause-near : goal.returns-then-turns-stated-clause-near
returns-then-turns-stated-clause-near c =
    λ small among keeps. absurd (omega (arith, keeps.within, c.if-turns-stated.true))

pub returns-in-Some-clause-still : goal.returns-in-Some-clause-still
returns-in-Some-clause-still c =
    λ a low high.
    let s = c.beside_head-around.ensures.beside a (omega (arith, low, c.max.ensures))
    (omega (arith, high, c.min.ensures)) in (
      s.0,
      s.1,
      still_held a c.args.near c.args.stated.now c.args.turns c.in-Some.held s.2
          c.if-turns-stated.false (sym c.range_around.ensures ∙ c.in-Some.is)
          (omega (arith, low, c.max.ensures)) (omega (arith, high, c.min.ensures)),
    )

pub returns-in-Some-clause-near : goal.returns-in-Some-clause-near
returns-in-Some-clause-near c =
    λ small among keeps.
    let s = c.beside_head-around.ensures.near small among
    (kept_apart c.args.near c.args.stated.now c.args.turns keeps) in
    let held = found_holds c.args.near c.args.stated.now.ranges c.in-Some.held
    (sym c.range_around.ensures ∙ c.in-Some.is) in
    (omega (arith, s.0, held.0, c.max.ensures), omega (arith, s.1, held.1, c.min.ensures))

pub returns-in-None-clause-near : goal.returns-in-None-clause-near
returns-in-None-clause-near c =
    λ small among keeps.
    absurd (kept_found c.args.near c.args.stated.now c.args.turns keeps c.if-turns-eq0.false
    (sym c.range_around.ensures ∙ c.in-None.is))
