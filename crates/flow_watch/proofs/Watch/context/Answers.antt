use Rattle.std.proofs.Common.{◌≡◌, ℕ, suc, ◌-◌, Some, sym, ap, ◌∙◌, arith}
use Rattle.flow_watch.specs.Watch.{context}
use Rattle.flow_watch.specs.Inner.Rows.{frames_of}
use Rattle.flow_watch.proofs.Frames.{in_use, calls_are}
use Rattle.flow_watch.proofs.Watch.context.Goals as goal

pub returns-in-Some : goal.returns-in-Some
returns-in-Some c =
    let s = c.self.inside in
    let k = c.in-Some.frames - 1 in
    let u = in_use s.loops s.calls s.turns.items s.frames c.in-Some.frames c.args.self.now
    c.self.invariant c.in-Some.is c.self.view_is in
    let few = u.few in
    let most = u.most in
    let top : suc k ≡ c.in-Some.frames = omega arith in
    sym (calls_are s.loops s.calls s.turns.items k c.self.invariant.words (omega arith))
    ∙ (ap (λ (d : ℕ). context (Some (frames_of s.loops s.calls s.turns.items d))) top
    ∙ ap context u.is)
