use Rattle.std.proofs.Common.{◌≡◌, Option, sym, ap, subst, ◌∙◌, not, Bool, IfSome}
use Rattle.crpd_base.specs.declared.data.Platform.{Platform}
use Rattle.rv_decode.specs.declared.Ins.{Ins}
use Rattle.rv_decode.specs.Cost.{cost}
use Rattle.rv_core.specs.declared.Next.{Next}
use Rattle.rv_core.specs.Effect.{next_pc}
use Rattle.icache.specs.Cache.{is_hit, block_of}
use Rattle.preempt_machine.specs.Step.{goes_to_next}
use Rattle.preempt_machine.specs.Inner.Addresses.{AreCosts}
use Rattle.preempt_machine.proofs.moves.FastCore.fetch.Goals as goal

pub returns-clause-cost : goal.returns-clause-cost
returns-clause-cost g c sys k ins same found =
    let job = c.args.job.now in
    let old = c.args.self.now in
    let platform = old.geometry.platform in
    let costs : AreCosts platform c.args.execution.found.now.costs ins =
    subst (λ (m : Option Ins). IfSome m (AreCosts platform c.args.execution.found.now.costs)) found
    c.requires.costs in
    let next : c.args.execution.next ≡ next_pc ins job.pc job.registers =
    subst (λ (m : Option Ins).
    IfSome m (λ i. c.args.execution.next ≡ next_pc i job.pc job.registers)) found
    c.requires.next in
    c.cycles.ensures
    ∙ costs c.misses-missed.result c.is_taken.result
    ∙ ap (λ (b : Bool). cost platform ins b c.is_taken.result)
    (c.misses-missed.ensures.missed ∙ ap (λ b. not (is_hit platform old.cache b)) c.requires.block)
    ∙ ap (λ (b : Bool). cost platform ins
    (not (is_hit platform old.cache (block_of platform job.pc))) b)
    (c.is_taken.ensures ∙ ap (λ (n : Next). not (goes_to_next n c.pc.result)) next
    ∙ ap (λ p. not (goes_to_next (next_pc ins job.pc job.registers) p)) c.pc.ensures)
    ∙ ap (λ (p : Platform). cost p ins (not (is_hit p old.cache (block_of p job.pc)))
    (not (goes_to_next (next_pc ins job.pc job.registers) job.pc))) (sym same)

pub observe-requires-clause-is : goal.observe-requires-clause-is
observe-requires-clause-is g c =
    rw (c.misses-missed.ensures.missed, c.misses-missed.ensures.kept) c.requires.is
