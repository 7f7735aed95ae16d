use Rattle.std.proofs.Common.{◌≡◌, ◌⊎◌, inl, inr, false, refl, sym, ap, ◌∙◌, option_and_then}
use Rattle.rv_decode.specs.Flow.{Flow, Plain, Branch, Jump, Call, Return, Exit, Break, OtherJalr}
use Rattle.rv_decode.specs.Flow.{OtherJal, flow}
use Rattle.flow_watch.specs.declared.changes.Change.{Change}
use Rattle.flow_watch.specs.declared.changes.Change.TheVariants.{Stay, Push, Pop, Unfollowed}
use Rattle.flow_watch.specs.Watch.{arrive}
use Rattle.flow_watch.specs.Quiet.{stays}
use Rattle.flow_watch.specs.Inner.Changes.{change_of}
use Rattle.flow_watch.proofs.Steps as steps
use Rattle.flow_watch.proofs.changes.stays_in_frame.Goals as goal

pub returns-in-Stay-clause-arrival : goal.returns-in-Stay-clause-arrival
returns-in-Stay-clause-arrival c =
    λ plan w from to.
    steps.stepped plan from c.args.ins.now to w Stay c.in-Stay.ensures
    ∙ ap (option_and_then (arrive plan to)) (sym (steps.stays plan from to w))

not_stay : (c : Change) → c ≡ Stay → (c ≡ Push) ⊎ ((c ≡ Pop) ⊎ (c ≡ Unfollowed)) → ⊥
not_stay c s (inl p) = cc
not_stay c s (inr (inl p)) = cc
not_stay c s (inr (inr p)) = cc

leaves : (f : Flow) (c : Change) → c ≡ change_of f
    → (c ≡ Push) ⊎ ((c ≡ Pop) ⊎ (c ≡ Unfollowed)) → false ≡ stays f
leaves (Call t) c e i = refl
leaves Return c e i = refl
leaves OtherJalr c e i = refl
leaves OtherJal c e i = refl
leaves Plain c e i = absurd (not_stay c e i)
leaves (Branch t) c e i = absurd (not_stay c e i)
leaves (Jump t) c e i = absurd (not_stay c e i)
leaves Exit c e i = absurd (not_stay c e i)
leaves Break c e i = absurd (not_stay c e i)

pub returns-in-Push : goal.returns-in-Push
returns-in-Push c = record {
  is = λ a. leaves (flow a c.args.ins.now) c.change_by.result (c.change_by.ensures a) c.in-Push.is;
  arrival = tt;
}
