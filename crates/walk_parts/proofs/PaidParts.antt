-- A part with payments is sound.
use Rattle.std.proofs.Common.{◌≡◌, ℕ, ◌+◌, ◌*◌, ◌<◌, ◌≤◌, Bool, true, false, not, ◌&&◌}
use Rattle.std.proofs.Common.{List, ◌∷◌, Some, None, sym, ◌∙◌, inl, inr, arith}
use Rattle.std.proofs.Math.Nat.{mul-le-mul_left}
use Rattle.std.proofs.lemmas.Bool.{and_parts, not-true, false≢true}
use Rattle.crpd_base.specs.declared.data.Part.{Part}
use Rattle.crpd_base.specs.declared.data.Platform.{Platform}
use Rattle.crpd_base.specs.Sum.{one_if}
use Rattle.rv_decode.specs.declared.Ins.{Ins}
use Rattle.rv_decode.specs.Cost.{cost}
use Rattle.flat_graph.specs.Graph.{IsWalk, onto}
use Rattle.flat_graph.specs.EdgeCost.{edge_cost, end_cost}
use Rattle.icache.specs.Accesses.{Accesses, accesses, last_access, first_access}
use Rattle.evict_sets.proofs.WalkLaws.{on_walk}
use Rattle.loop_regions.specs.TaskGraph.{TaskGraph, node_code_of}
use Rattle.walk_parts.specs.Credit.{Payments, in_credit, credits, price}
use Rattle.walk_parts.specs.Parts.{WalkPart, IsSoundPart}
use Rattle.walk_parts.specs.PaidParts.{paid_part, HasPaid, PaidPartIsSound}
use Rattle.walk_parts.proofs.Credits.{credit_step, credit_one, prepaid, credit_carry_law}

-- a hit that is in credit costs a miss more than counted
cost_paid : (p : Platform) (i : Ins) (hit credit taken : Bool)
    → cost p i (not (hit && not credit)) taken
    ≤ cost p i (not hit) taken + p.miss * one_if credit
cost_paid p i true true taken = omega arith
cost_paid p i true false taken = omega arith
cost_paid p i false credit taken = omega arith

module _ (p : Platform) (t : TaskGraph) (pay : Payments) (hit : ℕ → Bool) (rest : List ℕ → ℕ)
    (useful : ℕ → ℕ → Bool) (part : Part) (holds : ℕ → ℕ → ℕ → Type 0)
    (H : HasPaid p t pay hit rest useful part holds) where
  abbrev a : Accesses
  a = accesses p t.places.address

  abbrev w : WalkPart
  w = paid_part p t pay hit rest useful part

  set_below : (y : ℕ) → a.set y < p.sets
  set_below y = let l = H.some_sets in omega arith

  -- the miss of a node in credit
  abbrev own_credit : ℕ → List ℕ → ℕ
  own_credit u before = p.miss * one_if (in_credit a pay (a.set u) (u ∷ before))

  edge_paid : (u v : ℕ) (before : List ℕ)
      → edge_cost p (node_code_of t) (λ y. w.counts (u ∷ before)) u v
      ≤ edge_cost p (node_code_of t) hit u v + own_credit u before
  edge_paid u v before =
      cost_paid p (t.ins u) (hit u) (in_credit a pay (a.set u) (u ∷ before)) _

  end_paid : (u : ℕ) (before : List ℕ)
      → end_cost p (node_code_of t) (λ y. w.counts (u ∷ before)) u
      ≤ end_cost p (node_code_of t) hit u + own_credit u before
  end_paid u before =
      cost_paid p (t.ins u) (hit u) (in_credit a pay (a.set u) (u ∷ before)) _

  credit_covers : (u : ℕ) (before : List ℕ)
      → own_credit u before ≤ p.miss * credits a pay p.sets (u ∷ before)
  credit_covers u before =
      mul-le-mul_left p.miss (credit_one a pay p.sets (a.set u) (u ∷ before) (set_below u))

  step_paid : (u v : ℕ) (before : List ℕ)
      → p.miss * credits a pay p.sets (v ∷ u ∷ before) + own_credit u before
      ≤ price p pay u v + p.miss * credits a pay p.sets (u ∷ before)
  step_paid u v before =
      let le = mul-le-mul_left p.miss (credit_step a pay p.sets u v before (set_below u)) in
      omega (arith, le)

  counted : (y : ℕ) (before : List ℕ) → w.counts (y ∷ before) ≡ true
      → (hit y ≡ true) × (in_credit a pay (a.set y) (y ∷ before) ≡ false)
  counted y before b =
      let both = and_parts (hit y) _ b in
      (both.0, not-true (in_credit a pay (a.set y) (y ∷ before)) both.1)

  own : (y : ℕ) (before : List ℕ) → IsWalk t.graph (y ∷ before) → w.counts (y ∷ before) ≡ true
      → last_access a (a.set y) before ≡ Some (a.block y)
  own y before walk b =
      let c = counted y before b in
      elim (prepaid t.graph a pay holds H.states y (a.set y) (a.block y) before walk
      (H.hits y (on_walk t.graph H.graph y before walk) c.0)) [
        | inl credit ↦ absurd (false≢true (sym c.1 ∙ credit))
        | inr last ↦ last
      ]

  since : (y z : ℕ) (before later : List ℕ) → IsWalk t.graph (z ∷ onto later (y ∷ before))
      → w.counts (z ∷ onto later (y ∷ before)) ≡ true
      → first_access a (a.set z) (y ∷ later) ≡ None → useful y (a.set z) ≡ true
  since y z before later walk b away =
      let c = counted z (onto later (y ∷ before)) b in
      credit_carry_law t.graph a pay hit useful y z before later H.graph.edges H.useful_sets walk
      c.0 c.1 away

  pub sound : IsSoundPart p t w
  sound =
      record {
        start = λ kept. let le = H.covers.start kept in omega (arith, le);
        edge = λ u v before e.
            let le = H.covers.edge u v before e in
            let more = edge_paid u v before in
            let c = credit_covers u before in
            omega (arith, le, more, c);
        end = λ u before below answers.
            let le = H.covers.end u before below answers in
            let more = end_paid u before in
            let c = credit_covers u before in
            omega (arith, le, more, c);
        step = λ u v before e kept.
            let le = H.covers.step u v before e kept in
            let more = edge_paid u v before in
            let c = step_paid u v before in
            omega (arith, le, more, c);
        own = own;
        useful_here = λ z before walk b.
            H.useful_sets.own z (on_walk t.graph H.graph z before walk) (counted z before b).0;
        useful_since = since;
        evicts = H.evicts;
        all = H.all;
      }

pub paid_part_is_sound : PaidPartIsSound
paid_part_is_sound p t pay hit rest useful part state H =
    sound p t pay hit rest useful part (λ y s m. state y s ≡ Some m) H
