-- Stated loops with one head.
use Rattle.std.proofs.Common.{◌≡◌, ◌⊎◌, ℕ, zero, suc, ◌+◌, ◌<◌, ◌≤◌, true, false, List, [], ◌∷◌}
use Rattle.std.proofs.Common.{length, take, Some, None, slice_get, refl, sym, ap, ◌∙◌, subst, inl}
use Rattle.std.proofs.Common.{inr, ⊎_elim, arith, Option, is_some}
use Rattle.std.proofs.lemmas.Bool.{cases_eq, false≢true}
use Rattle.std.proofs.lemmas.Option.{slice_get_within}
use Rattle.crpd_base.specs.declared.data.LoopAt.{LoopAt}
use Rattle.crpd_base.proofs.Elements.{at_contains}
use Rattle.loop_regions.specs.Stated.{IsSameHead}
use Rattle.loop_regions.specs.Inner.Heads.{IsLoopAt}
use Rattle.loop_regions.specs.Inner.Least.{IsLeastNumber, lesser, IsHeadBefore}
use Rattle.loop_regions.proofs.LeastOf.{least_same, least_or}

-- a loop before place j is among the first j
taken : (loops : List LoopAt) (i j : ℕ) (l : LoopAt) → i < j → slice_get loops i ≡ Some l
    → slice_get (take j loops) i ≡ Some l
taken loops i zero l lt e = absurd (omega arith)
taken [] i (suc j) l lt e = e
taken (x ∷ loops) zero (suc j) l lt e = e
taken (x ∷ loops) (suc i) (suc j) l lt e = taken loops i j l (omega arith) e

from_taken : (loops : List LoopAt) (i j : ℕ) (l : LoopAt) → slice_get (take j loops) i ≡ Some l
    → (i < j) × (slice_get loops i ≡ Some l)
from_taken loops i zero l e = absurd (let w = slice_get_within [] i l e in omega arith)
from_taken [] i (suc j) l e = absurd (let w = slice_get_within [] i l e in omega arith)
from_taken (x ∷ loops) zero (suc j) l e = (omega arith, e)
from_taken (x ∷ loops) (suc i) (suc j) l e =
    let r = from_taken loops i j l e in (omega (arith, r.0), r.1)

-- the loop m at place j has the head of an earlier one exactly if the first such one is found
module _ (loops : List LoopAt) (j : ℕ) (m : LoopAt) where
  same_loop : (n : LoopAt) → slice_get loops j ≡ Some m → slice_get loops j ≡ Some n
      → m.head ≡ n.head
  same_loop n e f =
      let q : Some m ≡ Some n = sym e ∙ f in
      let same : m ≡ n = cc in
      ap (λ (z : LoopAt). z.head) same

  pub repeated_here : (o : Option ℕ) → slice_get loops j ≡ Some m
      → IsLoopAt (take j loops) m.head o → is_some o ≡ true
      → IsLeastNumber (IsHeadBefore loops j) (Some m.head)
  repeated_here None e at h = absurd (false≢true h)
  repeated_here (Some i) e at h =
      let f = from_taken loops i j at.0 at.1 in (
        (i, at.0, m, f.0, f.1, e, sym at.2, refl),
        λ b s. let same = same_loop s.2 e s.5 ∙ s.7 in omega (arith, same),
      )

  pub repeated_not : (o : Option ℕ) → slice_get loops j ≡ Some m
      → IsLoopAt (take j loops) m.head o → is_some o ≡ false
      → IsLeastNumber (IsHeadBefore loops j) None
  repeated_not None e at h b s =
      at s.1 (at_contains (take j loops) s.0 s.1 (taken loops s.0 j s.1 s.3 s.4))
      (same_loop s.2 e s.5 ∙ s.7 ∙ sym s.6)
  repeated_not (Some i) e at h b s = absurd (false≢true (sym h))

-- two loops below place k have this head
abbrev pub IsSameBelow : List LoopAt → ℕ → ℕ → Type 0
IsSameBelow loops k a = (j : ℕ) × (j < k) × IsHeadBefore loops j a

pub one_more : (loops : List LoopAt) (k : ℕ) (a b : Option ℕ)
    → IsLeastNumber (IsSameBelow loops k) a → IsLeastNumber (IsHeadBefore loops k) b
    → IsLeastNumber (IsSameBelow loops (k + 1)) (lesser a b)
one_more loops k a b h i =
    least_same (λ v. IsSameBelow loops k v ⊎ IsHeadBefore loops k v) (IsSameBelow loops (k + 1))
    (lesser a b)
    (λ v s. ⊎_elim (λ p. (p.0, omega (arith, p.1), p.2)) (λ q. (k, omega arith, q)) s)
    (λ v p. ⊎_elim (λ e. inr (subst (λ j. IsHeadBefore loops j v) e p.2))
    (λ ne. inl (p.0, omega (arith, p.1), p.2)) (cases_eq p.0 k))
    (least_or (IsSameBelow loops k) (IsHeadBefore loops k) a b h i)

pub all_heads : (loops : List LoopAt) (k : ℕ) (o : Option ℕ) → length loops ≤ k
    → IsLeastNumber (IsSameBelow loops k) o → IsLeastNumber (IsSameHead loops) o
all_heads loops k o le h =
    least_same (IsSameBelow loops k) (IsSameHead loops) o
    (λ v p. (p.2.0, p.0, p.2.1, p.2.2, p.2.3, p.2.4, p.2.5, p.2.6, p.2.7))
    (λ v s. (
      s.1,
      (let w = slice_get_within loops s.1 s.3 s.6 in omega arith),
      (s.0, s.2, s.3, s.4, s.5, s.6, s.7, s.8),
    ))
    h
