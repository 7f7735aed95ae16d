-- The best of the windows by some methods, found one method after the other.
use Rattle.std.proofs.Common.{◌≡◌, ℕ, zero, suc, ◌+◌, ◌<◌, ◌≤◌, ◌⊎◌, List, [], ◌∷◌, Option, Some, None, inl, inr}
use Rattle.std.proofs.Common.{arith, MatchOption, nat_lt, refl, sym, ◌∙◌, ap, subst}
use Rattle.std.specs.Prelude.{slice_index_or}
use Rattle.std.proofs.lemmas.Bool.{cases_Bool, cases_eq, ltb-true, ltb-false}
use Rattle.crpd_base.specs.declared.data.Method.{Method}
use Rattle.crpd_base.specs.declared.data.Part.{Part}
use Rattle.crpd_base.specs.declared.data.PointMethod.{PointMethod}
use Rattle.crpd_base.specs.declared.data.PointMethod.TheVariants.{Ucb, Ecb, Point}
use Rattle.crpd_base.specs.declared.data.PointMethod.TheVariants.{PersistentUcb, PersistentPoint}
use Rattle.crpd_base.specs.declared.data.TaskSet.{TaskSet}
use Rattle.crpd_base.specs.Tasks.{jitter_of, deadline_of}
use Rattle.delay_count.specs.Demand.{demand}
use Rattle.delay_count.specs.Gamma.{part_at}
use Rattle.response.specs.Windows.{IsWindow, HasNoWindow}
use Rattle.response.proofs.WindowLaws.{window_or_none}
use Rattle.delay_point.specs.Refined.{place, IsRefinedWindow}
use Rattle.delay_point.specs.Inner.Windows.{counted_needs, multiset_of, shorter_of}
use Rattle.delay_point.specs.declared.windows.PointChoice.{PointChoice}

-- the method at a place
abbrev pub method_of : ℕ → PointMethod
method_of zero = Ucb
method_of (suc zero) = Ecb
method_of (suc (suc zero)) = Point
method_of (suc (suc (suc zero))) = PersistentUcb
method_of (suc (suc (suc (suc n)))) = PersistentPoint

at_place : (m : PointMethod) → method_of (place m) ≡ m
at_place Ucb = refl
at_place Ecb = refl
at_place Point = refl
at_place PersistentUcb = refl
at_place PersistentPoint = refl

pub same_place : (m by : PointMethod) → place m ≡ place by → m ≡ by
same_place m by e = sym (at_place m) ∙ ap method_of e ∙ at_place by

pub all_places : (m : PointMethod) → place m < 5
all_places Ucb = omega arith
all_places Ecb = omega arith
all_places Point = omega arith
all_places PersistentUcb = omega arith
all_places PersistentPoint = omega arith

-- the smallest window by the methods before a place, and the first of them that gives it
pub record IsBestBefore (set : TaskSet) (needs : PointMethod → ℕ → ℕ) (i p : ℕ) (m : PointMethod)
    (w : ℕ) : Type 0 where
  pub early : place m < p
  pub window : IsWindow set (needs m) i w
  pub least : (by : PointMethod) (v : ℕ) → place by < p → IsWindow set (needs by) i v → w ≤ v
  pub first : (by : PointMethod) (v : ℕ) → place by < place m → IsWindow set (needs by) i v → w < v

module _ (set : TaskSet) (needs : PointMethod → ℕ → ℕ) (i : ℕ) where
  -- it, or none of these methods has a window
  abbrev pub Best : ℕ → Option PointChoice → Type 0
  Best p o =
      MatchOption o ((by : PointMethod) → place by < p → HasNoWindow set (needs by) i)
      (λ (c : PointChoice). IsBestBefore set needs i p c.method c.window)

  abbrev pub Found : PointMethod → Option ℕ → Type 0
  Found m o = MatchOption o (HasNoWindow set (needs m) i) (λ w. IsWindow set (needs m) i w)

  abbrev pub Refined : Option PointChoice → Type 0
  Refined o =
      MatchOption o ((m : PointMethod) → HasNoWindow set (needs m) i)
      (λ (c : PointChoice). IsRefinedWindow set needs i c.method c.window)

  pub never : (m : PointMethod) (v : ℕ) → HasNoWindow set (needs m) i
      → IsWindow set (needs m) i v → ⊥
  never m v none is =
      let over = none v is.some is.in_deadline in
      let fits = is.enough in absurd (omega (arith, over, fits))

  -- whether a method is the one at a place or before it
  here_or_before : (m by : PointMethod) → place by < suc (place m)
      → (by ≡ m) ⊎ (place by < place m)
  here_or_before m by l =
      elim (cases_eq (place by) (place m)) [
        | inl e ↦ inl (same_place by m e)
        | inr ne ↦ inr (omega arith)
      ]

  least_here : (m : PointMethod) (x : ℕ) → IsWindow set (needs m) i x → (by : PointMethod) (v : ℕ)
      → by ≡ m → IsWindow set (needs by) i v → x ≤ v
  least_here m x X by v e W =
      let V : IsWindow set (needs m) i v = subst (λ z. IsWindow set (needs z) i v) e W in
      X.least v V.some V.enough

  never_here : (m by : PointMethod) (v : ℕ) → HasNoWindow set (needs m) i → by ≡ m
      → IsWindow set (needs by) i v → ⊥
  never_here m by v none e W =
      never m v none (subst (λ z. IsWindow set (needs z) i v) e W)

  pub none_yet : Best 0 None
  none_yet = λ by l. absurd (omega (arith, l))

  -- one more method
  pub with_found : (m : PointMethod) (o : Option PointChoice) (w : Option ℕ) → Found m w
      → Best (place m) o → Best (suc (place m)) (shorter_of o m w)
  with_found m None None F B = λ by l.
      elim (here_or_before m by l) [
        | inl e ↦ subst (λ z. HasNoWindow set (needs z) i) (sym e) F
        | inr k ↦ B by k
      ]
  with_found m (Some c) None F B =
      record {
        early = let e = B.early in omega (arith, e);
        window = B.window;
        least = λ by v l W. elim (here_or_before m by l) [
          | inl e ↦ absurd (never_here m by v F e W)
          | inr k ↦ B.least by v k W
        ];
        first = B.first;
      }
  with_found m None (Some x) F B =
      record {
        early = omega arith;
        window = F;
        least = λ by v l W. elim (here_or_before m by l) [
          | inl e ↦ least_here m x F by v e W
          | inr k ↦ absurd (never by v (B by k) W)
        ];
        first = λ by v l W. absurd (never by v (B by l) W);
      }
  with_found m (Some c) (Some x) F B =
      elim (cases_Bool (nat_lt x c.window)) [
        | inl b ↦ let less : x < c.window = ltb-true x c.window b in rw b (shorter less)
        | inr b ↦ let more : c.window ≤ x = ltb-false x c.window b in rw b (longer more)
      ]
    where
      shorter : x < c.window → Best (suc (place m)) (Some (record { window = x; method = m }))
      shorter less =
          record {
            early = omega arith;
            window = F;
            least = λ by v l W. elim (here_or_before m by l) [
              | inl e ↦ least_here m x F by v e W
              | inr k ↦ let w = B.least by v k W in omega (arith, less, w)
            ];
            first = λ by v l W. let w = B.least by v l W in omega (arith, less, w);
          }

      longer : c.window ≤ x → Best (suc (place m)) (Some c)
      longer more =
          record {
            early = let e = B.early in omega (arith, e);
            window = B.window;
            least = λ by v l W. elim (here_or_before m by l) [
              | inl e ↦ let y = least_here m x F by v e W in omega (arith, more, y)
              | inr k ↦ B.least by v k W
            ];
            first = B.first;
          }

  -- the best by all methods is the refined window
  pub refined_best : (o : Option PointChoice) → Best 5 o → Refined o
  refined_best None B = λ m. B m (all_places m)
  refined_best (Some c) B =
      record {
        window = B.window;
        least = λ m v W. B.least m v (all_places m) W;
        first = B.first;
      }

  one_more : (m : PointMethod) → (o : Option PointChoice) × Best (place m) o
      → (o : Option PointChoice) × Best (suc (place m)) o
  one_more m b =
      let w = window_or_none set (needs m) i in
      (shorter_of b.0 m w.0, with_found m b.0 w.0 w.1 b.1)

  -- a task has a refined window, or none by any method
  pub refined_or_none : (o : Option PointChoice) × Refined o
  refined_or_none =
      let start : (o : Option PointChoice) × Best 0 o = (None, none_yet) in
      let b = one_more PersistentPoint (one_more PersistentUcb (one_more Point
      (one_more Ecb (one_more Ucb start)))) in
      (b.0, refined_best b.0 b.1)

  -- with room by some method there is a refined window, which is no longer
  pub refined_within : (by : PointMethod) (v : ℕ) → 1 ≤ v → needs by v ≤ v
      → v + jitter_of set i ≤ deadline_of set i
      → (m : PointMethod) × (w : ℕ) × IsRefinedWindow set needs i m w × (w ≤ v)
  refined_within by v some fits within =
      from refined_or_none.0 refined_or_none.1
    where
      no_longer : (w : ℕ) → ((x : ℕ) → IsWindow set (needs by) i x → w ≤ x) → (o : Option ℕ)
          → Found by o → w ≤ v
      no_longer w least None none =
          absurd (let over = none v some within in omega (arith, over, fits))
      no_longer w least (Some x) W =
          let le = W.least v some fits in let l = least x W in omega (arith, le, l)

      from : (o : Option PointChoice) → Refined o
          → (m : PointMethod) × (w : ℕ) × IsRefinedWindow set needs i m w × (w ≤ v)
      from None none =
          absurd (let over = none by v some within in omega (arith, over, fits))
      from (Some c) R =
          let o = window_or_none set (needs by) i in
          (c.method, c.window, R, no_longer c.window (λ x W. R.least by x W) o.0 o.1)

-- the window by the parts that a method counts
pub counted_window : (set : TaskSet) (lists : PointMethod → List Part) (longest window : ℕ → ℕ)
    (i : ℕ) (m : PointMethod) (list : List Part) (by : Method) (o : Option ℕ) → list ≡ lists m
    → by ≡ multiset_of m
    → MatchOption o (HasNoWindow set (demand set (part_at list) longest window i by) i)
    (λ w. IsWindow set (demand set (part_at list) longest window i by) i w)
    → Found set (counted_needs set lists longest window i) i m o
counted_window set lists longest window i m list by o same is F =
    let P : List Part → Method → Type 0 = λ l b.
    MatchOption o (HasNoWindow set (demand set (part_at l) longest window i b) i)
    (λ w. IsWindow set (demand set (part_at l) longest window i b) i w) in
    subst (λ b. P (lists m) b) is (subst (λ l. P l by) same F)

-- the methods by their places
abbrev pub methods : List PointMethod
methods = Ucb ∷ Ecb ∷ Point ∷ PersistentUcb ∷ PersistentPoint ∷ []

method_at_place : (k : ℕ) (d : PointMethod) → k < 5 → place (slice_index_or methods k d) ≡ k
method_at_place zero d l = refl
method_at_place (suc zero) d l = refl
method_at_place (suc (suc zero)) d l = refl
method_at_place (suc (suc (suc zero))) d l = refl
method_at_place (suc (suc (suc (suc zero)))) d l = refl
method_at_place (suc (suc (suc (suc (suc k))))) d l = absurd (omega (arith, l))

-- the best by the methods before a place, and the window by the one at it
pub best_more : (set : TaskSet) (needs : PointMethod → ℕ → ℕ) (i k : ℕ) (d : PointMethod)
    (best o : Option PointChoice) (w : Option ℕ) → k < 5
    → Found set needs i (slice_index_or methods k d) w → Best set needs i k best
    → o ≡ shorter_of best (slice_index_or methods k d) w → Best set needs i (k + 1) o
best_more set needs i k d best o w l F B is =
    let m = slice_index_or methods k d in
    let at : place (slice_index_or methods k d) ≡ k = method_at_place k d l in
    let next : suc (place (slice_index_or methods k d)) ≡ k + 1 = omega (arith, at) in
    subst (λ x. Best set needs i x o) next
    (subst (λ (x : Option PointChoice).
    Best set needs i (suc (place (slice_index_or methods k d))) x) (sym is)
    (with_found set needs i (slice_index_or methods k d) best w F
    (subst (λ x. Best set needs i x best) (sym at) B)))
