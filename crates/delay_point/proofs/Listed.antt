-- Lists of refined windows, and one more task.
use Rattle.std.proofs.Common.{◌≡◌, ℕ, ◌+◌, ◌<◌, ◌≤◌, inl, inr, List, [], ◌∷◌, ◌++◌, length}
use Rattle.std.proofs.Common.{get_or, sym, ◌∙◌, ap, subst, arith, map, slice_index}
use Rattle.std.proofs.Math.ListN.{set as list_set}
use Rattle.std.proofs.lemmas.Bool.{cases_eq}
use Rattle.std.proofs.lemmas.List.{map-append, length-map, get_or_append_left, get_or_at}
use Rattle.std.proofs.lemmas.List.{length_push, get_or-set_same, get_or-set_other}
use Rattle.crpd_base.specs.declared.data.Part.{Part}
use Rattle.crpd_base.specs.declared.data.PointMethod.{PointMethod}
use Rattle.crpd_base.specs.declared.data.PointMethod.TheVariants.{Ucb}
use Rattle.crpd_base.specs.declared.data.RefinedTask.{RefinedTask}
use Rattle.crpd_base.specs.declared.data.TaskSet.{TaskSet}
use Rattle.crpd_base.specs.Tasks.{HasTimes, jitter_of, deadline_of}
use Rattle.delay_count.specs.Gamma.{part_at}
use Rattle.response.proofs.Least.{looks_above}
use Rattle.delay_point.specs.Refined.{Needs, Bounds, IsRefinedWindow, AreFirstRefined, window_at, method_at}
use Rattle.delay_point.specs.Refined.{bound_at, responses}
use Rattle.delay_point.specs.Inner.Windows.{counted_needs, multiset_of}
use Rattle.delay_point.proofs.One.{refined_too}

-- the first n tasks have the same demands, if the windows of the higher tasks are the same
abbrev pub Agree : Needs → Needs → ℕ → Type 0
Agree needs others n =
    (window other : ℕ → ℕ) (i : ℕ) → i < n → ((k : ℕ) → k < i → window k ≡ other k)
    → (m : PointMethod) (w : ℕ) → needs window i m w ≡ others other i m w

-- the same with the parts that each method counts
pub counted_agree : (set : TaskSet) (lists : PointMethod → List Part) (longest : ℕ → ℕ) (n : ℕ)
    → HasTimes set → n ≤ length set.tasks
    → Agree (counted_needs set lists longest) (counted_needs set lists longest) n
counted_agree set lists longest n times le window other i l same m w =
    looks_above set (part_at (lists m)) longest n times le window other i l same (multiset_of m) w

-- one more task
module _ (tasks : List RefinedTask) (t : RefinedTask) (i : ℕ) (size : length tasks ≡ i) where
  abbrev more : List RefinedTask
  more = tasks ++ t ∷ []

  before : {X : Type 0} (f : RefinedTask → X) (d : X) (k : ℕ) → k < i
      → get_or (map f more) k d ≡ get_or (map f tasks) k d
  before {X} f d k h =
      ap (λ (z : List X). get_or z k d) (map-append f tasks (t ∷ []))
      ∙ get_or_append_left (map f tasks) (f t ∷ []) d k (mapped k h)
    where
      mapped : (k : ℕ) → k < i → k < length (map f tasks)
      mapped k h = simp length-map (omega arith)

  last : {X : Type 0} (f : RefinedTask → X) (d : X) → get_or (map f more) i d ≡ f t
  last {X} f d =
      ap (λ (z : List X). get_or z i d) (map-append f tasks (t ∷ []))
      ∙ get_or_at (map f tasks) (f t) [] d i (simp length-map size)

  -- the refined windows of the first i + 1 tasks
  pub first_more : (set : TaskSet) (needs : Needs) (bounds : Bounds) (found : ℕ → ℕ)
      → Agree needs needs (i + 1) → ((k : ℕ) → k < i → found k ≡ window_at tasks k)
      → t.bound ≡ bounds i t.method → IsRefinedWindow set (needs found i) i t.method t.window
      → t.response ≡ t.window + jitter_of set i → AreFirstRefined set needs bounds i tasks
      → AreFirstRefined set needs bounds (i + 1) more
  first_more set needs bounds found agree same bound here response F =
      record {
        size = length_push tasks t ∙ ap (λ n. n + 1) size;
        bound = λ k h. elim (cases_eq k i) [
          | inl e ↦
              subst (λ q. bound_at more q ≡ bounds q (method_at more q)) (sym e)
              (last (λ (x : RefinedTask). x.bound) 0 ∙ bound
              ∙ ap (bounds i) (sym (last (λ (x : RefinedTask). x.method) Ucb)))
          | inr ne ↦
              before (λ (x : RefinedTask). x.bound) 0 k (omega arith) ∙ F.bound k (omega arith)
              ∙ ap (bounds k) (sym (before (λ (x : RefinedTask). x.method) Ucb k (omega arith)))
        ];
        window = λ k h. elim (cases_eq k i) [
          | inl e ↦
              subst (λ q. IsRefinedWindow set (needs (window_at more) q) q (method_at more q)
              (window_at more q)) (sym e) window_here
          | inr ne ↦ window_before k (omega arith)
        ];
        response = λ k h. elim (cases_eq k i) [
          | inl e ↦
              subst (λ q. slice_index (responses more) q ≡ window_at more q + jitter_of set q)
              (sym e)
              (last (λ (x : RefinedTask). x.response) 0 ∙ response
              ∙ ap (λ z. z + jitter_of set i) (sym (last (λ (x : RefinedTask). x.window) 0)))
          | inr ne ↦
              before (λ (x : RefinedTask). x.response) 0 k (omega arith)
              ∙ F.response k (omega arith)
              ∙ ap (λ z. z + jitter_of set k)
              (sym (before (λ (x : RefinedTask). x.window) 0 k (omega arith)))
        ];
      }
    where
      window_here : IsRefinedWindow set (needs (window_at more) i) i (method_at more i)
          (window_at more i)
      window_here =
          subst (λ (m : PointMethod). IsRefinedWindow set (needs (window_at more) i) i m
          (window_at more i)) (sym (last (λ (x : RefinedTask). x.method) Ucb))
          (subst (λ (w : ℕ). IsRefinedWindow set (needs (window_at more) i) i t.method w)
          (sym (last (λ (x : RefinedTask). x.window) 0))
          (refined_too set (needs found i) (needs (window_at more) i) i t.method t.window
          (agree found (window_at more) i (omega arith)
          (λ q l. same q l ∙ sym (before (λ (x : RefinedTask). x.window) 0 q l))) here))

      window_before : (k : ℕ) → k < i
          → IsRefinedWindow set (needs (window_at more) k) k (method_at more k) (window_at more k)
      window_before k l =
          subst (λ (m : PointMethod). IsRefinedWindow set (needs (window_at more) k) k m
          (window_at more k)) (sym (before (λ (x : RefinedTask). x.method) Ucb k l))
          (subst (λ (w : ℕ). IsRefinedWindow set (needs (window_at more) k) k (method_at tasks k) w)
          (sym (before (λ (x : RefinedTask). x.window) 0 k l))
          (refined_too set (needs (window_at tasks) k) (needs (window_at more) k) k
          (method_at tasks k) (window_at tasks k)
          (agree (window_at tasks) (window_at more) k (omega arith)
          (λ q m. sym (before (λ (x : RefinedTask). x.window) 0 q (omega arith))))
          (F.window k l)))

  pub found_more : (found : List ℕ) → length found ≡ 32 → i < 32
      → ((k : ℕ) → k < i → get_or found k 0 ≡ window_at tasks k)
      → (k : ℕ) → k < i + 1 → get_or (list_set found i t.window) k 0 ≡ window_at more k
  found_more found room few same k h =
      elim (cases_eq k i) [
        | inl e ↦
            subst (λ (q : ℕ). get_or (list_set found i t.window) q 0 ≡ window_at more q) (sym e)
            (get_or-set_same found i t.window 0 (omega arith)
            ∙ sym (last (λ (x : RefinedTask). x.window) 0))
        | inr ne ↦
            get_or-set_other found i k t.window 0 ne ∙ same k (omega arith)
            ∙ sym (before (λ (x : RefinedTask). x.window) 0 k (omega arith))
      ]

  pub deadlines_more : (set : TaskSet) (found : List ℕ) → length found ≡ 32 → i < 32
      → ((k : ℕ) → k < i → get_or found k 0 + jitter_of set k ≤ deadline_of set k)
      → t.window + jitter_of set i ≤ deadline_of set i
      → (k : ℕ) → k < i + 1 → get_or (list_set found i t.window) k 0 + jitter_of set k
      ≤ deadline_of set k
  deadlines_more set found room few earlier here k h =
      elim (cases_eq k i) [
        | inl e ↦
            subst (λ (q : ℕ). get_or (list_set found i t.window) q 0 + jitter_of set q
            ≤ deadline_of set q) (sym e)
            (omega (arith, get_or-set_same found i t.window 0 (omega arith)))
        | inr ne ↦ omega (arith, get_or-set_other found i k t.window 0 ne, earlier k (omega arith))
      ]
