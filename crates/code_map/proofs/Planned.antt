-- The plans of tasks, in sequence.
use Rattle.std.proofs.Common.{◌≡◌, ℕ, ◌+◌, ◌<◌, ◌≤◌, List, [], ◌∷◌, ◌++◌, length, drop, get_or}
use Rattle.std.proofs.Common.{Option, Result, Ok, Err, refl, ap, sym, ◌∙◌}
use Rattle.std.proofs.Math.ListN.{drop_of_length-le}
use Rattle.std.proofs.lemmas.List.{drop_more, append-nil}
use Rattle.crpd_base.proofs.Results.{with_front, with_front_pair}
use Rattle.crpd_base.specs.declared.data.Image.{Image}
use Rattle.crpd_base.specs.declared.data.TaskPlan.{TaskPlan}
use Rattle.crpd_base.specs.declared.data.TaskSpec.{TaskSpec}
use Rattle.code_map.specs.declared.error.MapError.{MapError}
use Rattle.code_map.specs.Places.{plan_of, plans_of}

module _ (word : ℕ → Option ℕ) (front : List TaskPlan) (ts : List TaskSpec) (is : List Image)
    (n : ℕ) (t : TaskSpec) (i : Image) (lt : n < length ts) (too : n < length is)
    (task : t ≡ get_or ts n t) (image : i ≡ get_or is n i) (all : Result (List TaskPlan) MapError)
    (so_far : with_front front (plans_of word n (drop n ts) (drop n is)) ≡ all) where
  opened : with_front front (plans_of word n (t ∷ drop (n + 1) ts) (i ∷ drop (n + 1) is)) ≡ all
  opened =
      sym (ap (λ xs. with_front front (plans_of word n xs (i ∷ drop (n + 1) is)))
      (drop_more ts n t lt ∙ rw (← task) refl))
      ∙ (sym (ap (λ xs. with_front front (plans_of word n (drop n ts) xs))
      (drop_more is n i too ∙ rw (← image) refl)) ∙ so_far)

  pub plan_more : (plan : TaskPlan) → plan_of word (record { 0 = n }) t i ≡ Ok plan
      → with_front (front ++ plan ∷ []) (plans_of word (n + 1) (drop (n + 1) ts) (drop (n + 1) is))
      ≡ all
  unfolding plans_of
  plan_more plan e =
      sym (with_front_pair front plan (plans_of word (n + 1) (drop (n + 1) ts) (drop (n + 1) is)))
      ∙ rw e at opened

  pub plan_refused : (e : MapError) → plan_of word (record { 0 = n }) t i ≡ Err e → all ≡ Err e
  unfolding plans_of
  plan_refused e h = sym (rw h at opened)

pub plans_end : (word : ℕ → Option ℕ) (front : List TaskPlan) (ts : List TaskSpec) (is : List Image)
    (n : ℕ) (all : Result (List TaskPlan) MapError) → length ts ≤ n
    → with_front front (plans_of word n (drop n ts) (drop n is)) ≡ all → all ≡ Ok front
unfolding plans_of
plans_end word front ts is n all le h =
    sym h ∙ (ap (λ l. with_front front (plans_of word n l (drop n is))) (drop_of_length-le ts le)
    ∙ ap (λ ys. Ok ys) (append-nil front))
