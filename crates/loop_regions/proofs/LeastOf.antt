-- Smallest numbers with a property.
use Rattle.std.proofs.Common.{◌⊎◌, ℕ, List, Some, None, inl, inr, ⊎_elim, arith, Option, nat_lt}
use Rattle.std.proofs.lemmas.Bool.{cases_Bool, ltb-true, ltb-false}
use Rattle.loop_regions.specs.Nest.{Nest}
use Rattle.loop_regions.specs.CodeNest.{nest_of}
use Rattle.loop_regions.specs.Inner.Least.{IsLeastNumber, lesser}

-- the nest of these lists
abbrev pub nest_by : List ℕ → List ℕ → List (List ℕ) → Nest
nest_by heads bounds holders =
    nest_of (record { heads = heads; bounds = bounds; holders = holders })

pub least_same : (P Q : ℕ → Type 0) (o : Option ℕ) → ((v : ℕ) → P v → Q v) → ((v : ℕ) → Q v → P v)
    → IsLeastNumber P o → IsLeastNumber Q o
least_same P Q None f g h = λ a q. h a (g a q)
least_same P Q (Some a) f g h = (f a h.0, λ b q. h.1 b (g b q))

pub least_or : (P Q : ℕ → Type 0) (a b : Option ℕ) → IsLeastNumber P a → IsLeastNumber Q b
    → IsLeastNumber (λ v. P v ⊎ Q v) (lesser a b)
least_or P Q None None h i = λ v s. ⊎_elim (h v) (i v) s
least_or P Q None (Some b) h i = (inr i.0, λ v s. ⊎_elim (λ p. absurd (h v p)) (i.1 v) s)
least_or P Q (Some a) None h i = (inl h.0, λ v s. ⊎_elim (h.1 v) (λ q. absurd (i v q)) s)
least_or P Q (Some a) (Some b) h i =
    let goal : Option ℕ → Type 0 = λ o. IsLeastNumber (λ v. P v ⊎ Q v) o in
    ⊎_elim
    (λ lt. rw lt (
      inr i.0,
      λ v s. ⊎_elim (λ p. let x = h.1 v p in let y = ltb-true b a lt in omega arith) (i.1 v) s,
    ))
    (λ ge. rw ge (
      inl h.0,
      λ v s. ⊎_elim (h.1 v) (λ q. let x = i.1 v q in let y = ltb-false b a ge in omega arith) s,
    ))
    (cases_Bool (nat_lt b a))
