-- All tasks have windows, or there is a first without.
use Rattle.std.proofs.Common.{◌≡◌, ◌⊎◌, ℕ, zero, suc, ◌+◌, ◌<◌, ◌≤◌, List, [], ◌∷◌, ◌++◌, length}
use Rattle.std.proofs.Common.{refl, inl, inr, arith}
use Rattle.std.proofs.lemmas.List.{length_push}
use Rattle.crpd_base.specs.declared.data.TaskSet.{TaskSet}
use Rattle.response.specs.declared.choice.Choice.{Choice}
use Rattle.response.specs.Windows.{AreAllChoices, AreChoices, Demand, IsFirstWithoutWindow}
use Rattle.response.specs.Windows.{chosen_window}
use Rattle.response.specs.WindowEnds.{WindowsExist}
use Rattle.response.proofs.Choices.{Agree, choices_more}
use Rattle.response.proofs.WindowLaws.{smaller_or_none}

module _ (set : TaskSet) (demand : Demand) (agree : Agree demand demand (length set.tasks)) where
  abbrev HasChoices : ℕ → Type 0
  HasChoices n = (choices : List Choice) × (length choices ≡ n) × AreChoices set demand choices n

  shorter : (n : ℕ) → n < length set.tasks → Agree demand demand (n + 1)
  shorter n lt window other j below same = agree window other j (omega (arith, below, lt)) same

  windows_below : (n : ℕ) → n ≤ length set.tasks
      → HasChoices n ⊎ ((i : ℕ) × IsFirstWithoutWindow set demand i)
  windows_below zero le = inl ([], refl, λ k lt. absurd (omega arith))
  windows_below (suc n) le =
      elim (windows_below n (omega arith)) [
        | inr without ↦ inr without
        | inl (choices, count, are) ↦
            elim (smaller_or_none set (demand (chosen_window choices) n) n) [
              | inl (c, is) ↦
                  inl (
                    choices ++ c ∷ [],
                    (let e = length_push choices c in omega (arith, e, count)),
                    (λ k lt. choices_more choices c n count set demand (chosen_window choices)
                        (shorter n le) (λ j below. refl) are is k (omega (arith, lt))),
                  )
              | inr (ucb, ecb) ↦
                  inr (
                    n,
                    record {
                      task = omega (arith, le);
                      higher = choices;
                      size = count;
                      each = are;
                      no_ucb = ucb;
                      no_ecb = ecb;
                    },
                  )
            ]
      ]

  -- the windows of all, or the first task without
  pub windows_or_first : ((choices : List Choice) × AreAllChoices set demand choices)
      ⊎ ((i : ℕ) × IsFirstWithoutWindow set demand i)
  windows_or_first =
      elim (windows_below (length set.tasks) (omega arith)) [
        | inl (choices, count, are) ↦ inl (choices, record { tasks = count; each = are })
        | inr without ↦ inr without
      ]

pub windows_exist : WindowsExist
windows_exist set demand above = windows_or_first set demand above
