-- Acceptance as the costs of a switch and of a reload grow.
use Rattle.std.proofs.Common.{◌≡◌, ℕ, zero, suc, ◌+◌, ◌<◌, ◌≤◌, ◌⊎◌, List, [], ◌∷◌, ◌++◌, length}
use Rattle.std.proofs.Common.{refl, ap, inl, inr, arith, length-append}
use Rattle.std.proofs.lemmas.Bool.{cases_eq, cases_lt}
use Rattle.crpd_base.specs.declared.data.Part.{Part}
use Rattle.crpd_base.specs.declared.data.Task.{Task}
use Rattle.crpd_base.specs.declared.data.TaskSet.{TaskSet}
use Rattle.loop_regions.specs.TaskGraph.{TaskGraph}
use Rattle.exec_bound.specs.Costs.{greatest_bound}
use Rattle.delay_count.specs.Demand.{demand}
use Rattle.response.specs.declared.choice.Choice.{Choice}
use Rattle.response.specs.Windows.{Demand, AreChoices, chosen_window}
use Rattle.response.proofs.WindowLaws.{smaller_or_none}
use Rattle.response.proofs.Choices.{choices_more}
use Rattle.response.proofs.Least.{looks_above}
use Rattle.cert_check.specs.JudgeInput.{longest_at}
use Rattle.crpd_base.specs.declared.data.Stop.{Stop}
use Rattle.crpd_base.specs.declared.data.Stop.TheVariants.{Limit, Window, Bound}
use Rattle.sensitivity.specs.Costs.{platform_with_costs, with_costs}
use Rattle.sensitivity.specs.Accepted.{IsLeastBound, IsAnalysedPart, AreAnalysedParts, IsAccepted}
use Rattle.sensitivity.specs.Accepted.{IsFirstTooLarge, IsFirstLate, IsStop}
use Rattle.sensitivity.specs.Laws.{AreDearer, WindowsGrow, StaysAccepted, NeverStops, OneStop}
use Rattle.sensitivity.proofs.Bounds.{bound_grows, some_bound}
use Rattle.sensitivity.proofs.Compared.{times_with, windows_grow, never_late}

pub windows_grow_by : WindowsGrow
windows_grow_by set graphs s m k d dearer a b i lt =
    windows_grow set graphs s m k d dearer a.parts b.parts a.are b.are a.choices b.choices
    (length set.tasks) (omega arith) a.windows.each b.windows.each i lt

-- a bound that is too large stays too large
large_stays : (set : TaskSet) (graphs : ℕ → TaskGraph) (s m k d : ℕ) → AreDearer set graphs s m k d
    → (i c e : ℕ) → i < length set.tasks
    → IsLeastBound (platform_with_costs set.platform s m) (graphs i) c
    → IsLeastBound (platform_with_costs set.platform k d) (graphs i) e → greatest_bound < c
    → e ≤ greatest_bound → ⊥
large_stays set graphs s m k d dearer i c e lt C E large small =
    let l = bound_grows set.platform (graphs i) s k m d c e (dearer.bounded i lt).graph
    dearer.miss C E in
    absurd (omega (arith, l, large, small))

pub never_stops_by : NeverStops
never_stops_by set graphs s m k d Limit dearer b stop = stop
never_stops_by set graphs s m k d (Bound t) dearer b stop =
    large_stays set graphs s m k d dearer t.0 stop.cycles (b.parts t.0).bound stop.task stop.bound
    (b.are.each t.0 stop.task).bound stop.large (b.are.within t.0 stop.task)
never_stops_by set graphs s m k d (Window t) dearer b stop =
    never_late set graphs s m k d dearer stop.parts b.parts stop.are b.are stop.first.higher
    b.choices t.0 stop.first.task
    stop.first.each (λ j l. b.windows.each j (let q = stop.first.task in omega (arith, l, q)))
    stop.first.no_ucb stop.first.no_ecb

-- the parts with cheaper costs, from those with dearer ones
module _ (set : TaskSet) (graphs : ℕ → TaskGraph) (s m k d : ℕ)
    (dearer : AreDearer set graphs s m k d) (b : IsAccepted (with_costs set k d) graphs) where
  abbrev cheap : TaskSet
  cheap = with_costs set s m

  abbrev cheap_longest : ℕ → ℕ
  cheap_longest = longest_at (platform_with_costs set.platform s m) graphs

  bounds : (j : ℕ) → j < length set.tasks
      → (c : ℕ) × IsLeastBound (platform_with_costs set.platform s m) (graphs j) c
  bounds j lt =
      some_bound set.platform (graphs j) s k m d (b.parts j).bound (dearer.bounded j lt)
      (b.are.each j lt).bound

  -- with the bound if there is such a task
  part_of : (j : ℕ) → (j < length set.tasks) ⊎ (length set.tasks ≤ j) → Part
  part_of j (inl lt) = record (b.parts j) { bound = (bounds j lt).0 }
  part_of j (inr le) = b.parts j

  parts : ℕ → Part
  parts j = part_of j (cases_lt j (length set.tasks))

  is_part : (j : ℕ) (h : (j < length set.tasks) ⊎ (length set.tasks ≤ j)) → j < length set.tasks
      → IsAnalysedPart (platform_with_costs set.platform s m) (graphs j) (part_of j h)
      × ((part_of j h).bound ≤ greatest_bound)
  unfolding part_of
  is_part j (inl lt) l =
      let C = (bounds j lt).1 in
      let g = bound_grows set.platform (graphs j) s k m d (bounds j lt).0 (b.parts j).bound
      (dearer.bounded j lt).graph dearer.miss C (b.are.each j lt).bound in
      let w = b.are.within j lt in (
        record {
          bound = C;
          sets = record {
            evicting = (b.are.each j lt).sets.evicting;
            useful = (b.are.each j lt).sets.useful;
          };
        },
        omega (arith, g, w),
      )
  is_part j (inr le) l = absurd (omega (arith, le, l))

  are : AreAnalysedParts (with_costs set s m) graphs parts
  unfolding parts
  are = record {
    each = λ j l. (is_part j (cases_lt j (length set.tasks)) l).0;
    within = λ j l. (is_part j (cases_lt j (length set.tasks)) l).1;
  }

  abbrev cheap_demand : Demand
  cheap_demand = demand cheap parts cheap_longest

  abbrev ChoicesTo : ℕ → Type 0
  ChoicesTo n =
      (choices : List Choice) × (length choices ≡ n) × AreChoices cheap cheap_demand choices n

  -- one more, since there is a choice
  more : (n : ℕ) → n < length set.tasks → ChoicesTo n → ChoicesTo (suc n)
  more n lt h =
      elim (smaller_or_none cheap (cheap_demand (chosen_window h.0) n) n) [
        | inl x ↦ (
          h.0 ++ x.0 ∷ [],
          (let q = h.1 in simp length-append (omega (arith, q))),
          (λ j l. choices_more h.0 x.0 n h.1 cheap cheap_demand (chosen_window h.0)
              (looks_above cheap parts cheap_longest (n + 1) (times_with set s m dearer.times)
              (omega (arith, lt))) (λ q r. refl) h.2 x.1 j (omega (arith, l))),
        )
        | inr none ↦
            absurd (never_late set graphs s m k d dearer parts b.parts are b.are h.0 b.choices n lt
            h.2 (λ j l. b.windows.each j (omega (arith, l, lt))) none.0 none.1)
      ]

  choices_to : (n : ℕ) → n ≤ length set.tasks → ChoicesTo n
  choices_to zero le = ([], refl, λ j l. absurd (omega (arith, l)))
  choices_to (suc n) le = more n (omega (arith, le)) (choices_to n (omega (arith, le)))

  pub stays : IsAccepted (with_costs set s m) graphs
  stays =
      let h = choices_to (length set.tasks) (omega arith) in
      record {
        parts = parts;
        are = are;
        choices = h.0;
        windows = record { tasks = h.1; each = h.2 };
      }

pub stays_accepted_by : StaysAccepted
stays_accepted_by set graphs s m k d dearer b = stays set graphs s m k d dearer b

-- stops at the same costs
module _ (set : TaskSet) (graphs : ℕ → TaskGraph) (s m : ℕ)
    (dearer : AreDearer set graphs s m s m) where
  not_earlier_bound : (i j : ℕ) → IsFirstTooLarge (with_costs set s m) graphs i
      → IsFirstTooLarge (with_costs set s m) graphs j → i < j → ⊥
  not_earlier_bound i j A B lt =
      let h = B.higher i lt in
      large_stays set graphs s m s m dearer i A.cycles h.0 A.task A.bound h.1 A.large h.2

  not_both : (i j : ℕ) → IsFirstTooLarge (with_costs set s m) graphs i
      → IsFirstLate (with_costs set s m) graphs j → ⊥
  not_both i j A B =
      large_stays set graphs s m s m dearer i A.cycles (B.parts i).bound A.task A.bound
      (B.are.each i A.task).bound A.large (B.are.within i A.task)

  not_earlier_late : (i j : ℕ) → IsFirstLate (with_costs set s m) graphs i
      → IsFirstLate (with_costs set s m) graphs j → i < j → ⊥
  not_earlier_late i j A B lt =
      never_late set graphs s m s m dearer A.parts B.parts A.are B.are A.first.higher B.first.higher
      i A.first.task A.first.each
      (λ q l. B.first.each q (omega (arith, l, lt))) A.first.no_ucb A.first.no_ecb

  one_task : (P : ℕ → Type 0) → ((i j : ℕ) → P i → P j → i < j → ⊥) → (i j : ℕ) → P i → P j → i ≡ j
  one_task P never i j p q =
      elim (cases_eq i j) [
        | inl e ↦ e
        | inr ne ↦ elim (cases_lt i j) [
          | inl lt ↦ absurd (never i j p q lt)
          | inr le ↦ absurd (never j i q p (omega (arith, ne, le)))
        ]
      ]

  abbrev task : ℕ → Task
  task n = record { 0 = n }

  pub one_stop : (one two : Stop) → IsStop (with_costs set s m) graphs one
      → IsStop (with_costs set s m) graphs two → one ≡ two
  one_stop Limit two A B = absurd A
  one_stop (Bound t) Limit A B = absurd B
  one_stop (Bound t) (Bound u) A B =
      ap (λ n. Bound (task n))
      (one_task (IsFirstTooLarge (with_costs set s m) graphs) not_earlier_bound t.0 u.0 A B)
  one_stop (Bound t) (Window u) A B = absurd (not_both t.0 u.0 A B)
  one_stop (Window t) Limit A B = absurd B
  one_stop (Window t) (Bound u) A B = absurd (not_both u.0 t.0 B A)
  one_stop (Window t) (Window u) A B =
      ap (λ n. Window (task n))
      (one_task (IsFirstLate (with_costs set s m) graphs) not_earlier_late t.0 u.0 A B)

pub one_stop_by : OneStop
one_stop_by set graphs s m one two dearer A B = one_stop set graphs s m dearer one two A B
