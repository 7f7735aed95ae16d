-- Lists of choices, and one more choice.
use Rattle.std.proofs.Common.{◌≡◌, ℕ, suc, ◌+◌, ◌<◌, ◌≤◌, inl, inr, List, [], ◌∷◌, ◌++◌, length}
use Rattle.std.proofs.Common.{get_or, refl, sym, ◌∙◌, ap, subst, arith, map}
use Rattle.std.proofs.Math.ListN.{set as list_set}
use Rattle.std.proofs.lemmas.Bool.{cases_eq}
use Rattle.std.proofs.lemmas.List.{map-append, length-map, get_or_append_left, get_or_at}
use Rattle.std.proofs.lemmas.List.{get_or-set_same, get_or-set_other}
use Rattle.crpd_base.specs.declared.data.TaskSet.{TaskSet}
use Rattle.crpd_base.specs.declared.data.Method.{Method}
use Rattle.crpd_base.specs.declared.data.Method.TheVariants.{Ucb, Ecb}
use Rattle.crpd_base.specs.Tasks.{jitter_of, deadline_of}
use Rattle.response.specs.declared.choice.Choice.{Choice}
use Rattle.response.specs.Windows.{Demand, IsSmallerWindow, chosen_window, chosen_method}
use Rattle.response.specs.Windows.{AreChoices, AreAllChoices, IsFirstWithoutWindow}
use Rattle.response.proofs.WindowLaws.{smaller_too, none_too, never_smaller, one_choice}

-- two demands are the same for the first tasks, if the windows of the higher ones are
abbrev pub Agree : Demand → Demand → ℕ → Type 0
Agree demand further n =
    (window other : ℕ → ℕ) (i : ℕ) → i < n → ((k : ℕ) → k < i → window k ≡ other k)
    → (method : Method) (w : ℕ) → demand window i method w ≡ further other i method w

-- then so are the choices, and the first task without a window
module _ (set : TaskSet) (demand further : Demand)
    (agree : Agree demand further (length set.tasks)) where
  choices_too : (choices : List Choice) (n : ℕ) → n ≤ length set.tasks
      → AreChoices set demand choices n → AreChoices set further choices n
  choices_too choices n le A k l =
      smaller_too set (demand (chosen_window choices) k) (further (chosen_window choices) k) k
      (agree (chosen_window choices) (chosen_window choices) k (omega (arith, le, l)) (λ j h. refl))
      (chosen_method choices k) (chosen_window choices k) (A k l)

  pub answer_too : (choices : List Choice) → AreAllChoices set demand choices
      → AreAllChoices set further choices
  answer_too choices A = record {
    tasks = A.tasks;
    each = choices_too choices (length set.tasks) (omega arith) A.each;
  }

  pub first_too : (i : ℕ) → IsFirstWithoutWindow set demand i → IsFirstWithoutWindow set further i
  first_too i F =
      let same = agree (chosen_window F.higher) (chosen_window F.higher) i F.task (λ j h. refl) in
      record {
        task = F.task;
        higher = F.higher;
        size = F.size;
        each = choices_too F.higher i (let l = F.task in omega (arith, l)) F.each;
        no_ucb =
            none_too set (demand (chosen_window F.higher) i Ucb)
            (further (chosen_window F.higher) i Ucb) i
            (same Ucb) F.no_ucb;
        no_ecb =
            none_too set (demand (chosen_window F.higher) i Ecb)
            (further (chosen_window F.higher) i Ecb) i
            (same Ecb) F.no_ecb;
      }

  -- a task that has a window, as all higher ones do, is not the first without
  pub not_first : (i : ℕ) → IsFirstWithoutWindow set demand i
      → (window : ℕ → ℕ) (method : ℕ → Method)
      → ((k : ℕ) → k < suc i → IsSmallerWindow set (further window k) k (method k) (window k)) → ⊥
  not_first i F window method S =
      let lt = F.task in
      let above : (k : ℕ) → k < i → chosen_window F.higher k ≡ window k =
      λ k l.
      (one_choice set (demand (chosen_window F.higher)) (further window)
      (chosen_window F.higher) window
      (chosen_method F.higher) method i
      (λ j h same. agree (chosen_window F.higher) window j (omega (arith, h, lt)) same) F.each
      (λ j h. S j (omega (arith, h))) k l).1 in
      never_smaller set (demand (chosen_window F.higher) i) i (method i) (window i) F.no_ucb
      F.no_ecb
      (smaller_too set (further window i) (demand (chosen_window F.higher) i) i
      (λ m v. sym (agree (chosen_window F.higher) window i lt above m v)) (method i) (window i)
      (S i (omega arith)))

-- one more choice
module _ (choices : List Choice) (c : Choice) (i : ℕ) (size : length choices ≡ i) where
  abbrev more : List Choice
  more = choices ++ c ∷ []

  pub window_before : (k : ℕ) → k < i → chosen_window more k ≡ chosen_window choices k
  window_before k h =
      ap (λ z. get_or z k 0) (map-append (λ (x : Choice). x.window) choices (c ∷ []))
      ∙ get_or_append_left (map (λ (x : Choice). x.window) choices) (c.window ∷ []) 0 k
      (mapped_window k h)
    where
      mapped_window : (k : ℕ) → k < i → k < length (map (λ (x : Choice). x.window) choices)
      mapped_window k h = simp length-map (omega arith)

  method_before : (k : ℕ) → k < i → chosen_method more k ≡ chosen_method choices k
  method_before k h =
      ap (λ z. get_or z k Ucb) (map-append (λ (x : Choice). x.method) choices (c ∷ []))
      ∙ get_or_append_left (map (λ (x : Choice). x.method) choices) (c.method ∷ []) Ucb k
      (mapped_method k h)
    where
      mapped_method : (k : ℕ) → k < i → k < length (map (λ (x : Choice). x.method) choices)
      mapped_method k h = simp length-map (omega arith)

  pub window_last : chosen_window more i ≡ c.window
  window_last =
      ap (λ z. get_or z i 0) (map-append (λ (x : Choice). x.window) choices (c ∷ []))
      ∙ get_or_at (map (λ (x : Choice). x.window) choices) c.window [] 0 i (simp length-map size)

  method_last : chosen_method more i ≡ c.method
  method_last =
      ap (λ z. get_or z i Ucb) (map-append (λ (x : Choice). x.method) choices (c ∷ []))
      ∙ get_or_at (map (λ (x : Choice). x.method) choices) c.method [] Ucb i (simp length-map size)

  -- all choices with it
  pub choices_more : (set : TaskSet) (demand : Demand) (found : ℕ → ℕ) → Agree demand demand (i + 1)
      → ((k : ℕ) → k < i → found k ≡ chosen_window choices k)
      → AreChoices set demand choices i → IsSmallerWindow set (demand found i) i c.method c.window
      → AreChoices set demand more (i + 1)
  choices_more set demand found agree same before here k h =
      elim (cases_eq k i) [
        | inl e ↦
            subst (λ (q : ℕ). IsSmallerWindow set (demand (chosen_window more) q) q
            (chosen_method more q)
            (chosen_window more q)) (sym e)
            (subst (λ (m : Method). IsSmallerWindow set (demand (chosen_window more) i) i m
            (chosen_window more i)) (sym method_last)
            (subst (λ (w : ℕ). IsSmallerWindow set (demand (chosen_window more) i) i c.method w)
            (sym window_last)
            (smaller_too set (demand found i) (demand (chosen_window more) i) i
            (agree found (chosen_window more) i (omega arith)
            (λ q l. same q l ∙ sym (window_before q l))) c.method c.window here)))
        | inr ne ↦
            let l : k < i = omega arith in
            subst (λ (m : Method). IsSmallerWindow set (demand (chosen_window more) k) k m
            (chosen_window more k)) (sym (method_before k l))
            (subst (λ (w : ℕ). IsSmallerWindow set (demand (chosen_window more) k) k
            (chosen_method choices k) w) (sym (window_before k l))
            (smaller_too set (demand (chosen_window choices) k) (demand (chosen_window more) k) k
            (agree (chosen_window choices) (chosen_window more) k (omega arith)
            (λ q m. sym (window_before q (omega arith)))) (chosen_method choices k)
            (chosen_window choices k) (before k l)))
      ]

  pub found_more : (found : List ℕ) → length found ≡ 32 → i < 32
      → ((k : ℕ) → k < i → get_or found k 0 ≡ chosen_window choices k)
      → (k : ℕ) → k < i + 1 → get_or (list_set found i c.window) k 0 ≡ chosen_window more k
  found_more found room few same k h =
      elim (cases_eq k i) [
        | inl e ↦
            subst (λ (q : ℕ). get_or (list_set found i c.window) q 0 ≡ chosen_window more q) (sym e)
            (get_or-set_same found i c.window 0 (omega arith) ∙ sym window_last)
        | inr ne ↦
            get_or-set_other found i k c.window 0 ne ∙ same k (omega arith)
            ∙ sym (window_before k (omega arith))
      ]

  pub deadlines_more : (set : TaskSet) (found : List ℕ) → length found ≡ 32 → i < 32
      → ((k : ℕ) → k < i → get_or found k 0 + jitter_of set k ≤ deadline_of set k)
      → c.window + jitter_of set i ≤ deadline_of set i
      → (k : ℕ) → k < i + 1 → get_or (list_set found i c.window) k 0 + jitter_of set k
      ≤ deadline_of set k
  deadlines_more set found room few before here k h =
      elim (cases_eq k i) [
        | inl e ↦
            subst (λ (q : ℕ). get_or (list_set found i c.window) q 0 + jitter_of set q
            ≤ deadline_of set q) (sym e)
            (omega (arith, get_or-set_same found i c.window 0 (omega arith)))
        | inr ne ↦ omega (arith, get_or-set_other found i k c.window 0 ne, before k (omega arith))
      ]
