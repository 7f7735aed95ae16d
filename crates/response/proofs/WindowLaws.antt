-- Windows of any demand: equal needs have the same, there is at most one, and its existence is
-- decidable.
use Rattle.std.proofs.Common.{◌≡◌, ℕ, zero, suc, ◌+◌, ◌-◌, ◌<◌, ◌≤◌, ◌⊎◌, inl, inr, Option, Some}
use Rattle.std.proofs.Common.{None, refl, sym, ◌∙◌, subst, arith, MatchOption, nat_le}
use Rattle.std.proofs.lemmas.Bool.{cases_Bool, cases_eq, cases_lt, leb-true, leb-false}
use Rattle.crpd_base.specs.declared.data.TaskSet.{TaskSet}
use Rattle.crpd_base.specs.declared.data.Method.{Method}
use Rattle.crpd_base.specs.declared.data.Method.TheVariants.{Ucb, Ecb}
use Rattle.crpd_base.specs.Tasks.{jitter_of, deadline_of}
use Rattle.response.specs.declared.choice.Choice.{Choice}
use Rattle.response.specs.Windows.{IsWindow, HasNoWindow, IsSmallerWindow, smaller_of}

-- ---- equal needs

-- the windows of one need
module _ (set : TaskSet) (needs others : ℕ → ℕ) (i : ℕ) (same : (v : ℕ) → needs v ≡ others v) where
  pub window_too : (w : ℕ) → IsWindow set needs i w → IsWindow set others i w
  window_too w h = record {
    some = h.some;
    enough = let f = h.enough in let e = same w in omega (arith, e, f);
    in_deadline = h.in_deadline;
    least = λ v some fits. let e = same v in h.least v some (omega (arith, e, fits));
  }

  pub none_too : HasNoWindow set needs i → HasNoWindow set others i
  none_too h w some within = let l = h w some within in let e = same w in omega (arith, e, l)

  pub found_too : (o : Option ℕ)
      → MatchOption o (HasNoWindow set needs i) (λ w. IsWindow set needs i w)
      → MatchOption o (HasNoWindow set others i) (λ w. IsWindow set others i w)
  found_too None h = none_too h
  found_too (Some w) h = window_too w h

-- a need has one window
one_window : (set : TaskSet) (needs : ℕ → ℕ) (i w v : ℕ) → IsWindow set needs i w
    → IsWindow set needs i v → w ≡ v
one_window set needs i w v W V =
    let le = W.least v V.some V.enough in
    let ge = V.least w W.some W.enough in
    omega (arith, le, ge)

-- the smaller windows of the needs by two methods
module _ (set : TaskSet) (needs others : Method → ℕ → ℕ) (i : ℕ)
    (same : (method : Method) (v : ℕ) → needs method v ≡ others method v) where
  back : (method : Method) (w : ℕ) → IsWindow set (others method) i w
      → IsWindow set (needs method) i w
  back method w h = window_too set (others method) (needs method) i (λ v. sym (same method v)) w h

  pub smaller_too : (method : Method) (w : ℕ) → IsSmallerWindow set needs i method w
      → IsSmallerWindow set others i method w
  smaller_too Ucb w h =
      (window_too set (needs Ucb) (others Ucb) i (same Ucb) w h.0, λ v V. h.1 v (back Ecb v V))
  smaller_too Ecb w h =
      (window_too set (needs Ecb) (others Ecb) i (same Ecb) w h.0, λ v V. h.1 v (back Ucb v V))

-- there is one smaller window, and one method
one_of : (set : TaskSet) (needs : Method → ℕ → ℕ) (i : ℕ) (method by : Method) (w v : ℕ)
    → IsSmallerWindow set needs i method w → IsSmallerWindow set needs i by v
    → (method ≡ by) × (w ≡ v)
one_of set needs i Ucb Ucb w v S T = (refl, one_window set (needs Ucb) i w v S.0 T.0)
one_of set needs i Ecb Ecb w v S T = (refl, one_window set (needs Ecb) i w v S.0 T.0)
one_of set needs i Ucb Ecb w v S T =
    let le = S.1 v T.0 in let lt = T.1 w S.0 in absurd (omega (arith, le, lt))
one_of set needs i Ecb Ucb w v S T =
    let lt = S.1 v T.0 in let le = T.1 w S.0 in absurd (omega (arith, le, lt))

pub one_smaller : (set : TaskSet) (needs others : Method → ℕ → ℕ) (i : ℕ)
    → ((method : Method) (v : ℕ) → needs method v ≡ others method v)
    → (method by : Method) (w v : ℕ) → IsSmallerWindow set needs i method w
    → IsSmallerWindow set others i by v → (method ≡ by) × (w ≡ v)
one_smaller set needs others i same method by w v S T =
    one_of set others i method by w v (smaller_too set needs others i same method w S) T

-- the smaller windows of the first tasks, if a task's need depends only on the windows of the
-- higher ones
module _ (set : TaskSet) (needs others : ℕ → Method → ℕ → ℕ) (window other : ℕ → ℕ)
    (method by : ℕ → Method) (n : ℕ)
    (same : (i : ℕ) → i < n → ((k : ℕ) → k < i → window k ≡ other k) → (m : Method) (v : ℕ)
    → needs i m v ≡ others i m v)
    (W : (i : ℕ) → i < n → IsSmallerWindow set (needs i) i (method i) (window i))
    (V : (i : ℕ) → i < n → IsSmallerWindow set (others i) i (by i) (other i)) where
  choice_by : (i : ℕ) → i < n → ((k : ℕ) → k < i → window k ≡ other k)
      → (method i ≡ by i) × (window i ≡ other i)
  choice_by i l below =
      one_smaller set (needs i) (others i) i (same i l below) (method i) (by i) (window i) (other i)
      (W i l) (V i l)

  below : (i : ℕ) → i ≤ n → (k : ℕ) → k < i → window k ≡ other k
  below zero l k h = absurd (omega (arith, h))
  below (suc i) l k h =
      elim (cases_eq k i) [
        | inl e ↦
            subst (λ x. window x ≡ other x) (sym e)
            (choice_by i (omega (arith, l)) (below i (omega (arith, l)))).1
        | inr ne ↦ below i (omega (arith, l)) k (omega (arith, h, ne))
      ]

  pub one_choice : (i : ℕ) → i < n → (method i ≡ by i) × (window i ≡ other i)
  one_choice i l = choice_by i l (below i (omega (arith, l)))

-- ---- a window or none

module _ (set : TaskSet) (needs : Method → ℕ → ℕ) (i : ℕ) where
  pub smaller_is_window : (method : Method) (w : ℕ) → IsSmallerWindow set needs i method w
      → IsWindow set (needs method) i w
  smaller_is_window Ucb w h = h.0
  smaller_is_window Ecb w h = h.0

  abbrev Found : Method → Option ℕ → Type 0
  Found method w =
      MatchOption w (HasNoWindow set (needs method) i) (λ x. IsWindow set (needs method) i x)

  pub never : (method : Method) (v : ℕ) → HasNoWindow set (needs method) i
      → IsWindow set (needs method) i v → ⊥
  never method v none is =
      let over = none v is.some is.in_deadline in
      let fits = is.enough in absurd (omega (arith, over, fits))

  -- a task without windows has no smaller one
  pub never_smaller : (method : Method) (v : ℕ) → HasNoWindow set (needs Ucb) i
      → HasNoWindow set (needs Ecb) i → IsSmallerWindow set needs i method v → ⊥
  never_smaller Ucb v u e h = never Ucb v u h.0
  never_smaller Ecb v u e h = never Ecb v e h.0

  abbrev Chosen : Option Choice → Type 0
  Chosen c =
      MatchOption c (HasNoWindow set (needs Ucb) i × HasNoWindow set (needs Ecb) i)
      (λ (x : Choice). IsSmallerWindow set needs i x.method x.window)

  -- the smaller of two optional windows is chosen
  pub chosen : (ucb ecb : Option ℕ) → Found Ucb ucb → Found Ecb ecb → Chosen (smaller_of ucb ecb)
  chosen None None u e = (u, e)
  chosen (Some x) None u e = (u, λ v is. absurd (never Ecb v e is))
  chosen None (Some y) u e = (e, λ v is. absurd (never Ucb v u is))
  chosen (Some x) (Some y) u e =
      elim (cases_Bool (nat_le x y)) [
        | inl b ↦
            rw b (
              u,
              λ v is. let l : x ≤ y =
                  leb-true x y b in let m = e.least v is.some is.enough in omega (arith, l, m),
            )
        | inr b ↦
            rw b (
              e,
              λ v is. let l : y < x =
                  leb-false x y b in let m = u.least v is.some is.enough in omega (arith, l, m),
            )
      ]

  pub chosen_is : (ucb ecb : Option ℕ) (c : Option Choice) → Found Ucb ucb → Found Ecb ecb
      → c ≡ smaller_of ucb ecb → Chosen c
  chosen_is ucb ecb c u e is = subst Chosen (sym is) (chosen ucb ecb u e)

  pub chosen_none : (ucb ecb : Option ℕ) (c : Option Choice) → Found Ucb ucb → Found Ecb ecb
      → c ≡ smaller_of ucb ecb → c ≡ None
      → HasNoWindow set (needs Ucb) i × HasNoWindow set (needs Ecb) i
  chosen_none ucb ecb c u e is none = subst Chosen (sym is ∙ none) (chosen ucb ecb u e)

  pub chosen_some : (ucb ecb : Option ℕ) (c : Option Choice) (x : Choice) → Found Ucb ucb
      → Found Ecb ecb → c ≡ smaller_of ucb ecb → c ≡ Some x
      → IsSmallerWindow set needs i x.method x.window
  chosen_some ucb ecb c x u e is some = subst Chosen (sym is ∙ some) (chosen ucb ecb u e)

-- the smallest number from 1 to n that a need does not exceed, or none
record IsLeastRoom (needs : ℕ → ℕ) (n w : ℕ) : Type 0 where
  some : 1 ≤ w
  within : w ≤ n
  enough : needs w ≤ w
  least : (v : ℕ) → 1 ≤ v → needs v ≤ v → w ≤ v

least_room : (needs : ℕ → ℕ) (n : ℕ)
    → ((w : ℕ) × IsLeastRoom needs n w) ⊎ ((v : ℕ) → 1 ≤ v → v ≤ n → v < needs v)
least_room needs zero = inr (λ v some l. absurd (omega arith))
least_room needs (suc n) =
    elim (least_room needs n) [
      | inl p ↦
          inl (
            p.0,
            record {
              some = p.1.some;
              within = let l = p.1.within in omega (arith, l);
              enough = p.1.enough;
              least = p.1.least;
            },
          )
      | inr none ↦
          elim (cases_lt (suc n) (needs (suc n))) [
            | inr fits ↦
                inl (
                  suc n,
                  record {
                    some = omega arith;
                    within = omega arith;
                    enough = fits;
                    least = λ v some f. elim (cases_lt v (suc n)) [
                      | inr l ↦ l
                      | inl l ↦ absurd (let over = none v some (omega arith) in omega (arith, over))
                    ];
                  },
                )
            | inl over ↦
                inr (λ v some l.
                elim (cases_eq v (suc n)) [
                  | inl e ↦ subst (λ x. x < needs x) (sym e) over
                  | inr ne ↦ none v some (omega arith)
                ])
          ]
    ]

-- a need has a window, or none
pub window_or_none : (set : TaskSet) (needs : ℕ → ℕ) (i : ℕ)
    → (o : Option ℕ) × MatchOption o (HasNoWindow set needs i) (λ w. IsWindow set needs i w)
window_or_none set needs i =
    elim (least_room needs (deadline_of set i - jitter_of set i)) [
      | inl p ↦ (
        Some p.0,
        record {
          some = p.1.some;
          enough = p.1.enough;
          in_deadline = let s = p.1.some in let l = p.1.within in omega (arith, s, l);
          least = p.1.least;
        },
      )
      | inr none ↦ (None, λ w some within. none w some (omega (arith, within)))
    ]

-- so a task has a smaller window, or none by either method
pub smaller_or_none : (set : TaskSet) (needs : Method → ℕ → ℕ) (i : ℕ)
    → ((c : Choice) × IsSmallerWindow set needs i c.method c.window)
    ⊎ (HasNoWindow set (needs Ucb) i × HasNoWindow set (needs Ecb) i)
smaller_or_none set needs i =
    let u = window_or_none set (needs Ucb) i in
    let e = window_or_none set (needs Ecb) i in
    by_choice (smaller_of u.0 e.0) (chosen set needs i u.0 e.0 u.1 e.1)
  where
    by_choice : (c : Option Choice) → Chosen set needs i c
        → ((c : Choice) × IsSmallerWindow set needs i c.method c.window)
        ⊎ (HasNoWindow set (needs Ucb) i × HasNoWindow set (needs Ecb) i)
    by_choice None h = inr h
    by_choice (Some c) h = inl (c, h)

-- and the smaller window is at most each number within the deadline that one of the needs does not
-- exceed
pub smaller_within : (set : TaskSet) (needs : Method → ℕ → ℕ) (i : ℕ) (by method : Method) (w v : ℕ)
    → IsSmallerWindow set needs i by v
    → 1 ≤ w → needs method w ≤ w → w + jitter_of set i ≤ deadline_of set i → v ≤ w
smaller_within set needs i by method w v S some fits within =
    let found = window_or_none set (needs method) i in
    by_window found.0 found.1
  where
    no_longer : (by method : Method) (x : ℕ) → IsSmallerWindow set needs i by v
        → IsWindow set (needs method) i x → v ≤ x
    no_longer Ucb Ucb x S W = S.0.least x W.some W.enough
    no_longer Ucb Ecb x S W = S.1 x W
    no_longer Ecb Ucb x S W = let l = S.1 x W in omega (arith, l)
    no_longer Ecb Ecb x S W = S.0.least x W.some W.enough

    by_window : (o : Option ℕ) → Found set needs i method o → v ≤ w
    by_window None none = let over = none w some within in absurd (omega (arith, over, fits))
    by_window (Some x) W =
        let l = W.least w some fits in let m = no_longer by method x S W in omega (arith, l, m)
