-- A step for each item of a list, up to the first stop.
use Rattle.std.proofs.Common.{◌≡◌, ℕ, zero, suc, ◌+◌, ◌<◌, ◌≤◌, List, [], ◌∷◌, ◌++◌, length, get_or}
use Rattle.std.proofs.Common.{take, drop, Some, Ok, Err, refl, ap, sym, ◌∙◌, arith}
use Rattle.std.specs.Prelude.{All, Result, position}
use Rattle.std.specs.Str.{bytes_eq}
use Rattle.std.proofs.lemmas.List.{take_all, take_more, take-append-drop, drop_more}
use Rattle.std.proofs.lemmas.List.Elements.{All-cons, All-nil}
use Rattle.std.proofs.lemmas.List.Quantifiers.{position-Some}
use Rattle.std.proofs.lemmas.Slice.Eq.{bytes_eq-Decides}
use Rattle.crpd_base.proofs.Times.{no_task}
use Rattle.crpd_base.specs.declared.data.Image.{Image}
use Rattle.crpd_base.specs.declared.data.TaskSpec.{TaskSpec}
use Rattle.crpd_input.specs.declared.halt.Halt.{Halt}
use Rattle.crpd_input.specs.declared.halt.Halt.TheVariants.{Refused, Memory, Fault}
use Rattle.crpd_input.specs.Steps.{and_then, each, Stops}

module _ {A B : Type 0} (step : A → Result B Halt) where
  pair_ok : (r : Result B Halt) (rs : Result (List B) Halt) (y : B) (ys : List B) → r ≡ Ok y
      → rs ≡ Ok ys → and_then r (λ y. and_then rs (λ ys. Ok (y ∷ ys))) ≡ Ok (y ∷ ys)
  pair_ok r rs y ys a b = rw (a, b) refl

  parts : (r : Result B Halt) (rs : Result (List B) Halt) (ys : List B)
      → and_then r (λ y. and_then rs (λ ys. Ok (y ∷ ys))) ≡ Ok ys
      → (y : B) × (zs : List B) × (r ≡ Ok y) × (rs ≡ Ok zs) × (ys ≡ y ∷ zs)
  parts (Ok y) (Ok zs) ys e = (y, zs, refl, refl, cc)
  parts (Ok y) (Err r) ys e = absurd cc
  parts (Err r) rs ys e = absurd cc

  none_ok : (ys : List B) → each step [] ≡ Ok ys → ys ≡ []
  unfolding each
  none_ok ys e = cc

  front : (x : A) (xs : List A) (ys : List B) → each step (x ∷ xs) ≡ Ok ys
      → (y : B) × (zs : List B) × (step x ≡ Ok y) × (each step xs ≡ Ok zs) × (ys ≡ y ∷ zs)
  unfolding each
  front x xs ys e = parts (step x) (each step xs) ys e

  behind : (x : A) (xs : List A) (y : B) (ys : List B) → step x ≡ Ok y → each step xs ≡ Ok ys
      → each step (x ∷ xs) ≡ Ok (y ∷ ys)
  unfolding each
  behind x xs y ys a b = pair_ok (step x) (each step xs) y ys a b

  stops_here : (x : A) (xs : List A) (e : Halt) → step x ≡ Err e → each step (x ∷ xs) ≡ Err e
  unfolding each
  stops_here x xs e h = rw h refl

  stops_behind : (x : A) (xs : List A) (y : B) (e : Halt) → step x ≡ Ok y → each step xs ≡ Err e
      → each step (x ∷ xs) ≡ Err e
  unfolding each
  stops_behind x xs y e a b = rw (a, b) refl

  pub start : each step [] ≡ Ok []
  unfolding each
  start = refl

  more : (xs : List A) (ys : List B) (x : A) (y : B) → each step xs ≡ Ok ys → step x ≡ Ok y
      → each step (xs ++ x ∷ []) ≡ Ok (ys ++ y ∷ [])
  more [] ys x y e h = behind x [] y [] h start ∙ ap (λ zs. Ok (zs ++ y ∷ [])) (sym (none_ok ys e))
  more (w ∷ xs) ys x y e h =
      let f = front w xs ys e in
      behind w (xs ++ x ∷ []) f.0 (f.1 ++ y ∷ []) f.2 (more xs f.1 x y f.3 h)
      ∙ ap (λ zs. Ok (zs ++ y ∷ [])) (sym f.4)

  stops : (xs : List A) (ys : List B) (x : A) (zs : List A) (r : Halt) → each step xs ≡ Ok ys
      → step x ≡ Err r → each step (xs ++ x ∷ zs) ≡ Err r
  stops [] ys x zs r e h = stops_here x zs r h
  stops (w ∷ xs) ys x zs r e h =
      let f = front w xs ys e in stops_behind w (xs ++ x ∷ zs) f.0 r f.2 (stops xs f.1 x zs r f.3 h)

  -- what holds of each value of the step holds of all
  pub all_given : (P : B → Type 0) → ((x : A) (y : B) → step x ≡ Ok y → P y)
      → (xs : List A) (ys : List B) → each step xs ≡ Ok ys → All P ys
  all_given P h [] ys e = rw (none_ok ys e) (All-nil P)
  all_given P h (x ∷ xs) ys e =
      let f = front x xs ys e in
      rw f.4 (All-cons P f.0 f.1 (h x f.0 f.2) (all_given P h xs f.1 f.3))

  -- there are as many values as items
  pub each_count : (xs : List A) (ys : List B) → each step xs ≡ Ok ys → length ys ≡ length xs
  each_count [] ys e = ap (λ (zs : List B). length zs) (none_ok ys e)
  each_count (x ∷ xs) ys e =
      let f = front x xs ys e in
      ap (λ (zs : List B). length zs) f.4 ∙ ap suc (each_count xs f.1 f.3)

  -- the value of the step for the item at a place
  pub at : (xs : List A) (ys : List B) (k : ℕ) (c : A) (d : B) → each step xs ≡ Ok ys
      → k < length xs → step (get_or xs k c) ≡ Ok (get_or ys k d)
  at [] ys k c d e lt = absurd (omega arith)
  at (x ∷ xs) ys zero c d e lt =
      let f = front x xs ys e in f.2 ∙ ap (λ zs. Ok (get_or zs 0 d)) (sym f.4)
  at (x ∷ xs) ys (suc k) c d e lt =
      let f = front x xs ys e in
      at xs f.1 k c d f.3 (omega arith) ∙ ap (λ zs. Ok (get_or zs (suc k) d)) (sym f.4)

  -- one more item, at a place of the list
  pub one_more : (xs : List A) (i : ℕ) (x : A) (ys : List B) (y : B) → i < length xs
      → x ≡ get_or xs i x → each step (take i xs) ≡ Ok ys → step x ≡ Ok y
      → each step (take (i + 1) xs) ≡ Ok (ys ++ y ∷ [])
  one_more xs i x ys y lt is e h =
      ap (each step) (take_more xs i x lt ∙ ap (λ z. take i xs ++ z ∷ []) (sym is))
      ∙ more (take i xs) ys x y e h

  pub one_refused : (xs : List A) (i : ℕ) (x : A) (ys : List B) (r : Halt) → i < length xs
      → x ≡ get_or xs i x → each step (take i xs) ≡ Ok ys → step x ≡ Err r → each step xs ≡ Err r
  one_refused xs i x ys r lt is e h =
      ap (each step) (sym (take-append-drop i xs)
      ∙ ap (λ zs. take i xs ++ zs) (drop_more xs i x lt ∙ ap (λ z. z ∷ drop (i + 1) xs) (sym is)))
      ∙ stops (take i xs) ys x (drop (i + 1) xs) r e h

  pub all_read : (xs : List A) (i : ℕ) (ys : List B) → length xs ≤ i → each step (take i xs) ≡ Ok ys
      → each step xs ≡ Ok ys
  all_read xs i ys le e = ap (each step) (sym (take_all i xs le)) ∙ e

-- ---- the image of an earlier task's file

pub of_earlier : (step : List ℕ → Result Image Halt) (tasks : List TaskSpec) (images : List Image)
    (file : List ℕ) (k : ℕ) (d : Image)
    → each (λ (t : TaskSpec). step t.file) tasks ≡ Ok images
    → position (λ (t : TaskSpec). bytes_eq file t.file) tasks ≡ Some k → k < length tasks
    → step file ≡ Ok (get_or images k d)
of_earlier step tasks images file k d e found lt =
    let p = position-Some (λ (t : TaskSpec). bytes_eq file t.file) tasks k no_task found in
    let same : file ≡ (get_or tasks k no_task).file =
    (bytes_eq-Decides file (get_or tasks k no_task).file).0 p.1 in
    ap step same ∙ at (λ (t : TaskSpec). step t.file) tasks images k no_task d e lt

-- ---- the stop at one item

pub stops_whole : {A B : Type 0} (one : Result A Halt) (whole : Result B Halt) (halt : Halt)
    → ((r : Halt) → one ≡ Err r → whole ≡ Err r) → Stops one halt → Stops whole halt
stops_whole one whole (Refused r) h s = h (Refused r) s
stops_whole one whole Memory h s = tt
stops_whole one whole Fault h s = tt
