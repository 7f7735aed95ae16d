-- The meaning of a conflict: files of different names have different code bytes at an address.
use Rattle.std.proofs.Common.{◌≡◌, ℕ, ◌<◌, true, List, length, get_or, Some, ap, sym, ◌∙◌}
use Rattle.std.proofs.lemmas.Option.{same_Some}
use Rattle.std.proofs.lemmas.List.Folds.{list_any_at}
use Rattle.code_map.proofs.Indexed.{no_image}
use Rattle.crpd_base.specs.declared.data.Image.{Image}
use Rattle.code_map.specs.Conflicts.{is_conflict}
use Rattle.code_map.specs.Words.{image_byte}
use Rattle.code_map.proofs.Has.{any_at, equals, equals_some, equals_true, of_two, two}

-- tasks that name the same file have the same image
abbrev pub HasOneImageAFile : (ℕ → List ℕ) → List Image → Type 0
HasOneImageAFile name images =
    (j k : ℕ) (d : Image) → j < length images → k < length images → name j ≡ name k
    → get_or images j d ≡ get_or images k d

-- two tasks name different files, which have different code bytes at an address
pub record IsConflictOf (name : ℕ → List ℕ) (images : List Image) (a : ℕ) : Type 0 where
  pub one : ℕ
  pub other : ℕ
  pub in_one : one < length images
  pub in_other : other < length images
  pub byte : ℕ
  pub other_byte : ℕ
  pub has_one : (d : Image) → image_byte (get_or images one d) a ≡ Some byte
  pub has_other : (d : Image) → image_byte (get_or images other d) a ≡ Some other_byte
  pub differ : byte ≡ other_byte → ⊥
  pub names : name one ≡ name other → ⊥

pub by_names : (name : ℕ → List ℕ) (images : List Image) (a : ℕ) → HasOneImageAFile name images
    → is_conflict images a ≡ true → IsConflictOf name images a
by_names name images a one e =
    let t = two (λ i. image_byte i a) images e in
    let x = any_at (λ i. equals t.0 (image_byte i a)) images t.2 in
    let y = any_at (λ i. equals t.1 (image_byte i a)) images t.3 in
    let at_x : (d : Image) → image_byte (get_or images x.0 d) a ≡ Some t.0 = λ d.
    equals_true t.0 (image_byte (get_or images x.0 d) a) (x.2 d) in
    let at_y : (d : Image) → image_byte (get_or images y.0 d) a ≡ Some t.1 = λ d.
    equals_true t.1 (image_byte (get_or images y.0 d) a) (y.2 d) in
    record {
      one = x.0;
      other = y.0;
      in_one = x.1;
      in_other = y.1;
      byte = t.0;
      other_byte = t.1;
      has_one = at_x;
      has_other = at_y;
      differ = t.4;
      names = λ same.
          t.4 (same_Some t.0 t.1 (sym (at_x no_image)
          ∙ (ap (λ i. image_byte i a) (one x.0 y.0 no_image x.1 y.1 same) ∙ at_y no_image)));
    }

pub of_names : (name : ℕ → List ℕ) (images : List Image) (a : ℕ) → IsConflictOf name images a
    → is_conflict images a ≡ true
of_names name images a c =
    of_two (λ i. image_byte i a) images c.byte c.other_byte
    (list_any_at (λ i. equals c.byte (image_byte i a)) images c.one no_image c.in_one
    (equals_some c.byte (image_byte (get_or images c.one no_image) a) (c.has_one no_image)))
    (list_any_at (λ i. equals c.other_byte (image_byte i a)) images c.other no_image c.in_other
    (equals_some c.other_byte (image_byte (get_or images c.other no_image) a)
    (c.has_other no_image)))
    c.differ
