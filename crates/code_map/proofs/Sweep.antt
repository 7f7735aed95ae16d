-- Pieces that are joined in sequence.
use Rattle.std.proofs.Common.{◌≡◌, ℕ, ◌+◌, ◌-◌, ◌^◌, ◌<◌, ◌≤◌, min, max, Bool, true, false, ◌||◌}
use Rattle.std.proofs.Common.{List, [], ◌∷◌, ◌++◌, ◌⊎◌, length, get_or, take, drop, Option, Some}
use Rattle.std.proofs.Common.{None, refl, ap, sym, subst, ◌∙◌, inl, inr, ⊎_elim, arith, suc, zero}
use Rattle.std.proofs.Common.{All, AllPairs, eqb, eqb-true}
use Rattle.std.specs.Option.{option_or}
use Rattle.std.specs.List.{list_any}
use Rattle.std.specs.List.Sorted.{IsNonDecreasingBy}
use Rattle.std.proofs.lemmas.List.{drop-drop, length-drop, take_more}
use Rattle.std.proofs.lemmas.List.Elements.{All-push}
use Rattle.std.proofs.lemmas.List.Folds.{list_any-append}
use Rattle.std.proofs.lemmas.List.Quantifiers.{all_pairs_push}
use Rattle.std.proofs.lemmas.Bool.{cases_Bool, cases_lt}
use Rattle.std.proofs.lemmas.Option.{none-some}
use Rattle.crpd_base.proofs.Options.{none_or_some}
use Rattle.crpd_base.specs.declared.data.Image.{Image}
use Rattle.code_map.specs.declared.pieces.Piece.{Piece}
use Rattle.code_map.specs.Conflicts.{differ, disagree}
use Rattle.code_map.specs.Inner.Conflicts.{IsFirstPassing}
use Rattle.code_map.specs.Inner.Joined.{lesser, IsPieceBefore, IsRestFrom}
use Rattle.code_map.specs.Inner.Pieces.{piece_byte, piece_end, IsAt}
use Rattle.code_map.specs.Words.{find_map}
use Rattle.code_map.proofs.First.{found_append, found_none, or_nothing, or_none}
use Rattle.code_map.proofs.Found.{before_none, byte_there, later_bytes, past_none}

-- ---- tests that are the same

pub first_same : (p q : ℕ → Bool) (o : Option ℕ) → ((a : ℕ) → p a ≡ q a) → IsFirstPassing q o
    → IsFirstPassing p o
first_same p q None same none = λ a. same a ∙ none a
first_same p q (Some n) same least = record {
  passes = same n ∙ least.passes;
  least = λ b lt. same b ∙ least.least b lt;
}

pub differ_none : (o : Option ℕ) → differ o None ≡ false
differ_none None = refl
differ_none (Some x) = refl

-- ---- one more element

pub same_never : (o : Option ℕ) → differ o o ≡ false
same_never None = refl
same_never (Some x) = grind arith

-- if f has no value for any element, none differs from it
none_differ : {X : Type 0} (f : X → Option ℕ) (o : Option ℕ) (xs : List X) → find_map f xs ≡ None
    → list_any (λ x. differ o (f x)) xs ≡ false
none_differ f o [] e = refl
none_differ f o (x ∷ xs) e =
    let parts = or_none (f x) (find_map f xs) e in
    rw (parts.0, differ_none o) (none_differ f o xs parts.1)

pub disagree_more : {X : Type 0} (f : X → Option ℕ) (xs : List X) (y : X)
    → disagree f (xs ++ y ∷ []) ≡ (disagree f xs || differ (find_map f xs) (f y))
disagree_more f xs y =
    list_any-append (λ x. differ (find_map f (xs ++ y ∷ [])) (f x)) xs (y ∷ [])
    ∙ step (none_or_some (find_map f xs))
  where
    all : find_map f (xs ++ y ∷ []) ≡ option_or (find_map f xs) (f y)
    all = found_append f xs (y ∷ []) ∙ ap (option_or (find_map f xs)) (or_nothing (f y))

    or_last : (b : Bool) → (b || false) ≡ b
    or_last true = refl
    or_last false = refl

    step : (find_map f xs ≡ None) ⊎ ((z : ℕ) × (find_map f xs ≡ Some z))
        → (list_any (λ x. differ (find_map f (xs ++ y ∷ [])) (f x)) xs
        || list_any (λ x. differ (find_map f (xs ++ y ∷ [])) (f x)) (y ∷ []))
        ≡ (disagree f xs || differ (find_map f xs) (f y))
    step (inl none) =
        let now : find_map f (xs ++ y ∷ []) ≡ f y = all ∙ rw none refl in
        rw (now, none, same_never (f y), none_differ f (f y) xs none, none_differ f None xs none)
        refl
    step (inr (z, some)) =
        let now : find_map f (xs ++ y ∷ []) ≡ Some z = all ∙ rw some refl in
        rw (now, some, or_last (differ (Some z) (f y))) refl

pub lesser_first : (p q r : ℕ → Bool) (a b : Option ℕ) → IsFirstPassing p a → IsFirstPassing q b
    → ((n : ℕ) → r n ≡ (p n || q n)) → IsFirstPassing r (lesser a b)
lesser_first p q r None b none other is = first_same r q b (λ n. is n ∙ rw (none n) refl) other
lesser_first p q r (Some x) None one none is =
    first_same r p (Some x) (λ n. is n ∙ rw (none n) (or_last (p n))) one
  where
    or_last : (b : Bool) → (b || false) ≡ b
    or_last true = refl
    or_last false = refl
lesser_first p q r (Some x) (Some y) one other is = record {
  passes = ⊎_elim
      (λ (less : x < y). let m : min x y ≡ x = omega arith in rw m (is x ∙ rw (one.passes) refl))
      (λ (le : y ≤ x). let m : min x y ≡ y = omega arith in
      rw m (is y ∙ rw (other.passes) (or_true (p y))))
      (cases_lt x y);
  least = λ b lt. is b ∙ rw (one.least b (omega arith), other.least b (omega arith)) refl;
}
  where
    or_true : (b : Bool) → (b || true) ≡ true
    or_true true = refl
    or_true false = refl

-- ---- a step

-- pieces of which none has an address of another, that have the bytes of these; the last one to
-- reach further has each byte from its start on, and that of all where no two pieces disagree
pub record IsJoined (ps parts : List Piece) (last : Piece) (o : Option ℕ) : Type 0 where
  pub apart : AllPairs IsPieceBefore parts
  pub ends : All (λ q. piece_end q ≤ piece_end last) parts
  pub bytes : (a : ℕ) → find_map (λ q. piece_byte q a) parts ≡ find_map (λ q. piece_byte q a) ps
  pub covers : (a y : ℕ) → piece_byte last a ≡ Some y
      → (z : ℕ) × (find_map (λ q. piece_byte q a) ps ≡ Some z)
  pub agrees : (a y : ℕ) → disagree (λ q. piece_byte q a) ps ≡ false → piece_byte last a ≡ Some y
      → find_map (λ q. piece_byte q a) ps ≡ Some y
  pub conflict : IsFirstPassing (λ a. disagree (λ q. piece_byte q a) ps) o

or_false : (b c : Bool) → (b || c) ≡ false → (b ≡ false) × (c ≡ false)
or_false true c e = absurd cc
or_false false c e = (refl, e)

not_differ : (o p : Option ℕ) (y : ℕ) → p ≡ Some y → differ o p ≡ false → option_or o p ≡ Some y
not_differ None p y e agree = e
not_differ (Some z) p y e agree =
    let same : differ (Some z) (Some y) ≡ false = rw e at agree in
    equal z y same
  where
    equal : (z y : ℕ) → differ (Some z) (Some y) ≡ false → Some z ≡ Some y
    equal z y same = ⊎_elim
        (λ (e : eqb z y ≡ true). ap Some (eqb-true z y e))
        (λ (ne : eqb z y ≡ false). absurd (none_so ne same))
        (cases_Bool (eqb z y))
      where
        true_false : true ≡ false → ⊥
        true_false e = cc

        none_so : eqb z y ≡ false → differ (Some z) (Some y) ≡ false → ⊥
        none_so ne same = true_false (rw ne at same)

module _ (ps parts : List Piece) (last p : Piece) (o c : Option ℕ)
    (joined : IsJoined ps parts last o) (from : last.start ≤ p.start)
    (conflict : IsFirstPassing (λ a. differ (piece_byte last a) (piece_byte p a)) c) where
  more_byte : (a : ℕ) → find_map (λ q. piece_byte q a) (ps ++ p ∷ [])
      ≡ option_or (find_map (λ q. piece_byte q a) ps) (piece_byte p a)
  more_byte a =
      found_append (λ q. piece_byte q a) ps (p ∷ [])
      ∙ ap (option_or (find_map (λ q. piece_byte q a) ps)) (or_nothing (piece_byte p a))

  none_past : (a : ℕ) → piece_end last ≤ a → find_map (λ q. piece_byte q a) ps ≡ None
  none_past a past =
      sym (joined.bytes a) ∙ found_none (λ q. piece_byte q a) parts (λ k d lt.
      let h : piece_end (get_or parts k d) ≤ piece_end last = joined.ends k d lt in
      past_none (get_or parts k d).start (get_or parts k d).bytes.now a (omega (arith, h, past)))

  -- an address of the piece before the end of the last one is an address of an earlier piece
  last_has : (a : ℕ) → p.start ≤ a → a < piece_end last → (y : ℕ) × (piece_byte last a ≡ Some y)
  last_has a le lt = (_, byte_there last.start last.bytes.now a (omega (arith, from, le)) lt)

  same_test : (a : ℕ)
      → (disagree (λ q. piece_byte q a) ps
      || differ (find_map (λ q. piece_byte q a) ps) (piece_byte p a))
      ≡ (disagree (λ q. piece_byte q a) ps || differ (piece_byte last a) (piece_byte p a))
  same_test a = ⊎_elim
      (λ (yes : disagree (λ q. piece_byte q a) ps ≡ true). rw yes refl)
      (λ (agree : disagree (λ q. piece_byte q a) ps ≡ false).
      ap (λ b. disagree (λ q. piece_byte q a) ps || b) (same agree))
      (cases_Bool (disagree (λ q. piece_byte q a) ps))
    where
      same : disagree (λ q. piece_byte q a) ps ≡ false
          → differ (find_map (λ q. piece_byte q a) ps) (piece_byte p a)
          ≡ differ (piece_byte last a) (piece_byte p a)
      same agree = ⊎_elim
          (λ (less : a < p.start).
          rw (before_none p.start p.bytes.now a less)
          (differ_none (find_map (λ q. piece_byte q a) ps) ∙ sym (differ_none (piece_byte last a))))
          (λ (le : p.start ≤ a). ⊎_elim
          (λ (lt : a < piece_end last). let y = last_has a le lt in
          ap (λ o. differ o (piece_byte p a)) (joined.agrees a y.0 agree y.1 ∙ sym y.1))
          (λ (past : piece_end last ≤ a).
          ap (λ o. differ o (piece_byte p a))
          (none_past a past ∙ sym (past_none last.start last.bytes.now a past)))
          (cases_lt a (piece_end last)))
          (cases_lt a p.start)

  conflict_more : IsFirstPassing (λ a. disagree (λ q. piece_byte q a) (ps ++ p ∷ [])) (lesser o c)
  conflict_more =
      lesser_first (λ a. disagree (λ q. piece_byte q a) ps)
      (λ a. differ (piece_byte last a) (piece_byte p a))
      (λ a. disagree (λ q. piece_byte q a) (ps ++ p ∷ [])) o c joined.conflict conflict
      (λ a. disagree_more (λ q. piece_byte q a) ps p ∙ same_test a)

  -- a piece that ends before the last one, or where it ends
  pub joined_same : length p.bytes.now ≤ piece_end last - p.start
      → IsJoined (ps ++ p ∷ []) parts last (lesser o c)
  joined_same within = record {
    apart = joined.apart;
    ends = joined.ends;
    bytes = λ a.
        joined.bytes a
        ∙ (sym (inside a (none_or_some (find_map (λ q. piece_byte q a) ps))) ∙ sym (more_byte a));
    covers = λ a y e. let z = joined.covers a y e in (z.0, more_byte a ∙ rw z.1 refl);
    agrees = λ a y agree e.
        let apart = or_false _ _ (sym (disagree_more (λ q. piece_byte q a) ps p) ∙ agree) in
        more_byte a ∙ rw (joined.agrees a y apart.0 e) refl;
    conflict = conflict_more;
  }
    where
      inside : (a : ℕ)
          → (find_map (λ q. piece_byte q a) ps ≡ None)
          ⊎ ((z : ℕ) × (find_map (λ q. piece_byte q a) ps ≡ Some z))
          → option_or (find_map (λ q. piece_byte q a) ps) (piece_byte p a)
          ≡ find_map (λ q. piece_byte q a) ps
      inside a (inr some) = rw some.1 refl
      inside a (inl none) = rw none (⊎_elim
          (λ (less : a < p.start). before_none p.start p.bytes.now a less)
          (λ (le : p.start ≤ a). ⊎_elim
          (λ (lt : a < piece_end last). let y = last_has a le lt in
          let z = joined.covers a y.0 y.1 in absurd (none-some z.0 (sym none ∙ z.1)))
          (λ (past : piece_end last ≤ a).
          past_none p.start p.bytes.now a (omega (arith, within, past, le)))
          (cases_lt a (piece_end last)))
          (cases_lt a p.start))

  -- a piece that ends after the last one
  module _ (rest : Piece) (is : IsRestFrom (piece_end last) p rest) where
    count : length rest.bytes.now ≡ length p.bytes.now - (piece_end last - p.start)
    count = ap length is.bytes ∙ length-drop (piece_end last - p.start) p.bytes.now

    start_is : rest.start ≡ p.start + (piece_end last - p.start)
    start_is = is.start ∙ (omega arith)

    rest_byte : (a : ℕ) → rest.start ≤ a → piece_byte rest a ≡ piece_byte p a
    rest_byte a le =
        let n : ℕ = piece_end last - p.start in
        let from : p.start + n ≤ a = omega (arith, start_is, le) in
        rw (is.bytes, start_is) (later_bytes p.start n p.bytes.now a from)

    same_end : piece_end rest ≡ piece_end p
    same_end = omega (arith, count, start_is, is.some)

    further : piece_end last < piece_end p
    further = omega (arith, is.some)

    rest_after : (a : ℕ)
        → (find_map (λ q. piece_byte q a) ps ≡ None)
        ⊎ ((z : ℕ) × (find_map (λ q. piece_byte q a) ps ≡ Some z))
        → option_or (find_map (λ q. piece_byte q a) ps) (piece_byte rest a)
        ≡ option_or (find_map (λ q. piece_byte q a) ps) (piece_byte p a)
    rest_after a (inr some) = rw some.1 refl
    rest_after a (inl none) = rw none (⊎_elim
        (λ (less : a < rest.start).
        before_none rest.start rest.bytes.now a less ∙ ⊎_elim
        (λ (before : a < p.start). sym (before_none p.start p.bytes.now a before))
        (λ (le : p.start ≤ a).
        let lt : a < piece_end last = omega (arith, start_is, less, le) in
        let y = last_has a le lt in
        let z = joined.covers a y.0 y.1 in absurd (none-some z.0 (sym none ∙ z.1)))
        (cases_lt a p.start))
        (λ (le : rest.start ≤ a). rest_byte a le)
        (cases_lt a rest.start))

    more_covers : (a y : ℕ) → piece_byte p a ≡ Some y
        → (find_map (λ q. piece_byte q a) ps ≡ None)
        ⊎ ((z : ℕ) × (find_map (λ q. piece_byte q a) ps ≡ Some z))
        → (z : ℕ) × (find_map (λ q. piece_byte q a) (ps ++ p ∷ []) ≡ Some z)
    more_covers a y e (inl none) = (y, more_byte a ∙ rw none e)
    more_covers a y e (inr some) = (some.0, more_byte a ∙ rw some.1 refl)

    pub joined_rest : IsJoined (ps ++ p ∷ []) (parts ++ rest ∷ []) p (lesser o c)
    joined_rest = record {
      apart =
          all_pairs_push IsPieceBefore parts rest joined.apart
          (λ k d lt. let h : piece_end (get_or parts k d) ≤ piece_end last =
          joined.ends k d lt in omega (arith, h, start_is));
      ends =
          All-push (λ q. piece_end q ≤ piece_end p) parts rest
          (λ k d lt. let h : piece_end (get_or parts k d) ≤ piece_end last =
          joined.ends k d lt in omega (arith, h, further)) (omega (arith, same_end));
      bytes = λ a.
          found_append (λ q. piece_byte q a) parts (rest ∷ [])
          ∙ (ap (option_or (find_map (λ q. piece_byte q a) parts)) (or_nothing (piece_byte rest a))
          ∙ (ap (λ o. option_or o (piece_byte rest a)) (joined.bytes a)
          ∙ (rest_after a (none_or_some (find_map (λ q. piece_byte q a) ps))
          ∙ sym (more_byte a))));
      covers = λ a y e. more_covers a y e (none_or_some (find_map (λ q. piece_byte q a) ps));
      agrees = λ a y agree e.
          let parts = or_false _ _ (sym (disagree_more (λ q. piece_byte q a) ps p) ∙ agree) in
          more_byte a
          ∙ not_differ (find_map (λ q. piece_byte q a) ps) (piece_byte p a) y e parts.1;
      conflict = conflict_more;
    }

-- ---- the loop

-- the piece that stands for a place past the end
abbrev pub no_piece : Piece
no_piece = record {
  start = 0;
  bytes = record { ref_ptr = (0, 0); now = [] };
  file = 0;
  segment = 0;
}

pub piece_same : (ps : List Piece) (n : ℕ) (c d : Piece) → n < length ps
    → get_or ps n c ≡ get_or ps n d
piece_same [] n c d lt = absurd (omega arith)
piece_same (p ∷ ps) zero c d lt = refl
piece_same (p ∷ ps) (suc n) c d lt = piece_same ps n c d (omega arith)

-- the state after the first i pieces
pub record IsSwept (pieces : List Piece) (i : ℕ) (parts : List Piece) (last : Piece) (o : Option ℕ)
    : Type 0 where
  pub joined : IsJoined (take i pieces) parts last o
  pub starts : (k : ℕ) (d : Piece) → i ≤ k → k < length pieces
      → last.start ≤ (get_or pieces k d).start
  pub below : piece_end last ≤ 2 ^ 32
  pub at : (images : List Image) → All (IsAt images) pieces → All (IsAt images) parts

pub swept_none : (pieces : List Piece) (last : Piece) → last.start ≡ 0 → last.bytes.now ≡ []
    → IsSwept pieces 0 [] last None
swept_none pieces last start empty =
    let none : (a : ℕ) → piece_byte last a ≡ None = λ a.
    rw (start, empty) (past_none 0 [] a (omega arith)) in
    record {
      joined = record {
        apart = λ i j d lt in'. absurd (omega arith);
        ends = λ k d lt. absurd (omega arith);
        bytes = λ a. refl;
        covers = λ a y e. absurd (none-some y (sym (none a) ∙ e));
        agrees = λ a y agree e. absurd (none-some y (sym (none a) ∙ e));
        conflict = λ a. refl;
      };
      starts = λ k d le lt. omega (arith, start);
      below = omega (arith, start, ap length empty);
      at = λ images all k d lt. absurd (omega arith);
    }

rest_at : (images : List Image) (p rest : Piece) (from : ℕ) → IsRestFrom from p rest
    → IsAt images p → IsAt images rest
rest_at images p rest from is at = record {
  at = at.at;
  is = rw (is.file, is.segment) at.is;
  from = omega (arith, is.start, at.from);
  bytes =
      is.bytes
      ∙ (ap (drop (from - p.start)) at.bytes
      ∙ (drop-drop (from - p.start) (p.start - at.at.address) at.at.bytes
      ∙ ap (λ n. drop n at.at.bytes) (shifted at.at.address p.start from rest.start is.start
      at.from)));
}
  where
    shifted : (a p from rest : ℕ) → rest ≡ max p from → a ≤ p
        → p - a + (from - p) ≡ rest - a
    shifted a p from rest e le = omega arith

module _ (pieces : List Piece) (i : ℕ) (p : Piece) (parts : List Piece) (last : Piece)
    (o c : Option ℕ) (ascending : IsNonDecreasingBy (λ (q : Piece). q.start) pieces)
    (lt : i < length pieces) (item : p ≡ get_or pieces i p)
    (swept : IsSwept pieces i parts last o)
    (conflict : IsFirstPassing (λ a. differ (piece_byte last a) (piece_byte p a)) c) where
  pub starts_before : last.start ≤ p.start
  starts_before = subst (λ (q : Piece). last.start ≤ q.start) (sym item)
      (swept.starts i p (omega arith) lt)

  more : take i pieces ++ p ∷ [] ≡ take (i + 1) pieces
  more = ap (λ x. take i pieces ++ x ∷ []) item ∙ sym (take_more pieces i p lt)

  pub swept_same : length p.bytes.now ≤ piece_end last - p.start
      → IsSwept pieces (i + 1) parts last (lesser o c)
  swept_same within = record {
    joined =
        subst (λ xs. IsJoined xs parts last (lesser o c)) more
        (joined_same (take i pieces) parts last p o c swept.joined starts_before conflict within);
    starts = λ k d le in'. swept.starts k d (omega arith) in';
    below = swept.below;
    at = swept.at;
  }

  pub swept_rest : (rest : Piece) → IsRestFrom (piece_end last) p rest
      → All (λ q. piece_end q ≤ 2 ^ 32) pieces
      → IsSwept pieces (i + 1) (parts ++ rest ∷ []) p (lesser o c)
  swept_rest rest is below = record {
    joined =
        subst (λ xs. IsJoined xs (parts ++ rest ∷ []) p (lesser o c)) more
        (joined_rest (take i pieces) parts last p o c swept.joined starts_before conflict rest is);
    starts = λ k d le in'.
        let h : (get_or pieces i d).start ≤ (get_or pieces k d).start =
        ascending i k d (omega arith) in' in
        let same : p ≡ get_or pieces i d = item ∙ piece_same pieces i p d lt in
        subst (λ (q : Piece). q.start ≤ (get_or pieces k d).start) (sym same) h;
    below = subst (λ q. piece_end q ≤ 2 ^ 32) (sym item) (below i p lt);
    at = λ images all.
        All-push (IsAt images) parts rest (swept.at images all)
        (rest_at images p rest (piece_end last) is
        (subst (IsAt images) (sym item) (all i p lt)));
  }
