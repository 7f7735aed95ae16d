-- No word fits two rows: the keys of any two rows differ in a field that both have.
use Rattle.std.proofs.Common.{◌≡◌, ℕ, ◌==◌, ◌&&◌, ◌||◌, not, Bool, true, false, List, [], ◌∷◌}
use Rattle.std.proofs.Common.{Option, Some, None, arith, refl, sym, ap, ◌∙◌, inl, inr, IsTrue}
use Rattle.std.specs.List.{AllPairs, AllByRecursion}
use Rattle.std.proofs.lemmas.List.Kept.{AllPairs-cons}
use Rattle.std.proofs.lemmas.List.Elements.{All-from_recursion}
use Rattle.std.proofs.lemmas.Bool.{or_cases, and_parts}
use Rattle.rv_decode.specs.declared.Ins.{Ins}
use Rattle.rv_decode.specs.Table.{Key, bits, fits_key, table}
use Rattle.rv_decode.specs.Table.Key.{Opcode, Funct3, Funct7, Whole}
use Rattle.rv_decode.specs.Encoding.{ExcludeEachOther}
use Rattle.rv_decode.proofs.Rows.{opcode_is, funct3_is, funct7_is}

abbrev opcode_of : Key → ℕ
opcode_of (Opcode o) = o
opcode_of (Funct3 o f) = o
opcode_of (Funct7 o f g) = o
opcode_of (Whole v) = bits 0 7 v

abbrev funct3_of : Key → Option ℕ
funct3_of (Opcode o) = None
funct3_of (Funct3 o f) = Some f
funct3_of (Funct7 o f g) = Some f
funct3_of (Whole v) = Some (bits 12 3 v)

abbrev funct7_of : Key → Option ℕ
funct7_of (Opcode o) = None
funct7_of (Funct3 o f) = None
funct7_of (Funct7 o f g) = Some g
funct7_of (Whole v) = Some (bits 25 7 v)

abbrev whole_of : Key → Option ℕ
whole_of (Opcode o) = None
whole_of (Funct3 o f) = None
whole_of (Funct7 o f g) = None
whole_of (Whole v) = Some v

abbrev differ : Option ℕ → Option ℕ → Bool
differ None y = false
differ (Some x) None = false
differ (Some x) (Some y) = not (x == y)

abbrev Agrees : ℕ → Option ℕ → Type 0
Agrees n None = Unit {0}
Agrees n (Some x) = n ≡ x

record Agreement (k : Key) (w : ℕ) : Type 0 where
  opcode : bits 0 7 w ≡ opcode_of k
  funct3 : Agrees (bits 12 3 w) (funct3_of k)
  funct7 : Agrees (bits 25 7 w) (funct7_of k)
  whole : Agrees w (whole_of k)

agreement : (k : Key) (w : ℕ) → fits_key k w ≡ true → Agreement k w
agreement (Opcode o) w h = record { opcode = opcode_is w o h; funct3 = tt; funct7 = tt; whole = tt }
agreement (Funct3 o f) w h = let p = funct3_is w o f h in record {
  opcode = p.0;
  funct3 = p.1;
  funct7 = tt;
  whole = tt;
}
agreement (Funct7 o f g) w h = let p = funct7_is w o f g h in record {
  opcode = p.0;
  funct3 = p.1;
  funct7 = p.2;
  whole = tt;
}
agreement (Whole v) w h =
    let e : w ≡ v = grind arith in
    record {
      opcode = ap (bits 0 7) e;
      funct3 = ap (bits 12 3) e;
      funct7 = ap (bits 25 7) e;
      whole = e;
    }

not_both : (n : ℕ) (x y : Option ℕ) → differ x y ≡ true → Agrees n x → Agrees n y → ⊥
not_both n None y d p q = cc
not_both n (Some x) None d p q = cc
not_both n (Some x) (Some y) d p q = let e : x ≡ y = cc in grind arith

abbrev excludes : Key → Key → Bool
excludes k l =
    not (opcode_of k == opcode_of l)
    || (differ (funct3_of k) (funct3_of l)
    || (differ (funct7_of k) (funct7_of l) || differ (whole_of k) (whole_of l)))

excluded : (k l : Key) (w : ℕ) → excludes k l ≡ true → fits_key k w ≡ true → fits_key l w ≡ true → ⊥
excluded k l w d p q =
    let a : Agreement k w = agreement k w p in
    let b : Agreement l w = agreement l w q in
    elim (or_cases _ _ d) [
      | inl d1 ↦ let e : opcode_of k ≡ opcode_of l = sym a.opcode ∙ b.opcode in other e d1
      | inr d2 ↦ elim (or_cases _ _ d2) [
        | inl d3 ↦ not_both (bits 12 3 w) (funct3_of k) (funct3_of l) d3 a.funct3 b.funct3
        | inr d4 ↦ elim (or_cases _ _ d4) [
          | inl d5 ↦ not_both (bits 25 7 w) (funct7_of k) (funct7_of l) d5 a.funct7 b.funct7
          | inr d6 ↦ not_both w (whole_of k) (whole_of l) d6 a.whole b.whole
        ]
      ]
    ]
  where
    other : {m n : ℕ} → m ≡ n → not (m == n) ≡ true → ⊥
    other e d = grind arith

abbrev excludes_all : Key → List (Key × (ℕ → Ins)) → Bool
excludes_all k [] = true
excludes_all k (r ∷ rows) = excludes k r.0 && excludes_all k rows

abbrev all_exclude : List (Key × (ℕ → Ins)) → Bool
all_exclude [] = true
all_exclude (r ∷ rows) = excludes_all r.0 rows && all_exclude rows

abbrev Apart : ℕ → Key × (ℕ → Ins) → Key × (ℕ → Ins) → Type 0
Apart w r s = IsTrue (fits_key r.0 w) → IsTrue (fits_key s.0 w) → ⊥

apart_from : (w : ℕ) (r : Key × (ℕ → Ins)) (rows : List (Key × (ℕ → Ins)))
    → excludes_all r.0 rows ≡ true → AllByRecursion (Apart w r) rows
apart_from w r [] h = tt
apart_from w r (s ∷ rows) h =
    let p = and_parts (excludes r.0 s.0) (excludes_all r.0 rows) h in
    (λ a b. excluded r.0 s.0 w p.0 (true_of a) (true_of b), apart_from w r rows p.1)
  where
    true_of : {b : Bool} → IsTrue b → b ≡ true
    true_of h = grind arith

each_apart : (w : ℕ) (rows : List (Key × (ℕ → Ins))) → all_exclude rows ≡ true
    → AllPairs (Apart w) rows
each_apart w [] h = λ i j d before within. absurd (omega arith)
each_apart w (r ∷ rows) h =
    let p = and_parts (excludes_all r.0 rows) (all_exclude rows) h in
    AllPairs-cons (Apart w) r rows (All-from_recursion _ _ (apart_from w r rows p.0))
    (each_apart w rows p.1)

pub table_excludes : ExcludeEachOther table
unfolding table
table_excludes w = each_apart w table refl
