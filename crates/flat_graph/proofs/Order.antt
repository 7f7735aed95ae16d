-- The order of points is the order of numbering.
use Rattle.std.proofs.Common.{◌≡◌, ℕ, ◌<◌, ◌≤◌, true, List, [], ◌∷◌, refl, sym, ap, ◌∙◌, subst, inl}
use Rattle.std.proofs.Common.{inr, ⊎_elim, ◌⊎◌, arith, rules, nat_cmp}
use Rattle.std.proofs.lemmas.Bool.{cases_eq, false≢true}
use Rattle.std.proofs.lemmas.Bool.Decides.{nat_tests}
use Rattle.std.proofs.lemmas.Cmp.{ranked}
use Rattle.std.specs.declared.cmp.Ordering.{Ordering}
use Rattle.std.specs.declared.cmp.Ordering.TheVariants.{Less, Equal, Greater}
use Rattle.std.specs.Ordering.{ordering_then, ordering_reverse, ordering_index, then_cmp, on}
use Rattle.std.specs.Cmp.{IsTotalOrder, nat_cmp_is}
use Rattle.std.specs.Cmp.Rules.{comparing}
use Rattle.std.specs.Cmp.Lexicographic.{slice_cmp}
use Rattle.flat_graph.specs.Inner.NumberingOrder.{list_cmp, flat_cmp}
use Rattle.flat_graph.specs.FlatGraph.{FlatNode, list_lt, IsNumberedBefore}

then_less : (o rest : Ordering) → ordering_then o rest ≡ Less
    → (o ≡ Less) ⊎ ((o ≡ Equal) × (rest ≡ Less))
then_less Less rest e = inl refl
then_less Equal rest e = inr (refl, e)
then_less Greater rest e = cc

pub then_equal : (o rest : Ordering) → ordering_then o rest ≡ Equal → (o ≡ Equal) × (rest ≡ Equal)
then_equal Less rest e = cc
then_equal Equal rest e = (refl, e)
then_equal Greater rest e = cc

nat_less : (x y : ℕ) → nat_cmp x y ≡ Less → x < y
nat_less x y e = ranked x y Less (sym e)

pub nat_equal : (x y : ℕ) → nat_cmp x y ≡ Equal → x ≡ y
nat_equal x y e = ranked x y Equal (sym e)

pub nat_same : (x : ℕ) → nat_cmp x x ≡ Equal
nat_same x = grind (arith, nat_tests)

lower_head : (x y : ℕ) (xs ys : List ℕ) → x < y → list_lt (x ∷ xs) (y ∷ ys) ≡ true
lower_head x y xs ys lt = grind (arith, nat_tests)

same_head : (x y : ℕ) (xs ys : List ℕ) → x ≡ y → list_lt xs ys ≡ true
    → list_lt (x ∷ xs) (y ∷ ys) ≡ true
same_head x y xs ys e h = grind (arith, nat_tests)

pub list_less : (xs ys : List ℕ) → list_cmp xs ys ≡ Less → list_lt xs ys ≡ true
list_less [] [] e = cc
list_less [] (y ∷ ys) e = refl
list_less (x ∷ xs) [] e = cc
list_less (x ∷ xs) (y ∷ ys) e =
    ⊎_elim
    (λ l. lower_head x y xs ys (nat_less x y l))
    (λ b. same_head x y xs ys (nat_equal x y b.0) (list_less xs ys b.1))
    (then_less (nat_cmp x y) (list_cmp xs ys) e)

pub list_equal : (xs ys : List ℕ) → list_cmp xs ys ≡ Equal → xs ≡ ys
list_equal [] [] e = refl
list_equal [] (y ∷ ys) e = cc
list_equal (x ∷ xs) [] e = cc
list_equal (x ∷ xs) (y ∷ ys) e =
    let b = then_equal (nat_cmp x y) (list_cmp xs ys) e in
    λ i. nat_equal x y b.0 i ∷ list_equal xs ys b.1 i

pub list_same : (xs : List ℕ) → list_cmp xs xs ≡ Equal
list_same [] = refl
list_same (x ∷ xs) = ap (λ o. ordering_then o (list_cmp xs xs)) (nat_same x) ∙ list_same xs

pub flat_less : (n m : FlatNode) → flat_cmp n m ≡ Less → IsNumberedBefore n m
flat_less n m e =
    ⊎_elim
    (λ l. inl (list_less n.context m.context l))
    (λ b. inr (list_equal n.context m.context b.0, nat_less n.address m.address b.1))
    (then_less (list_cmp n.context m.context) (nat_cmp n.address m.address) e)

pub flat_equal : (n m : FlatNode) → flat_cmp n m ≡ Equal → n ≡ m
flat_equal n m e =
    let b = then_equal (list_cmp n.context m.context) (nat_cmp n.address m.address) e in
    let c = list_equal n.context m.context b.0 in
    let a = nat_equal n.address m.address b.1 in
    λ i. record { context = c i; address = a i }

pub flat_same : (n : FlatNode) → flat_cmp n n ≡ Equal
flat_same n =
    ap (λ o. ordering_then o (nat_cmp n.address n.address)) (list_same n.context)
    ∙ nat_same n.address

unlike_heads : (x y : ℕ) (xs ys : List ℕ) → list_lt (x ∷ xs) (y ∷ ys) ≡ true
    → (x < y) ⊎ ((x ≡ y) × (list_lt xs ys ≡ true))
unlike_heads x y xs ys e =
    ⊎_elim
    (λ same. inr (same, grind (arith, nat_tests)))
    (λ o. inl (grind (arith, nat_tests)))
    (cases_eq x y)

lt_one_way : (xs ys : List ℕ) → list_lt xs ys ≡ true → list_lt ys xs ≡ true → ⊥
lt_one_way [] [] e f = false≢true e
lt_one_way [] (y ∷ ys) e f = false≢true f
lt_one_way (x ∷ xs) [] e f = false≢true e
lt_one_way (x ∷ xs) (y ∷ ys) e f =
    ⊎_elim
    (λ l. ⊎_elim (λ m. absurd (omega arith)) (λ b. absurd (omega (arith, b.0)))
    (unlike_heads y x ys xs f))
    (λ a. ⊎_elim (λ m. absurd (omega (arith, a.0))) (λ b. lt_one_way xs ys a.1 b.1)
    (unlike_heads y x ys xs f))
    (unlike_heads x y xs ys e)

lt_self : (xs ys : List ℕ) → xs ≡ ys → list_lt xs ys ≡ true → ⊥
lt_self xs ys same e =
    lt_one_way xs ys e
    (subst (λ l. list_lt l xs ≡ true) same (subst (λ l. list_lt xs l ≡ true) (sym same) e))

-- the order is asymmetric
pub before_one_way : (n m : FlatNode) → IsNumberedBefore n m → IsNumberedBefore m n → ⊥
before_one_way n m (inl a) (inl b) = lt_one_way n.context m.context a b
before_one_way n m (inl a) (inr b) = lt_self n.context m.context (sym b.0) a
before_one_way n m (inr a) (inl b) = lt_self m.context n.context (sym a.0) b
before_one_way n m (inr a) (inr b) = absurd (omega (arith, a.1, b.1))

pub not_before_same : (n m : FlatNode) → n ≡ m → IsNumberedBefore n m → ⊥
not_before_same n m e b =
    before_one_way n m b
    (subst (λ x. IsNumberedBefore x n) e (subst (λ x. IsNumberedBefore n x) (sym e) b))

pub list_below : (xs ys : List ℕ) → list_lt xs ys ≡ true → list_cmp xs ys ≡ Less
list_below [] [] e = absurd (false≢true e)
list_below [] (y ∷ ys) e = refl
list_below (x ∷ xs) [] e = absurd (false≢true e)
list_below (x ∷ xs) (y ∷ ys) e =
    ⊎_elim
    (λ l. ap (λ o. ordering_then o (list_cmp xs ys)) (sym (nat_cmp_is x y Less l)))
    (λ b. ap (λ o. ordering_then o (list_cmp xs ys)) (sym (nat_cmp_is x y Equal b.0))
    ∙ list_below xs ys b.1)
    (unlike_heads x y xs ys e)

pub flat_below : (n m : FlatNode) → IsNumberedBefore n m → flat_cmp n m ≡ Less
flat_below n m (inl a) =
    ap (λ o. ordering_then o (nat_cmp n.address m.address)) (list_below n.context m.context a)
flat_below n m (inr b) =
    ap (λ o. ordering_then o (nat_cmp n.address m.address))
    (ap (list_cmp n.context) (sym b.0) ∙ list_same n.context)
    ∙ sym (nat_cmp_is n.address m.address Less b.1)

pub flat_total : IsTotalOrder
    (then_cmp (on (λ (n : FlatNode). n.context) (slice_cmp nat_cmp))
    (on (λ (n : FlatNode). n.address) nat_cmp))
flat_total = search (comparing, rules)

pub flat_order : IsTotalOrder flat_cmp
flat_order = flat_total

by_order : (a b x : FlatNode) (r : Ordering) → flat_cmp b x ≡ r → flat_cmp a b ≡ Less
    → ordering_index (flat_cmp a x) ≤ ordering_index r
by_order a b x Less e h =
    subst (λ o. ordering_index o ≤ 0) (sym (flat_total.trans a b x h e)) (omega arith)
by_order a b x Equal e h =
    subst (λ o. ordering_index o ≤ 1)
    (sym (flat_total.antisymm a x ∙ ap ordering_reverse (sym (flat_total.congr b x a e))
    ∙ sym (flat_total.antisymm a b) ∙ h)) (omega arith)
by_order a b x Greater e h = most (flat_cmp a x)
  where
    most : (o : Ordering) → ordering_index o ≤ 2
    most Less = omega arith
    most Equal = omega arith
    most Greater = omega arith

-- the comparison with a node is monotone in the order
pub rises : (a b x : FlatNode) → IsNumberedBefore a b
    → ordering_index (flat_cmp a x) ≤ ordering_index (flat_cmp b x)
rises a b x h = by_order a b x (flat_cmp b x) refl (flat_below a b h)
