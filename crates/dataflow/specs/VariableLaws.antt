-- The laws of the two analyses of a variable.
use Rattle.std.proofs.Common.{◌≡◌, ◌≢◌, ◌≤◌, ℕ, Bool, true, false, Option, Some, None, refl, ◌||◌}
use Rattle.std.proofs.Common.{ap, sym, ◌∙◌, ⊎_elim, cond, eq-eqb, lit≤, ne_eqb}
use Rattle.dataflow.specs.Problem.{IsSemilattice}
use Rattle.dataflow.specs.Variable.{common_value, known_after, live_before, one_if_unknown}
use Rattle.dataflow.specs.Variable.{one_if_live}
use Rattle.dataflow.specs.declared.variable.Use.{Use}
use Rattle.dataflow.specs.declared.variable.Use.TheVariants.{Reads, Writes, Neither}
use Rattle.std.proofs.lemmas.Bool.{cases_eq}
use Rattle.std.proofs.Math.Bool.{or_self, or_comm, or_assoc}

-- disjunction is a join
pub or_joins : IsSemilattice Bool (λ a b. a || b)
or_joins = record { same = or_self; swapped = or_comm; grouped = or_assoc }

-- the transfer of liveness distributes over joins
pub live_distributes : (u : Use) (a b : Bool)
    → live_before u (a || b) ≡ (live_before u a || live_before u b)
live_distributes Reads a b = refl
live_distributes (Writes k) a b = refl
live_distributes Neither a b = refl

-- liveness rises at most once
pub live_bounded : (v : Bool) → one_if_live v ≤ 1
live_bounded true = lit≤ tt
live_bounded false = lit≤ tt

-- two equal values have that value in common
both_equal : (j k : ℕ) → j ≡ k → common_value (Some j) (Some k) ≡ Some j
both_equal j k e = ap (λ t. cond t (Some j) None) (eq-eqb j k e)

-- two different values have none in common
both_other : (j k : ℕ) → j ≢ k → common_value (Some j) (Some k) ≡ None
both_other j k ne = ap (λ t. cond t (Some j) None) (ne_eqb j k ne)

-- what a value has in common with itself is itself
both_same : (a : Option ℕ) → common_value a a ≡ a
both_same None = refl
both_same (Some k) = both_equal k k refl

-- a value has nothing in common with an unknown one
both_none : (a : Option ℕ) → common_value a None ≡ None
both_none None = refl
both_none (Some k) = refl

-- the order of two does not matter
both_swapped : (a b : Option ℕ) → common_value a b ≡ common_value b a
both_swapped None b = sym (both_none b)
both_swapped (Some j) None = refl
both_swapped (Some j) (Some k) = ⊎_elim
    (λ (e : j ≡ k). both_equal j k e ∙ ap Some e ∙ sym (both_equal k j (sym e)))
    (λ (ne : j ≢ k). both_other j k ne ∙ sym (both_other k j (λ e. ne (sym e))))
    (cases_eq j k)

-- nor does the grouping of three
both_grouped : (a b c : Option ℕ)
    → common_value (common_value a b) c ≡ common_value a (common_value b c)
both_grouped None b c = refl
both_grouped (Some i) None c = refl
both_grouped (Some i) (Some j) None = both_none (common_value (Some i) (Some j))
both_grouped (Some i) (Some j) (Some k) = ⊎_elim
    (λ (e : i ≡ j). ⊎_elim
    (λ (f : j ≡ k). ap (λ o. common_value o (Some k)) (both_equal i j e)
    ∙ ap (λ o. common_value (Some i) o) (ap Some (sym f) ∙ sym (both_equal j k f)))
    (λ (nf : j ≢ k). ap (λ o. common_value o (Some k)) (both_equal i j e ∙ ap Some e)
    ∙ both_other j k nf ∙ sym (ap (λ o. common_value (Some i) o) (both_other j k nf)))
    (cases_eq j k))
    (λ (ne : i ≢ j). ap (λ o. common_value o (Some k)) (both_other i j ne) ∙ ⊎_elim
    (λ (f : j ≡ k). sym (ap (λ o. common_value (Some i) o) (both_equal j k f) ∙ both_other i j ne))
    (λ (nf : j ≢ k). sym (ap (λ o. common_value (Some i) o) (both_other j k nf)))
    (cases_eq j k))
    (cases_eq i j)

-- the common value is a join
pub both_joins : IsSemilattice (Option ℕ) common_value
both_joins = record { same = both_same; swapped = both_swapped; grouped = both_grouped }

-- the transfer of the known value distributes over joins
pub known_distributes : (u : Use) (a b : Option ℕ)
    → known_after u (common_value a b) ≡ common_value (known_after u a) (known_after u b)
known_distributes Reads a b = refl
known_distributes (Writes k) a b = sym (both_equal k k refl)
known_distributes Neither a b = refl

-- a variable becomes unknown at most once
pub unknown_bounded : (v : Option ℕ) → one_if_unknown v ≤ 1
unknown_bounded None = lit≤ tt
unknown_bounded (Some k) = lit≤ tt
