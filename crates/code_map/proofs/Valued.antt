-- The value of the first symbol with a name, from the last symbol to the first.
use Rattle.std.proofs.Common.{◌≡◌, ℕ, suc, ◌+◌, ◌-◌, ◌<◌, ◌≤◌, true, false, List, [], ◌∷◌, ◌++◌}
use Rattle.std.proofs.Common.{length, get_or, take, drop, Option, Some, refl, ap, sym, ◌∙◌, ⊎_elim}
use Rattle.std.proofs.Common.{drop-cons, arith, nat_cmp}
use Rattle.std.specs.BTreeMap as tree
use Rattle.std.specs.BTreeMap.{BTreeMap}
use Rattle.std.specs.Map.{update}
use Rattle.std.specs.Cmp.Lexicographic.{slice_cmp}
use Rattle.std.specs.Str.{bytes_eq}
use Rattle.std.proofs.lemmas.Bool.{cases_Bool}
use Rattle.std.proofs.lemmas.List.{take_more}
use denote.Bor.{Bor}
use Rattle.crpd_base.specs.declared.data.Symbol.{Symbol}
use Rattle.code_map.specs.Values.{value_of}

abbrev pub at_name : BTreeMap (Bor (List ℕ)) ℕ → List ℕ → Option ℕ
at_name m name = tree.get_by (λ k. slice_cmp nat_cmp name k.now) m

-- a symbol inserted before the later ones
pub put : (ss : List Symbol) (i : ℕ) (s : Symbol) (m n : BTreeMap (Bor (List ℕ)) ℕ) → 0 < i
    → i ≤ length ss → s ≡ get_or ss (i - 1) s
    → ((name : List ℕ) → at_name m name ≡ value_of (drop i ss) name)
    → ((name : List ℕ) → at_name n name ≡ update bytes_eq (at_name m) s.name (Some s.value) name)
    → (name : List ℕ) → at_name n name ≡ value_of (drop (i - 1) ss) name
unfolding value_of
put ss i s m n some le item same new name =
    let back : suc (i - 1) ≡ i = omega arith in
    let behind : drop (i - 1) ss ≡ s ∷ drop i ss =
    drop-cons ss (i - 1) s (omega arith)
    ∙ (ap (λ x. x ∷ drop (suc (i - 1)) ss) (sym item) ∙ ap (λ k. s ∷ drop k ss) back) in
    rw behind (new name ∙ ⊎_elim
    (λ (e : bytes_eq s.name name ≡ true). rw e refl)
    (λ (e : bytes_eq s.name name ≡ false). rw e (same name))
    (cases_Bool (bytes_eq s.name name)))

-- two lists of symbols that agree on one more symbol
pub symbols_more : (ss ts : List Symbol) (i : ℕ) (s t : Symbol) → i < length ss → i < length ts
    → s ≡ get_or ss i s → t ≡ get_or ts i t → s.name ≡ t.name → s.value ≡ t.value
    → take i ss ≡ take i ts → take (i + 1) ss ≡ take (i + 1) ts
symbols_more ss ts i s t lt too one other name value same =
    let equal : s ≡ t = ◌∙◌ (ap (λ n. record { name = n; value = s.value }) name)
    (ap (λ v. record { name = t.name; value = v }) value) in
    take_more ss i s lt
    ∙ (ap (λ x. take i ss ++ x ∷ []) (sym one ∙ (equal ∙ other))
    ∙ (ap (λ xs. xs ++ get_or ts i t ∷ []) same ∙ sym (take_more ts i t too)))
