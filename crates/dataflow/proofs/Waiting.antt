-- Which nodes wait, by the places of an order.
use Rattle.std.proofs.Common.{◌≡◌, ℕ, ◌<◌, ◌≤◌, ⊎_elim, List, Bool, false, length, slice_index, ap}
use Rattle.std.proofs.Common.{sym, ◌∙◌, arith, MatchOption, Option, Some, None, true}
use Rattle.std.proofs.lemmas.Bool.{cases_lt}
use Rattle.std.proofs.lemmas.List.{get_or_past}
use Rattle.dataflow.specs.Inner.Search.{IsVisitOrder, waits}

pub nobody_waits : (order : List ℕ) (waiting : List Bool) (place : ℕ)
    → IsVisitOrder (length waiting) order
    → ((i : ℕ) → place ≤ i → i < length order → waits waiting (slice_index order i) ≡ false)
    → ((i : ℕ) → 0 ≤ i → i < place → waits waiting (slice_index order i) ≡ false)
    → (n : ℕ) → waits waiting n ≡ false
nobody_waits order waiting place is later earlier n = ⊎_elim
    (λ (lt : n < length waiting).
    let at_n = is.each n lt in
    ap (waits waiting) (sym at_n.2) ∙ ⊎_elim
    (λ (before : at_n.0 < place). earlier at_n.0 (omega arith) before)
    (λ (from : place ≤ at_n.0). later at_n.0 from at_n.1)
    (cases_lt at_n.0 place))
    (λ (ge : length waiting ≤ n). get_or_past waiting n false ge)
    (cases_lt n (length waiting))

pub next_place : (order : List ℕ) (waiting : List Bool) (place : ℕ)
    → IsVisitOrder (length waiting) order → place ≤ length order
    → ((i : ℕ) → place ≤ i → i < length order → waits waiting (slice_index order i) ≡ false)
    → (o : Option ℕ)
    → MatchOption o ((i : ℕ) → 0 ≤ i → i < place → waits waiting (slice_index order i) ≡ false)
    (λ i. (i < place) × (waits waiting (slice_index order i) ≡ true))
    → MatchOption o ((n : ℕ) → waits waiting n ≡ false)
    (λ i. (i < length order) × (waits waiting (slice_index order i) ≡ true))
next_place order waiting place is within later None earlier =
    nobody_waits order waiting place is later earlier
next_place order waiting place is within later (Some i) h = (omega arith, h.1)
