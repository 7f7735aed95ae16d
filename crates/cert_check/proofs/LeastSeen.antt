-- The smallest node at which a fact fails, found along an order of the nodes.
use Rattle.std.proofs.Common.{◌≡◌, ◌≢◌, ◌↔◌, ℕ, ◌+◌, ◌<◌, ◌≤◌, Bool, true, false}
use Rattle.std.proofs.Common.{if◌then◌else◌, IsTrue, refl, List, Option, Some, None, slice_index}
use Rattle.std.proofs.Common.{sym, ap, ◌∙◌, subst, ⊎_elim, arith}
use Rattle.std.proofs.lemmas.Bool.{cases_eq, cases_lt, false≢true}
use Rattle.cert_check.specs.Inner.JudgedNodes.{IsLeastFailing, lesser}

-- the smallest node seen at which the fact fails
pub record IsFirstSeen (P : ℕ → Type 0) (seen : ℕ → Type 0) (size least : ℕ) : Type 0 where
  pub within : least < size
  pub fails : P least → ⊥
  pub holds : (u : ℕ) → seen u → u < least → P u

-- that node; None if the fact holds at each node seen
abbrev pub IsLeastSeen : (ℕ → Type 0) → (ℕ → Type 0) → ℕ → Option ℕ → Type 0
IsLeastSeen P seen size None = (u : ℕ) → seen u → P u
IsLeastSeen P seen size (Some least) = IsFirstSeen P seen size least

-- among the first of an order
abbrev pub SeenTo : List ℕ → ℕ → ℕ → Type 0
SeenTo order k u = (j : ℕ) × (j < k) × (slice_index order j ≡ u)

-- among the last of an order
abbrev pub SeenFrom : List ℕ → ℕ → ℕ → ℕ → Type 0
SeenFrom order size k u = (j : ℕ) × (k ≤ j) × (j < size) × (slice_index order j ≡ u)

-- one more node, at which the fact holds
passes : (P : ℕ → Type 0) (seen more : ℕ → Type 0) (size : ℕ) (least : Option ℕ) (x : ℕ)
    → ((u : ℕ) → more u → u ≢ x → seen u) → P x → IsLeastSeen P seen size least
    → IsLeastSeen P more size least
passes P seen more size None x old here L =
    λ u s. ⊎_elim (λ (e : u ≡ x). subst P (sym e) here) (λ ne. L u (old u s ne)) (cases_eq u x)
passes P seen more size (Some least) x old here L = record {
  within = L.within;
  fails = L.fails;
  holds = λ u s lt.
      ⊎_elim (λ (e : u ≡ x). subst P (sym e) here) (λ ne. L.holds u (old u s ne) lt) (cases_eq u x);
}

-- one more node, at which it fails, below the smallest
lowers : (P : ℕ → Type 0) (seen more : ℕ → Type 0) (size least x : ℕ)
    → ((u : ℕ) → more u → u ≢ x → seen u) → x < least → (P x → ⊥) → IsFirstSeen P seen size least
    → IsFirstSeen P more size x
lowers P seen more size least x old below fails L = record {
  within = (let w = L.within in omega (arith, w, below));
  fails = fails;
  holds = λ u s lt.
      L.holds u (old u s (λ e. absurd (omega (arith, lt, e)))) (omega (arith, lt, below));
}

-- and at or past the smallest
stays : (P : ℕ → Type 0) (seen more : ℕ → Type 0) (size least x : ℕ)
    → ((u : ℕ) → more u → u ≢ x → seen u) → least ≤ x → IsFirstSeen P seen size least
    → IsFirstSeen P more size least
stays P seen more size least x old le L = record {
  within = L.within;
  fails = L.fails;
  holds = λ u s lt. L.holds u (old u s (λ e. absurd (omega (arith, lt, e, le)))) lt;
}

fails_there : (P : ℕ → Type 0) (seen more : ℕ → Type 0) (size : ℕ) (least : Option ℕ) (x : ℕ)
    → x < size → ((u : ℕ) → more u → u ≢ x → seen u) → (P x → ⊥) → IsLeastSeen P seen size least
    → IsFirstSeen P more size (lesser least x)
fails_there P seen more size None x within old fails L = record {
  within = within;
  fails = fails;
  holds = λ u s lt. L u (old u s (λ e. absurd (omega (arith, lt, e))));
}
fails_there P seen more size (Some least) x within old fails L =
    ⊎_elim
    (λ (lt : x < least). subst (λ y. IsFirstSeen P more size y) (omega (arith, lt))
    (lowers P seen more size least x old lt fails L))
    (λ le. subst (λ y. IsFirstSeen P more size y) (omega (arith, le))
    (stays P seen more size least x old le L))
    (cases_lt x least)

-- with the test of one more node
pub lowest : (P : ℕ → Type 0) (seen more : ℕ → Type 0) (size : ℕ) (least : Option ℕ) (x : ℕ)
    (b : Bool) → x < size → ((u : ℕ) → more u → u ≢ x → seen u) → IsTrue b ↔ P x
    → IsLeastSeen P seen size least
    → IsLeastSeen P more size (if b then least else Some (lesser least x))
lowest P seen more size least x true within old test L =
    passes P seen more size least x old (test.0 refl) L
lowest P seen more size least x false within old test L =
    fails_there P seen more size least x within old (λ p. false≢true (test.1 p)) L

pub finished : (P : ℕ → Type 0) (seen : ℕ → Type 0) (size : ℕ) (least : Option ℕ)
    → ((u : ℕ) → u < size → seen u) → IsLeastSeen P seen size least → IsLeastFailing P size least
finished P seen size None all L = λ u lt. L u (all u lt)
finished P seen size (Some least) all L = record {
  within = L.within;
  fails = L.fails;
  holds = λ u lt. let w = L.within in L.holds u (all u (omega (arith, w, lt))) lt;
}

pub seen_more : (order : List ℕ) (k x u : ℕ) → slice_index order k ≡ x → SeenTo order (k + 1) u
    → u ≢ x → SeenTo order k u
seen_more order k x u is (j, lt, e) ne =
    ⊎_elim (λ (same : j ≡ k). absurd (ne (sym e ∙ ap (slice_index order) same ∙ is)))
    (λ other. (j, omega (arith, lt, other), e)) (cases_eq j k)

pub seen_before : (order : List ℕ) (size k next x u : ℕ) → k + 1 ≡ next → slice_index order k ≡ x
    → SeenFrom order size k u → u ≢ x → SeenFrom order size next u
seen_before order size k next x u after is (j, le, lt, e) ne =
    ⊎_elim (λ (same : j ≡ k). absurd (ne (sym e ∙ ap (slice_index order) same ∙ is)))
    (λ other. (j, omega (arith, le, other, after), lt, e)) (cases_eq j k)
