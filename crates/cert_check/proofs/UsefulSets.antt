-- Full useful sets stored as sets of cache sets.
use Rattle.std.proofs.Common.{◌≡◌, ◌≢◌, ◌↔◌, ◌⊎◌, ℕ, ◌<◌, Bool, true, false, List, [], ◌∷◌, ◌++◌}
use Rattle.std.proofs.Common.{Contains, IsTrue, IsFalse, max, refl, sym, ◌∙◌, subst, inl, inr}
use Rattle.std.proofs.Common.{⊎_elim, arith, ne_eqb, eq-eqb, eqb-true, if◌then◌else◌, ◌==◌}
use Rattle.std.proofs.lemmas.Bool.{cases_eq, both_ways}
use Rattle.std.proofs.lemmas.List.Elements.{Contains-append_left, Contains-append_cases}
use Rattle.std.proofs.lemmas.List.Elements.{Contains-push}
use Rattle.crpd_base.proofs.Bits.{member_le_one}
use Rattle.crpd_base.proofs.Elements.{in_none, in_one}
use Rattle.crpd_base.specs.Sets.{member, has}
use Rattle.icache.specs.Accesses.{Accesses}
use Rattle.flat_graph.specs.Graph.{Graph, Edge}
use Rattle.evict_sets.specs.Full.{Listed, FullUseful, listed_useful, used, used_later, IsHit}
use Rattle.evict_sets.specs.CacheClauses.{UsefulMeets, SetsMeet}
use Rattle.evict_sets.proofs.FullLaws.{unlisted_useful_law}
use Rattle.cert_check.specs.Inner.JudgedNodes.{IsUsefulAt, IsUsefulBehind}

-- membership as a number and as a test
pub is_member : (words : List ℕ) (t : ℕ) → IsTrue (has words t) → member words t ≡ 1
is_member words t h = eqb-true (member words t) 1 h

pub has_member : (words : List ℕ) (t : ℕ) → member words t ≡ 1 → IsTrue (has words t)
has_member words t e = eq-eqb (member words t) 1 e

-- a union
pub in_either : (old other new : List ℕ) (t : ℕ)
    → member new t ≡ max (member old t) (member other t) → IsTrue (has new t)
    → IsTrue (has old t) ⊎ IsTrue (has other t)
in_either old other new t e h =
    let n = is_member new t h in
    let a = member_le_one old t in
    ⊎_elim
    (λ (x : member old t ≡ 1). inl (has_member old t x))
    (λ ne. inr
    (has_member other t (let b = member_le_one other t in omega (arith, e, n, a, ne, b))))
    (cases_eq (member old t) 1)

pub in_left : (old other new : List ℕ) (t : ℕ) → member new t ≡ max (member old t) (member other t)
    → IsTrue (has old t) → IsTrue (has new t)
in_left old other new t e h =
    let x = is_member old t h in
    let b = member_le_one other t in
    has_member new t (omega (arith, e, x, b))

pub in_right : (old other new : List ℕ) (t : ℕ) → member new t ≡ max (member old t) (member other t)
    → IsTrue (has other t) → IsTrue (has new t)
in_right old other new t e h =
    let x = is_member other t h in
    let b = member_le_one old t in
    has_member new t (omega (arith, e, x, b))

module _ (g : Graph) (a : Accesses) (l : Listed) where
  as_listed : (y s : ℕ) → IsTrue (l.is_listed y) → FullUseful g a l y s → IsTrue (l.useful y s)
  as_listed y s t (listed_useful y' s' t' u) = u
  as_listed y s t (used y' s' out hit own) = absurd (both_ways (l.is_listed y) out t)
  as_listed y s t (used_later y' v s' out e other later) = absurd (both_ways (l.is_listed y) out t)

  -- a listed node's useful set is what is listed
  pub listed_at : (y : ℕ) (words : List ℕ) → IsTrue (l.is_listed y)
      → ((s : ℕ) → has words s ≡ l.useful y s) → IsUsefulAt g a l y words
  listed_at y words t is s = (
    λ u. is s ∙ as_listed y s t u,
    λ h. listed_useful y s t (sym (is s) ∙ h),
  )

  -- an unlisted node's: its own set if it is a hit, and the others that are useful at its
  -- successors
  pub unlisted_at : (y : ℕ) (hit : Bool) (behind words : List ℕ) → IsFalse (l.is_listed y)
      → IsTrue hit ↔ IsHit g a l y → IsUsefulBehind g a l y behind
      → ((t : ℕ) → has words t ≡ (if t == a.set y then hit else has behind t))
      → IsUsefulAt g a l y words
  unlisted_at y hit behind words out test B is s =
      ⊎_elim
      (λ (same : s ≡ a.set y).
      let here : has words s ≡ hit = (let t : (s == a.set y) ≡ true = eq-eqb s (a.set y) same in
      is s ∙ rw t refl) in (
        (λ u. here ∙ test.1 (hit_of s u same)),
        (λ h. used y s out (test.0 (sym here ∙ h)) (sym same)),
      ))
      (λ (ne : s ≢ a.set y).
      let here : has words s ≡ has behind s =
      (let f : (s == a.set y) ≡ false = ne_eqb s (a.set y) ne in is s ∙ rw f refl) in (
        (λ u. here ∙ (B s).0 (later_of s u ne)),
        (λ h. let b = (B s).1 (sym here ∙ h) in used_later y b.0 s out b.1 (λ e. ne (sym e)) b.2),
      ))
      (cases_eq s (a.set y))
    where
      hit_of : (s : ℕ) → FullUseful g a l y s → s ≡ a.set y → IsHit g a l y
      hit_of s (listed_useful y' s' t' u) same = absurd (both_ways (l.is_listed y) out t')
      hit_of s (used y' s' o h own) same = h
      hit_of s (used_later y' v s' o e other later) same = absurd (other (sym same))

      later_of : (s : ℕ) → FullUseful g a l y s → s ≢ a.set y
          → (v : ℕ) × Edge g y v × FullUseful g a l v s
      later_of s (listed_useful y' s' t' u) ne = absurd (both_ways (l.is_listed y) out t')
      later_of s (used y' s' o h own) ne = absurd (ne (sym own))
      later_of s (used_later y' v s' o e other later) ne = (v, e, later)

  -- the words are the sets that are useful at one of these nodes
  abbrev pub IsUsefulAtSome : List ℕ → List ℕ → Type 0
  IsUsefulAtSome vs words =
      (s : ℕ) → ((v : ℕ) × Contains vs v × FullUseful g a l v s) ↔ IsTrue (has words s)

  pub none_useful : (words : List ℕ) → ((t : ℕ) → member words t ≡ 0) → IsUsefulAtSome [] words
  none_useful words zero s = (
    λ b. absurd (in_none b.0 b.1),
    λ h. absurd (let one = is_member words s h in let z = zero s in omega (arith, one, z)),
  )

  pub more_useful : (vs : List ℕ) (v : ℕ) (old one new : List ℕ) → IsUsefulAtSome vs old
      → IsUsefulAt g a l v one → ((t : ℕ) → member new t ≡ max (member old t) (member one t))
      → IsUsefulAtSome (vs ++ v ∷ []) new
  more_useful vs v old one new A B is s = (
    λ b. ⊎_elim (λ c. in_left old one new s (is s) ((A s).0 (b.0, c, b.2)))
        (λ c. in_right old one new s (is s)
        ((B s).0 (subst (λ x. FullUseful g a l x s) (sym (in_one b.0 v c)) b.2)))
        (Contains-append_cases vs (v ∷ []) b.0 b.1),
    λ h. ⊎_elim
        (λ (x : IsTrue (has old s)).
        let r = (A s).1 x in (r.0, Contains-append_left vs (v ∷ []) r.0 r.1, r.2))
        (λ (x : IsTrue (has one s)). (v, Contains-push vs v, (B s).1 x))
        (in_either old one new s (is s) h),
  )

  pub all_useful : (y : ℕ) (words : List ℕ) → y < g.size → IsUsefulAtSome (g.next y) words
      → IsUsefulBehind g a l y words
  all_useful y words lt A s = (
    λ b. (A s).0 (b.0, b.1.1, b.2),
    λ h. let r = (A s).1 h in (r.0, (lt, r.1), r.2),
  )

  -- a listed node's useful set
  pub meets_listed : (y : ℕ) (useful behind : List ℕ) → IsTrue (l.is_listed y)
      → ((s : ℕ) → has useful s ≡ l.useful y s) → IsUsefulBehind g a l y behind
      → (IsHit g a l y → IsTrue (has useful (a.set y)))
      → ((t : ℕ) → t ≢ a.set y → IsTrue (has behind t) → IsTrue (has useful t))
      → UsefulMeets g a l y
  meets_listed y useful behind t is B own others =
      let U = listed_at y useful t is in
      record {
        own = λ hit. (U (a.set y)).1 (own hit);
        edges = λ v s e ne later.
            (U s).1 (others s (λ same. ne (sym same)) ((B s).0 (v, e, later)));
      }

  pub listed_meets : (y : ℕ) (useful behind : List ℕ) → IsTrue (l.is_listed y)
      → ((s : ℕ) → has useful s ≡ l.useful y s) → IsUsefulBehind g a l y behind
      → UsefulMeets g a l y
      → (IsHit g a l y → IsTrue (has useful (a.set y)))
      × ((t : ℕ) → t ≢ a.set y → IsTrue (has behind t) → IsTrue (has useful t))
  listed_meets y useful behind t is B M =
      let U = listed_at y useful t is in (
        (λ hit. (U (a.set y)).0 (M.own hit)),
        (λ s ne h. let b = (B s).1 h in (U s).0 (M.edges b.0 s b.1 (λ e. ne (sym e)) b.2)),
      )

  pub unlisted_meets : (y : ℕ) → IsFalse (l.is_listed y) → UsefulMeets g a l y
  unlisted_meets y out = unlisted_useful_law g a l y out

  -- the test of it
  pub useful_test : (y : ℕ) (useful behind withs : List ℕ) (b : Bool) → IsTrue (l.is_listed y)
      → ((s : ℕ) → has useful s ≡ l.useful y s) → IsUsefulBehind g a l y behind
      → (IsHit g a l y → IsTrue (has useful (a.set y)))
      → ((t : ℕ) → has withs t ≡ (if t == a.set y then true else has useful t))
      → IsTrue b ↔ ((t : ℕ) → IsTrue (has behind t) → IsTrue (has withs t))
      → IsTrue b ↔ UsefulMeets g a l y
  useful_test y useful behind withs b t is B own wider test = (
    (λ h. meets_listed y useful behind t is B own
        (λ s ne there. sym (other s ne) ∙ test.0 h s there)),
    (λ M. let both = listed_meets y useful behind t is B M in
        test.1 (λ s there. ⊎_elim (λ e. same s e) (λ ne. other s ne ∙ both.1 s ne there)
        (cases_eq s (a.set y)))),
  )
    where
      same : (s : ℕ) → s ≡ a.set y → IsTrue (has withs s)
      same s e = let q : (s == a.set y) ≡ true = eq-eqb s (a.set y) e in wider s ∙ rw q refl

      other : (s : ℕ) → s ≢ a.set y → has withs s ≡ has useful s
      other s ne = let q : (s == a.set y) ≡ false = ne_eqb s (a.set y) ne in wider s ∙ rw q refl

  pub own_missing : (y : ℕ) (useful behind : List ℕ) → IsTrue (l.is_listed y)
      → ((s : ℕ) → has useful s ≡ l.useful y s) → IsUsefulBehind g a l y behind → IsHit g a l y
      → (IsTrue (has useful (a.set y)) → ⊥) → UsefulMeets g a l y → ⊥
  own_missing y useful behind t is B hit none M =
      none ((listed_meets y useful behind t is B M).0 hit)

  -- the test of the task's sets
  pub sets_test : (y : ℕ) (evicting task useful : List ℕ) (b : Bool) → IsUsefulAt g a l y useful
      → IsTrue (has evicting (a.set y))
      → IsTrue b ↔ ((t : ℕ) → IsTrue (has useful t) → IsTrue (has task t))
      → IsTrue b ↔ SetsMeet g a l (has evicting) (has task) y
  sets_test y evicting task useful b U own test = (
    (λ h. record { own = own; all = λ s f. test.0 h s ((U s).0 f) }),
    (λ M. test.1 (λ t there. M.all t ((U t).1 there))),
  )
