-- A set that stands for some sets, with the sets that one more task evicts.
use Rattle.std.proofs.Common.{◌≡◌, ℕ, zero, suc, ◌+◌, ◌<◌, ◌≤◌, Bool, true, false, sym}
use Rattle.std.proofs.Common.{◌∙◌, subst, arith, inl, inr, not, add-one}
use Rattle.std.proofs.lemmas.Bool.{cases_eq, or_right, true≢false}
use Rattle.crpd_base.specs.Sets.{has}
use Rattle.crpd_base.specs.declared.data.Part.{Part}
use Rattle.delay_count.specs.Gamma.{evicted_from, shared_count}
use Rattle.delay_count.proofs.Greatest.{greatest_le, greatest_grows}
use Rattle.delay_point.specs.Gamma.{most_shared}
use Rattle.delay_point.specs.Inner.Standing.{StandsFor}
use Rattle.delay_point.proofs.Shared.{evicting_more, inside_same, further_few, none_evicted}
use Rattle.delay_point.proofs.Shared.{agreeing_same, greatest_within}

-- whether a task above j evicts a cache set
abbrev pub evicted_above : (ℕ → Part) → ℕ → ℕ → Bool
evicted_above parts zero c = false
evicted_above parts (suc j) c = evicted_from parts j c

-- what the tasks above j evict is evicted by j and those above it too
above_in : (parts : ℕ → Part) (j c : ℕ) → evicted_above parts j c ≡ true
    → evicted_from parts j c ≡ true
above_in parts zero c h = absurd (true≢false (sym h))
above_in parts (suc j) c h = or_right (has (parts (suc j)).evicting c) (evicted_from parts j c) h

-- what a task above j and those above it evict, the tasks above j evict
in_above : (parts : ℕ → Part) (i j c : ℕ) → i < j → evicted_from parts i c ≡ true
    → evicted_above parts j c ≡ true
in_above parts i zero c l h = absurd (omega (arith, l))
in_above parts i (suc j) c l h =
    elim (cases_eq i j) [
      | inl e ↦ subst (λ x. evicted_from parts x c ≡ true) e h
      | inr ne ↦ above_in parts j c (in_above parts i j c (omega (arith, l, ne)) h)
    ]

module _ (parts : ℕ → Part) (sets : ℕ → ℕ → Bool) (n : ℕ) where
  -- a set stands for the sets with what the tasks above j evict, the known sets
  pub record IsStanding (j : ℕ) (known standing : ℕ → Bool) : Type 0 where
    pub evicted : (c : ℕ) → known c ≡ evicted_above parts j c
    pub inside : (c : ℕ) → standing c ≡ true → known c ≡ true
    pub shares : shared_count standing known 512 ≡ most_shared sets known n
    pub stands : StandsFor parts j sets n standing

  pub stands_first : (known standing : ℕ → Bool) → ((c : ℕ) → known c ≡ false)
      → ((c : ℕ) → standing c ≡ false) → IsStanding 0 known standing
  stands_first known standing K S =
      let none = none_evicted standing known 512 K in
      let most = greatest_le (λ y. shared_count (sets y) known 512) 0 n 0
      (λ y l. let z = none_evicted (sets y) known 512 K in omega (arith, z)) in
      record {
        evicted = K;
        inside = λ c h. absurd (true≢false (sym h ∙ S c));
        shares = omega (arith, none, most);
        stands = λ i l. absurd (omega (arith, l));
      }

  module _ (j : ℕ) (known standing evicted : ℕ → Bool)
      (E : (c : ℕ) → evicted c ≡ evicted_from parts j c) (H : IsStanding j known standing) where
    pub known_in : (c : ℕ) → known c ≡ true → evicted c ≡ true
    known_in c h = E c ∙ above_in parts j c (sym (H.evicted c) ∙ h)

    shares_too : shared_count standing evicted 512 ≡ most_shared sets known n
    shares_too = inside_same standing known evicted 512 H.inside known_in ∙ H.shares

    -- task j raises the number by at most the additional sets that it evicts
    pub fewer : shared_count standing evicted 512 ≤ most_shared sets evicted n
    fewer =
        let s = shares_too in
        let grows = greatest_grows (λ y. shared_count (sets y) known 512)
        (λ y. shared_count (sets y) evicted 512) 0 n
        (λ y l. evicting_more (sets y) known evicted 512 known_in) in
        omega (arith, s, grows)

    pub enough : most_shared sets evicted n
        ≤ shared_count standing evicted 512 + shared_count (λ c. not (known c)) evicted 512
    enough =
        let s = shares_too in
        let within = greatest_within (λ y. shared_count (sets y) evicted 512)
        (λ y. shared_count (sets y) known 512) (shared_count (λ c. not (known c)) evicted 512) n
        (λ y l. further_few (sets y) known evicted 512) in
        omega (arith, s, within)

    -- a set with that many additional ones stands for the sets with what j evicts too
    pub stands_more : (more : ℕ → Bool) → ((c : ℕ) → more c ≡ true → evicted c ≡ true)
        → ((c : ℕ) → known c ≡ true → more c ≡ standing c)
        → shared_count more evicted 512 ≡ most_shared sets evicted n
        → IsStanding (j + 1) evicted more
    stands_more more inside kept counts =
        rw (add-one j) (record {
          evicted = E;
          inside = inside;
          shares = counts;
          stands = λ i l. elim (cases_eq i j) [
            | inl e ↦
                subst (λ x. shared_count more (evicted_from parts x) 512
                ≡ most_shared sets (evicted_from parts x) n) (sym e)
                (subst (λ (f : ℕ → Bool). shared_count more f 512 ≡ most_shared sets f n) same
                counts)
            | inr ne ↦
                let before : i < j = omega (arith, l, ne) in
                agreeing_same more standing (evicted_from parts i) 512
                (λ c h. kept c (H.evicted c ∙ in_above parts i j c before h))
                ∙ H.stands i before
          ];
        })
      where
        same : evicted ≡ evicted_from parts j
        same = λ q c. E c q
