-- Sums over the bits of a word.
use Rattle.std.proofs.Common.{◌≡◌, ℕ, zero, suc, ◌+◌, ◌-◌, ◌*◌, ◌/◌, ◌%◌, ◌^◌, ◌<◌, ◌≤◌, inl, inr}
use Rattle.std.proofs.Common.{List, get_or, refl, sym, ◌∙◌, ap, arith, ◌&&◌, bit_and, min}
use Rattle.std.proofs.Common.{if◌then◌else◌, ◌==◌, Bool, slice_index_or, [], map}
use Rattle.std.specs.Int.{bit_at}
use Rattle.std.proofs.lemmas.Nat.{mul-le}
use Rattle.std.proofs.lemmas.Nat.Bits.{bit_at_and, bit_at_not, bit_at-lt, bit_at-zero}
use lib.Count.{ones}
use mir.Syntax.{w64}
use Rattle.crpd_base.proofs.Bits.{zero_or_one, ones_below, no_ones}
use Rattle.crpd_base.proofs.Sums.{sum_same, sum_add, sum_zero, sum_most, sum_onto}
use Rattle.crpd_base.specs.Sum.{sum_below}
use Rattle.crpd_base.specs.Sets.{member, members_below, has}
use Rattle.delay_count.specs.declared.share.Share.{Share}
use Rattle.delay_count.specs.Gamma.{shared_count, set_share, union_count, count_at, useful_at}
use Rattle.delay_count.specs.Inner.Words.{word_sum, word_share, useful_words}
use Rattle.std.proofs.lemmas.Bool.{cases_Bool}

-- the bits of a word, each as often as v
ones_times : (w v k : ℕ) → sum_below (λ b. bit_at w b * v) k ≡ v * ones (w % 2 ^ k)
ones_times w v zero =
    let m : w % 2 ^ 0 ≡ 0 = omega arith in rw m (omega (arith, ap (λ x. v * x) no_ones))
ones_times w v (suc k) = omega (arith, ones_times w v k, ap (λ x. v * x) (ones_below w k))

pub word_all : (w v : ℕ) (f : ℕ → ℕ) → w < 2 ^ 64 → ((b : ℕ) → f b ≡ v) → word_sum w f ≡ v * ones w
unfolding word_sum
word_all w v f h same =
    let m : w % 2 ^ 64 ≡ w = omega arith in
    sum_same (λ b. bit_at w b * f b) (λ b. bit_at w b * v) 64
    (λ b l. ap (λ x. bit_at w b * x) (same b)) ∙ ones_times w v 64 ∙ ap (λ x. v * ones x) m

pub word_none : (f : ℕ → ℕ) → word_sum 0 f ≡ 0
unfolding word_sum
word_none f =
    sum_zero (λ b. bit_at 0 b * f b) 64
    (λ b l. let e : bit_at 0 b ≡ 0 = bit_at-zero b in ap (λ x. x * f b) e ∙ omega arith)

-- a word split in two parts by another word
pub word_split : (w u : ℕ) (f g h : ℕ → ℕ) → u < 2 ^ 64
    → ((b : ℕ) → b < 64 → bit_at u b ≡ 1 → f b ≡ g b)
    → ((b : ℕ) → b < 64 → bit_at u b ≡ 0 → f b ≡ h b)
    → word_sum w f ≡ word_sum (bit_and w u) g + word_sum (bit_and w (2 ^ 64 - 1 - u)) h
unfolding word_sum
word_split w u f g h fits inside outside =
    let each : (b : ℕ) → b < 64
    → bit_at w b * f b ≡ bit_at (bit_and w u) b * g b
    + bit_at (bit_and w (2 ^ 64 - 1 - u)) b * h b =
    λ b l.
    let p : bit_at (bit_and w u) b ≡ min (bit_at w b) (bit_at u b) = bit_at_and w u b in
    let q : bit_at (bit_and w (2 ^ 64 - 1 - u)) b ≡ min (bit_at w b) (1 - bit_at u b) =
    bit_at_and w (2 ^ 64 - 1 - u) b ∙ ap (min (bit_at w b)) (bit_at_not w64 u b fits l) in
    elim (zero_or_one (bit_at u b) (bit_at-lt u b)) [
      | inr one ↦
          let s = inside b l one in
          let x : bit_at (bit_and w u) b ≡ bit_at w b = omega (arith, bit_at-lt w b) in
          let y : bit_at (bit_and w (2 ^ 64 - 1 - u)) b ≡ 0 = omega (arith, bit_at-lt w b) in
          rw (x, y, s) (omega arith)
      | inl none ↦
          let s = outside b l none in
          let x : bit_at (bit_and w u) b ≡ 0 = omega (arith, bit_at-lt w b) in
          let y : bit_at (bit_and w (2 ^ 64 - 1 - u)) b ≡ bit_at w b =
          omega (arith, bit_at-lt w b) in
          rw (x, y, s) (omega arith)
    ] in
    sum_same (λ b. bit_at w b * f b)
    (λ b. bit_at (bit_and w u) b * g b + bit_at (bit_and w (2 ^ 64 - 1 - u)) b * h b) 64 each
    ∙ sum_add (λ b. bit_at (bit_and w u) b * g b)
    (λ b. bit_at (bit_and w (2 ^ 64 - 1 - u)) b * h b) 64

-- the shares of a word are at most the jobs for each of its sets
pub word_most : (w m : ℕ) (f : ℕ → ℕ) → ((b : ℕ) → f b ≤ m) → word_sum w f ≤ 64 * m
unfolding word_sum
word_most w m f le =
    sum_most (λ b. bit_at w b * f b) m 64 (λ b l.
    elim (zero_or_one (bit_at w b) (bit_at-lt w b)) [
      | inl z ↦ rw z (omega arith)
      | inr o ↦ rw o (omega (arith, le b))
    ])

pub product : (a b x y : ℕ) → a ≡ x → b ≡ y → a * b ≡ x * y
product a b x y e f = ap (λ z. z * b) e ∙ ap (λ z. x * z) f

pub sum_of : (a b x y : ℕ) → a ≡ x → b ≡ y → a + b ≡ x + y
sum_of a b x y e f = ap (λ z. z + b) e ∙ ap (λ z. x + z) f

module _ (jobs : ℕ) (useful count : ℕ → ℕ) where
  -- what the first tasks count for a set of the word
  abbrev counts : ℕ → ℕ → ℕ
  counts tasks b = sum_below (λ k. if bit_at (useful k) b == 1 then count k else 0) tasks

  pub share_most : (word tasks counted : ℕ)
      → word_share jobs word useful count tasks counted ≤ 64 * jobs
  unfolding word_share
  share_most word tasks counted =
      word_most word jobs (λ b. min jobs (counted + counts tasks b)) (λ b. omega arith)

  pub share_none : (word tasks counted : ℕ) → word ≡ 0
      → 0 ≡ word_share jobs word useful count tasks counted
  unfolding word_share
  share_none word tasks counted e =
      rw e (sym (word_none (λ b. min jobs (counted + counts tasks b))))

  pub share_full : (word tasks counted : ℕ) → word < 2 ^ 64 → jobs ≤ counted
      → jobs * ones word ≡ word_share jobs word useful count tasks counted
  unfolding word_share
  share_full word tasks counted h full =
      sym (word_all word jobs (λ b. min jobs (counted + counts tasks b)) h (λ b. omega arith))

  pub share_last : (word tasks counted : ℕ) → word < 2 ^ 64 → counted < jobs → tasks ≡ 0
      → counted * ones word ≡ word_share jobs word useful count tasks counted
  unfolding word_share
  share_last word tasks counted h some none =
      rw none (sym (word_all word counted (λ b. min jobs (counted + 0)) h (λ b. omega arith)))

  pub share_split : (word tasks last counted : ℕ) → useful last < 2 ^ 64 → tasks ≡ suc last
      → word_share jobs (bit_and word (useful last)) useful count last (counted + count last)
      + word_share jobs (bit_and word (2 ^ 64 - 1 - useful last)) useful count last counted
      ≡ word_share jobs word useful count tasks counted
  unfolding word_share
  share_split word tasks last counted fits is =
      rw is (sym
      (word_split word (useful last) (λ b. min jobs (counted + counts (suc last) b))
      (λ b. min jobs ((counted + count last) + counts last b))
      (λ b. min jobs (counted + counts last b)) fits
      (λ b l one. rw one (ap (min jobs) (omega arith)))
      (λ b l none. rw none (ap (min jobs) (omega arith)))))

  pub share_within : (word tasks counted x : ℕ)
      → x ≡ word_share jobs word useful count tasks counted → x ≤ 64 * jobs
  share_within word tasks counted x e = omega (arith, e, share_most word tasks counted)

-- the shares of one word are those of its sets
bit_if : (b x : ℕ) → b < 2 → (if b == 1 then x else 0) ≡ b * x
bit_if b x h = elim (zero_or_one b h) [ inl z ↦ rw z (omega arith) | inr o ↦ rw o (omega arith) ]

has_bit : (words : List ℕ) (place b : ℕ) → b < 64
    → has words (64 * place + b) ≡ (bit_at (get_or words place 0) b == 1)
has_bit words place b h =
    let q : (64 * place + b) / 64 ≡ place = omega arith in
    let r : (64 * place + b) % 64 ≡ b = omega arith in
    rw (q, r) refl

pub word_of_sets : {W : ℕ} (jobs place n : ℕ) (evicting : List ℕ) (lower : List (Share W))
    (useful count : ℕ → ℕ)
    → ((k : ℕ) → k < n → useful k ≡ useful_words lower place k)
    → ((k : ℕ) → k < n → count k ≡ count_at lower k)
    → word_share jobs (get_or evicting place 0) useful count n 0
    ≡ sum_below (λ b. if has evicting (64 * place + b)
    then set_share jobs (useful_at lower) (count_at lower) n (64 * place + b) else 0) 64
unfolding word_share word_sum
word_of_sets {W = W} jobs place n evicting lower useful count same counted =
    sum_same
    (λ b. bit_at (get_or evicting place 0) b * min jobs
    (0 + sum_below (λ k. if bit_at (useful k) b == 1 then count k else 0) n))
    (λ b. if has evicting (64 * place + b)
    then set_share jobs (useful_at lower) (count_at lower) n (64 * place + b) else 0) 64
    (λ b l.
    let inner : sum_below (λ k. if bit_at (useful k) b == 1 then count k else 0) n
    ≡ sum_below (λ k. if useful_at lower k (64 * place + b) then count_at lower k else 0) n =
    sum_same (λ k. if bit_at (useful k) b == 1 then count k else 0)
    (λ k. if useful_at lower k (64 * place + b) then count_at lower k else 0) n
    (λ k h. let e : useful_at lower k (64 * place + b)
    ≡ (bit_at (useful_words lower place k) b == 1) =
    has_bit (slice_index_or (map (λ (s : Share W). s.useful) lower) k []) place b l in
    rw (e, same k h, counted k h) refl) in
    let e : has evicting (64 * place + b) ≡ (bit_at (get_or evicting place 0) b == 1) =
    has_bit evicting place b l in
    let front : 0 + sum_below (λ k. if bit_at (useful k) b == 1 then count k else 0) n
    ≡ sum_below (λ k. if useful_at lower k (64 * place + b) then count_at lower k else 0) n =
    omega (arith, inner) in
    rw (
      front,
      e,
    ) (sym (bit_if (bit_at (get_or evicting place 0) b)
    (min jobs
    (sum_below (λ k. if useful_at lower k (64 * place + b) then count_at lower k else 0) n))
    (bit_at-lt (get_or evicting place 0) b))))

-- one more word
pub union_more : {W : ℕ} (jobs place n : ℕ) (evicting : List ℕ) (lower : List (Share W))
    (charged found : ℕ)
    → charged ≡ union_count jobs (has evicting) (useful_at lower) (count_at lower) n (64 * place)
    → found ≡ sum_below (λ b. if has evicting (64 * place + b)
    then set_share jobs (useful_at lower) (count_at lower) n (64 * place + b) else 0) 64
    → charged + found ≡ union_count jobs (has evicting) (useful_at lower) (count_at lower) n
    (64 * (place + 1))
unfolding union_count
union_more jobs place n evicting lower charged found e f =
    let at : 64 * (place + 1) ≡ 64 * place + 64 = omega arith in
    rw at (sum_of _ _ _ _ e f
    ∙ sym (sum_onto (λ c. if has evicting c
    then set_share jobs (useful_at lower) (count_at lower) n c else 0) (64 * place) 64))

-- the count is at most the jobs for each set
pub union_most : {W : ℕ} (jobs n sets : ℕ) (evicting : List ℕ) (lower : List (Share W))
    → union_count jobs (has evicting) (useful_at lower) (count_at lower) n sets ≤ sets * jobs
unfolding union_count
union_most jobs n sets evicting lower =
    sum_most (λ c. if has evicting c then set_share jobs (useful_at lower) (count_at lower) n c
    else 0) jobs sets
    (λ c h. elim (cases_Bool (has evicting c)) [
      | inl b ↦ rw b (omega arith)
      | inr b ↦ rw b (omega arith)
    ])

pub union_fits : {W : ℕ} (jobs n sets charged : ℕ) (evicting : List ℕ) (lower : List (Share W))
    → jobs < 2 ^ 64 → sets ≤ 65536
    → charged ≡ union_count jobs (has evicting) (useful_at lower) (count_at lower) n sets
    → charged ≤ 2 ^ 80
union_fits jobs n sets charged evicting lower h s e =
    omega (
      arith,
      e,
      union_most jobs n sets evicting lower,
      mul-le sets jobs 65536 (2 ^ 64) s (omega arith),
    )

pub union_start : {W : ℕ} (jobs n : ℕ) (evicting : List ℕ) (lower : List (Share W))
    → 0 ≡ union_count jobs (has evicting) (useful_at lower) (count_at lower) n 0
unfolding union_count
union_start jobs n evicting lower = refl

-- the intersection is what is useful and evicted
pub shared_members : (met useful evicted : List ℕ) (n : ℕ)
    → ((t : ℕ) → member met t ≡ min (member useful t) (member evicted t))
    → members_below met n ≡ shared_count (has useful) (has evicted) n
unfolding shared_count
shared_members met useful evicted zero h = refl
shared_members met useful evicted (suc n) h =
    let rest : members_below met n
    ≡ sum_below (λ c. if has useful c && has evicted c then 1 else 0) n =
    shared_members met useful evicted n h in
    sum_of _ _ _ _ rest (h n
    ∙ both (member useful n) (member evicted n) (bit_at-lt _ _) (bit_at-lt _ _))
  where
    both : (a b : ℕ) → a < 2 → b < 2 → min a b ≡ (if (a == 1) && (b == 1) then 1 else 0)
    both a b p q =
        elim (zero_or_one a p) [
          | inl x ↦ elim (zero_or_one b q) [ inl y ↦ rw (x, y) refl | inr y ↦ rw (x, y) refl ]
          | inr x ↦ elim (zero_or_one b q) [ inl y ↦ rw (x, y) refl | inr y ↦ rw (x, y) refl ]
        ]

pub shared_most : (useful evicted : ℕ → Bool) (n : ℕ) → shared_count useful evicted n ≤ n
unfolding shared_count
shared_most useful evicted n =
    omega (
      arith,
      sum_most (λ c. if useful c && evicted c then 1 else 0) 1 n
          (λ c h. elim (cases_Bool (useful c && evicted c)) [
            | inl b ↦ rw b (omega arith)
            | inr b ↦ rw b (omega arith)
          ]),
    )
