-- The counts and the sets of a list of shares.
use Rattle.std.proofs.Common.{◌≡◌, ◌≢◌, take, ℕ, ◌<◌, ◌+◌, List, [], length, get_or, sym, ◌∙◌, ap}
use Rattle.std.proofs.Common.{subst, arith, inl, inr, Bool, map, slice_index_or, set}
use Rattle.std.proofs.lemmas.List.{length-map, get_or-map, get_or-set_same, get_or-set_other}
use Rattle.std.proofs.lemmas.List.{map-set, take-map, get_or-take}
use Rattle.std.proofs.lemmas.Bool.{cases_eq}
use Rattle.crpd_base.specs.Sets.{has}
use Rattle.delay_count.specs.declared.share.Share.{Share}
use Rattle.delay_count.specs.Gamma.{count_at, useful_at, shared_count}

pub count_is : {W : ℕ} (lower : List (Share W)) (k : ℕ) (x : Share W) → k < length lower
    → x ≡ get_or lower k x → count_at lower k ≡ x.count
count_is {W = W} lower k x h e =
    get_or-map (λ (s : Share W). s.count) lower k x 0 h ∙ ap (λ (s : Share W). s.count) (sym e)

pub useful_is : {W : ℕ} (lower : List (Share W)) (k : ℕ) (x : Share W) → k < length lower
    → x ≡ get_or lower k x → slice_index_or (map (λ (s : Share W). s.useful) lower) k [] ≡ x.useful
useful_is {W = W} lower k x h e =
    get_or-map (λ (s : Share W). s.useful) lower k x [] h ∙ ap (λ (s : Share W). s.useful) (sym e)

-- one more shared count
pub shared_more : {W : ℕ} (lower : List (Share W)) (values evicted : List ℕ) (i n found : ℕ)
    (x : Share W) → i < length lower → i < length values → x ≡ get_or lower i x
    → found ≡ shared_count (has x.useful) (has evicted) n
    → ((k : ℕ) → k < i → get_or values k 0 ≡ shared_count (useful_at lower k) (has evicted) n)
    → (k : ℕ) → k < i + 1 → get_or (set values i found) k 0
    ≡ shared_count (useful_at lower k) (has evicted) n
shared_more {W = W} lower values evicted i n found x h room e is before k lt =
    elim (cases_eq k i) [
      | inl same ↦
          let u : slice_index_or (map (λ (s : Share W). s.useful) lower) i [] ≡ x.useful =
          useful_is lower i x h e in
          let all : found ≡ shared_count (useful_at lower i) (has evicted) n =
          is ∙ sym (ap (λ z. shared_count (has z) (has evicted) n) u) in
          subst (λ (q : ℕ). get_or (set values i found) q 0
          ≡ shared_count (useful_at lower q) (has evicted) n) (sym same)
          (get_or-set_same values i found 0 room ∙ all)
      | inr ne ↦ get_or-set_other values i k found 0 ne ∙ before k (omega arith)
    ]

mapped : {W : ℕ} {Y : Type 0} (f : Share W → Y) (shares : List (Share W)) (i : ℕ)
    → i < length shares → i < length (map f shares)
mapped f shares i h = simp length-map h

-- a share that is stored at its place
pub put_same : {W : ℕ} {Y : Type 0} (f : Share W → Y) (shares : List (Share W)) (i : ℕ)
    (x : Share W) (d : Y) → i < length shares → get_or (map f (set shares i x)) i d ≡ f x
put_same f shares i x d h =
    ap (λ z. get_or z i d) (map-set f shares i x)
    ∙ get_or-set_same (map f shares) i (f x) d (mapped f shares i h)

pub put_other : {W : ℕ} {Y : Type 0} (f : Share W → Y) (shares : List (Share W)) (i k : ℕ)
    (x : Share W) (d : Y) → k ≢ i → get_or (map f (set shares i x)) k d ≡ get_or (map f shares) k d
put_other f shares i k x d ne =
    ap (λ z. get_or z k d) (map-set f shares i x) ∙ get_or-set_other (map f shares) i k (f x) d ne

-- the first shares alone
pub first_same : {W : ℕ} {Y : Type 0} (f : Share W → Y) (shares : List (Share W)) (n k : ℕ) (d : Y)
    → k < n → get_or (map f (take n shares)) k d ≡ get_or (map f shares) k d
first_same f shares n k d h =
    ap (λ z. get_or z k d) (sym (take-map f n shares)) ∙ get_or-take n (map f shares) k d h

-- one more share, at its place
pub put_counts : {W : ℕ} (shares : List (Share W)) (i : ℕ) (x : Share W) (f : ℕ → ℕ)
    → i < length shares → ((k : ℕ) → k < i → count_at shares k ≡ f k) → x.count ≡ f i
    → (k : ℕ) → k < i + 1 → count_at (set shares i x) k ≡ f k
put_counts {W = W} shares i x f room before is k h =
    elim (cases_eq k i) [
      | inl e ↦
          subst (λ (q : ℕ). count_at (set shares i x) q ≡ f q) (sym e)
          (put_same (λ (s : Share W). s.count) shares i x 0 room ∙ is)
      | inr ne ↦ put_other (λ (s : Share W). s.count) shares i k x 0 ne ∙ before k (omega arith)
    ]

pub put_useful : {W : ℕ} (shares : List (Share W)) (i : ℕ) (x : Share W) (f : ℕ → ℕ → Bool)
    → i < length shares → ((k c : ℕ) → k < i → useful_at shares k c ≡ f k c)
    → ((c : ℕ) → has x.useful c ≡ f i c)
    → (k c : ℕ) → k < i + 1 → useful_at (set shares i x) k c ≡ f k c
put_useful {W = W} shares i x f room before is k c h =
    elim (cases_eq k i) [
      | inl e ↦
          subst (λ (q : ℕ). useful_at (set shares i x) q c ≡ f q c) (sym e)
          (ap (λ z. has z c) (put_same (λ (s : Share W). s.useful) shares i x [] room) ∙ is c)
      | inr ne ↦
          ap (λ z. has z c) (put_other (λ (s : Share W). s.useful) shares i k x [] ne)
          ∙ before k c (omega arith)
    ]
