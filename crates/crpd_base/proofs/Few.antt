-- What holds of each of a small number of numbers, and of each pair of them.
use Rattle.std.proofs.Common.{ℕ, zero, suc, ◌<◌, arith}

pub one : (P : ℕ → Type 0) → P 0 → (y : ℕ) → y < 1 → P y
one P a zero l = a
one P a (suc k) l = absurd (omega (arith, l))

pub two : (P : ℕ → Type 0) → P 0 → P 1 → (y : ℕ) → y < 2 → P y
two P a b zero l = a
two P a b (suc k) l = one (λ z. P (suc z)) b k (omega (arith, l))

pub three : (P : ℕ → Type 0) → P 0 → P 1 → P 2 → (y : ℕ) → y < 3 → P y
three P a b c zero l = a
three P a b c (suc k) l = two (λ z. P (suc z)) b c k (omega (arith, l))

pub four : (P : ℕ → Type 0) → P 0 → P 1 → P 2 → P 3 → (y : ℕ) → y < 4 → P y
four P a b c d zero l = a
four P a b c d (suc k) l = three (λ z. P (suc z)) b c d k (omega (arith, l))

pub one_pair : (P : ℕ → ℕ → Type 0) → P 0 1 → (i j : ℕ) → i < j → j < 2 → P i j
one_pair P a zero zero m l = absurd (omega (arith, m))
one_pair P a zero (suc j) m l = one (λ z. P 0 (suc z)) a j (omega (arith, l))
one_pair P a (suc i) j m l = absurd (omega (arith, m, l))

pub three_pairs : (P : ℕ → ℕ → Type 0) → P 0 1 → P 0 2 → P 1 2 → (i j : ℕ) → i < j → j < 3 → P i j
three_pairs P a b c zero zero m l = absurd (omega (arith, m))
three_pairs P a b c zero (suc j) m l = two (λ z. P 0 (suc z)) a b j (omega (arith, l))
three_pairs P a b c (suc i) zero m l = absurd (omega (arith, m))
three_pairs P a b c (suc i) (suc j) m l =
    one_pair (λ x y. P (suc x) (suc y)) c i j (omega (arith, m)) (omega (arith, l))
