-- Powers of two.
use Rattle.std.proofs.Common.{◌≡◌, ℕ, zero, suc, ◌*◌, ◌-◌, ◌^◌, ◌≤◌, arith}
use Rattle.std.proofs.Math.Nat.{pow-suc, pow-le-pow_right}

pub power_twice : (n : ℕ) → 1 ≤ n → 2 ^ n ≡ 2 * 2 ^ (n - 1)
power_twice zero h = absurd (omega (arith, h))
power_twice (suc n) h = let e : suc n - 1 ≡ n = omega arith in rw e (omega (arith, pow-suc 2 n))

pub power_small : (n : ℕ) → n ≤ 20 → 2 ^ n ≤ 2 ^ 20
power_small n h = pow-le-pow_right {n = 2} (omega arith) h
