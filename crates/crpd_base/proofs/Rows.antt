-- Rows of numbers in sequence.
use Rattle.std.proofs.Common.{ℕ, suc, ◌+◌, ◌*◌, ◌<◌, ◌≤◌, arith}
use Rattle.std.proofs.Math.Nat.{mul-le-mul_right}

-- a row ends where the next one begins
pub row_ends : (n j k : ℕ) → j < k → j * n + n ≤ k * n
row_ends n j k lt = let le : suc j * n ≤ k * n = mul-le-mul_right n lt in omega arith
