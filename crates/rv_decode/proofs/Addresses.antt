-- Addresses with room for their word: the next address is four more, and the one before that is the
-- address itself.
use Rattle.std.proofs.Common.{◌≡◌, ℕ, ◌+◌, ◌≤◌, arith}
use Rattle.rv_decode.specs.Address.{next_address, address_before, end_address}

pub after_is : (a : ℕ) → a + 4 ≤ end_address → next_address a ≡ a + 4
after_is a h = omega arith

pub before_is : (a : ℕ) → a + 4 ≤ end_address → address_before (a + 4) ≡ a
before_is a h = omega arith

pub before_after : (a : ℕ) → a + 4 ≤ end_address → address_before (next_address a) ≡ a
before_after a h = omega arith
