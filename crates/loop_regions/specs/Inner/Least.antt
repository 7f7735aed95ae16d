-- Smallest numbers with a property.
use Rattle.std.specs.Prelude.{◌≡◌, ℕ, ◌<◌, ◌≤◌, List, Option, Some, None, nat_lt, slice_get}
use Rattle.std.specs.Prelude.{if◌then◌else◌}
use Rattle.crpd_base.specs.declared.data.LoopAt.{LoopAt}

-- the smallest number with a property, None if no number has it
abbrev pub IsLeastNumber : (ℕ → Type 0) → Option ℕ → Type 0
IsLeastNumber P None = (a : ℕ) → P a → ⊥
IsLeastNumber P (Some a) = P a × ((b : ℕ) → P b → a ≤ b)

-- the smaller of two numbers, or the only one present
abbrev pub lesser : Option ℕ → Option ℕ → Option ℕ
lesser None b = b
lesser (Some a) None = Some a
lesser (Some a) (Some b) = if nat_lt b a then Some b else Some a

-- the stated loop at place j and one before it have this head
abbrev pub IsHeadBefore : List LoopAt → ℕ → ℕ → Type 0
IsHeadBefore loops j a =
    (i : ℕ) × (l : LoopAt) × (m : LoopAt) × (i < j) × (slice_get loops i ≡ Some l)
    × (slice_get loops j ≡ Some m) × (l.head ≡ a) × (m.head ≡ a)
