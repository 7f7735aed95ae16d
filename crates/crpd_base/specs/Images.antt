-- What holds of an image whose segments fit in memory together.
use Rattle.std.specs.Prelude.{ℕ, ◌+◌, ◌^◌, ◌<◌, ◌≤◌, length, All, AllPairs}
use Rattle.crpd_base.specs.declared.data.Image.{Image}
use Rattle.crpd_base.specs.declared.data.Segment.{Segment}

-- an address of a segment
abbrev pub IsIn : Segment → ℕ → Type 0
IsIn s a = (s.address ≤ a) × (a < s.address + s.size)

-- no address is in both segments
abbrev pub AreDisjoint : Segment → Segment → Type 0
AreDisjoint s t = (a : ℕ) → IsIn s a → IsIn t a → ⊥

-- the addresses are below 2 ^ 32, no two segments share one, and no segment has more bytes than its
-- size
pub record IsImage (image : Image) : Type 0 where
  pub below : All (λ s. s.address + s.size ≤ 2 ^ 32) image.segments
  pub apart : AllPairs AreDisjoint image.segments
  pub sized : All (λ s. length s.bytes ≤ s.size) image.segments
