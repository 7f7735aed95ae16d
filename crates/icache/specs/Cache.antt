-- A direct-mapped cache: one entry for each cache set, empty or a block.
use Rattle.std.specs.Prelude.{ℕ, ◌/◌, ◌%◌, Bool, false, ◌==◌, List, Option, Some, None}
use Rattle.std.specs.Prelude.{slice_index_or, slice_set}
use Rattle.crpd_base.specs.declared.data.Platform.{Platform}

-- the block in each cache set, None if it is empty
abbrev pub Cache : Type 0
Cache = List (Option ℕ)

-- the block of an address
abbrev pub block_of : Platform → ℕ → ℕ
block_of p address = address / p.line

-- the cache set of a block
abbrev pub set_of : Platform → ℕ → ℕ
set_of p block = block % p.sets

-- the block in a cache set, if there is one
abbrev pub held : Cache → ℕ → Option ℕ
held cache set = slice_index_or cache set None

-- whether a set holds this block
abbrev pub is_block : Option ℕ → ℕ → Bool
is_block None block = false
is_block (Some b) block = b == block

-- whether an access to the block is a hit
abbrev pub is_hit : Platform → Cache → ℕ → Bool
is_hit p cache block = is_block (held cache (set_of p block)) block

-- the cache after an access to the block
abbrev pub cache_after_access : Platform → Cache → ℕ → Cache
cache_after_access p cache block = slice_set cache (set_of p block) (Some block)
