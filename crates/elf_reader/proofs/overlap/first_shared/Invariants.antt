use Rattle.std.proofs.Common.{◌≡◌, ℕ, [], drop, take}
use Rattle.std.specs.List.{list_any}
use Rattle.elf_reader.specs.Segments.{AreDisjointRanges, first_shared, meets, occupies}
use Rattle.elf_reader.proofs.overlap.first_shared.Given as goal

-- the ranges are the addresses that the headers so far occupy, and no header so far shares an
-- address with an earlier one
abbrev pub invariant-loop-place : goal.invariant-loop-place
invariant-loop-place l = record {
  apart : AreDisjointRanges l.ranges.entries;
  same : (from to : ℕ) → list_any (meets from to) l.ranges.entries
      ≡ list_any (occupies from to) (take l.place l.headers);
  rest : first_shared (take l.place l.headers) (drop l.place l.headers) ≡ first_shared [] l.headers;
}
