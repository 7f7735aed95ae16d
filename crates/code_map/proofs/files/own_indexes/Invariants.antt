use Rattle.std.proofs.Common.{◌≡◌, ℕ, ◌<◌, List, length, get_or}
use Rattle.crpd_base.specs.declared.data.Image.{Image}
use Rattle.code_map.specs.declared.runs.Run.{Run}
use Rattle.code_map.specs.Inner.Runs.{IsOwnIndex}
use Rattle.code_map.proofs.files.own_indexes.Given as goal

abbrev pub invariant-loop-image : goal.invariant-loop-image
invariant-loop-image l =
    (length l.own.items ≡ l.image-index)
    × ((k : ℕ) (r : List Run) (i : Image) → k < l.image-index
    → IsOwnIndex (get_or l.own.items k r) (get_or l.images k i))
