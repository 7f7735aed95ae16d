-- How the tasks' files are stored.
use Rattle.std.specs.Prelude.{◌≡◌, ℕ, ◌<◌, List, length, slice_index_or, All, Some}
use Rattle.crpd_base.specs.Images.{IsImage}
use Rattle.crpd_base.specs.declared.data.Image.{Image}
use Rattle.code_map.specs.declared.files.Files.TheInside.{Inside}
use Rattle.code_map.specs.declared.runs.Run.{Run}
use Rattle.code_map.specs.Inner.Runs.{IsByteIndex, IsOwnIndex}
use Rattle.code_map.specs.Words.{code_byte}

-- one index of all files, and one of each file alone
pub record AreStoredFiles (f : Inside) : Type 0 where
  pub all : IsByteIndex f.images f.runs (code_byte f.images)
  pub each : (k : ℕ) (r : List Run) (i : Image) → k < length f.images
      → IsOwnIndex (slice_index_or f.own k r) (slice_index_or f.images k i)
  pub files : length f.own ≡ length f.images
  pub images : All IsImage f.images
  pub bytes : (a b : ℕ) → code_byte f.images a ≡ Some b → b < 256
