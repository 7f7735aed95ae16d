-- What texts and numbers mean in sets and certificates alike, whatever the file's format.
use Rattle.std.specs.Prelude.{ℕ, List, codes, Bool, Option, Some, None, if◌then◌else◌}
use Rattle.std.specs.Str.{bytes_eq}
use Rattle.crpd_base.specs.declared.data.Switching.{Switching}
use Rattle.crpd_base.specs.declared.data.Switching.TheVariants.{Cycle, Instruction}

-- a value, if it passes a test
abbrev pub only : {A : Type 0} → (A → Bool) → Option A → Option A
only test None = None
only test (Some x) = if test x then Some x else None

-- where a switch may happen, by its name
abbrev pub switching_named : List ℕ → Option Switching
switching_named s =
    if bytes_eq s (codes "cycle") then Some Cycle else if bytes_eq s (codes "instruction")
    then Some Instruction else None
