-- A variable that nodes read and write.
use Rattle.std.specs.Prelude.{ℕ, Bool, true, false, ◌==◌, if◌then◌else◌, Option, Some, None}
use Rattle.dataflow.specs.declared.variable.Use.{Use}
use Rattle.dataflow.specs.declared.variable.Use.TheVariants.{Reads, Writes, Neither}

-- whether the variable is read before it is written, from before a node on
abbrev pub live_before : Use → Bool → Bool
live_before Reads later = true
live_before (Writes k) later = false
live_before Neither later = later

-- the constant that the variable surely holds after a node
abbrev pub known_after : Use → Option ℕ → Option ℕ
known_after Reads before = before
known_after (Writes k) before = Some k
known_after Neither before = before

-- the constant that both hold
abbrev pub common_value : Option ℕ → Option ℕ → Option ℕ
common_value None o = None
common_value (Some j) None = None
common_value (Some j) (Some k) = if j == k then Some j else None

-- paths begin at node 0, with an unknown variable
abbrev pub first_unknown : ℕ → Option (Option ℕ)
first_unknown n = if n == 0 then Some None else None

-- 1 if no value is known, otherwise 0
abbrev pub one_if_unknown : Option ℕ → ℕ
one_if_unknown None = 1
one_if_unknown (Some k) = 0

-- 1 if the variable is live, otherwise 0
abbrev pub one_if_live : Bool → ℕ
one_if_live true = 1
one_if_live false = 0
