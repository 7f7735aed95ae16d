-- Files in memory.
use Rattle.std.specs.Prelude.{ℕ, List, [], ◌∷◌, Option, Some, None, String, Vec, string_bytes}
use Rattle.std.specs.Prelude.{if◌then◌else◌}
use Rattle.std.specs.Str.{bytes_eq}

-- the bytes of the first file of a name
abbrev pub file_named : {Y Z : Type 0} → List (String Y × Vec ℕ Z) → List ℕ → Option (List ℕ)
file_named [] name = None
file_named (f ∷ fs) name =
    if bytes_eq name (string_bytes f.0) then Some f.1.items else file_named fs name
