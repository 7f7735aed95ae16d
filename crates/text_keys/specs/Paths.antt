-- Where a value is in a file, whatever the file's format: the paths of keys, and the items of a
-- list, each read with its place.
use Rattle.std.specs.Prelude.{ℕ, List, [], ◌∷◌, ◌++◌, ◌+◌, codes, Result, Ok, Err}
use Rattle.std.specs.Fmt.{decimal}
use Rattle.crpd_base.specs.Outcome.{◌>>=◌}

-- the path of the item at a place in the list at a key, as `task.0.`
abbrev pub item_path : List ℕ → List ℕ → ℕ → List ℕ
item_path path key i = path ++ key ++ codes "." ++ decimal i ++ codes "."

-- each item in order, with its place, up to the first refusal
unfoldable pub each : {T A E : Type 0} → (ℕ → T → Result A E) → ℕ → List T → Result (List A) E
each read i [] = Ok []
each read i (t ∷ more) = do
  x ← read i t
  xs ← each read (i + 1) more
  Ok (x ∷ xs)
