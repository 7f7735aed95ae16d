-- Reading the keys of a TOML table: each is looked up, then its value is checked. An error is
-- reported with the key's path.
use Rattle.std.specs.Prelude.{ℕ, pos, List, [], ◌∷◌, ◌++◌, ◌+◌, codes, length, Bool, false, ◌||◌}
use Rattle.std.specs.Prelude.{◌&&◌, nat_le, Option, Some, None, option_map, option_and_then, Result}
use Rattle.std.specs.Prelude.{Ok, Err, if◌then◌else◌}
use Rattle.std.specs.Cmp.Lexicographic.{slice_cmp}
use Rattle.std.specs.Ordering.{is_lt, nat_cmp}
use Rattle.std.specs.Str.{bytes_eq}
use Rattle.crpd_base.specs.Outcome.{◌>>=◌}
use Rattle.toml.specs.Data.{Data, integer, array, Items, no_items, item, Members, no_members}
use Rattle.toml.specs.Data.{member, get_member}
use Rattle.text_keys.specs.declared.error.KeyError.{KeyError}
use Rattle.text_keys.specs.declared.error.KeyError.TheVariants.{Missing, BadValue, UnknownKey}

-- ---- the steps for one key

-- the value at a key, otherwise the error that the key is missing
abbrev pub value_at_key : List ℕ → List ℕ → Members → Result Data KeyError
value_at_key path key ms = elim (get_member key ms) [
  | None ↦ Err (Missing (path ++ key))
  | Some d ↦ Ok d
]

-- what was read from a value; if nothing was read, the value is bad
abbrev pub value_or_bad : {A : Type 0} → List ℕ → List ℕ → Option A → Result A KeyError
value_or_bad path key None = Err (BadValue (path ++ key))
value_or_bad path key (Some x) = Ok x

-- a required key: missing comes before bad
unfoldable pub required : {A : Type 0} → (Data → Option A) → List ℕ → List ℕ → Members
    → Result A KeyError
required kind path key ms = do
  d ← value_at_key path key ms
  value_or_bad path key (kind d)

-- an optional key, with a default if it is absent
unfoldable pub optional : {A : Type 0} → A → (Data → Option A) → List ℕ → List ℕ → Members
    → Result A KeyError
optional default kind path key ms = elim (get_member key ms) [
  | None ↦ Ok default
  | Some d ↦ value_or_bad path key (kind d)
]

-- ---- unknown keys

-- whether a key is one of a list
abbrev pub is_listed : List ℕ → List (List ℕ) → Bool
is_listed key [] = false
is_listed key (k ∷ ks) = bytes_eq key k || is_listed key ks

-- the smaller of two texts by bytes
abbrev pub lesser_key : Option (List ℕ) → List ℕ → Option (List ℕ)
lesser_key None k = Some k
lesser_key (Some l) k = if is_lt (slice_cmp nat_cmp k l) then Some k else Some l

-- the smallest by bytes of a text and the keys that are not listed
abbrev pub least_unknown : List (List ℕ) → Option (List ℕ) → Members → Option (List ℕ)
least_unknown keys least no_members = least
least_unknown keys least (member k d ms) =
    least_unknown keys (if is_listed k keys then least else lesser_key least k) ms

-- each key is in a list
unfoldable pub all_known : List (List ℕ) → List ℕ → Members → Result (Unit {0}) KeyError
all_known keys path ms = elim (least_unknown keys None ms) [
  | None ↦ Ok tt
  | Some k ↦ Err (UnknownKey (path ++ k))
]

-- ---- kinds

-- a whole number from low to high
abbrev pub whole : ℕ → ℕ → Data → Option ℕ
whole low high (integer (pos n)) = if nat_le low n && nat_le n high then Some n else None
whole low high _ = None

-- a list whose items are all of a kind
abbrev pub all_of : {A : Type 0} → (Data → Option A) → Items → Option (List A)
all_of kind no_items = Some []
all_of kind (item d ds) = option_and_then (λ x. option_map (λ xs. x ∷ xs) (all_of kind ds)) (kind d)

-- the items of an array that are all of a kind; None if one is not, or if it is no array
abbrev pub listed : {A : Type 0} → (Data → Option A) → Data → Option (List A)
listed kind (array ds) = all_of kind ds
listed kind _ = None

-- a list of at most n items
abbrev pub at_most : {A : Type 0} → ℕ → Option (List A) → Option (List A)
at_most n None = None
at_most n (Some xs) = if nat_le (length xs) n then Some xs else None
