-- Reading the keys of an object: each is looked up, then its value is checked. An error is reported
-- with the key's path.
use Rattle.std.specs.Prelude.{ℕ, List, ◌++◌, Option, Some, None, Result, Ok, Err}
use Rattle.serde_json.specs.Data.{Data, Members}
use Rattle.serde_json.specs.Find.{get_member}
use Rattle.cert_model.specs.declared.error.CertError.{CertError}
use Rattle.cert_model.specs.declared.error.CertError.TheVariants.{Missing, BadValue}
use Rattle.crpd_base.specs.Outcome.{◌>>=◌}

-- the value at a key, otherwise the error that the key is missing
abbrev pub value_at_key : List ℕ → List ℕ → Members → Result Data CertError
value_at_key path key ms = elim (get_member key ms) [
  | None ↦ Err (Missing (path ++ key))
  | Some d ↦ Ok d
]

-- what was read from a value; if nothing was read, the value is bad
abbrev pub value_or_bad : {A : Type 0} → List ℕ → List ℕ → Option A → Result A CertError
value_or_bad path key None = Err (BadValue (path ++ key))
value_or_bad path key (Some x) = Ok x

-- a key: missing comes before bad
unfoldable pub required : {A : Type 0} → (Data → Option A) → List ℕ → List ℕ → Members
    → Result A CertError
required kind path key ms = do
  d ← value_at_key path key ms
  value_or_bad path key (kind d)
