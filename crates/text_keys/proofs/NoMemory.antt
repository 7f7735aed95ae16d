-- The definition of reading keys never runs out of memory; only the code can.
use Rattle.std.proofs.Common.{◌≡◌, ◌≢◌, ℕ, ◌+◌, Bool, true, false, List, [], ◌∷◌, ◌++◌, Option}
use Rattle.std.proofs.Common.{Some, None, Result, Ok, Err, if◌then◌else◌}
use Rattle.crpd_base.specs.Outcome.{◌>>=◌}
use Rattle.toml.specs.Data.{Data, Members, get_member}
use Rattle.text_keys.specs.declared.error.KeyError.{KeyError}
use Rattle.text_keys.specs.declared.error.KeyError.TheVariants.{Memory, Missing, BadValue, UnknownKey}
use Rattle.text_keys.specs.Paths.{each}
use Rattle.text_keys.specs.TomlKeys.{all_known, least_unknown, optional, required, value_at_key}
use Rattle.text_keys.specs.TomlKeys.{value_or_bad}

-- a value, or an error that is not this one
abbrev pub IsFree : {A E : Type 0} → E → Result A E → Type 0
IsFree e (Ok x) = Unit {0}
IsFree e (Err f) = f ≢ e

pub never : {A E : Type 0} (e : E) (r : Result A E) → IsFree e r → r ≡ Err e → ⊥
never e (Ok x) free is = cc
never e (Err d) free is = free (let same : d ≡ e = cc in same)

pub bind_free : {A B E : Type 0} (e : E) (r : Result A E) (f : A → Result B E) → IsFree e r
    → ((x : A) → IsFree e (f x)) → IsFree e (r >>= f)
bind_free e (Ok x) f h later = later x
bind_free e (Err d) f h later = h

pub if_free : {A E : Type 0} (e : E) (b : Bool) (r s : Result A E) → IsFree e r → IsFree e s
    → IsFree e (if b then r else s)
if_free e true r s x y = x
if_free e false r s x y = y

pub each_free : {T A E : Type 0} (e : E) (read : ℕ → T → Result A E)
    → ((i : ℕ) (t : T) → IsFree e (read i t)) → (i : ℕ) (ts : List T) → IsFree e (each read i ts)
unfolding each
each_free e read one i [] = tt
each_free e read one i (t ∷ more) =
    bind_free e (read i t) _ (one i t) (λ x.
    bind_free e (each read (i + 1) more) _ (each_free e read one (i + 1) more) (λ xs. tt))

-- ---- the keys of a table

pub good_free : {A : Type 0} (path key : List ℕ) (o : Option A)
    → IsFree Memory (value_or_bad path key o)
good_free path key None = λ e. cc
good_free path key (Some x) = tt

there_free : (path key : List ℕ) (o : Option Data)
    → IsFree {A = Data} {E = KeyError} Memory
    (elim o [ None ↦ Err (Missing (path ++ key)) | Some d ↦ Ok d ])
there_free path key None = λ e. cc
there_free path key (Some d) = tt

pub value_free : (path key : List ℕ) (ms : Members) → IsFree Memory (value_at_key path key ms)
value_free path key ms = there_free path key (get_member key ms)

pub required_free : {A : Type 0} (kind : Data → Option A) (path key : List ℕ) (ms : Members)
    → IsFree Memory (required kind path key ms)
unfolding required
required_free kind path key ms =
    bind_free Memory (value_at_key path key ms) _ (value_free path key ms)
    (λ d. good_free path key (kind d))

optional_by : {A : Type 0} (default : A) (kind : Data → Option A) (path key : List ℕ)
    (o : Option Data)
    → IsFree {A = A} {E = KeyError} Memory
    (elim o [ None ↦ Ok default | Some d ↦ value_or_bad path key (kind d) ])
optional_by default kind path key None = tt
optional_by default kind path key (Some d) = good_free path key (kind d)

pub optional_free : {A : Type 0} (default : A) (kind : Data → Option A) (path key : List ℕ)
    (ms : Members) → IsFree Memory (optional default kind path key ms)
unfolding optional
optional_free default kind path key ms = optional_by default kind path key (get_member key ms)

known_by : (path : List ℕ) (o : Option (List ℕ))
    → IsFree {A = Unit {0}} {E = KeyError} Memory
    (elim o [ None ↦ Ok tt | Some k ↦ Err (UnknownKey (path ++ k)) ])
known_by path None = tt
known_by path (Some k) = λ e. cc

pub known_free : (keys : List (List ℕ)) (path : List ℕ) (ms : Members)
    → IsFree Memory (all_known keys path ms)
unfolding all_known
known_free keys path ms = known_by path (least_unknown keys None ms)
