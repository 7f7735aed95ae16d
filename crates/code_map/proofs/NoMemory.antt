-- The definition of a task set's code never runs out of memory; only the code map can.
use Rattle.std.proofs.Common.{◌≡◌, ◌≢◌, ℕ, ◌+◌, Bool, true, false, List, [], ◌∷◌, Option, Some, None}
use Rattle.std.proofs.Common.{Result, Ok, Err, is_some, ok_or}
use Rattle.crpd_base.specs.Outcome.{◌>>=◌, each, ensure, nowhere}
use Rattle.crpd_base.specs.declared.data.Image.{Image}
use Rattle.crpd_base.specs.declared.data.LoopSpec.{LoopSpec}
use Rattle.crpd_base.specs.declared.data.Place.{Place}
use Rattle.crpd_base.specs.declared.data.Place.TheVariants.{Number, Symbol as Named}
use Rattle.crpd_base.specs.declared.data.Symbol.{Symbol}
use Rattle.crpd_base.specs.declared.data.Task.{Task}
use Rattle.crpd_base.specs.declared.data.TaskSet.{TaskSet}
use Rattle.crpd_base.specs.declared.data.TaskSpec.{TaskSpec}
use Rattle.code_map.specs.declared.error.MapError.{MapError}
use Rattle.code_map.specs.declared.error.MapError.TheVariants.{CodeConflict, EntryOutside, Memory}
use Rattle.code_map.specs.declared.error.MapError.TheVariants.{UnknownSymbol}
use Rattle.code_map.specs.Conflicts.{first_conflict}
use Rattle.code_map.specs.Places.{address_of, entry_of, loop_of, place_text, plan_of, plans_of}
use Rattle.code_map.specs.Places.{range_of, symbol_address}
use Rattle.code_map.specs.Reading.{code_of, files_of}
use Rattle.code_map.specs.Words.{word_at}

-- a value, or a different error than running out of memory
abbrev IsFree : {A : Type 0} → Result A MapError → Type 0
IsFree (Ok x) = Unit {0}
IsFree (Err e) = e ≢ Memory

never : {A : Type 0} (r : Result A MapError) → IsFree r → r ≡ Err Memory → ⊥
never (Ok x) free is = cc
never (Err e) free is = free (let same : e ≡ Memory = cc in same)

bind_free : {A B : Type 0} (r : Result A MapError) (f : A → Result B MapError) → IsFree r
    → ((x : A) → IsFree (f x)) → IsFree (r >>= f)
bind_free (Ok x) f h later = later x
bind_free (Err e) f h later = h

each_free : {A B : Type 0} (read : A → Result B MapError) → ((x : A) → IsFree (read x))
    → (xs : List A) → IsFree (each read xs)
unfolding each
each_free read one [] = tt
each_free read one (x ∷ xs) =
    bind_free (read x) _ (one x) (λ y. bind_free (each read xs) _ (each_free read one xs) (λ ys. tt))

address_free : (task : Task) (symbols : List Symbol) (place : Place)
    → IsFree (address_of task symbols place)
unfolding address_of
address_free task symbols (Number address) = tt
address_free task symbols (Named name offset) = by (symbol_address symbols name offset)
  where
    by : (o : Option ℕ) → IsFree (ok_or o (UnknownSymbol task (place_text name offset)))
    by None = λ e. cc
    by (Some a) = tt

entry_free : (task : Task) (image : Image) (o : Option Place) → IsFree (entry_of task image o)
unfolding entry_of
entry_free task image None = tt
entry_free task image (Some place) = address_free task image.symbols place

range_free : (task : Task) (symbols : List Symbol) (range : Place × Place)
    → IsFree (range_of task symbols range)
unfolding range_of
range_free task symbols range =
    bind_free (address_of task symbols range.0) _ (address_free task symbols range.0) (λ _.
    bind_free (address_of task symbols range.1) _ (address_free task symbols range.1) (λ _. tt))

loop_free : (task : Task) (symbols : List Symbol) (spec : LoopSpec)
    → IsFree (loop_of task symbols spec)
unfolding loop_of
loop_free task symbols spec =
    bind_free (address_of task symbols spec.head) _ (address_free task symbols spec.head) (λ _.
    bind_free (each (range_of task symbols) spec.ranges) _
    (each_free (range_of task symbols) (range_free task symbols) spec.ranges) (λ _. tt))

plan_free : (word : ℕ → Option ℕ) (task : Task) (spec : TaskSpec) (image : Image)
    → IsFree (plan_of word task spec image)
unfolding plan_of
plan_free word task spec image =
    bind_free (entry_of task image spec.entry) _ (entry_free task image spec.entry) (λ entry.
    bind_free (address_of task image.symbols spec.stack) _ (address_free _ _ spec.stack) (λ _.
    bind_free (address_of task image.symbols spec.global) _ (address_free _ _ spec.global) (λ _.
    bind_free (each (loop_of task image.symbols) spec.loops) _
    (each_free (loop_of task image.symbols) (loop_free task image.symbols) spec.loops) (λ _.
    bind_free (ensure (is_some (word entry)) (EntryOutside task entry)) _
    (ensure_free (is_some (word entry)) entry) (λ _. tt)))))
  where
    ensure_free : (holds : Bool) (entry : ℕ) → IsFree (ensure holds (EntryOutside task entry))
    ensure_free true entry = tt
    ensure_free false entry = λ e. cc

plans_free : (word : ℕ → Option ℕ) (n : ℕ) (tasks : List TaskSpec) (images : List Image)
    → IsFree (plans_of word n tasks images)
unfolding plans_of
plans_free word n [] images = tt
plans_free word n (t ∷ ts) [] = tt
plans_free word n (t ∷ ts) (i ∷ is) =
    bind_free (plan_of word (record { 0 = n }) t i) _ (plan_free word (record { 0 = n }) t i)
    (λ _. bind_free (plans_of word (n + 1) ts is) _ (plans_free word (n + 1) ts is) (λ _. tt))

files_free : (images : List Image) → IsFree (files_of images)
unfolding files_of
files_free images =
    bind_free (nowhere CodeConflict (first_conflict images)) _ (by (first_conflict images)) (λ _. tt)
  where
    by : (o : Option ℕ) → IsFree (nowhere CodeConflict o)
    by None = tt
    by (Some a) = λ e. cc

code_free : (set : TaskSet) (images : List Image) → IsFree (code_of set images)
unfolding code_of
code_free set images =
    bind_free (files_of images) _ (files_free images) (λ files.
    bind_free (plans_of (word_at files) 0 set.tasks files) _
    (plans_free (word_at files) 0 set.tasks files) (λ _. tt))

pub code_never : (set : TaskSet) (images : List Image) → code_of set images ≡ Err Memory → ⊥
code_never set images = never (code_of set images) (code_free set images)
