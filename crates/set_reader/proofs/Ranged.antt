-- What holds of a set that was read: its numbers are in their ranges, and each task has its own
-- name.
use Rattle.std.proofs.Common.{◌≡◌, ◌≢◌, ℕ, ◌≤◌, ◌<◌, ◌^◌, true, false, cond, nat_lt, nat_le, List}
use Rattle.std.proofs.Common.{[], ◌∷◌, ◌++◌, length, codes, Option, Some, None, Result, Ok, Err}
use Rattle.std.proofs.Common.{refl, sym, ap, subst, arith, inl, inr, get_or, All, AllPairs, IfOk}
use Rattle.std.specs.List.{AllByRecursion}
use Rattle.std.specs.Str.{is_utf8, bytes_eq}
use Rattle.std.proofs.lemmas.Bool.{cases_Bool, ltb-false, leb-true}
use Rattle.std.proofs.lemmas.List.{append_assoc, append-nil}
use Rattle.std.proofs.lemmas.List.Elements.{All-from_recursion}
use Rattle.std.proofs.lemmas.List.Folds.{list_any_at}
use Rattle.std.proofs.lemmas.List.Quantifiers.{all_pairs_push}
use Rattle.std.proofs.lemmas.Slice.Eq.{bytes_eq-Decides}
use Rattle.crpd_base.proofs.Results.{bind_ok, ok_is}
use Rattle.crpd_base.specs.declared.data.Platform.{Platform}
use Rattle.crpd_base.specs.declared.data.LoopSpec.{LoopSpec}
use Rattle.crpd_base.specs.declared.data.TaskSet.{TaskSet}
use Rattle.crpd_base.specs.declared.data.TaskSpec.{TaskSpec}
use Rattle.crpd_base.specs.declared.data.Place.TheVariants.{Number}
use Rattle.crpd_base.specs.declared.data.Switching.TheVariants.{Cycle}
use Rattle.crpd_base.specs.Names.{is_line_length, is_name, is_file}
use Rattle.crpd_base.specs.Ranges.{IsPlatform, IsLoopSpec, IsTaskSpec, HaveOwnNames, IsTaskSet}
use Rattle.toml.specs.Data.{Data, Members, as_table, as_str}
use Rattle.toml.specs.Parse.{parse_document}
use Rattle.text_keys.specs.declared.error.KeyError.{KeyError}
use Rattle.crpd_base.specs.Outcome.{Gives}
use Rattle.text_keys.specs.Paths.{each, item_path}
use Rattle.text_keys.specs.TomlKeys.{all_known, required, optional, whole, listed}
use Rattle.text_keys.proofs.Laws.{guard_ok, each_all, each_length}
use Rattle.text_keys.proofs.Ranged.{IsBetween, only_ok, whole_between, required_ok, optional_ok}
use Rattle.text_keys.proofs.Ranged.{required_between, optional_within, at_most_ok}
use Rattle.set_reader.specs.Kinds as kind
use Rattle.set_reader.specs.declared.error.SetError.{SetError}
use Rattle.set_reader.specs.declared.error.SetError.TheVariants.{Memory, TooManyTasks}
use Rattle.set_reader.specs.declared.error.SetError.TheVariants.{DeadlineAfterPeriod}
use Rattle.set_reader.specs.Reading.{of_set, cycles, fields_at, task_at, distinct_or_refused}
use Rattle.set_reader.specs.Reading.{distinct, task_tables, tasks_at, set_keys, platform_keys}
use Rattle.set_reader.specs.Reading.{platform_at, loop_keys, loop_at, nth_loop, loop_tables}
use Rattle.set_reader.specs.Reading.{loops_at, task_keys, entry_place, occurs, repeated_after}
use Rattle.set_reader.specs.Reading.{set_at, document, reading}

-- the length of a line: within its range, and one of the five
pub record IsLine (n : ℕ) : Type 0 where
  pub range : IsBetween 4 64 n
  pub size : is_line_length n ≡ true

line_ok : (d : Data) (n : ℕ) → kind.line_bytes d ≡ Some n → IsLine n
unfolding kind.line_bytes
line_ok d n e =
    let passed = only_ok is_line_length (whole 4 64 d) n e in
    record { range = whole_between 4 64 d n passed.1; size = passed.0 }

name_ok : (d : Data) (s : List ℕ) → kind.name d ≡ Some s → is_name s ≡ true
unfolding kind.name
name_ok d s e = (only_ok is_name (as_str d) s e).0

file_ok : (d : Data) (s : List ℕ) → kind.file d ≡ Some s → is_file s ≡ true
unfolding kind.file
file_ok d s e = (only_ok is_file (as_str d) s e).0

-- ---- the platform

platform_ranged : (path : List ℕ) (ms : Members) (p : Platform) → platform_at path ms ≡ Ok p
    → IsPlatform p
unfolding platform_at
platform_ranged path ms p e =
    let known = bind_ok (all_known platform_keys path ms) _ p e in
    let line = bind_ok (required kind.line_bytes path (codes "line") ms) _ p known.2 in
    let sets = bind_ok (required (whole 1 512) path (codes "sets") ms) _ p line.2 in
    let hit = bind_ok (required (whole 1 65535) path (codes "hit") ms) _ p sets.2 in
    let miss = bind_ok (required cycles path (codes "miss") ms) _ p hit.2 in
    let memory = bind_ok (required cycles path (codes "data") ms) _ p miss.2 in
    let taken = bind_ok (required cycles path (codes "taken") ms) _ p memory.2 in
    let switch = bind_ok (required cycles path (codes "switch") ms) _ p taken.2 in
    let mul = bind_ok (optional 0 cycles path (codes "mul") ms) _ p switch.2 in
    let div = bind_ok (optional 0 cycles path (codes "div") ms) _ p mul.2 in
    let switching = bind_ok (optional Cycle kind.switching path (codes "switching") ms) _ p div.2 in
    let line_kind = required_ok kind.line_bytes path (codes "line") ms line.0 line.1 in
    let of_line = line_ok line_kind.0 line.0 line_kind.1 in
    let of_sets = required_between 1 512 path (codes "sets") ms sets.0 sets.1 in
    let of_hit = required_between 1 65535 path (codes "hit") ms hit.0 hit.1 in
    subst IsPlatform (ok_is _ p switching.2)
    (record {
      line = (of_line.range.reaches, of_line.range.within);
      line_size = of_line.size;
      sets = (of_sets.reaches, of_sets.within);
      hit = (of_hit.reaches, of_hit.within);
      miss = (required_between 0 65535 path (codes "miss") ms miss.0 miss.1).within;
      memory = (required_between 0 65535 path (codes "data") ms memory.0 memory.1).within;
      taken = (required_between 0 65535 path (codes "taken") ms taken.0 taken.1).within;
      switch = (required_between 0 65535 path (codes "switch") ms switch.0 switch.1).within;
      mul = optional_within 65535 path (codes "mul") ms mul.0 mul.1;
      div = optional_within 65535 path (codes "div") ms div.0 div.1;
    })

-- ---- loops

loop_ranged : (path : List ℕ) (ms : Members) (l : LoopSpec) → loop_at path ms ≡ Ok l → IsLoopSpec l
unfolding loop_at
loop_ranged path ms l e =
    let known = bind_ok (all_known loop_keys path ms) _ l e in
    let head = bind_ok (required kind.place path (codes "head") ms) _ l known.2 in
    let bound = bind_ok (required (whole 1 1000000) path (codes "bound") ms) _ l head.2 in
    let ranges = bind_ok (required (listed kind.range) path (codes "range") ms) _ l bound.2 in
    let of_bound = required_between 1 1000000 path (codes "bound") ms bound.0 bound.1 in
    subst IsLoopSpec (ok_is _ l ranges.2) (of_bound.reaches, of_bound.within)

pub record AreLoops (loops : List LoopSpec) : Type 0 where
  pub few : length loops ≤ 64
  pub each : AllByRecursion IsLoopSpec loops

loops_ranged : (path : List ℕ) (ms : Members) (loops : List LoopSpec) → loops_at path ms ≡ Ok loops
    → AreLoops loops
unfolding loops_at
loops_ranged path ms loops e =
    let tables = bind_ok (optional [] loop_tables path (codes "loop") ms) _ loops e in
    let few : length tables.0 ≤ 64 =
    elim (optional_ok [] loop_tables path (codes "loop") ms tables.0 tables.1) [
      | inl none ↦ subst (λ (l : List Members). length l ≤ 64) none (omega arith)
      | inr d ↦ at_most_ok 64 (listed as_table d.0) tables.0 d.1
    ] in
    let same : length loops ≡ length tables.0 =
    each_length (nth_loop path) 0 tables.0 loops tables.2 in
    record {
      few = omega arith;
      each =
          each_all IsLoopSpec (nth_loop path)
          (λ i ms l h. loop_ranged (item_path path (codes "loop") i) ms l h) 0 tables.0
          loops tables.2;
    }

-- ---- tasks

-- the ranges of a task's texts and numbers, except its deadline
pub record HasRanges (t : TaskSpec) : Type 0 where
  pub name : is_name t.name ≡ true
  pub file : is_file t.file ≡ true
  pub period : IsBetween 1 (2 ^ 40) t.period
  pub deadline : IsBetween 1 (2 ^ 40) t.deadline
  pub jitter : t.jitter ≤ 2 ^ 40
  pub loops : AreLoops t.loops

fields_ranged : (path : List ℕ) (ms : Members) (t : TaskSpec) → fields_at path ms ≡ Ok t
    → HasRanges t
unfolding fields_at
fields_ranged path ms t e =
    let known = bind_ok (all_known task_keys path ms) _ t e in
    let name = bind_ok (required kind.name path (codes "name") ms) _ t known.2 in
    let file = bind_ok (required kind.file path (codes "file") ms) _ t name.2 in
    let entry = bind_ok (optional None entry_place path (codes "entry") ms) _ t file.2 in
    let period = bind_ok (required (whole 1 (2 ^ 40)) path (codes "period") ms) _ t entry.2 in
    let deadline = bind_ok (required (whole 1 (2 ^ 40)) path (codes "deadline") ms) _ t period.2 in
    let jitter = bind_ok (required (whole 0 (2 ^ 40)) path (codes "jitter") ms) _ t deadline.2 in
    let stack = bind_ok (optional (Number 0) kind.place path (codes "stack") ms) _ t jitter.2 in
    let global = bind_ok (optional (Number 0) kind.place path (codes "global") ms) _ t stack.2 in
    let loops = bind_ok (loops_at path ms) _ t global.2 in
    let name_kind = required_ok kind.name path (codes "name") ms name.0 name.1 in
    let file_kind = required_ok kind.file path (codes "file") ms file.0 file.1 in
    subst HasRanges (ok_is _ t loops.2)
    (record {
      name = name_ok name_kind.0 name.0 name_kind.1;
      file = file_ok file_kind.0 file.0 file_kind.1;
      period = required_between 1 (2 ^ 40) path (codes "period") ms period.0 period.1;
      deadline = required_between 1 (2 ^ 40) path (codes "deadline") ms deadline.0 deadline.1;
      jitter = (required_between 0 (2 ^ 40) path (codes "jitter") ms jitter.0 jitter.1).within;
      loops = loops_ranged path ms loops.0 loops.1;
    })

of_set_ok : {A : Type 0} (r : Result A KeyError) (x : A) → of_set r ≡ Ok x → r ≡ Ok x
of_set_ok (Ok y) x e = ap (λ v. Ok v) (ok_is y x e)
of_set_ok (Err d) x e = absurd cc

task_ranged : (i : ℕ) (ms : Members) (t : TaskSpec) → task_at i ms ≡ Ok t → IsTaskSpec t
unfolding task_at
task_ranged i ms t e =
    let fields = bind_ok (of_set (fields_at (item_path [] (codes "task") i) ms)) _ t e in
    let test = guard_ok (nat_lt fields.0.period fields.0.deadline)
    (DeadlineAfterPeriod (item_path [] (codes "task") i ++ codes "deadline"))
    (Ok fields.0) t fields.2 in
    let ranges = fields_ranged (item_path [] (codes "task") i) ms fields.0
    (of_set_ok _ fields.0 fields.1) in
    subst IsTaskSpec (ok_is fields.0 t test.1)
    (record {
      name = ranges.name;
      file = ranges.file;
      period = (ranges.period.reaches, ranges.period.within);
      deadline = (ranges.deadline.reaches, ltb-false _ _ test.0);
      jitter = ranges.jitter;
      few_loops = ranges.loops.few;
      loops = All-from_recursion IsLoopSpec fields.0.loops ranges.loops.each;
    })

-- ---- names

not_occurring : (name : List ℕ) (tasks : List TaskSpec) → occurs name tasks ≡ false
    → (k : ℕ) (d : TaskSpec) → k < length tasks → (get_or tasks k d).name ≢ name
not_occurring name tasks none k d lt same =
    let found : bytes_eq name (get_or tasks k d).name ≡ true =
    (bytes_eq-Decides name (get_or tasks k d).name).1 (sym same) in
    let any : occurs name tasks
    ≡ true = list_any_at (λ (t : TaskSpec). bytes_eq name t.name) tasks k d lt found in
    cc

names_apart : (earlier tasks : List TaskSpec) → AllPairs HaveOwnNames earlier
    → repeated_after earlier tasks ≡ None → AllPairs HaveOwnNames (earlier ++ tasks)
names_apart earlier [] apart e =
    subst (λ l. AllPairs HaveOwnNames l) (sym (append-nil earlier)) apart
names_apart earlier (t ∷ ts) apart e =
    elim (cases_Bool (occurs t.name earlier)) [
      | inl again ↦ absurd (let f = rw again at e in cc)
      | inr new ↦ let f = rw new at e in
          let more = all_pairs_push HaveOwnNames earlier t apart
          (not_occurring t.name earlier new) in
          subst (λ l. AllPairs HaveOwnNames l) (append_assoc earlier (t ∷ []) ts)
          (names_apart (earlier ++ t ∷ []) ts more f)
    ]

told_none : (tasks : List TaskSpec) (o : Option ℕ) (xs : List TaskSpec)
    → distinct_or_refused tasks o ≡ Ok xs → (o ≡ None) × (tasks ≡ xs)
told_none tasks None xs e = (refl, ok_is tasks xs e)
told_none tasks (Some i) xs e = absurd cc

-- ---- the set

pub record AreTasks (tasks : List TaskSpec) : Type 0 where
  pub some : 1 ≤ length tasks
  pub few : length tasks ≤ 32
  pub each : All IsTaskSpec tasks
  pub names : AllPairs HaveOwnNames tasks

no_pairs : AllPairs HaveOwnNames []
no_pairs i j d lt le = absurd (omega (arith, lt, le))

distinct_ranged : (tasks xs : List TaskSpec) → 1 ≤ length tasks → length tasks ≤ 32
    → AllByRecursion IsTaskSpec tasks → distinct tasks ≡ Ok xs → AreTasks xs
unfolding distinct
distinct_ranged tasks xs some few each e =
    let own = told_none tasks (repeated_after [] tasks) xs e in
    subst AreTasks own.1
    (record {
      some = some;
      few = few;
      each = All-from_recursion IsTaskSpec tasks each;
      names = names_apart [] tasks no_pairs own.0;
    })

some_tables : (d : Data) (ts : List Members) → task_tables d ≡ Some ts → 1 ≤ length ts
some_tables d ts e =
    leb-true _ _ (only_ok (λ (l : List Members). nat_le 1 (length l)) (listed as_table d) ts e).0

tasks_ranged : (ms : Members) (tasks : List TaskSpec) → tasks_at ms ≡ Ok tasks → AreTasks tasks
unfolding tasks_at
tasks_ranged ms tasks e =
    let tables = bind_ok (of_set (required task_tables [] (codes "task") ms)) _ tasks e in
    let read = bind_ok
    (cond (nat_lt 32 (length tables.0)) (Err (TooManyTasks (length tables.0)))
    (each task_at 0 tables.0)) distinct tasks tables.2 in
    let test = guard_ok (nat_lt 32 (length tables.0)) (TooManyTasks (length tables.0))
    (each task_at 0 tables.0) read.0 read.1 in
    let short : length tables.0 ≤ 32 = ltb-false _ _ test.0 in
    let listed_data = required_ok task_tables [] (codes "task") ms tables.0
    (of_set_ok _ tables.0 tables.1) in
    let some : 1 ≤ length tables.0 = some_tables listed_data.0 tables.0 listed_data.1 in
    let same : length read.0 ≡ length tables.0 = each_length task_at 0 tables.0 read.0 test.1 in
    distinct_ranged read.0 tasks (omega arith) (omega arith)
    (each_all IsTaskSpec task_at task_ranged 0 tables.0 read.0 test.1) read.2

set_ranged : (ms : Members) (s : TaskSet) → set_at ms ≡ Ok s → IsTaskSet s
unfolding set_at
set_ranged ms s e =
    let keys = bind_ok (of_set (all_known set_keys [] ms)) _ s e in
    let table = bind_ok (of_set (required as_table [] (codes "platform") ms)) _ s keys.2 in
    let platform = bind_ok (of_set (platform_at (codes "platform.") table.0)) _ s table.2 in
    let tasks = bind_ok (tasks_at ms) _ s platform.2 in
    let ranges = tasks_ranged ms tasks.0 tasks.1 in
    subst IsTaskSet (ok_is (record { platform = platform.0; tasks = tasks.0 }) s tasks.2)
    (record {
      platform =
          platform_ranged (codes "platform.") table.0 platform.0
          (of_set_ok _ platform.0 platform.1);
      some = ranges.some;
      few = ranges.few;
      each = ranges.each;
      names = ranges.names;
    })

document_ranged : (o : Option Members) (s : TaskSet) → document o ≡ Ok s → IsTaskSet s
document_ranged None s e = absurd cc
document_ranged (Some ms) s e = set_ranged ms s e

reading_ranged : (bytes : List ℕ) (s : TaskSet) → reading bytes ≡ Ok s → IsTaskSet s
unfolding reading
reading_ranged bytes s e =
    elim (cases_Bool (is_utf8 bytes)) [
      | inl text ↦ document_ranged (parse_document bytes) s (rw text at e)
      | inr not_text ↦ absurd (let f = rw not_text at e in cc)
    ]

-- a set that was read is within the ranges of a task set
pub found_ranged : (bytes : List ℕ) (r : Result TaskSet SetError)
    → Gives Memory (λ x. x) r (reading bytes) → IfOk r IsTaskSet
found_ranged bytes (Ok s) h = reading_ranged bytes s h
found_ranged bytes (Err e) h = tt
