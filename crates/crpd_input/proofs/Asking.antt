-- Which files a sequence of steps asks for.
use Rattle.std.proofs.Common.{◌≡◌, ◌∙◌, ℕ, ◌+◌, ◌<◌, List, [], ◌∷◌, ◌++◌, length, get_or, take, drop}
use Rattle.std.proofs.Common.{Option, Some, None, Result, Ok, Err, IfOk, IsErrAnd, ap, refl, subst, sym}
use Rattle.std.proofs.Common.{append_assoc}
use Rattle.std.proofs.lemmas.List.{append-nil, drop_more, take-append-drop, take_more}
use Rattle.crpd_base.specs.declared.data.TaskSet.{TaskSet}
use Rattle.crpd_base.specs.declared.data.TaskSpec.{TaskSpec}
use Rattle.crpd_io.specs.Asked.{Asked, names_asked}
use Rattle.crpd_io.specs.Outside.{AddsAnswers, AgreesSince, Contents, FileAnswer}
use Rattle.crpd_io.proofs.Logs.{earlier, later}
use Rattle.crpd_input.specs.declared.halt.Halt.{Halt}
use Rattle.crpd_input.specs.Asking.{AreFirst, AsksFor, files_of_set, new_files, set_files}
use Rattle.crpd_input.specs.Asking.{task_files, unless_named}
use Rattle.crpd_input.specs.Reading.{set_in}

named_both : (xs ys : List FileAnswer)
    → names_asked (ys ++ xs) ≡ names_asked xs ++ names_asked ys
named_both xs [] = sym (append-nil (names_asked xs))
named_both xs (y ∷ ys) =
    ap (λ (ns : List (List ℕ)). ns ++ y.name ∷ []) (named_both xs ys)
    ∙ append_assoc (names_asked xs) (names_asked ys) (y.name ∷ [])

-- no file was asked for
pub asked_none : (old : List FileAnswer) → Asked old old []
asked_none old = record { added = []; are = refl; named = refl }

-- the files of two steps in sequence
pub asked_both : {first middle last : List FileAnswer} {xs ys : List (List ℕ)}
    → Asked first middle xs → Asked middle last ys → Asked first last (xs ++ ys)
asked_both {first} {middle} {last} {xs} {ys} one two = record {
  added = two.added ++ one.added;
  are =
      two.are ∙ ap (λ (log : List FileAnswer). two.added ++ log) one.are
      ∙ sym (append_assoc two.added one.added first);
  named =
      named_both one.added two.added
      ∙ ap (λ (ns : List (List ℕ)). ns ++ names_asked two.added) one.named
      ∙ ap (λ (ns : List (List ℕ)). xs ++ ns) two.named;
}

-- if there is a result, these are all files
all_first : {A : Type 0} (names files : List (List ℕ)) (value : A)
    → AreFirst names files (Ok value) → files ≡ names
all_first names files value first =
    first.1 ∙ ap (λ (ns : List (List ℕ)). names ++ ns) first.2 ∙ append-nil names

-- all files are the first ones, whatever the result is
all_named : {A : Type 0} (names files : List (List ℕ)) (result : Result A Halt) → files ≡ names
    → AreFirst names files result
all_named names files (Ok value) same = ([], same ∙ sym (append-nil names), refl)
all_named names files (Err halt) same = ([], same ∙ sym (append-nil names), tt)

-- after a stop
stopped_first : {A : Type 0} (names files rest : List (List ℕ)) (Q : Halt → Type 0)
    (result : Result A Halt) → files ≡ names ++ rest → IsErrAnd result Q
    → AreFirst names files result
stopped_first names files rest Q (Ok value) are stop = absurd stop
stopped_first names files rest Q (Err halt) are stop = (rest, are, tt)

-- files that are known before
pub asks_names : {A : Type 0} {old new : List FileAnswer} {names : List (List ℕ)}
    → Asked old new names → (files : Contents → List (List ℕ)) (result : Result A Halt)
    → ((c : Contents) → AgreesSince old new c → files c ≡ names) → AsksFor old new files result
asks_names {names} asked files result are = record {
  names = names;
  asked = asked;
  first = λ c since. all_named names (files c) result (are c since);
}

-- a step that stopped before it asked for all files
pub asks_some : {A : Type 0} {old new : List FileAnswer} {names : List (List ℕ)}
    → Asked old new names → (files rest : Contents → List (List ℕ)) (Q : Halt → Type 0)
    (result : Result A Halt) → IsErrAnd result Q
    → ((c : Contents) → AgreesSince old new c → files c ≡ names ++ rest c)
    → AsksFor old new files result
asks_some {names} asked files rest Q result stop are = record {
  names = names;
  asked = asked;
  first = λ c since. stopped_first names (files c) (rest c) Q result (are c since) stop;
}

module _ {A B : Type 0} {old new : List FileAnswer} {files : Contents → List (List ℕ)} where
  -- the same files, whatever the steps after them give
  pub asks_end : (value : A) → AsksFor old new files (Ok value) → (result : Result B Halt)
      → AsksFor old new files result
  asks_end value asks result =
      asks_names asks.asked files result
      (λ c since. all_first asks.names (files c) value (asks.first c since))

  -- a stop that is passed on
  pub asks_stop : (halt : Halt) (Q : Halt → Type 0) → AsksFor {A = A} old new files (Err halt)
      → (result : Result B Halt) → IsErrAnd result Q → AsksFor old new files result
  asks_stop halt Q asks result stop = record {
    names = asks.names;
    asked = asks.asked;
    first = λ c since.
        let first = asks.first c since in
        stopped_first asks.names (files c) first.0 Q result first.1 stop;
  }

  -- a stop that is passed on, before more files
  pub asks_less : (halt : Halt) (Q : Halt → Type 0) (more : Contents → List (List ℕ))
      → AsksFor {A = A} old new files (Err halt) → (result : Result B Halt) → IsErrAnd result Q
      → AsksFor old new (λ c. files c ++ more c) result
  asks_less halt Q more asks result stop = record {
    names = asks.names;
    asked = asks.asked;
    first = λ c since.
        let first = asks.first c since in
        stopped_first asks.names (files c ++ more c) (first.0 ++ more c) Q result
        (ap (λ (ns : List (List ℕ)). ns ++ more c) first.1
        ∙ append_assoc asks.names first.0 (more c)) stop;
  }

-- other files that are the same for contents that agree
pub asks_same : {A : Type 0} {old new : List FileAnswer} {files : Contents → List (List ℕ)}
    {result : Result A Halt} (others : Contents → List (List ℕ))
    → AsksFor old new files result
    → ((c : Contents) → AgreesSince old new c → others c ≡ files c)
    → AsksFor old new others result
asks_same others asks same = record {
  names = asks.names;
  asked = asks.asked;
  first = λ c since.
      let first = asks.first c since in (first.0, same c since ∙ first.1, first.2);
}

-- two steps in sequence, of which the first gave a result
module _ {A B : Type 0} {stated now : Option Contents} {first middle last : List FileAnswer}
    (one : AddsAnswers stated first middle) (two : AddsAnswers now middle last)
    {files : Contents → List (List ℕ)} (value : A) where
  pub asks_both : {others : Contents → List (List ℕ)} {result : Result B Halt}
      → AsksFor first middle files (Ok value)
      → AsksFor middle last others result
      → AsksFor first last (λ c. files c ++ others c) result
  asks_both {others} {result} before after = record {
    names = before.names ++ after.names;
    asked = asked_both before.asked after.asked;
    first = λ c since.
        let same = all_first before.names (files c) value (before.first c (earlier one two since)) in
        let behind = after.first c (later one two since) in (
          behind.0,
          ap (λ (ns : List (List ℕ)). ns ++ others c) same
              ∙ ap (λ (ns : List (List ℕ)). before.names ++ ns) behind.1
              ∙ sym (append_assoc before.names after.names behind.0),
          behind.2,
        );
  }

  -- one more file after them
  pub asks_more : {result : Result B Halt} {name : List ℕ} → AsksFor first middle files (Ok value)
      → Asked middle last (name ∷ [])
      → AsksFor first last (λ c. files c ++ name ∷ []) result
  asks_more {result} {name} before after =
      let own = asks_names after (λ c. name ∷ []) result (λ c since. refl) in
      asks_both before own

-- ---- the files of a set

-- the files of tasks, and of others after them
pub new_files_both : (earlier xs ys : List TaskSpec)
    → new_files earlier (xs ++ ys) ≡ new_files earlier xs ++ new_files (earlier ++ xs) ys
new_files_both earlier [] ys =
    ap (λ (ts : List TaskSpec). new_files ts ys) (sym (append-nil earlier))
new_files_both earlier (x ∷ xs) ys =
    ap (λ (ns : List (List ℕ)). unless_named earlier x.file ++ ns)
    (new_files_both (earlier ++ x ∷ []) xs ys)
    ∙ ap (λ (ts : List TaskSpec).
    unless_named earlier x.file
    ++ (new_files (earlier ++ x ∷ []) xs ++ new_files ts ys))
    (append_assoc earlier (x ∷ []) xs)
    ∙ sym (append_assoc (unless_named earlier x.file) (new_files (earlier ++ x ∷ []) xs)
    (new_files (earlier ++ x ∷ xs) ys))

-- one more task
pub one_more_file : (tasks : List TaskSpec) (i : ℕ) (t : TaskSpec) → i < length tasks
    → t ≡ get_or tasks i t
    → new_files [] (take (i + 1) tasks)
    ≡ new_files [] (take i tasks) ++ unless_named (take i tasks) t.file
one_more_file tasks i t within is =
    ap (new_files [])
    (take_more tasks i t within ∙ ap (λ (x : TaskSpec). take i tasks ++ x ∷ []) (sym is))
    ∙ new_files_both [] (take i tasks) (t ∷ [])
    ∙ ap (λ (ns : List (List ℕ)). new_files [] (take i tasks) ++ ns)
    (append-nil (unless_named (take i tasks) t.file))

-- the files of the first tasks are the first files
pub files_after : (tasks : List TaskSpec) (i : ℕ)
    → new_files [] tasks
    ≡ new_files [] (take i tasks) ++ new_files (take i tasks) (drop i tasks)
files_after tasks i =
    ap (new_files []) (sym (take-append-drop i tasks))
    ∙ new_files_both [] (take i tasks) (drop i tasks)

-- the files of a set that was read
pub files_read : (c : Contents) (name : List ℕ) (set : TaskSet) → set_in c name ≡ Ok set
    → set_files c name ≡ (name ∷ []) ++ task_files set
files_read c name set is = ap (λ (r : Result TaskSet Halt). name ∷ files_of_set r) is

-- the next task's file was asked for, unless an earlier task names it
pub asked_next : {first middle last : List FileAnswer} (tasks : List TaskSpec) (i : ℕ)
    (t : TaskSpec) (file : List ℕ) → i < length tasks → t ≡ get_or tasks i t → file ≡ t.file
    → Asked first middle (new_files [] (take i tasks))
    → Asked middle last (unless_named (take i tasks) file)
    → Asked first last (new_files [] (take (i + 1) tasks))
asked_next {first} {middle} {last} tasks i t file within is same before now =
    subst (λ (ns : List (List ℕ)). Asked first last ns)
    (ap (λ (f : List ℕ). new_files [] (take i tasks) ++ unless_named (take i tasks) f) same
    ∙ sym (one_more_file tasks i t within is))
    (asked_both before now)
