-- The files that a run asks for, in order.
use Rattle.std.specs.Prelude.{◌≡◌, ℕ, List, [], ◌∷◌, ◌++◌}
use Rattle.std.specs.Option.{option_map_or}
use Rattle.crpd_io.specs.Asked.{Asked}
use Rattle.crpd_io.specs.Outside.{Contents, FileAnswer, HoldsFor}
use Rattle.crpd_input.specs.Asking.{set_files}
use Rattle.crpd_tool.specs.Commands.{Command, check, list, simulate, sets, analyze, explain}
use Rattle.crpd_tool.specs.Commands.{classic, slack, refine, update, generate, command_of}

-- the files of a command: those that its words name, and after a set those of its tasks, each once
abbrev pub files_named : Command → Contents → List (List ℕ)
files_named (check set certificate) contents = set_files contents set ++ certificate ∷ []
files_named (list set name) contents = set_files contents set
files_named (simulate set script) contents = set_files contents set ++ script ∷ []
files_named (sets set) contents = set_files contents set
files_named (analyze set) contents = set_files contents set
files_named (classic set) contents = set_files contents set
files_named (slack set) contents = set_files contents set
files_named (refine set) contents = set_files contents set
files_named (update old_set old_certificate new_set) contents =
    (set_files contents old_set ++ old_certificate ∷ []) ++ set_files contents new_set
files_named (generate n) contents = []
files_named (explain set certificate script) contents =
    (set_files contents set ++ certificate ∷ []) ++ script ∷ []

-- the files of the words' command; other words name none
abbrev pub files_for : List (List ℕ) → Contents → List (List ℕ)
files_for words contents =
    option_map_or (λ command. files_named command contents) (command_of words) []

-- The files that were asked for, in order, are the first of those that the words and their sets
-- name, for all contents that agree with the answers. No other file was asked for.
pub record AsksInOrder (words : List (List ℕ)) (old new : List FileAnswer) : Type 0 where
  pub names : List (List ℕ)
  pub asked : Asked old new names
  pub first : HoldsFor old new
      (λ c. (rest : List (List ℕ)) × (files_for words c ≡ names ++ rest))
