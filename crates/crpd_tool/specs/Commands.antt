-- The commands that the words mean.
use Rattle.std.specs.Prelude.{ℕ, Bool, ◌&&◌, List, [], length, codes, nat_eq, slice_index_or}
use Rattle.std.specs.Prelude.{Option, Some, None, option_map, if◌then◌else◌}
use Rattle.std.specs.Str.{bytes_eq}
use Rattle.crpd_tool.specs.Numbers.{command_number}

-- a command with its files, for `list` with the name of a task, for `generate` with a number; each
-- new command is a constructor here, a line in `command_of`, and a case of `Ends`
pub data Command : Type 0 where
  check : List ℕ → List ℕ → Command
  list : List ℕ → List ℕ → Command
  simulate : List ℕ → List ℕ → Command
  sets : List ℕ → Command
  analyze : List ℕ → Command
  classic : List ℕ → Command
  slack : List ℕ → Command
  refine : List ℕ → Command
  update : List ℕ → List ℕ → List ℕ → Command
  generate : ℕ → Command
  explain : List ℕ → List ℕ → List ℕ → Command

-- the word at a place, or the empty word if there is none
abbrev pub command_word : ℕ → List (List ℕ) → List ℕ
command_word k words = slice_index_or words k []

-- this number of words, of which the first is this one
abbrev pub has_form : List ℕ → ℕ → List (List ℕ) → Bool
has_form name n words = nat_eq (length words) n && bytes_eq (command_word 0 words) name

-- the command whose form the words have
abbrev pub command_of : List (List ℕ) → Option Command
command_of words =
    if has_form (codes "check") 3 words
    then Some (check (command_word 1 words) (command_word 2 words))
    else if has_form (codes "list") 3 words
    then Some (list (command_word 1 words) (command_word 2 words))
    else if has_form (codes "simulate") 3 words
    then Some (simulate (command_word 1 words) (command_word 2 words))
    else if has_form (codes "sets") 2 words then Some (sets (command_word 1 words))
    else if has_form (codes "analyze") 2 words then Some (analyze (command_word 1 words))
    else if has_form (codes "classic") 2 words then Some (classic (command_word 1 words))
    else if has_form (codes "slack") 2 words then Some (slack (command_word 1 words))
    else if has_form (codes "refine") 2 words then Some (refine (command_word 1 words))
    else if has_form (codes "update") 4 words
    then Some (update (command_word 1 words) (command_word 2 words) (command_word 3 words))
    else if has_form (codes "generate") 2 words
    then option_map generate (command_number (command_word 1 words))
    else if has_form (codes "explain") 4 words
    then Some (explain (command_word 1 words) (command_word 2 words) (command_word 3 words))
    else None
