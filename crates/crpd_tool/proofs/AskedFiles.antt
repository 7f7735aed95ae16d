-- The files that a run asks for, from those that its command asks for.
use Rattle.std.proofs.Common.{◌≡◌, ◌∙◌, ℕ, List, [], ◌++◌, Option, None, Some, Result, ap, sym}
use Rattle.std.specs.Option.{option_map_or}
use Rattle.crpd_io.specs.Outside.{Contents, FileAnswer}
use Rattle.crpd_input.specs.Asking.{AsksFor}
use Rattle.crpd_input.specs.declared.halt.Halt.{Halt}
use Rattle.crpd_input.proofs.Asking.{asked_none}
use Rattle.crpd_tool.specs.Asking.{AsksInOrder, files_named}
use Rattle.crpd_tool.specs.Commands.{Command, command_of}

-- the files of a command that words may mean
abbrev files_if : Contents → Option Command → List (List ℕ)
files_if contents found = option_map_or (λ command. files_named command contents) found []

-- words of no command's form
pub asks_nothing : (old : List FileAnswer) (words : List (List ℕ)) → None ≡ command_of words
    → AsksInOrder words old old
asks_nothing old words none = record {
  names = [];
  asked = asked_none old;
  first = λ contents since. ([], ap (files_if contents) (sym none));
}

-- words of a command
pub asks_files : {A : Type 0} {old new : List FileAnswer} {result : Result A Halt}
    (words : List (List ℕ)) (command : Command) → Some command ≡ command_of words
    → AsksFor old new (files_named command) result → AsksInOrder words old new
asks_files words command is asks = record {
  names = asks.names;
  asked = asks.asked;
  first = λ contents since.
      let first = asks.first contents since in
      (first.0, ap (files_if contents) (sym is) ∙ first.1);
}
