-- The files that were asked for.
use Rattle.std.specs.Prelude.{◌≡◌, ℕ, List, [], ◌∷◌, ◌++◌}
use Rattle.crpd_io.specs.Answers.{FileAnswer}

-- the names in a log, whose answers are newest first, in the order of the questions
abbrev pub names_asked : List FileAnswer → List (List ℕ)
names_asked [] = []
names_asked (answer ∷ answers) = names_asked answers ++ answer.name ∷ []

-- the files of these names were asked for, in this order, and no others
pub record Asked (old new : List FileAnswer) (names : List (List ℕ)) : Type 0 where
  pub added : List FileAnswer
  pub are : new ≡ added ++ old
  pub named : names_asked added ≡ names
