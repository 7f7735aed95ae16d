-- When there are contents that agree with all answers.
use Rattle.std.specs.Prelude.{◌≡◌, ◌⊎◌, ℕ, List, [], ◌∷◌, ◌++◌, Option}
use Rattle.crpd_io.specs.Answers.{FileAnswer, Fits}
use Rattle.crpd_io.specs.Outside.{AgreesSince, Contents}

-- a file was asked for
abbrev pub IsAsked : List ℕ → List FileAnswer → Type 0
IsAsked name [] = ⊥
IsAsked name (answer ∷ answers) = (answer.name ≡ name) ⊎ IsAsked name answers

-- a file was asked for at least twice
abbrev pub IsAskedTwice : List ℕ → List FileAnswer → Type 0
IsAskedTwice name [] = ⊥
IsAskedTwice name (answer ∷ answers) =
    ((answer.name ≡ name) × IsAsked name answers) ⊎ IsAskedTwice name answers

-- all answers about the file of this name are right for this file
abbrev pub FitsAll : Option (List ℕ) → List ℕ → List FileAnswer → Type 0
FitsAll file name [] = Unit {0}
FitsAll file name (answer ∷ answers) =
    (answer.name ≡ name → Fits file answer) × FitsAll file name answers

-- no file changed between the times that it was asked for
abbrev pub AreUnchanged : List FileAnswer → Type 0
AreUnchanged answers =
    (name : List ℕ) → IsAskedTwice name answers
    → (file : Option (List ℕ)) × FitsAll file name answers

-- if no file changed between the times that it was asked for, some contents agree with all answers
-- that were added
abbrev pub SomeContentsAgree : (old new : List FileAnswer) → Type 0
SomeContentsAgree old new =
    (added : List FileAnswer) → new ≡ added ++ old → AreUnchanged added
    → (c : Contents) × AgreesSince old new c
