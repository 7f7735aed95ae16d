-- The texts that several commands write.
use Rattle.std.specs.Prelude.{ℕ, List, [], ◌∷◌, ◌++◌, codes}
use Rattle.std.specs.Fmt.{decimal}

-- the line of a refusal
abbrev pub refusal_text : ℕ → List ℕ → List ℕ → List ℕ → List ℕ
refusal_text number name subject detail =
    codes "refused " ++ decimal number ++ codes " " ++ name ++ codes " " ++ subject ++ codes " "
    ++ detail ++ 10 ∷ []

-- the line of a task that has no window
abbrev pub unschedulable_text : List ℕ → List ℕ
unschedulable_text name = codes "unschedulable " ++ name ++ 10 ∷ []
