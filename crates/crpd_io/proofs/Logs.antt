-- Logs of answers: what a sequence of steps adds to them, and which contents agree.
use Rattle.std.proofs.Common.{◌≡◌, ◌∙◌, List, [], ◌∷◌, ◌++◌, Option, Some}
use Rattle.std.proofs.Common.{ap, subst, sym, append_assoc}
use Rattle.std.proofs.lemmas.List.{append_cancel_right}
use Rattle.crpd_io.specs.Answers.{AreOrderly, AreReadOnce, FileAnswer, Fits}
use Rattle.crpd_io.specs.Outside.{Contents, Agrees, AddsAnswers, AgreesSince}

agrees_both : (c : Contents) (xs ys : List FileAnswer) → Agrees c xs → Agrees c ys
    → Agrees c (xs ++ ys)
agrees_both c [] ys one two = two
agrees_both c (x ∷ xs) ys one two = (one.0, agrees_both c xs ys one.1 two)

agrees_parts : (c : Contents) (xs ys : List FileAnswer) → Agrees c (xs ++ ys)
    → Agrees c xs × Agrees c ys
agrees_parts c [] ys all = (tt, all)
agrees_parts c (x ∷ xs) ys all =
    let rest = agrees_parts c xs ys all.1 in ((all.0, rest.0), rest.1)

orderly_both : (xs ys : List FileAnswer) → AreOrderly xs → AreOrderly ys → AreOrderly (xs ++ ys)
orderly_both [] ys one two = two
orderly_both (x ∷ xs) ys one two = (one.0, orderly_both xs ys one.1 two)

-- a step that asks for no file adds no answer
pub adds_none : (stated : Option Contents) (old new : List FileAnswer) → new ≡ old
    → AddsAnswers stated old new
adds_none stated old new same =
    record { added = []; are = same; right = λ c is. tt; orderly = tt }

-- a file that is asked for once adds its answer
pub adds_one : (stated : Option Contents) (old new : List FileAnswer) (answer : FileAnswer)
    → new ≡ answer ∷ old → ((c : Contents) → stated ≡ Some c → Fits (c answer.name) answer)
    → AreReadOnce answer.size answer.reads → AddsAnswers stated old new
adds_one stated old new answer is right once =
    record { added = answer ∷ []; are = is; right = λ c here. (right c here, tt); orderly = (once, tt) }

-- stated contents agree with what was added
pub stated_agrees : {stated : Option Contents} {old new : List FileAnswer}
    → AddsAnswers stated old new → (c : Contents) → stated ≡ Some c → AgreesSince old new c
stated_agrees adds c is = record { added = adds.added; are = adds.are; agrees = adds.right c is }

-- who agrees with one more answer holds it right
pub the_answer : {old new : List FileAnswer} {c : Contents} (answer : FileAnswer)
    → new ≡ answer ∷ old → AgreesSince old new c → Fits (c answer.name) answer
the_answer {old} {new} {c} answer is since =
    let same = append_cancel_right since.added (answer ∷ []) old (sym since.are ∙ is) in
    let right = subst (λ (xs : List FileAnswer). Agrees c xs) same since.agrees in right.0

-- two steps in sequence
module _ {stated now : Option Contents} {first middle last : List FileAnswer}
    (one : AddsAnswers stated first middle) (two : AddsAnswers now middle last) where
  together : last ≡ two.added ++ one.added ++ first
  together =
      two.are ∙ ap (λ (log : List FileAnswer). two.added ++ log) one.are
      ∙ sym (append_assoc two.added one.added first)

  pub adds_both : now ≡ stated → AddsAnswers stated first last
  adds_both same = record {
    added = two.added ++ one.added;
    are = together;
    right = λ c is.
        agrees_both c two.added one.added (two.right c (same ∙ is)) (one.right c is);
    orderly = orderly_both two.added one.added two.orderly one.orderly;
  }

  split : {c : Contents} → AgreesSince first last c → Agrees c two.added × Agrees c one.added
  split {c} since =
      let same = append_cancel_right since.added (two.added ++ one.added) first
      (sym since.are ∙ together) in
      agrees_parts c two.added one.added
      (subst (λ (xs : List FileAnswer). Agrees c xs) same since.agrees)

  -- who agrees with the answers of both steps agrees with those of the first
  pub earlier : {c : Contents} → AgreesSince first last c → AgreesSince first middle c
  earlier since = record { added = one.added; are = one.are; agrees = (split since).1 }

  -- and with those of the second
  pub later : {c : Contents} → AgreesSince first last c → AgreesSince middle last c
  later since = record { added = two.added; are = two.are; agrees = (split since).0 }
