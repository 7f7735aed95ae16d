use Rattle.std.proofs.Common.{◌≡◌, ◌∙◌, ◌++◌, ◌∷◌, [], ℕ, Global, List, Ok, Vec, ap}
use Rattle.std.proofs.lemmas.List.{append_assoc}
use Rattle.std.specs.Fmt.{decimal}
use Rattle.std.specs.Prelude.{codes, string_bytes}
use Rattle.crpd_report.specs.Generate.{made_line}
use Rattle.crpd_tool.proofs.generate.answer_behind_line.Goals as goal

-- the line, from its parts
joined : (n m : List ℕ) → codes "generated " ++ (n ++ (codes " tasks 16 nodes " ++ (m ++ 10 ∷ [])))
    ≡ codes "generated " ++ n ++ codes " tasks 16 nodes " ++ m ++ 10 ∷ []
joined n m = simp append_assoc

pub returns : goal.returns
returns c =
    let line : string_bytes c.in_ok-line.line ≡ made_line c.args.number c.args.nodes =
    c.in_ok-line.ensures.ok ∙ joined (decimal c.args.number) (decimal c.args.nodes) in
    let text : c.new.result ≡ made_line c.args.number c.args.nodes ++ c.args.answer.now.text =
    c.new.ensures ∙ c.in_ok-extend_from_slice.ensures.items
    ∙ ap (λ (l : List ℕ). l ++ c.as_slice.result.now)
    (ap (λ (v : Vec ℕ Global). v.items) c.into_bytes-text.ensures.value ∙ line)
    ∙ ap (λ (l : List ℕ). made_line c.args.number c.args.nodes ++ l) c.as_slice.ensures in
    ap (λ (t : List ℕ). Ok (record { text = t; outcome = c.args.answer.now.outcome })) text
