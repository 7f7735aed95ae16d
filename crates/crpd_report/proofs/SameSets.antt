-- Parts whose sets have the same numbers have the same text.
use Rattle.std.proofs.Common.{◌≡◌, ℕ, suc, ◌<◌, List, [], ◌∷◌, ◌++◌, length, Some, refl, ap, ◌∙◌}
use Rattle.std.proofs.Common.{arith, codes, slice_get, flat_map, zip}
use Rattle.crpd_base.specs.Sets.{has}
use Rattle.crpd_base.specs.declared.data.Part.{Part}
use Rattle.crpd_base.specs.declared.data.TaskSet.{TaskSet}
use Rattle.crpd_base.specs.declared.data.TaskSpec.{TaskSpec}
use Rattle.crpd_report.specs.List.{those_below}
use Rattle.crpd_report.specs.Sets.{part_lines, number_text, numbers_text, sets_text, task_lines}

-- the sets of two parts have the same numbers
pub record HasSameSets (p q : Part) : Type 0 where
  pub evicting : has p.evicting ≡ has q.evicting
  pub useful : has p.useful ≡ has q.useful

-- the parts of two lists have the same sets, place by place
abbrev pub HaveSameSets : List Part → List Part → Type 0
HaveSameSets ps qs =
    (k : ℕ) (p q : Part) → k < length ps → slice_get ps k ≡ Some p → slice_get qs k ≡ Some q
    → HasSameSets p q

same_numbers : (x y : List ℕ) → has x ≡ has y → numbers_text x ≡ numbers_text y
unfolding numbers_text
same_numbers x y same = ap (λ p. flat_map number_text (those_below 512 p)) same

same_lines : (p q : Part) (name : List ℕ) → HasSameSets p q → part_lines name p ≡ part_lines name q
same_lines p q name S =
    ap (λ n. (name ++ codes " evicting" ++ n ++ 10 ∷ [])
    ++ (name ++ codes " useful" ++ numbers_text p.useful ++ 10 ∷ []))
    (same_numbers p.evicting q.evicting S.evicting)
    ∙ ap (λ n. (name ++ codes " evicting" ++ numbers_text q.evicting ++ 10 ∷ [])
    ++ (name ++ codes " useful" ++ n ++ 10 ∷ [])) (same_numbers p.useful q.useful S.useful)

same_tasks : (tasks : List TaskSpec) (ps qs : List Part) → length ps ≡ length qs
    → HaveSameSets ps qs → flat_map task_lines (zip tasks ps) ≡ flat_map task_lines (zip tasks qs)
same_tasks [] ps qs long each = refl
same_tasks (t ∷ ts) [] [] long each = refl
same_tasks (t ∷ ts) [] (q ∷ qs) long each = absurd (omega (arith, long))
same_tasks (t ∷ ts) (p ∷ ps) [] long each = absurd (omega (arith, long))
same_tasks (t ∷ ts) (p ∷ ps) (q ∷ qs) long each =
    ap (λ l. l ++ flat_map task_lines (zip ts ps))
    (same_lines p q t.name (each 0 p q (omega arith) refl refl))
    ∙ ap (λ l. part_lines t.name q ++ l)
    (same_tasks ts ps qs (omega (arith, long))
    (λ k x y lt at_x at_y. each (suc k) x y (omega (arith, lt)) at_x at_y))

pub same_text : (set : TaskSet) (ps qs : List Part) → length ps ≡ length qs → HaveSameSets ps qs
    → sets_text set ps ≡ sets_text set qs
unfolding sets_text
same_text set ps qs long each = same_tasks set.tasks ps qs long each
