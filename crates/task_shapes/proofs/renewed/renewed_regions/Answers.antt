use Rattle.std.proofs.Common.{◌≡◌, ◌<◌, ◌∙◌, ℕ, List, length, get_or, Some, sym, ap, subst, arith}
use Rattle.std.specs.Prelude.{slice_get}
use Rattle.std.proofs.lemmas.Option.{get_or_from_slice_get, slice_get-get_or}
use Rattle.loop_regions.specs.CodeNest.{CodeNest}
use Rattle.loop_regions.specs.TaskGraphs.{no_nest}
use Rattle.task_shapes.specs.Inner.SameTask.{IsSource, IsTaken}
use Rattle.task_shapes.proofs.SameTask.{nest_serves, regions_serve}
use Rattle.task_shapes.proofs.renewed.renewed_regions.Goals as goal

-- a copy of the regions at a place
copied : (nests read_nests : List CodeNest) (j : ℕ) (read copy : CodeNest) → j < length nests
    → read_nests ≡ nests → read ≡ get_or read_nests j read → copy ≡ read
    → slice_get nests j ≡ Some copy
copied nests read_nests j read copy lt are at same =
    slice_get-get_or nests j read lt
    ∙ ap (λ (n : CodeNest). Some n)
    (ap (λ (ns : List CodeNest). get_or ns j read) (sym are) ∙ sym at ∙ sym same)

pub returns-in_ok-copy-in-Some-clause-exact : goal.returns-in_ok-copy-in-Some-clause-exact
returns-in_ok-copy-in-Some-clause-exact c =
    let old = c.args.old.now in
    let k = c.args.task.0 in
    let j = c.in-Some.place in
    let source = subst (λ o. IsSource old c.args.input.now k o) c.in-Some.is c.requires.source in
    let lt : j < length old.nests =
    omega (arith, c.shaped_law.ensures.shown.all_nests, source.1) in
    regions_serve old c.args.input.now c.args.graphs.now j k c.shaped_law.ensures source.2
    c.requires.graphs (omega (arith, c.requires.task, c.requires.graphs.0))
    c.in_ok-copy-in-Some.field-0
    (copied old.nests c.nests.result.now j c.index-nests-place.result c.in_ok-copy-in-Some.field-0
    lt c.nests.ensures c.index-nests-place.is c.in_ok-copy-in-Some.ensures)

pub returns-in_ok-copy-in-Some-clause-shown : goal.returns-in_ok-copy-in-Some-clause-shown
returns-in_ok-copy-in-Some-clause-shown c =
    let old = c.args.old.now in
    let k = c.args.task.0 in
    let j = c.in-Some.place in
    let source = subst (λ o. IsSource old c.args.input.now k o) c.in-Some.is c.requires.source in
    let lt : j < length old.nests =
    omega (arith, c.shaped_law.ensures.shown.all_nests, source.1) in
    nest_serves old c.args.input.now c.args.graphs.now j k c.shaped_law.ensures source.2
    c.requires.graphs (omega (arith, c.requires.task, c.requires.graphs.0)) source.1
    c.in_ok-copy-in-Some.field-0
    (copied old.nests c.nests.result.now j c.index-nests-place.result c.in_ok-copy-in-Some.field-0
    lt c.nests.ensures c.index-nests-place.is c.in_ok-copy-in-Some.ensures)

pub returns-in_ok-copy-in-Some-clause-taken : goal.returns-in_ok-copy-in-Some-clause-taken
returns-in_ok-copy-in-Some-clause-taken c =
    let old = c.args.old.now in
    let k = c.args.task.0 in
    let j = c.in-Some.place in
    let source = subst (λ o. IsSource old c.args.input.now k o) c.in-Some.is c.requires.source in
    let lt : j < length old.nests =
    omega (arith, c.shaped_law.ensures.shown.all_nests, source.1) in
    subst (λ o. IsTaken old.nests o c.in_ok-copy-in-Some.field-0) (sym c.in-Some.is)
    (sym (get_or_from_slice_get old.nests j c.in_ok-copy-in-Some.field-0 no_nest
    (copied old.nests c.nests.result.now j c.index-nests-place.result c.in_ok-copy-in-Some.field-0
    lt c.nests.ensures c.index-nests-place.is c.in_ok-copy-in-Some.ensures)))
