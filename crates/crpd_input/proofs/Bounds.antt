-- The stated loops of a set's plans have bounds from 1 to 1,000,000.
use Rattle.std.proofs.Common.{◌≡◌, ℕ, ◌+◌, ◌≤◌, List, [], ◌∷◌, Ok, subst, All, is_some}
use Rattle.std.proofs.lemmas.List.Elements.{All-nil, All-cons, All-head, All-tail}
use Rattle.crpd_base.proofs.Results.{bind_ok, ok_is}
use Rattle.crpd_base.specs.Ranges.{IsLoopSpec, IsTaskSpec}
use Rattle.crpd_base.specs.declared.data.Image.{Image}
use Rattle.crpd_base.specs.declared.data.LoopAt.{LoopAt}
use Rattle.crpd_base.specs.declared.data.LoopSpec.{LoopSpec}
use Rattle.crpd_base.specs.declared.data.Symbol.{Symbol}
use Rattle.crpd_base.specs.declared.data.Task.{Task}
use Rattle.crpd_base.specs.declared.data.TaskPlan.{TaskPlan}
use Rattle.crpd_base.specs.declared.data.TaskSet.{TaskSet}
use Rattle.crpd_base.specs.declared.data.TaskSpec.{TaskSpec}
use Rattle.rv_decode.specs.Flow.{Words}
use Rattle.crpd_base.specs.Outcome.{ensure, each}
use Rattle.code_map.specs.Places as place
use Rattle.code_map.specs.Places.{address_of, entry_of, loop_of, plans_of, range_of}
use Rattle.code_map.specs.Reading.{code_of, files_of}
use Rattle.code_map.specs.Words.{Code, word_at}
use Rattle.code_map.specs.declared.error.MapError.TheVariants.{EntryOutside}
use Rattle.loop_regions.specs.CodeNest.{AreBounded}
use Rattle.task_shapes.specs.Inputs.{HasBoundedLoops}

abbrev IsBounded : LoopAt → Type 0
IsBounded l = (1 ≤ l.bound) × (l.bound ≤ 1000000)

loop_bounded : (task : Task) (symbols : List Symbol) (spec : LoopSpec) (l : LoopAt)
    → IsLoopSpec spec → loop_of task symbols spec ≡ Ok l → IsBounded l
unfolding loop_of
loop_bounded task symbols spec l is e =
    let head = bind_ok (address_of task symbols spec.head) _ l e in
    let ranges = bind_ok (each (range_of task symbols) spec.ranges) _ l head.2 in
    subst IsBounded
    (ok_is (record { head = head.0; bound = spec.bound; ranges = ranges.0 }) l ranges.2) is

loops_bounded : (task : Task) (symbols : List Symbol) (specs : List LoopSpec) (loops : List LoopAt)
    → All IsLoopSpec specs → each (loop_of task symbols) specs ≡ Ok loops → AreBounded loops
unfolding each
loops_bounded task symbols [] loops are e = subst AreBounded (ok_is [] loops e) (All-nil IsBounded)
loops_bounded task symbols (spec ∷ specs) loops are e =
    let first = bind_ok (loop_of task symbols spec) _ loops e in
    let later = bind_ok (each (loop_of task symbols) specs) _ loops first.2 in
    let one = loop_bounded task symbols spec first.0 (All-head IsLoopSpec spec specs are) first.1 in
    let rest = loops_bounded task symbols specs later.0
    (All-tail IsLoopSpec spec specs are) later.1 in
    subst AreBounded (ok_is (first.0 ∷ later.0) loops later.2)
    (All-cons IsBounded first.0 later.0 one rest)

-- each loop of a plan has a bound from 1 to 1,000,000
abbrev HasBounds : TaskPlan → Type 0
HasBounds plan = AreBounded plan.loops

plan_bounded : (word : Words) (task : Task) (spec : TaskSpec) (image : Image) (plan : TaskPlan)
    → IsTaskSpec spec → place.plan_of word task spec image ≡ Ok plan → HasBounds plan
unfolding place.plan_of
plan_bounded word task spec image plan is e =
    let entry = bind_ok (entry_of task image spec.entry) _ plan e in
    let stack = bind_ok (address_of task image.symbols spec.stack) _ plan entry.2 in
    let global = bind_ok (address_of task image.symbols spec.global) _ plan stack.2 in
    let loops = bind_ok (each (loop_of task image.symbols) spec.loops) _ plan global.2 in
    let there = bind_ok (ensure (is_some (word entry.0)) (EntryOutside task entry.0)) _
    plan loops.2 in
    subst HasBounds
    (ok_is (record { entry = entry.0; stack = stack.0; global = global.0; loops = loops.0 })
    plan there.2)
    (loops_bounded task image.symbols spec.loops loops.0 is.loops loops.1)

plans_bounded : (word : Words) (n : ℕ) (tasks : List TaskSpec) (images : List Image)
    (plans : List TaskPlan) → All IsTaskSpec tasks → plans_of word n tasks images ≡ Ok plans
    → All HasBounds plans
unfolding plans_of
plans_bounded word n [] images plans are e =
    subst (All HasBounds) (ok_is [] plans e) (All-nil HasBounds)
plans_bounded word n (t ∷ tasks) [] plans are e =
    subst (All HasBounds) (ok_is [] plans e) (All-nil HasBounds)
plans_bounded word n (t ∷ tasks) (image ∷ images) plans are e =
    let first = bind_ok (place.plan_of word (record { 0 = n }) t image) _ plans e in
    let later = bind_ok (plans_of word (n + 1) tasks images) _ plans first.2 in
    let one = plan_bounded word (record { 0 = n }) t image first.0
    (All-head IsTaskSpec t tasks are) first.1 in
    let rest = plans_bounded word (n + 1) tasks images later.0
    (All-tail IsTaskSpec t tasks are) later.1 in
    subst (All HasBounds) (ok_is (first.0 ∷ later.0) plans later.2)
    (All-cons HasBounds first.0 later.0 one rest)

-- each loop of a code's plans has a bound from 1 to 1,000,000
pub code_bounded : (set : TaskSet) (images : List Image) (code : Code) → All IsTaskSpec set.tasks
    → code_of set images ≡ Ok code → HasBoundedLoops code
unfolding code_of
code_bounded set images code are e =
    let files = bind_ok (files_of images) _ code e in
    let plans = bind_ok (plans_of (word_at files.0) 0 set.tasks files.0) _ code files.2 in
    subst HasBoundedLoops (ok_is (record { images = files.0; plans = plans.0 }) code plans.2)
    (plans_bounded (word_at files.0) 0 set.tasks files.0 plans.0 are plans.1)
