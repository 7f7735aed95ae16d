use Rattle.std.proofs.Common.{◌≡◌, [], ◌∷◌, ◌++◌, codes, length, length-append, rules, ◌∙◌}
use Rattle.std.proofs.Common.{append_assoc, string_bytes}
use Rattle.std.specs.Iterator.Adapters.{zip_first, zip_second}
use Rattle.std.specs.Slice.Iter.{iter_rest}
use Rattle.std.proofs.lemmas.Slice.Zip.{zip_end, zip_turn}
use Rattle.crpd_report.specs.Refine.{refined_line, refined_text}
use Rattle.crpd_report.proofs.Zipped.{all_the_lines, one_line_more}
use Rattle.crpd_report.proofs.refine.add_tasks.Goals as goal

pub loop-task-preserved : goal.loop-task-preserved
loop-task-preserved c =
    let first : iter_rest (zip_first c.into_iter-task-iterator.result) ≡ c.args.set.now.tasks =
    search rules in
    let second : iter_rest (zip_second c.into_iter-task-iterator.result)
    ≡ c.args.tasks.now = search rules in
    let turn = zip_turn c.args.set.now.tasks c.args.tasks.now c.loop-task.yielded
    c.into_iter-task-iterator.result c.loop-task.task-iterator c.next.new.self c.next.result first
    second c.loop-task.yielded_by (c.in-Some.task, c.in-Some.refined) c.in-Some.is
    c.next.ensures.steps in
    one_line_more refined_line c.args.set.now.tasks c.args.tasks.now
    (string_bytes c.args.text.now ++ (codes "yes" ++ 10 ∷ [])) (length c.loop-task.yielded)
    (length (c.loop-task.yielded ++ (c.in-Some.task, c.in-Some.refined) ∷ [])) c.in-Some.task.now
    c.in-Some.refined.now
    (string_bytes c.loop-task.text) (string_bytes c.add_task.new.text)
    (length-append c.loop-task.yielded ((c.in-Some.task, c.in-Some.refined) ∷ [])) turn.0 turn.1
    (turn.2 c.in-Some.task.now) (turn.3 c.in-Some.refined.now)
    c.loop-task.invariant (search rules)

pub returns : goal.returns
unfolding refined_text
returns c =
    let first : iter_rest (zip_first c.into_iter-task-iterator.result) ≡ c.args.set.now.tasks =
    search rules in
    let second : iter_rest (zip_second c.into_iter-task-iterator.result)
    ≡ c.args.tasks.now = search rules in
    all_the_lines refined_line c.args.set.now.tasks c.args.tasks.now
    (string_bytes c.args.text.now ++ (codes "yes" ++ 10 ∷ [])) (length c.loop-task.yielded)
    (string_bytes c.loop-task.text)
    (zip_end c.args.set.now.tasks c.args.tasks.now c.loop-task.yielded
    c.into_iter-task-iterator.result c.loop-task.task-iterator c.next.new.self c.next.result first
    second c.loop-task.yielded_by c.in-None.is c.next.ensures.steps)
    c.loop-task.invariant
    ∙ append_assoc (string_bytes c.args.text.now) (codes "yes" ++ 10 ∷ []) _
