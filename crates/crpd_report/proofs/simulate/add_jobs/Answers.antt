use Rattle.std.proofs.Common.{◌≡◌, [], ◌∷◌, ◌++◌, length, length-append, rules, string_bytes}
use Rattle.std.specs.Iterator.Adapters.{zip_first, zip_second}
use Rattle.std.specs.Slice.Iter.{iter_rest}
use Rattle.std.proofs.lemmas.Slice.Zip.{zip_end, zip_turn}
use Rattle.crpd_report.specs.Simulate.{job_line, job_lines}
use Rattle.crpd_report.proofs.Zipped.{all_the_lines, one_line_more}
use Rattle.crpd_report.proofs.simulate.add_jobs.Goals as goal

pub loop-job-preserved : goal.loop-job-preserved
loop-job-preserved c =
    let first : iter_rest (zip_first c.into_iter-job-iterator.result) ≡ c.args.jobs.now =
    search rules in
    let second : iter_rest (zip_second c.into_iter-job-iterator.result) ≡ c.args.completions.now =
    search rules in
    let turn = zip_turn c.args.jobs.now c.args.completions.now c.loop-job.yielded
    c.into_iter-job-iterator.result c.loop-job.job-iterator c.next.new.self c.next.result first
    second c.loop-job.yielded_by (c.in-Some.job, c.in-Some.completion) c.in-Some.is
    c.next.ensures.steps in
    one_line_more (job_line c.args.set.now) c.args.jobs.now c.args.completions.now
    (string_bytes c.args.text.now) (length c.loop-job.yielded)
    (length (c.loop-job.yielded ++ (c.in-Some.job, c.in-Some.completion) ∷ [])) c.in-Some.job.now
    c.in-Some.completion.now
    (string_bytes c.loop-job.text) (string_bytes c.add_job.new.text)
    (length-append c.loop-job.yielded ((c.in-Some.job, c.in-Some.completion) ∷ [])) turn.0 turn.1
    (turn.2 c.in-Some.job.now) (turn.3 c.in-Some.completion.now)
    c.loop-job.invariant (search rules)

pub returns : goal.returns
unfolding job_lines
returns c =
    let first : iter_rest (zip_first c.into_iter-job-iterator.result) ≡ c.args.jobs.now =
    search rules in
    let second : iter_rest (zip_second c.into_iter-job-iterator.result) ≡ c.args.completions.now =
    search rules in
    all_the_lines (job_line c.args.set.now) c.args.jobs.now c.args.completions.now
    (string_bytes c.args.text.now) (length c.loop-job.yielded) (string_bytes c.loop-job.text)
    (zip_end c.args.jobs.now c.args.completions.now c.loop-job.yielded
    c.into_iter-job-iterator.result c.loop-job.job-iterator c.next.new.self c.next.result first
    second c.loop-job.yielded_by c.in-None.is c.next.ensures.steps)
    c.loop-job.invariant
