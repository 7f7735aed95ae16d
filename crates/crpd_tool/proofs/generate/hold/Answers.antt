use Rattle.std.proofs.Common.{◌∙◌, ap, arith, get_or, List}
use Rattle.crpd_base.specs.declared.data.TaskSpec.{TaskSpec}
use Rattle.crpd_tool.proofs.MadeFiles.{seen_more}
use Rattle.crpd_tool.proofs.generate.hold.Goals as goal

pub loop-i-preserved : goal.loop-i-preserved
loop-i-preserved c =
    let tasks = c.args.set.now.tasks in
    let files = c.args.files.now in
    let task = c.index-as_slice-i.result in
    let i = c.loop-i.i in
    seen_more tasks files c.loop-i.kept.items c.push.new.self.items i task c.index-files-i.result
    c.in_ok-file.file.0 c.in_ok-file.file.1
    (omega arith) (omega arith)
    (c.index-as_slice-i.is ∙ ap (λ (l : List TaskSpec). get_or l i task) c.as_slice.ensures)
    c.index-files-i.is
    c.in_ok-file.ensures.name (c.in_ok-file.ensures.bytes ∙ c.as_slice-in-loop-i.ensures)
    c.in_ok-push.ensures.items
    c.loop-i.invariant
