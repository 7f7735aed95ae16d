use Rattle.crpd_input.specs.Reading.{set_in}
use Rattle.crpd_input.specs.Steps.{Exactly}
use Rattle.crpd_input.proofs.Chain.{stops_so}
use Rattle.crpd_input.proofs.Stopping.{leaves_both, stops_first}
use Rattle.crpd_io.proofs.Logs.{earlier, later}
use Rattle.crpd_tool.specs.List.{list_from_set, list_of}
use Rattle.std.proofs.Common.{[], ◌∷◌, Ok, refl}
use Rattle.crpd_input.specs.Asking.{files_of_set, set_files}
use Rattle.crpd_input.proofs.Asking.{asks_both, asks_names, asks_same, asks_some, files_read}
use Rattle.crpd_tool.proofs.list.list.Goals as goal

pub returns-in_err-set-clause-exact : goal.returns-in_err-set-clause-exact
returns-in_err-set-clause-exact g c = λ contents told.
    let file = c.args.file.now in
    let halt = c.in_err-set.field-0.0 in
    stops_so (Exactly (list_of contents file c.args.name.now)) c.from_residual.result halt
    c.from_residual.ensures.1
    (stops_first (set_in contents file) (list_from_set contents file c.args.name.now) halt
    (c.in_err-set.ensures.exact contents told))

pub returns-clause-exact : goal.returns-clause-exact
returns-clause-exact g c = λ contents told.
    let one = c.in_ok-set.ensures.files.3 in
    let two = c.list_task.ensures.files.3 in
    rw (c.in_ok-set.ensures.exact contents (earlier one two told))
    (c.list_task.ensures.exact contents (later one two told))

pub returns-clause-files : goal.returns-clause-files
returns-clause-files g c =
    leaves_both g.F.Files.contents g.F.Files.faults g.F.Files.log _ _ _ _ _ _
    c.in_ok-set.ensures.files c.list_task.ensures.files (λ e. e)

pub returns-in_err-set-clause-asks : goal.returns-in_err-set-clause-asks
returns-in_err-set-clause-asks g c =
    let file = c.args.file.now in
    asks_some c.in_err-set.ensures.asked (λ contents. set_files contents file)
    (λ contents. files_of_set (set_in contents file)) _ c.from_residual.result
    c.from_residual.ensures.1 (λ contents since. refl)

pub returns-clause-asks : goal.returns-clause-asks
returns-clause-asks g c =
    let file = c.args.file.now in
    let set = c.in_ok-set.set in
    let one = c.in_ok-set.ensures.files.3 in
    let two = c.list_task.ensures.files.3 in
    asks_same (λ contents. set_files contents file)
    (asks_both one two set
    (asks_names c.in_ok-set.ensures.asked (λ contents. file ∷ []) (Ok set)
    (λ contents since. refl)) c.list_task.ensures.asks)
    (λ contents since. files_read contents file set
    (c.in_ok-set.ensures.exact contents (earlier one two since)))
