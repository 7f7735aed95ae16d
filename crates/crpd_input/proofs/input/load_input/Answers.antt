use Rattle.std.proofs.Common.{◌∙◌, Ok, Result, ap, arith, rules, sym}
use Rattle.code_map.specs.Words.{Code}
use Rattle.crpd_base.specs.declared.data.TaskSet.{TaskSet}
use Rattle.task_shapes.specs.Inputs.{SetWithCode}
use Rattle.crpd_io.specs.Outside.{Contents}
use Rattle.std.proofs.Common.{ℕ, List}
use Rattle.crpd_io.proofs.Logs.{adds_both, earlier, later}
use Rattle.crpd_input.specs.Reading.{code_in, set_in}
use Rattle.crpd_input.specs.Steps.{and_then}
use Rattle.crpd_input.specs.declared.halt.Halt.{Halt}
use Rattle.std.proofs.Common.{[], ◌∷◌, refl}
use Rattle.crpd_input.specs.Asking.{files_of_set, set_files}
use Rattle.crpd_input.proofs.Asking.{asks_both, asks_end, asks_names, asks_same, asks_some}
use Rattle.crpd_input.proofs.Asking.{asks_stop, files_read}
use Rattle.crpd_input.proofs.Stopping.{ends_first, goes_first, leaves_both, passed_on}
use Rattle.crpd_input.proofs.input.load_input.Goals as goal

-- the set with its code
abbrev whole : TaskSet → Code → Result SetWithCode Halt
whole set code = Ok (record { set = set; code = code })

-- the steps after the set
abbrev from_set : Contents → List ℕ → TaskSet → Result SetWithCode Halt
from_set contents name set = and_then (code_in contents name set) (whole set)

pub returns-in_err-set-clause-exact : goal.returns-in_err-set-clause-exact
returns-in_err-set-clause-exact g c = λ contents told.
    ends_first (set_in contents c.args.name.now) (from_set contents c.args.name.now)
    c.in_err-set.field-0.0 c.from_residual.result c.from_residual.ensures.1
    (c.in_err-set.ensures.exact contents told)

pub returns-in_err-code-clause-exact : goal.returns-in_err-code-clause-exact
returns-in_err-code-clause-exact g c = λ contents told.
    let name = c.args.name.now in
    let set = c.in_ok-set.set in
    let one = c.in_ok-set.ensures.files.3 in
    let two = c.in_err-code.ensures.files.3 in
    goes_first (set_in contents name) (from_set contents name) set
    c.from_residual-in_err-code.result
    (c.in_ok-set.ensures.exact contents (earlier one two told))
    (ends_first (code_in contents name set) (whole set) c.in_err-code.field-0.0
    c.from_residual-in_err-code.result c.from_residual-in_err-code.ensures.1
    (c.in_err-code.ensures.exact contents (later one two told)))

pub returns-in_err-code-clause-files : goal.returns-in_err-code-clause-files
returns-in_err-code-clause-files g c =
    leaves_both g.F.Files.contents g.F.Files.faults g.F.Files.log _ _ _ _ _ _
    c.in_ok-set.ensures.files c.in_err-code.ensures.files
    (passed_on c.in_err-code.field-0.0 c.from_residual-in_err-code.result
    c.from_residual-in_err-code.ensures.1)

pub returns-in_err-input-clause-files : goal.returns-in_err-input-clause-files
returns-in_err-input-clause-files g c = (
  c.in_ok-code.ensures.files.0 ∙ c.in_ok-set.ensures.files.0,
  omega (arith, c.in_ok-code.ensures.files.1, c.in_ok-set.ensures.files.1),
  search rules,
  adds_both c.in_ok-set.ensures.files.3 c.in_ok-code.ensures.files.3 c.in_ok-set.ensures.files.0,
)

pub returns-clause-files : goal.returns-clause-files
returns-clause-files g c =
    leaves_both g.F.Files.contents g.F.Files.faults g.F.Files.log _ _ _ _ _ _
    c.in_ok-set.ensures.files c.in_ok-code.ensures.files (λ e. absurd cc)

pub returns-clause-exact : goal.returns-clause-exact
returns-clause-exact g c = λ contents told.
    let name = c.args.name.now in
    let set = c.in_ok-set.set in
    let one = c.in_ok-set.ensures.files.3 in
    let two = c.in_ok-code.ensures.files.3 in
    goes_first (set_in contents name) (from_set contents name) set (Ok c.in_ok-input.input)
    (c.in_ok-set.ensures.exact contents (earlier one two told))
    (goes_first (code_in contents name set) (whole set) c.in_ok-code.code (Ok c.in_ok-input.input)
    (c.in_ok-code.ensures.exact contents (later one two told))
    (ap (λ (i : SetWithCode). Ok i) (sym c.in_ok-input.ensures)))

pub returns-in_err-set-clause-asks : goal.returns-in_err-set-clause-asks
returns-in_err-set-clause-asks g c =
    let name = c.args.name.now in
    asks_some c.in_err-set.ensures.asked (λ contents. set_files contents name)
    (λ contents. files_of_set (set_in contents name)) _ c.from_residual.result
    c.from_residual.ensures.1 (λ contents since. refl)

pub returns-in_err-code-clause-asks : goal.returns-in_err-code-clause-asks
returns-in_err-code-clause-asks g c =
    let name = c.args.name.now in
    let set = c.in_ok-set.set in
    let one = c.in_ok-set.ensures.files.3 in
    let two = c.in_err-code.ensures.files.3 in
    asks_same (λ contents. set_files contents name)
    (asks_stop c.in_err-code.field-0.0 _
    (asks_both one two set
    (asks_names c.in_ok-set.ensures.asked (λ contents. name ∷ []) (Ok set)
    (λ contents since. refl)) c.in_err-code.ensures.asks)
    c.from_residual-in_err-code.result c.from_residual-in_err-code.ensures.1)
    (λ contents since. files_read contents name set
    (c.in_ok-set.ensures.exact contents (earlier one two since)))

pub returns-in_err-input-clause-asks : goal.returns-in_err-input-clause-asks
returns-in_err-input-clause-asks g c =
    let name = c.args.name.now in
    let set = c.in_ok-set.set in
    let one = c.in_ok-set.ensures.files.3 in
    let two = c.in_ok-code.ensures.files.3 in
    asks_same (λ contents. set_files contents name)
    (asks_end c.in_ok-code.code
    (asks_both one two set
    (asks_names c.in_ok-set.ensures.asked (λ contents. name ∷ []) (Ok set)
    (λ contents since. refl)) c.in_ok-code.ensures.asks) _)
    (λ contents since. files_read contents name set
    (c.in_ok-set.ensures.exact contents (earlier one two since)))

pub returns-clause-asks : goal.returns-clause-asks
returns-clause-asks g c =
    let name = c.args.name.now in
    let set = c.in_ok-set.set in
    let one = c.in_ok-set.ensures.files.3 in
    let two = c.in_ok-code.ensures.files.3 in
    asks_same (λ contents. set_files contents name)
    (asks_end c.in_ok-code.code
    (asks_both one two set
    (asks_names c.in_ok-set.ensures.asked (λ contents. name ∷ []) (Ok set)
    (λ contents since. refl)) c.in_ok-code.ensures.asks) _)
    (λ contents since. files_read contents name set
    (c.in_ok-set.ensures.exact contents (earlier one two since)))
