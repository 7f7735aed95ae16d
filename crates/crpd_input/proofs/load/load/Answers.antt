use Rattle.std.proofs.Common.{rules}
use Rattle.std.proofs.Common.{List, ℕ, Result, ap}
use Rattle.crpd_io.specs.Whole.{FileRefusal}
use Rattle.crpd_input.specs.Steps.{bytes_in, plain_refusal, refused_file}
use Rattle.crpd_input.specs.declared.cause.Cause.TheVariants as cause
use Rattle.crpd_input.proofs.Stopping.{one_stop}
use Rattle.crpd_input.proofs.load.load.Goals as goal

pub returns-in-Err-Fault-clause-exact : goal.returns-in-Err-Fault-clause-exact
returns-in-Err-Fault-clause-exact g c = λ contents told. tt

pub returns-in-Err-Fault-clause-files : goal.returns-in-Err-Fault-clause-files
returns-in-Err-Fault-clause-files g c = search rules

pub returns-in-Err-NoFile-clause-exact : goal.returns-in-Err-NoFile-clause-exact
returns-in-Err-NoFile-clause-exact g c = λ contents told.
    let name = c.args.name.now in
    let why = rw c.in-Err-NoFile.field-0-is at (c.in-Err-NoFile.ensures.exact contents told) in
    one_stop (bytes_in c.args.most contents name) (plain_refusal cause.NoFile name)
    c.refuse_plainly.result
    (ap (λ (r : Result (List ℕ) FileRefusal). refused_file name r) why)
    c.refuse_plainly.ensures

pub returns-in-Err-FileTooLong-clause-exact : goal.returns-in-Err-FileTooLong-clause-exact
returns-in-Err-FileTooLong-clause-exact g c = λ contents told.
    let name = c.args.name.now in
    let why = rw c.in-Err-FileTooLong.field-0-is
    at (c.in-Err-FileTooLong.ensures.exact contents told) in
    one_stop (bytes_in c.args.most contents name) (plain_refusal cause.FileTooLong name)
    c.refuse_plainly-in-Err-FileTooLong.result
    (ap (λ (r : Result (List ℕ) FileRefusal). refused_file name r) why)
    c.refuse_plainly-in-Err-FileTooLong.ensures
