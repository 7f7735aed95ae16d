use Rattle.std.proofs.Common.{arith}
use Rattle.set_reader.proofs.Parts.{fields_in_parts}
use Rattle.set_reader.proofs.task.fields_at.Goals as goal

pub returns-in_err-all_known : goal.returns-in_err-all_known
returns-in_err-all_known c = rw fields_in_parts (grind arith)

pub returns-in_err-name : goal.returns-in_err-name
returns-in_err-name c = rw fields_in_parts (grind arith)

pub returns-in_err-file : goal.returns-in_err-file
returns-in_err-file c = rw fields_in_parts (grind arith)

pub returns-in_err-entry : goal.returns-in_err-entry
returns-in_err-entry c = rw fields_in_parts (grind arith)

pub returns-in_err-load : goal.returns-in_err-load
returns-in_err-load c = rw fields_in_parts (grind arith)

pub returns : goal.returns
returns c = rw fields_in_parts (grind arith)
