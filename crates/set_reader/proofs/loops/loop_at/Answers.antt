use Rattle.std.proofs.Common.{arith}
use Rattle.set_reader.specs.Reading.{loop_at, loop_keys}
use Rattle.set_reader.proofs.loops.loop_at.Goals as goal

pub returns-in_err-all_known : goal.returns-in_err-all_known
unfolding loop_at loop_keys
returns-in_err-all_known c = grind arith

pub returns-in_err-required : goal.returns-in_err-required
unfolding loop_at loop_keys
returns-in_err-required c = grind arith

pub returns-in_err-small_number : goal.returns-in_err-small_number
unfolding loop_at loop_keys
returns-in_err-small_number c = grind arith

pub returns-in_err-required-2 : goal.returns-in_err-required-2
unfolding loop_at loop_keys
returns-in_err-required-2 c = grind arith

pub returns : goal.returns
unfolding loop_at loop_keys
returns c = grind arith
