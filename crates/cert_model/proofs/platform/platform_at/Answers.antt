use Rattle.std.proofs.Common.{arith}
use Rattle.cert_model.specs.Inner.Platforms.{platform_keys}
use Rattle.cert_model.proofs.platform.platform_at.Goals as goal

pub returns-in_err-mul : goal.returns-in_err-mul
unfolding platform_keys
returns-in_err-mul c = grind arith

pub returns-in_err-switch : goal.returns-in_err-switch
unfolding platform_keys
returns-in_err-switch c = grind arith

pub returns-in_err-switching : goal.returns-in_err-switching
unfolding platform_keys
returns-in_err-switching c = grind arith

pub returns-in_err-taken : goal.returns-in_err-taken
unfolding platform_keys
returns-in_err-taken c = grind arith
