use Rattle.std.proofs.Common.{arith}
use Rattle.std.proofs.lemmas.Bool.Decides.{nat_tests}
use Rattle.std.proofs.lemmas.Grind.{common_steps}
use Rattle.cert_model.specs.Kinds.{objects}
use Rattle.cert_model.proofs.kinds.objects.Goals as goal

pub returns-in_default : goal.returns-in_default
unfolding objects
returns-in_default c = grind arith

pub loop-value-init : goal.loop-value-init
loop-value-init c = grind (arith, common_steps)

pub returns-in_default-as_object : goal.returns-in_default-as_object
unfolding objects
returns-in_default-as_object c = grind (arith, common_steps)

pub loop-value-preserved : goal.loop-value-preserved
loop-value-preserved c = grind (arith, common_steps)

pub returns-then-few : goal.returns-then-few
unfolding objects
returns-then-few c = grind (arith, common_steps, nat_tests)

pub returns : goal.returns
unfolding objects
returns c = grind (arith, common_steps, nat_tests)
