use Rattle.delay_point.proofs.Holds.{refined_is_safe}
use Rattle.delay_point.proofs.NoLonger.{refined_is_no_longer}
use Rattle.delay_point.proofs.One.{one_refined}
use Rattle.delay_point.proofs.OneEnd.{one_refine_end}
use Rattle.delay_point.proofs.laws.refined_law.Goals as goal

pub returns : goal.returns
returns c = record {
  safe = refined_is_safe;
  one = one_refined;
  one_end = one_refine_end;
  no_longer = refined_is_no_longer;
}
