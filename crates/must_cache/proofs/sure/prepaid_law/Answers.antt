use Rattle.must_cache.proofs.PrepaidLaws.{prepaid_sure}
use Rattle.must_cache.proofs.sure.prepaid_law.Goals as goal

pub returns : goal.returns
returns c = prepaid_sure
