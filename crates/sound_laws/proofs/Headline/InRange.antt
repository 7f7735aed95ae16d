-- A task set in its ranges gives what the laws require of one, so its checked code is safe.
use Rattle.std.proofs.Common.{refl}
use Rattle.crpd_base.proofs.Times.{has_times}
use Rattle.crpd_base.specs.declared.data.TaskSet.{TaskSet}
use Rattle.crpd_base.specs.Ranges.{IsTaskSet}
use Rattle.preempt_machine.specs.Safe.{system_of}
use Rattle.sound_laws.specs.Headline.{CheckedCodeIsSafe}
use Rattle.sound_laws.specs.Walks.{HasTaskRanges}
use Rattle.sound_laws.proofs.Headline.YesIsSafe.{yes_is_safe}

pub in_range : (set : TaskSet) → IsTaskSet set → HasTaskRanges set
in_range set T =
    record {
      hit = T.platform.hit.0;
      sets = T.platform.sets.0;
      few_sets = T.platform.sets.1;
      periods = (has_times set T).period;
      deadlines = (has_times set T).deadline;
    }

pub checked_code_is_safe : CheckedCodeIsSafe
checked_code_is_safe set code graphs c K =
    yes_is_safe (system_of set code) set graphs c (record {
      in_range = in_range set K.ranges;
      code = record { platform = refl; map = K.words; graphs_of = K.graphs_of };
      says = K.says;
    })
