use Rattle.rollback_plan.proofs.StageStarts.{stage-is_sound, contents-at}
use Rattle.rollback_plan.proofs.stages.each_stage_is_a_sound_start.Goals as goal

pub returns : goal.returns
returns c = record { sound = stage-is_sound; content = contents-at }
