use Rattle.rollout_laws.proofs.Again.{every_applied_is_sound, every_may_go_on, every_goes_on_as_held, every_later_may_begin}
use Rattle.rollout_laws.proofs.schedules.a_rollout_may_begin_again.Goals as goal

pub returns : goal.returns
returns c = record { sound = every_applied_is_sound; pairs = every_may_go_on; held = every_goes_on_as_held; later = every_later_may_begin }
