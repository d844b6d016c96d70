use Rattle.rollout_laws.proofs.Late.{every_late_received, late_comes, others_never_come}
use Rattle.rollout_laws.proofs.schedules.late_commands_change_nothing.Goals as goal

pub returns : goal.returns
returns c = record { received = every_late_received; comes = late_comes; other = others_never_come }
