use Rattle.std.proofs.Common.{refl}
use Rattle.rollout_rules.specs.History.{with_entries}
use Rattle.rollback_plan.proofs.Coming.{come-so_far, finished-so_far}
use Rattle.rollback_plan.proofs.turns.a_held_history_has_come_so_far.Goals as goal

pub returns : goal.returns
returns c = record {
  held = λ p plan policy found es s net valid most holds legal idle none so. come-so_far p plan s most net valid policy holds (with_entries found es) legal idle none found es refl so;
  finished = λ p plan found es s most legal finished so. finished-so_far p plan s most found es legal finished so;
}
