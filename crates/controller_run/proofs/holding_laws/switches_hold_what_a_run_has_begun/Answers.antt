use Rattle.shared_book.specs.Histories.{added}
use Rattle.shared_book.proofs.Lists.{list-is_legal}
use Rattle.switch_laws.proofs.Stands.{held_stands}
use Rattle.controller_run.proofs.Standing.{runs_at}
use Rattle.controller_run.proofs.holding_laws.switches_hold_what_a_run_has_begun.Goals as goal

pub returns : goal.returns
returns c = λ o migration homes log first now net valid legal small starts run.
    held_stands o.rollout migration homes o.found (added log) run.sent first now net valid (list-is_legal o log legal) small (runs_at o migration homes log first now run starts)
