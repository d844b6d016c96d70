use Rattle.controller_run.proofs.Alone.{quiet-turned}
use Rattle.controller_run.proofs.Quiet.{quiet-others, quiet-uncalled}
use Rattle.controller_run.proofs.promises.a_seat_stops_nothing_at_first.Goals as goal

pub returns-clause-uncalled : goal.returns-clause-uncalled
returns-clause-uncalled c = λ seat ws none. quiet-uncalled seat ws none

pub returns-clause-others : goal.returns-clause-others
returns-clause-others c = λ seat ws past quiet none. quiet-others seat ws past quiet none

pub returns-clause-turned : goal.returns-clause-turned
returns-clause-turned c = λ o seat joined seen after turn quiet call. quiet-turned o seat joined seen after turn quiet call
