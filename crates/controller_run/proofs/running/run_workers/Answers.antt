use Rattle.std.proofs.Common.{refl}
use Rattle.controller_run.proofs.running.run_workers.Goals as goal

-- what these ports have told counts as heard, and nothing else
pub run_named-requires-clause-told : goal.run_named-requires-clause-told
run_named-requires-clause-told g c κs within = λ port answer told. record { port = port; told = told }

pub run_named-requires-clause-only : goal.run_named-requires-clause-only
run_named-requires-clause-only g c κs within = λ answer heard. heard

-- and so the disk stands
pub run_named-requires-clause-stood : goal.run_named-requires-clause-stood
run_named-requires-clause-stood g c κs within = record { bytes = refl; moment = refl; past = λ t c left. left }
