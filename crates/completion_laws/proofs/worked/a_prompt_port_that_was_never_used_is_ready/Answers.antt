use Rattle.std.proofs.lemmas.Bool.{false≢true}
use Rattle.completion_laws.proofs.Examples.{silent-waits, unused-ready}
use Rattle.completion_laws.proofs.worked.a_prompt_port_that_was_never_used_is_ready.Goals as goal

pub returns-clause-unused : goal.returns-clause-unused
returns-clause-unused c = unused-ready

pub returns-clause-not_prompt : goal.returns-clause-not_prompt
returns-clause-not_prompt c ready = false≢true ready.prompt

pub returns-clause-to_come : goal.returns-clause-to_come
returns-clause-to_come c ready = silent-waits ready.no_more
