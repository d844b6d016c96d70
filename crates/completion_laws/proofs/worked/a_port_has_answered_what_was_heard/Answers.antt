use Rattle.completion_laws.proofs.Examples.{answering-answered, silent-unheard}
use Rattle.completion_laws.proofs.worked.a_port_has_answered_what_was_heard.Goals as goal

pub returns-clause-answering : goal.returns-clause-answering
returns-clause-answering c = answering-answered

pub returns-clause-silent : goal.returns-clause-silent
returns-clause-silent c has = silent-unheard has
