use Rattle.std.proofs.Common.{refl, arith}
use Rattle.completion_laws.specs.Worked.{settles_first}
use Rattle.completion_laws.proofs.Examples.{begins-elsewhere, settles-elsewhere, settles-here, both-own}
use Rattle.completion_laws.proofs.worked.others_may_settle_what_is_at_home_elsewhere.Goals as goal

pub returns-clause-elsewhere : goal.returns-clause-elsewhere
returns-clause-elsewhere c = settles-elsewhere

pub returns-clause-here : goal.returns-clause-here
returns-clause-here c ends = settles-here ends

pub returns-clause-begins : goal.returns-clause-begins
returns-clause-begins c = begins-elsewhere

pub returns-clause-others : goal.returns-clause-others
returns-clause-others c ends = settles-here (ends settles_first (1, omega arith, refl) (λ e. omega (arith, e)))

pub returns-clause-own : goal.returns-clause-own
returns-clause-own c = both-own
