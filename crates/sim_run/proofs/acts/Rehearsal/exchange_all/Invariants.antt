use Rattle.std.proofs.Common.{◌≡◌}
use Rattle.sim_run.specs.Acts.{exchanges}
use Rattle.sim_run.specs.Rehearsing.{moved}
use Rattle.sim_run.proofs.acts.Rehearsal.exchange_all.Given as goal

-- the operations before this one were exchanged
abbrev pub invariant-loop-place : goal.invariant-loop-place
invariant-loop-place g l = l.self ≡ moved l.fn.self (exchanges l.fn.self.state.world l.place)
