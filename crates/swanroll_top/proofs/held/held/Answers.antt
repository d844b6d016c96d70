use Rattle.std.proofs.Common.{refl, inl}
use Rattle.swanroll_top.specs.Rollouts.{fleet_of}
use Rattle.text_commands.specs.declared.command_end.CommandEnd.TheVariants.{Usage, ReadFault, GuestFault}
use Rattle.swanroll_top.proofs.HeldAsking.{input-asks}
use Rattle.swanroll_top.proofs.Rolling.{cut-rollouts, cut-unbegun, never, short-rollouts}
use Rattle.swanroll_top.proofs.held.held.Goals as goal

pub returns-in-Ok-clause-runs : goal.returns-in-Ok-clause-runs
returns-in-Ok-clause-runs g c = short-rollouts _ _ _ _ _ c.in-Ok.ensures.read _ c.ask_input.ensures.follows

pub returns-in-Ok-clause-asks : goal.returns-in-Ok-clause-asks
returns-in-Ok-clause-asks g c =
    input-asks g.F.Port.Port.told
    c.args.rounds (fleet_of (g.F.Fleet.told c.args.fleet.now)) (fleet_of (g.F.Fleet.told c.ask_input.new.fleet)) _ _ _ _ _ _ c.in-Ok.ensures.read c.ask_input.ensures.asks

pub returns-in-Ok-clause-read_fault : goal.returns-in-Ok-clause-read_fault
returns-in-Ok-clause-read_fault g c = λ e. absurd (never _ ReadFault _ _ _ refl refl c.ask_input.ensures.follows e)

pub returns-in-Ok-clause-others : goal.returns-in-Ok-clause-others
returns-in-Ok-clause-others g c = (λ e. never _ Usage _ _ _ refl refl c.ask_input.ensures.follows e, λ e. never _ GuestFault _ _ _ refl refl c.ask_input.ensures.follows e)

pub returns-in-Err-clause-runs : goal.returns-in-Err-clause-runs
returns-in-Err-clause-runs g c = cut-rollouts _ _ _ _ c.in-Err.ensures.read

pub returns-in-Err-clause-asks : goal.returns-in-Err-clause-asks
returns-in-Err-clause-asks g c = inl (record { why = cut-unbegun _ _ _ c.in-Err.ensures.read; fleet_is = refl })
