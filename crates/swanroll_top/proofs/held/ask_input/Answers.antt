use Rattle.std.proofs.Common.{refl, inl, inr}
use Rattle.text_commands.specs.declared.command_end.CommandEnd.TheVariants.{WriteFault, DiskFault}
use Rattle.swanroll_top.proofs.Rolling.{gives-refused, not-refused}
use Rattle.swanroll_top.proofs.held.ask_input.Goals as goal

pub returns-in-Ok-clause-follows : goal.returns-in-Ok-clause-follows
returns-in-Ok-clause-follows g c = inr ((_, c.in-Ok.ensures), c.ask_plan.ensures.ends)

pub returns-in-Ok-clause-asks : goal.returns-in-Ok-clause-asks
returns-in-Ok-clause-asks g c = inr (_, c.in-Ok.ensures, c.ask_plan.ensures.asks)

pub returns-in-Err-clause-follows : goal.returns-in-Err-clause-follows
returns-in-Err-clause-follows g c = inl (gives-refused _ _ c.in-Err.ensures, refl)

pub returns-in-Err-clause-asks : goal.returns-in-Err-clause-asks
returns-in-Err-clause-asks g c = inl (record { why = gives-refused _ _ c.in-Err.ensures; fleet_is = refl })

pub returns-in-Err-clause-write_fault : goal.returns-in-Err-clause-write_fault
returns-in-Err-clause-write_fault g c = λ e. absurd (not-refused _ WriteFault _ refl (gives-refused _ _ c.in-Err.ensures) e)

pub returns-in-Err-clause-no_disk : goal.returns-in-Err-clause-no_disk
returns-in-Err-clause-no_disk g c = λ e. not-refused _ DiskFault _ refl (gives-refused _ _ c.in-Err.ensures) e
