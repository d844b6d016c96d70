use Rattle.std.proofs.Common.{◌≡◌, refl, inl, inr, sym, ◌∙◌}
use Rattle.text_commands.specs.declared.command_end.CommandEnd.TheVariants.{WriteFault, DiskFault}
use Rattle.swanroll_top.proofs.Rolling.{gives-refused, not-refused}
use Rattle.swanroll_top.proofs.rollout.roll_out_input.Goals as goal

pub returns-in-Ok-clause-follows : goal.returns-in-Ok-clause-follows
returns-in-Ok-clause-follows g c = inr ((_, c.in-Ok.ensures), c.roll_out_plan.ensures.ends)

pub returns-in-Ok-clause-rolls : goal.returns-in-Ok-clause-rolls
returns-in-Ok-clause-rolls g c = inr (_, c.in-Ok.ensures, c.roll_out_plan.ensures.rolls)

pub returns-in-Err-clause-follows : goal.returns-in-Err-clause-follows
returns-in-Err-clause-follows g c = inl (gives-refused _ _ c.in-Err.ensures, refl)

pub returns-in-Err-clause-rolls : goal.returns-in-Err-clause-rolls
returns-in-Err-clause-rolls g c = inl (record { why = gives-refused _ _ c.in-Err.ensures; disk_is = refl; fleet_is = refl })

pub returns-in-Err-clause-write_fault : goal.returns-in-Err-clause-write_fault
returns-in-Err-clause-write_fault g c = λ e. absurd (not-refused _ WriteFault _ refl (gives-refused _ _ c.in-Err.ensures) e)

pub returns-in-Err-clause-disk_fault : goal.returns-in-Err-clause-disk_fault
returns-in-Err-clause-disk_fault g c = λ e. absurd (not-refused _ DiskFault _ refl (gives-refused _ _ c.in-Err.ensures) e)
