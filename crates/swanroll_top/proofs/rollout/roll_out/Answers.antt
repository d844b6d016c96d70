use Rattle.std.proofs.Common.{refl, subst, inl}
use Rattle.order_policy.specs.Answers.{rank_by}
use Rattle.swanroll_top.specs.Rollouts.{fleet_of}
use Rattle.text_commands.specs.declared.command_end.CommandEnd.TheVariants.{Usage, ReadFault, GuestFault}
use Rattle.swanroll_top.proofs.Rolling.{cut-rollouts, cut-unbegun, input-rolls, never, short-rollouts}
use Rattle.swanroll_top.proofs.rollout.roll_out.Goals as goal

pub returns-in-Ok-clause-runs : goal.returns-in-Ok-clause-runs
returns-in-Ok-clause-runs g c = short-rollouts _ _ _ _ _ c.in-Ok.ensures.read _ c.roll_out_input.ensures.follows

pub returns-in-Ok-clause-rolls : goal.returns-in-Ok-clause-rolls
returns-in-Ok-clause-rolls g c =
    input-rolls g.D.Disk.told g.F.Port.Port.told
    c.args.limits (rank_by c.args.policy.now.answers) c.args.disk c.roll_out_input.result.disk (fleet_of (g.F.Fleet.told c.args.fleet.now)) (fleet_of (g.F.Fleet.told c.roll_out_input.new.fleet)) _ _ _ _ _ _ c.in-Ok.ensures.read c.roll_out_input.ensures.rolls

pub returns-in-Ok-clause-read_fault : goal.returns-in-Ok-clause-read_fault
returns-in-Ok-clause-read_fault g c = λ e. absurd (never _ ReadFault _ _ _ refl refl c.roll_out_input.ensures.follows e)

pub returns-in-Ok-clause-others : goal.returns-in-Ok-clause-others
returns-in-Ok-clause-others g c = (λ e. never _ Usage _ _ _ refl refl c.roll_out_input.ensures.follows e, λ e. never _ GuestFault _ _ _ refl refl c.roll_out_input.ensures.follows e)

pub returns-in-Err-clause-runs : goal.returns-in-Err-clause-runs
returns-in-Err-clause-runs g c = cut-rollouts _ _ _ _ c.in-Err.ensures.read

pub returns-in-Err-clause-rolls : goal.returns-in-Err-clause-rolls
returns-in-Err-clause-rolls g c = inl (record { why = cut-unbegun _ _ _ c.in-Err.ensures.read; disk_is = refl; fleet_is = refl })
