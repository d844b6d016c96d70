use Rattle.std.proofs.Common.{◌∙◌}
use Rattle.rollout_rules.specs.declared.event.Act.TheVariants as act
use Rattle.order_policy.specs.Answers.{rank_by}
use Rattle.sim_run.proofs.Drafting.{drafted-live, drafted-on, joining}
use Rattle.sim_run.proofs.draft.turn.Goals as goal

pub join-requires-2 : goal.join-requires-2
join-requires-2 g c = drafted-live c.args.rehearsal.now _ c.join.new.rehearsal c.join.new.script c.in_ok-join.ensures ∙ c.requires

pub returns : goal.returns
returns g c =
    drafted-on c.args.rehearsal.now _ c.join.new.rehearsal c.join.new.script c.in_ok-join.ensures (joining (rank_by c.args.policy.now.answers) act.Round) c.join-2.new.rehearsal c.join-2.new.script c.in_ok-join-2.ensures
