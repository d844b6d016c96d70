use Rattle.sim_run.proofs.Graphs.{first-plain}
use Rattle.sim_run.proofs.plain.PlainSimRounds.first.Goals as goal

pub invariant_of-result : goal.invariant_of-result
invariant_of-result c = first-plain c.args.plan c.in_ok-rounds.rounds c.new.result c.in_ok-rounds.ensures c.new.ensures
