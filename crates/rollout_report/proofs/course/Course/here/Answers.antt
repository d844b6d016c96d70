use Rattle.rollout_report.proofs.Looking.{stage-inside}
use Rattle.rollout_report.proofs.course.Course.here.Goals as goal

pub returns-clause-inside : goal.returns-clause-inside
returns-clause-inside c =
    stage-inside c.args.self.now (record { rollout = c.self.inside.plan.value; counts = c.self.inside.counts }) c.self.inside.items c.self.inside.stands.items c.args.item c.index.result.now c.self.view_is c.self.invariant c.requires c.index.ensures
