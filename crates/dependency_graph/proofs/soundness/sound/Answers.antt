use Rattle.std.proofs.Common.{sym}
use Rattle.dependency_graph.proofs.FirstFaults.{verdict-sound, verdict-first}
use Rattle.dependency_graph.proofs.soundness.sound.Goals as goal

pub returns-clause-sound : goal.returns-clause-sound
returns-clause-sound c = verdict-sound _ c.args.plan.now c.in_ok-progress.progress c.args.start.now (sym c.in_ok-progress.ensures.plan) c.checked_plan_is_valid.ensures.network c.in_ok-progress.ensures.counts c.verdict.ensures

pub returns-clause-first : goal.returns-clause-first
returns-clause-first c = verdict-first _ c.args.plan.now c.in_ok-progress.progress c.args.start.now (sym c.in_ok-progress.ensures.plan) c.checked_plan_is_valid.ensures.network c.in_ok-progress.ensures.counts c.verdict.ensures
