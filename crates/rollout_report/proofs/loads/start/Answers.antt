use Rattle.std.proofs.Common.{sym, subst}
use Rattle.rollout_report.specs.Loads.{AreLoads, AreLinkPeaks}
use Rattle.rollout_report.specs.Peaks.{front}
use Rattle.rollout_report.proofs.Starting.{no_sums}
use Rattle.rollout_report.proofs.Loading.{first_peaks}
use Rattle.rollout_report.proofs.loads.start.Goals as goal

pub first_loads-requires-clause-sums : goal.first_loads-requires-clause-sums
first_loads-requires-clause-sums c = no_sums c.args.plan.now.problem c.args.rates.now c.args.sums.now c.requires.rates c.requires.sums

pub returns : goal.returns
returns c =
    let loads : AreLoads c.args.plan.now.problem c.args.plan.now.plan (front c.args.history.now 0) c.first_loads.new.rates c.first_loads.new.sums = record { are_sums = c.first_loads.ensures.sums; each_rate = c.first_loads.ensures.rates } in
    record {
      loads = loads;
      peaks = subst (λ l. AreLinkPeaks c.args.plan.now.problem c.args.plan.now.plan c.args.history.now 0 l) (sym c.copy_from_slice.ensures.after) (first_peaks c.args.plan.now.problem c.args.plan.now.plan c.args.history.now c.first_loads.new.rates c.first_loads.new.sums loads);
    }
