use Rattle.std.proofs.Common.{sym, subst}
use Rattle.rollout_report.specs.Fills.{AreHeld, AreTablePeaks}
use Rattle.rollout_report.specs.Peaks.{front}
use Rattle.rollout_report.proofs.Starting.{no_tallies}
use Rattle.rollout_report.proofs.Holding.{first_table_peaks}
use Rattle.rollout_report.proofs.fills.start.Goals as goal

pub first_marks-requires-clause-tallies : goal.first_marks-requires-clause-tallies
first_marks-requires-clause-tallies c = no_tallies c.args.plan.now.problem c.args.marks.now c.args.sums.now c.requires.marks c.requires.sums

pub returns : goal.returns
returns c =
    let held : AreHeld c.args.plan.now.problem c.args.plan.now.plan (front c.args.history.now 0) c.first_marks.new.marks c.first_marks.new.sums = record { tallies = c.first_marks.ensures.tallies; each_mark = c.first_marks.ensures.marks } in
    record {
      held = held;
      peaks = subst (λ l. AreTablePeaks c.args.plan.now.problem c.args.plan.now.plan c.args.history.now 0 l) (sym c.copy_from_slice.ensures.after) (first_table_peaks c.args.plan.now.problem c.args.plan.now.plan c.args.history.now c.first_marks.new.marks c.first_marks.new.sums held);
    }
