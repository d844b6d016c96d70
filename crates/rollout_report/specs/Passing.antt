-- A history that is gone over, entry by entry.
use Rattle.std.specs.Prelude.{◌≡◌, ℕ}
use Rattle.rollout_rules.specs.Wan.{Rollout}
use Rattle.rollout_rules.specs.History.{History}
use Rattle.rollout_report.specs.Peaks.{front}
use Rattle.rollout_report.specs.Counts.{AreCountsOf}
use Rattle.rollout_report.specs.Course.{Coursed}
use Rattle.rollout_report.specs.Loads.{LinkLoads, AreLoadsAt}
use Rattle.rollout_report.specs.Fills.{TableFills, AreFillsAt}

-- how far its items have come, and what links and tables have to hold
pub record Passing : Type 0 where
  pub course : Coursed
  pub loads : LinkLoads
  pub fills : TableFills

-- these are as they are after the first k entries
pub record IsPast (r : Rollout) (h : History) (k : ℕ) (at : Passing) : Type 0 where
  pub own : at.course.rollout ≡ r
  pub counts : AreCountsOf r.problem (front h k) at.course.counts
  pub loads : AreLoadsAt r.problem r.plan h k at.loads
  pub fills : AreFillsAt r.problem r.plan h k at.fills
