use Rattle.std.proofs.Common.{ℕ, ◌<◌, ◌≤◌, max, get_or}
use Rattle.rollout_report.proofs.loads.raise_links.Given as goal

-- the peaks of the links before this one have been raised
abbrev pub invariant-loop-link : goal.invariant-loop-link
invariant-loop-link l = record {
  least : (n : ℕ) → get_or l.initial.peaks n 0 ≤ get_or l.peaks n 0;
  most : (n : ℕ) → get_or l.peaks n 0 ≤ max (get_or l.initial.peaks n 0) (get_or l.sums n 0);
  crossed : (g : ℕ) → g < l.link-index → get_or l.sums (get_or l.links g 0) 0 ≤ get_or l.peaks (get_or l.links g 0) 0;
}
