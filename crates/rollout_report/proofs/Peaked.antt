-- The peaks at the end of a history.
use Rattle.std.proofs.Common.{◌≡◌, ℕ, ◌<◌, List, length, get_or, sym, ◌∙◌, subst}
use Rattle.std.proofs.lemmas.List.{ext_get_or}
use Rattle.rollout_rules.specs.Sums.{list_below}
use Rattle.rollout_rules.specs.Wan.{Rollout}
use Rattle.rollout_rules.specs.History.{History}
use Rattle.rollout_rules.proofs.Rows.{list_below-length, list_below-at}
use Rattle.rollout_report.specs.Peaks.{link_peak, table_peak, peaks_of}
use Rattle.rollout_report.specs.Passing.{Passing, IsPast}

-- a list that has a function's values is the list of these
listed : (n : ℕ) (f : ℕ → ℕ) (xs : List ℕ) → length xs ≡ n → ((k : ℕ) → k < n → get_or xs k 0 ≡ f k) → xs ≡ list_below n f
listed n f xs all each =
    ext_get_or 0 xs (list_below n f) (all ∙ sym (list_below-length n f))
    (λ k lt. let low : k < n = subst (λ m. k < m) all lt in each k low ∙ sym (list_below-at n f k 0 low))

pub peaks-are : (r : Rollout) (h : History) (at : Passing) → IsPast r h (length h.entries) at → record { links = at.loads.peaks; tables = at.fills.peaks } ≡ peaks_of r.problem r.plan h
peaks-are r h at past =
    let links = listed (length r.problem.links) (link_peak r.problem r.plan h) at.loads.peaks past.loads.peaks.links past.loads.peaks.each in
    let tables = listed (length r.problem.switches) (table_peak r.problem r.plan h) at.fills.peaks past.fills.peaks.switches past.fills.peaks.each in
    λ i. record { links = links i; tables = tables i }
