use Rattle.std.proofs.Common.{◌≡◌, ◌+◌, ◌==◌, ◌++◌, length, get_or, ap, ap₂, ◌∙◌}
use Rattle.std.proofs.lemmas.Result.{on_ok_weaker}
use Rattle.rollout_rules.specs.Sums.{sum_below, count_below}
use Rattle.rollout_rules.specs.Items.{item_count}
use Rattle.rollout_report.specs.Report.{sum_line, counts_line, settled_of_all, flying_of_all}
use Rattle.rollout_report.proofs.Tallying.{settled-sum, flying-count}
use Rattle.rollout_report.proofs.reporting.push_sums.Goals as goal

pub returns : goal.returns
unfolding sum_line
returns c =
    let p = c.args.plan.now.problem in
    let plan = c.args.plan.now.plan in
    let h = c.args.history.now in
    let counts = c.args.counts.now in
    let count : c.item_count-count.result ≡ item_count p = c.item_count-count.ensures ∙ ap item_count c.problem.ensures in
    let entries : length c.entries-entries.result.now ≡ length h.entries = ap length c.entries-entries.ensures in
    let settled : c.settled_of_all-settled.result ≡ settled_of_all p h = c.settled_of_all-settled.ensures ∙ ap (λ m. sum_below m (λ k. get_or counts.settled k 0)) count ∙ settled-sum p plan h counts c.requires.counts in
    let flying : c.flying_of_all-flying.result ≡ flying_of_all p h = c.flying_of_all-flying.ensures ∙ ap (λ m. count_below m (λ k. get_or counts.begun k 0 == get_or counts.settled k 0 + 1)) count ∙ flying-count p plan h counts c.requires.counts in
    on_ok_weaker c.push_counts.result
    (λ e. e ∙ ap (λ n. c.args.text.now ++ counts_line n c.settled_of_all-settled.result c.operations_of_all-all.result c.flying_of_all-flying.result) entries
    ∙ ap₂ (λ s f. c.args.text.now ++ counts_line (length h.entries) s c.operations_of_all-all.result f) settled flying
    ∙ ap (λ a. c.args.text.now ++ counts_line (length h.entries) (settled_of_all p h) a (flying_of_all p h)) c.operations_of_all-all.ensures)
    c.push_counts.ensures
