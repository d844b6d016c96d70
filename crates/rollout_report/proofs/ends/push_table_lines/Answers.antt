use Rattle.std.proofs.Common.{◌≡◌, ◌<◌, ◌++◌, length, get_or, ap, ◌∙◌, arith}
use Rattle.rollout_rules.specs.Sums.{list_below}
use Rattle.rollout_rules.specs.Wan.{switch_at}
use Rattle.rollout_rules.proofs.Rows.{list_below-at}
use Rattle.rollout_report.specs.Peaks.{table_peak}
use Rattle.wan_text.specs.Peaks.{table_peak_line}
use Rattle.rollout_report.proofs.PeakLines.{table_lines-more}
use Rattle.rollout_report.proofs.ends.push_table_lines.Goals as goal

pub loop-number-preserved : goal.loop-number-preserved
loop-number-preserved c = λ h is.
    let p = c.args.plan.now.problem in
    let plan = c.args.plan.now.plan in
    let n = c.loop-number.number in
    let read = get_or c.tables-peak-items.result.now n 0 in
    let rows : c.tables-peak-items.result.now ≡ list_below (length p.switches) (table_peak p plan h) = c.tables-peak-items.ensures ∙ ap (λ v. v.tables) is in
    let low : n < length p.switches = omega (arith, c.loop-number-test.true, ap length c.tables-peak-items.ensures, c.requires) in
    let peak : read ≡ table_peak p plan h n = ap (λ l. get_or l n 0) rows ∙ list_below-at (length p.switches) (table_peak p plan h) n 0 low in
    let size : c.from-size.result ≡ (switch_at p n).table = c.from-size.ensures ∙ c.table.ensures ∙ ap (λ q. (switch_at q n).table) c.problem-problem.ensures in
    let line : c.push_table_peak.new.text ≡ c.loop-number.text ++ table_peak_line p n read c.from-size.result =
    c.in_ok-push_table_peak.ensures ∙ ap (λ q. c.loop-number.text ++ table_peak_line q n read c.from-size.result) c.problem-problem.ensures in
    table_lines-more p plan h n c.args.text.now c.loop-number.text c.push_table_peak.new.text read c.from-size.result
    (c.loop-number.invariant h is) peak size line
