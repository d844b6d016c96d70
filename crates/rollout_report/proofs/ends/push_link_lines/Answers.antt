use Rattle.std.proofs.Common.{◌≡◌, ◌*◌, ◌<◌, ◌++◌, length, get_or, ap, ap₂, ◌∙◌, arith}
use Rattle.rollout_rules.specs.Sums.{list_below}
use Rattle.rollout_rules.specs.Wan.{link_at}
use Rattle.rollout_rules.proofs.Rows.{list_below-at}
use Rattle.rollout_report.specs.Peaks.{link_peak}
use Rattle.wan_text.specs.Peaks.{link_peak_line}
use Rattle.rollout_report.proofs.PeakLines.{link_lines-more}
use Rattle.rollout_report.proofs.ends.push_link_lines.Goals as goal

pub loop-number-preserved : goal.loop-number-preserved
loop-number-preserved c = λ h is.
    let p = c.args.plan.now.problem in
    let plan = c.args.plan.now.plan in
    let n = c.loop-number.number in
    let read = get_or c.links-peak-items.result.now n 0 in
    let rows : c.links-peak-items.result.now ≡ list_below (length p.links) (link_peak p plan h) = c.links-peak-items.ensures ∙ ap (λ v. v.links) is in
    let low : n < length p.links = omega (arith, c.loop-number-test.true, ap length c.links-peak-items.ensures, c.requires) in
    let peak : read ≡ link_peak p plan h n = ap (λ l. get_or l n 0) rows ∙ list_below-at (length p.links) (link_peak p plan h) n 0 low in
    let capacity : c.from.result ≡ (link_at p n).capacity = c.from.ensures ∙ c.capacity.ensures ∙ ap (λ q. (link_at q n).capacity) c.problem-problem.ensures in
    let scale : c.from-scale.result ≡ plan.scale = c.from-scale.ensures ∙ ap (λ l. l.scale) (c.behind-plan.view_is ∙ c.plan.ensures.part) in
    let line : c.push_link_peak.new.text ≡ c.loop-number.text ++ link_peak_line p n read (c.from.result * c.from-scale.result) =
    c.in_ok-push_link_peak.ensures ∙ ap (λ q. c.loop-number.text ++ link_peak_line q n read (c.from.result * c.from-scale.result)) c.problem-problem.ensures in
    link_lines-more p plan h n c.args.text.now c.loop-number.text c.push_link_peak.new.text read (c.from.result * c.from-scale.result)
    (c.loop-number.invariant h is) peak (ap₂ (λ x y. x * y) capacity scale) line
