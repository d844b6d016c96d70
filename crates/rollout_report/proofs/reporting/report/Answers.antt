use Rattle.std.proofs.Common.{◌≡◌, ◌++◌, length, ap, ◌∙◌, arith}
use Rattle.rollout_rules.specs.Wan.{last_stage}
use Rattle.rollout_report.specs.Ends.{end_lines}
use Rattle.rollout_report.specs.Report.{report_text, sum_line, stage_lines}
use Rattle.rollout_report.specs.Tallies.{lines_of}
use Rattle.rollout_report.proofs.Tallying.{joined, lines-same}
use Rattle.rollout_report.proofs.reporting.report.Goals as goal

pub returns : goal.returns
unfolding report_text
returns c =
    let p = c.args.plan.now.problem in
    let plan = c.args.plan.now.plan in
    let h = c.args.history.now in
    let stages = c.in_ok-stages.stages in
    let lines : lines_of stages (length stages.all) ≡ stage_lines p plan h (last_stage plan) =
    ap (lines_of stages) c.in_ok-stages.ensures.all_stages ∙ lines-same p plan h c.in_ok-counts.counts c.in_ok-counts.ensures stages c.in_ok-stages.ensures (last_stage plan) (omega arith) in
    joined c.new-text.result c.push_sums.new.text c.push_stages.new.text c.push_end.new.text (sum_line p plan h) (stage_lines p plan h (last_stage plan)) (end_lines p plan h)
    c.new-text.ensures c.in_ok-push_sums.ensures (c.in_ok-push_stages.ensures ∙ ap (λ l. c.push_sums.new.text ++ l) lines) c.in_ok-push_end.ensures
