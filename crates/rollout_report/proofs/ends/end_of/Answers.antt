use Rattle.std.proofs.Common.{◌≡◌, ◌++◌, [], length, ap, ap₂, ◌∙◌}
use Rattle.rollout_rules.specs.Legal.{unsettled}
use Rattle.rollout_report.specs.Peaks.{peaks_of}
use Rattle.rollout_report.specs.Ends.{link_lines, table_lines, last_line}
use Rattle.rollout_report.proofs.Peaked.{peaks-are}
use Rattle.rollout_report.proofs.ends.end_of.Goals as goal

pub returns : goal.returns
returns c =
    let p = c.args.plan.now.problem in
    let plan = c.args.plan.now.plan in
    let h = c.args.history.now in
    let is : c.into_peaks-peaks.result ≡ peaks_of p plan h = c.into_peaks-peaks.ensures ∙ peaks-are c.args.plan.now h c.in_ok-pass.pass c.in_ok-pass.ensures in
    let left : c.left-left.result ≡ unsettled p plan h = c.left-left.ensures h c.in_ok-pass.ensures in
    let links : c.push_link_lines.new.text ≡ [] ++ link_lines p plan h (length p.links) = c.in_ok-push_link_lines.ensures h is ∙ ap (λ l. l ++ link_lines p plan h (length p.links)) c.new-lines.ensures in
    let tables : c.push_table_lines.new.text ≡ c.push_link_lines.new.text ++ table_lines p plan h (length p.switches) = c.in_ok-push_table_lines.ensures h is in
    let before : c.push_table_lines.new.text ≡ link_lines p plan h (length p.links) ++ table_lines p plan h (length p.switches) = tables ∙ ap (λ l. l ++ table_lines p plan h (length p.switches)) links in
    c.in_ok-push_last_line.ensures ∙ ap₂ (λ l n. l ++ last_line n) before left
