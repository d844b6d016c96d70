use Rattle.std.proofs.Common.{◌≡◌, ◌++◌, append_assoc, ap, ◌∙◌}
use Rattle.std.proofs.lemmas.Result.{on_ok_weaker}
use Rattle.sim_run.specs.TrialText.{counts_line}
use Rattle.sim_run.proofs.outcome.push_counts.Goals as goal

pub returns : goal.returns
returns c =
    let line : c.deref.result.now ≡ counts_line c.args.operations c.args.entries = simp append_assoc (c.deref.ensures ∙ c.in_ok-line.ensures.ok) in
    on_ok_weaker c.push_str.result (λ e. e ∙ ap (λ l. c.args.text.now ++ l) line) c.push_str.ensures.ok
