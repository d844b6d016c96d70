use Rattle.std.proofs.Common.{ap, ◌∙◌}
use Rattle.std.proofs.lemmas.Result.{IfOk-weaker}
use Rattle.scratch_plan.specs.Frame.{frame}
use Rattle.fewest_plan.specs.Walk.{accepted}
use Rattle.fewest_plan.proofs.walking.accept_frame.Goals as goal

pub returns : goal.returns
returns c =
    let p = c.args.problem.now in
    IfOk-weaker c.accept.result _ _ (λ found e. e ∙ ap (accepted p c.args.rate_steps) (c.in_ok-plan.ensures ∙ ap (frame p c.args.scale) c.as_slice.ensures)) c.accept.ensures
