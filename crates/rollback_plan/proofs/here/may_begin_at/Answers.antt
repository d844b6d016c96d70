use Rattle.std.proofs.Common.{sym}
use Rattle.std.proofs.lemmas.Result.{IfOk-weaker}
use Rattle.rollout_rules.specs.Legal.{is_sound}
use Rattle.rollback_plan.proofs.here.may_begin_at.Goals as goal

pub returns-in-Ok : goal.returns-in-Ok
returns-in-Ok c = sym c.in-Ok.ensures.sound

pub returns-in-Err : goal.returns-in-Err
returns-in-Err c = IfOk-weaker c.unsound.result _ _ (λ is gives. gives (is_sound c.args.plan.now.problem c.args.plan.now.plan c.args.start.now) c.in-Err.ensures.sound) c.unsound.ensures
