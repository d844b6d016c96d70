use Rattle.std.proofs.Common.{◌≡◌, true, subst}
use Rattle.rollout_rules.specs.Network.{IsNetwork}
use Rattle.rollout_rules.specs.Valid.{is_valid_plan}
use Rattle.rollout_rules.specs.Wan.{Rollout}
use Rattle.retarget_plan.specs.Leaving.{IsLeft}
use Rattle.retarget_plan.proofs.Leavings.{answer-fits, answer-goes_on}
use Rattle.retarget_plan.proofs.leaving.left.Goals as goal

pub returns-clause-answer : goal.returns-clause-answer
returns-clause-answer c = subst (λ (r : Rollout). IsLeft r.problem r.plan c.args.graph.now.history c.still_left.result) c.plan-plan.ensures c.still_left.ensures

pub returns-clause-goes_on : goal.returns-clause-goes_on
returns-clause-goes_on c =
    let r = c.args.graph.now.rollout in
    let h = c.args.graph.now.history in
    let net : IsNetwork r.problem = subst (λ (x : Rollout). IsNetwork x.problem) c.plan-plan.ensures c.checked_plan_is_valid.ensures.network in
    let valid : is_valid_plan r.problem r.plan ≡ true = subst (λ (x : Rollout). is_valid_plan x.problem x.plan ≡ true) c.plan-plan.ensures c.checked_plan_is_valid.ensures.valid in
    answer-goes_on r.problem r.plan h net valid c.woken.ensures.legal c.still_left.result (subst (λ (x : Rollout). IsLeft x.problem x.plan h c.still_left.result) c.plan-plan.ensures c.still_left.ensures)

pub returns-clause-fits : goal.returns-clause-fits
returns-clause-fits c =
    let r = c.args.graph.now.rollout in
    let h = c.args.graph.now.history in
    let net : IsNetwork r.problem = subst (λ (x : Rollout). IsNetwork x.problem) c.plan-plan.ensures c.checked_plan_is_valid.ensures.network in
    let valid : is_valid_plan r.problem r.plan ≡ true = subst (λ (x : Rollout). is_valid_plan x.problem x.plan ≡ true) c.plan-plan.ensures c.checked_plan_is_valid.ensures.valid in
    answer-fits r.problem r.plan h net valid c.woken.ensures.legal c.still_left.result (subst (λ (x : Rollout). IsLeft x.problem x.plan h c.still_left.result) c.plan-plan.ensures c.still_left.ensures)
