use Rattle.std.proofs.Common.{◌≡◌, true, subst}
use Rattle.rollout_rules.specs.Network.{IsNetwork}
use Rattle.rollout_rules.specs.Valid.{is_valid_plan}
use Rattle.rollout_rules.specs.Wan.{Rollout}
use Rattle.retarget_plan.specs.Aiming.{IsAimed}
use Rattle.retarget_plan.proofs.Aimings.{answer-fits-kept, answer-stands}
use Rattle.retarget_plan.proofs.aiming.aimed.Goals as goal

pub returns-clause-answer : goal.returns-clause-answer
returns-clause-answer c = subst (λ (r : Rollout). IsAimed r.problem r.plan c.args.graph.now.history c.args.aim.now c.still_aimed.result) c.plan-plan.ensures c.still_aimed.ensures

pub returns-clause-stands : goal.returns-clause-stands
returns-clause-stands c =
    let r = c.args.graph.now.rollout in
    let h = c.args.graph.now.history in
    let net : IsNetwork r.problem = subst (λ (x : Rollout). IsNetwork x.problem) c.plan-plan.ensures c.checked_plan_is_valid.ensures.network in
    let valid : is_valid_plan r.problem r.plan ≡ true = subst (λ (x : Rollout). is_valid_plan x.problem x.plan ≡ true) c.plan-plan.ensures c.checked_plan_is_valid.ensures.valid in
    answer-stands r.problem r.plan h c.args.aim.now net valid c.woken.ensures.legal c.still_aimed.result
    (subst (λ (x : Rollout). IsAimed x.problem x.plan h c.args.aim.now c.still_aimed.result) c.plan-plan.ensures c.still_aimed.ensures)

pub returns-clause-fits : goal.returns-clause-fits
returns-clause-fits c = λ keeps.
    let r = c.args.graph.now.rollout in
    let h = c.args.graph.now.history in
    let net : IsNetwork r.problem = subst (λ (x : Rollout). IsNetwork x.problem) c.plan-plan.ensures c.checked_plan_is_valid.ensures.network in
    let valid : is_valid_plan r.problem r.plan ≡ true = subst (λ (x : Rollout). is_valid_plan x.problem x.plan ≡ true) c.plan-plan.ensures c.checked_plan_is_valid.ensures.valid in
    answer-fits-kept r.problem r.plan h c.args.aim.now net valid c.woken.ensures.legal c.still_aimed.result keeps
    (subst (λ (x : Rollout). IsAimed x.problem x.plan h c.args.aim.now c.still_aimed.result) c.plan-plan.ensures c.still_aimed.ensures)
