use Rattle.std.proofs.Common.{◌∙◌, IfSome, inl, refl, sym, subst}
use Rattle.std.specs.Prelude.{IfErr, IfOk, vec_capacity}
use Rattle.intent_journal.specs.Recovered.{IsCause, IsReady, MayStand, kept_for}
use Rattle.intent_journal.specs.Verdicts.{Verdict, verdict}
use Rattle.disk_model.specs.Moments.{LeavesOnly}
use Rattle.intent_journal.proofs.LeftGraphs.{leaves_cause}
use Rattle.intent_journal.proofs.Recoveries.{cause_rose, causes_either, err_as, no_refusal, not_refused, still, verdict_blank, verdict_journal}
use Rattle.intent_journal.proofs.recovering.open_read.Goals as goal

pub returns-in_err-blank-clause-any_moment : goal.returns-in_err-blank-clause-any_moment
returns-in_err-blank-clause-any_moment g c =
    let r = c.args.graph.now.rollout in
    let digest = c.args.digest.now in
    let image = c.args.image.now in
    still g.D.Disk.told r digest image (verdict r digest image) (g.D.Disk.told c.args.disk.now).bytes c.args.disk.now c.args.disk.now (g.met.D.Disk.only_now c.args.disk.now) refl

pub returns-then-blank-clause-ok : goal.returns-then-blank-clause-ok
returns-then-blank-clause-ok g c =
    let r = c.args.graph.now.rollout in
    let digest = c.args.digest.now in
    let now = c.make_anew.new.disk in
    subst (λ (v : Verdict). IfOk c.make_anew.result (λ ready. IsReady v (kept_for r digest v) ready.list ready.rest.gate ready.rest.end ready.most (vec_capacity ready.body) c.args.graph.now c.args.graph.now
    (g.D.Disk.told now).bytes (g.D.Disk.told now).may_leave)) (sym (verdict_blank r digest c.args.image.now (sym c.in_ok-blank.ensures ∙ c.if-blank.true))) c.make_anew.ensures.ok

pub returns-then-blank-clause-any_moment : goal.returns-then-blank-clause-any_moment
returns-then-blank-clause-any_moment g c =
    let r = c.args.graph.now.rollout in
    let digest = c.args.digest.now in
    let disk = c.args.disk.now in
    subst (λ (v : Verdict). IfSome (g.D.Disk.told disk).bytes (λ _. LeavesOnly g.D.Disk.told disk c.make_anew.new.disk (MayStand r digest c.args.image.now v (g.D.Disk.told disk).may_leave)))
    (sym (verdict_blank r digest c.args.image.now (sym c.in_ok-blank.ensures ∙ c.if-blank.true))) c.make_anew.ensures.any_moment

pub returns-then-blank-clause-cause : goal.returns-then-blank-clause-cause
returns-then-blank-clause-cause g c = err_as _ _ c.make_anew.result c.make_anew.ensures.cause (λ fault cause. cause_rose fault _ _ cause)

pub returns-then-blank-clause-refusal : goal.returns-then-blank-clause-refusal
returns-then-blank-clause-refusal g c = err_as _ _ c.make_anew.result c.make_anew.ensures.cause (λ fault cause. no_refusal fault _ _ (causes_either fault _ _ cause))

pub returns-then-blank-clause-unwritten : goal.returns-then-blank-clause-unwritten
returns-then-blank-clause-unwritten g c = err_as _ _ c.make_anew.result c.make_anew.ensures.cause (λ fault cause. not_refused fault _ (causes_either fault _ _ cause))

pub returns-clause-ok : goal.returns-clause-ok
returns-clause-ok g c =
    let r = c.args.graph.now.rollout in
    let digest = c.args.digest.now in
    let now = c.go_on.new.disk in
    subst (λ (v : Verdict). IfOk c.go_on.result (λ ready. IsReady v (kept_for r digest v) ready.list ready.rest.gate ready.rest.end ready.most (vec_capacity ready.body) c.args.graph.now c.go_on.new.graph
    (g.D.Disk.told now).bytes (g.D.Disk.told now).may_leave)) (sym (verdict_journal r digest c.args.image.now (sym c.in_ok-blank.ensures ∙ c.if-blank.false))) c.go_on.ensures.ok

pub returns-clause-any_moment : goal.returns-clause-any_moment
returns-clause-any_moment g c =
    let r = c.args.graph.now.rollout in
    let digest = c.args.digest.now in
    let disk = c.args.disk.now in
    subst (λ (v : Verdict). IfSome (g.D.Disk.told disk).bytes (λ _. LeavesOnly g.D.Disk.told disk c.go_on.new.disk (MayStand r digest c.args.image.now v (g.D.Disk.told disk).may_leave)))
    (sym (verdict_journal r digest c.args.image.now (sym c.in_ok-blank.ensures ∙ c.if-blank.false))) c.go_on.ensures.any_moment

pub returns-clause-refusal : goal.returns-clause-refusal
returns-clause-refusal g c =
    let r = c.args.graph.now.rollout in
    let digest = c.args.digest.now in
    subst (λ (v : Verdict). IfErr c.go_on.result (λ fault. IsCause fault digest v)) (sym (verdict_journal r digest c.args.image.now (sym c.in_ok-blank.ensures ∙ c.if-blank.false))) c.go_on.ensures.refusal

pub returns-then-blank-clause-graph : goal.returns-then-blank-clause-graph
returns-then-blank-clause-graph g c = err_as _ _ c.make_anew.result c.make_anew.ensures.cause (λ fault cause. leaves_cause _ _ c.args.graph.now c.args.graph.now fault _ _ cause (inl refl))
