use Rattle.std.proofs.Common.{◌≡◌, Bool, true, false, ◌&&◌, refl, sym, ◌∙◌}
use Rattle.std.proofs.lemmas.Result.{IfOk-weaker}
use Rattle.fewest_plan.specs.Stuck.{stays_full}
use Rattle.fewest_plan.proofs.stuck.is_stuck.Goals as goal

both : (a b : Bool) → a ≡ true → b ≡ (a && b)
both a b e = rw e refl

neither : (a b : Bool) → a ≡ false → false ≡ (a && b)
neither a b e = rw e refl

pub returns-then-may_be_stuck : goal.returns-then-may_be_stuck
returns-then-may_be_stuck c =
    IfOk-weaker c.stays_full.result _ _ (λ is e. e ∙ both _ (stays_full c.args.problem.now c.args.l) (sym c.may_be_stuck.ensures ∙ c.if-may_be_stuck.true)) c.stays_full.ensures

pub returns : goal.returns
returns c = neither _ (stays_full c.args.problem.now c.args.l) (sym c.may_be_stuck.ensures ∙ c.if-may_be_stuck.false)
