use Rattle.std.proofs.Common.{◌≡◌, List, [], ◌∷◌, ◌++◌, Option, ℕ, ap, ap₂, sym, ◌∙◌, arith}
use Rattle.rollout_rules.specs.Items.{item_count}
use Rattle.rollout_rules.specs.Sums.{list_below}
use Rattle.rollout_rules.specs.Wan.{Rollout}
use Rattle.rollout_rules.proofs.Rows.{list_below-more}
use Rattle.held_service.specs.Questions.{asked_home}
use Rattle.held_service.proofs.homes.asked_homes.Goals as goal

pub asked_home-requires-clause-number : goal.asked_home-requires-clause-number
asked_home-requires-clause-number c = omega (arith, c.loop-number-test.true, c.item_count-number-end.ensures, ap (λ (r : Rollout). item_count r.problem) c.requires)

pub loop-number-preserved : goal.loop-number-preserved
loop-number-preserved c =
    let r = c.args.plan.now in
    c.in_ok-push.ensures.ok
    ∙ ap₂ (λ (hs : List (Option ℕ)) (h : Option ℕ). hs ++ h ∷ []) c.loop-number.invariant c.asked_home.ensures
    ∙ sym (list_below-more c.loop-number.number (asked_home r.problem r.plan))

pub returns : goal.returns
returns c =
    let r = c.args.plan.now in
    let all : c.loop-number.number ≡ item_count r.problem = omega (arith, c.loop-number-test.false, c.loop-number.auto.number-end, c.item_count-number-end.ensures, ap (λ (q : Rollout). item_count q.problem) c.requires) in
    c.loop-number.invariant ∙ ap (λ n. list_below n (asked_home r.problem r.plan)) all
