use Rattle.std.proofs.Common.{◌≡◌, ℕ, List, ◌++◌, codes, append_assoc, sym, ap, ◌∙◌}
use Rattle.std.proofs.lemmas.Result.{on_ok_weaker}
use Rattle.scratch_plan.specs.declared.no_plan.NoPlan.{NoPlan}
use Rattle.text_commands.specs.NoPlanLines.{link_load, above, leaves_no_slack, no_plan_line}
use Rattle.text_commands.proofs.no_plan_line.push_cause.Goals as goal

-- two texts, one after the other, that are a line
both : (text one two x y line : List ℕ) → one ≡ text ++ x → two ≡ one ++ y → line ≡ x ++ y → two ≡ text ++ line
both text one two x y line first second is = second ∙ ap (λ (l : List ℕ). l ++ y) first ∙ append_assoc text x y ∙ ap (λ (l : List ℕ). text ++ l) (sym is)

pub returns-in_ok-push_link_load-in-OverCapacity : goal.returns-in_ok-push_link_load-in-OverCapacity
returns-in_ok-push_link_load-in-OverCapacity c =
    let p = c.args.problem.now in
    let arm = c.in-OverCapacity in
    let load = link_load (codes "no plan: link ") p arm.link arm.side arm.load in
    on_ok_weaker c.push_above.result
    (λ e. both c.args.line.now c.push_link_load.new.line c.push_above.new.line load (above arm.capacity) (no_plan_line p c.args.cause) c.in_ok-push_link_load-in-OverCapacity.ensures e (ap (λ (why : NoPlan). no_plan_line p why) arm.is))
    c.push_above.ensures

pub returns-in_ok-push_link_load-in-NoSlack : goal.returns-in_ok-push_link_load-in-NoSlack
returns-in_ok-push_link_load-in-NoSlack c =
    let p = c.args.problem.now in
    let arm = c.in-NoSlack in
    let load = link_load (codes "no plan: link ") p arm.link arm.side arm.load in
    on_ok_weaker c.push_leaves_no_slack.result
    (λ e. both c.args.line.now c.push_link_load-in-NoSlack.new.line c.push_leaves_no_slack.new.line load (leaves_no_slack arm.capacity) (no_plan_line p c.args.cause) c.in_ok-push_link_load-in-NoSlack.ensures e (ap (λ (why : NoPlan). no_plan_line p why) arm.is))
    c.push_leaves_no_slack.ensures
