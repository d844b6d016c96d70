use Rattle.std.proofs.Common.{◌≡◌, ℕ, ◌∙◌, List, true, sym, ap, subst}
use Rattle.rollout_rules.specs.Sums.{list_below}
use Rattle.rollout_rules.specs.Items.{item_count}
use Rattle.rollout_rules.specs.History.{no_start}
use Rattle.rollout_rules.specs.Legal.{is_sound}
use Rattle.rollout_rules.specs.Agent.{first_pair}
use Rattle.rollout_rules.specs.World.{are_first_pairs, no_pairs}
use Rattle.rollout_rules.specs.declared.held.Held.{Held}
use Rattle.rollout_laws.proofs.SoundStarts.{no_start-sound}
use Rattle.rollout_laws.proofs.Keeping.{new_pairs_are_first}
use Rattle.rollout_core.proofs.HeldPairs.{list_below-same}
use Rattle.edge_cases.proofs.schedules.run_schedule.Goals as goal

pub any_rollout-requires-clause-sound : goal.any_rollout-requires-clause-sound
any_rollout-requires-clause-sound c =
    let r = c.args.plan.now in
    let items : c.item_count-items.result ≡ item_count r.problem = c.item_count-items.ensures ∙ ap item_count c.problem.ensures in
    let starts : c.deref.result.now ≡ no_start r.problem =
    c.deref.ensures.value ∙ c.in_ok-start.ensures.items_if_clones_equal (λ y e. e) ∙ sym (list_below-same c.item_count-items.result 0 0) ∙ ap (λ n. list_below n (λ k. 0)) items in
    subst (λ (x : List ℕ). is_sound r.problem r.plan x ≡ true) (sym starts) (no_start-sound r.problem r.plan c.checked_plan_is_valid.ensures.valid)

pub any_rollout-requires-clause-first : goal.any_rollout-requires-clause-first
any_rollout-requires-clause-first c =
    let r = c.args.plan.now in
    let items : c.item_count-items.result ≡ item_count r.problem = c.item_count-items.ensures ∙ ap item_count c.problem.ensures in
    let starts : c.deref.result.now ≡ no_start r.problem =
    c.deref.ensures.value ∙ c.in_ok-start.ensures.items_if_clones_equal (λ y e. e) ∙ sym (list_below-same c.item_count-items.result 0 0) ∙ ap (λ n. list_below n (λ k. 0)) items in
    let pairs : c.deref-2.result.now ≡ no_pairs r.problem =
    c.deref-2.ensures.value ∙ c.in_ok-first.ensures.items_if_clones_equal (λ y e. e) ∙ sym (list_below-same c.item_count-items.result first_pair first_pair) ∙ ap (λ n. list_below n (λ k. first_pair)) items in
    subst (λ (x : List ℕ). are_first_pairs r.problem x 0 c.deref-2.result.now ≡ true) (sym starts)
    (subst (λ (x : List Held). are_first_pairs r.problem (no_start r.problem) 0 x ≡ true) (sym pairs) (new_pairs_are_first r.problem))
