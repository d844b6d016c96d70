-- What a policy sees of an item's next operation.
use Rattle.std.proofs.Common.{◌≡◌, ℕ, ◌<◌, true, not, ap, sym, ◌∙◌, subst, nat_lt, ltb-true}
use Rattle.std.proofs.lemmas.Bool.{and_parts}
use Rattle.rollout_rules.specs.Wan.{Rollout, last_stage}
use Rattle.rollout_rules.specs.Items.{is_item, item_count, item_at}
use Rattle.rollout_rules.specs.Operations.{stand_after}
use Rattle.rollout_rules.specs.History.{settled, flies, stand}
use Rattle.rollout_rules.proofs.Numbers.{is_item-item_at, number_of-item_at}
use Rattle.rollout_laws.proofs.Standing.{stand-left}
use Rattle.rollout_rules.specs.declared.item.Item.{Item}
use Rattle.dependency_graph.specs.Graph.{Followed, count_of, places, has_next}

-- its item exists
pub viewed-item : (g c : Followed) (r : Rollout) (n : ℕ) (i : Item) → g ≡ c → r ≡ c.rollout → n < item_count g.rollout.problem → i ≡ item_at c.rollout.problem n → is_item r.problem i ≡ true
viewed-item g c r n i same own lt is =
    let here : n < item_count c.rollout.problem = subst (λ f. n < item_count f.rollout.problem) same lt in
    subst (λ q. is_item q.problem i ≡ true) (sym own) (ap (is_item c.rollout.problem) is ∙ is_item-item_at c.rollout.problem n here)

-- and stands ahead of the last stage
pub viewed-stage : (g c : Followed) (r q : Rollout) (n s : ℕ) → g ≡ c → r ≡ c.rollout → q ≡ c.rollout → n < item_count g.rollout.problem → has_next g n ≡ true
    → s ≡ stand q.problem q.plan (places c) (item_at q.problem n) → s < last_stage r.plan
viewed-stage g c r q n s same own of lt next found =
    let is = subst (λ o. s ≡ stand o.problem o.plan (places c) (item_at o.problem n)) of found in
    let here : n < item_count c.rollout.problem = subst (λ f. n < item_count f.rollout.problem) same lt in
    let left = ltb-true (settled c.history n) (count_of c.rollout n) (and_parts (not (flies c.history n)) (nat_lt (settled c.history n) (count_of c.rollout n)) (subst (λ f. has_next f n ≡ true) same next)).1 in
    let at = is ∙ ap (λ m. stand_after c.rollout.problem c.rollout.plan (item_at c.rollout.problem n) (settled c.history m)) (number_of-item_at c.rollout.problem n here) in
    subst (λ q. s < last_stage q.plan) (sym own)
    (subst (λ k. k < last_stage c.rollout.plan) (sym at) (stand-left c.rollout.problem c.rollout.plan (item_at c.rollout.problem n) (settled c.history n) left))
