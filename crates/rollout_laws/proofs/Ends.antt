-- Where all operations are settled, each item is at its target.
use Rattle.std.proofs.Common.{◌≡◌, ℕ, ◌*◌, ◌<◌, true, [], ◌∷◌, ◌==◌, if◌then◌else◌, length, is_some, sym, ap, ◌∙◌, eqb-true, ltb-true, le_of_eq}
use Rattle.rollout_rules.specs.Wan.{Problem, Plan, flow_at, tunnel_at, tunnel_of, hops, new_rate, rate_at, mark_at, last_stage}
use Rattle.rollout_rules.specs.Network.{IsNetwork}
use Rattle.rollout_rules.specs.Items.{is_item, item_count, number_of, item_at, content}
use Rattle.rollout_rules.specs.Valid.{is_valid_plan}
use Rattle.rollout_rules.specs.Operations.{operations, content_after}
use Rattle.rollout_rules.specs.History.{History, settled, places_of, stand}
use Rattle.rollout_rules.specs.Legal.{is_finished}
use Rattle.rollout_rules.specs.Safe.{settled_rate, settled_mark}
use Rattle.rollout_rules.specs.declared.item.Item.{Item}
use Rattle.rollout_rules.specs.declared.item.Item.TheVariants as item
use Rattle.rollout_rules.proofs.Below.{all_below-at}
use Rattle.rollout_rules.proofs.Numbers.{item_at-number_of, number_of-below}
use Rattle.rollout_rules.proofs.Tunnels.{tunnel_of-below}
use Rattle.rollout_rules.proofs.OverItems.{is_item-flow, is_item-entry, entry-is_item}
use Rattle.rollout_rules.proofs.Rows.{list_below-same}
use Rattle.rollout_laws.specs.Target.{target}
use Rattle.rollout_laws.proofs.Standing.{stand-last}
use Rattle.rollout_laws.proofs.Validity.{IsValid, plan-is_valid}

module _ (p : Problem) (plan : Plan) (h : History) where
  finished-settled : is_finished p plan h ≡ true → (i : Item) → is_item p i ≡ true → settled h (number_of p i) ≡ operations p plan i
  finished-settled finished i here =
      eqb-true (settled h (number_of p i)) (operations p plan (item_at p (number_of p i))) (all_below-at (item_count p) (λ n. settled h n == operations p plan (item_at p n)) finished (number_of p i) (number_of-below p i here))
      ∙ ap (operations p plan) (item_at-number_of p i here)

  pub finished-stand : is_finished p plan h ≡ true → (i : Item) → is_item p i ≡ true → stand p plan (places_of p h) i ≡ last_stage plan
  finished-stand finished i here = stand-last p plan i (settled h (number_of p i)) (le_of_eq (sym (finished-settled finished i here)))

  pub finished-rate : IsNetwork p → is_valid_plan p plan ≡ true → is_finished p plan h ≡ true → (t : ℕ) → t < length p.tunnels → settled_rate p plan (places_of p h) t ≡ plan.scale * new_rate (tunnel_at p t)
  finished-rate net valid finished t lt =
      ap (λ s. rate_at plan s t) (finished-stand finished (item.Flow (tunnel_at p t).flow) (is_item-flow p (tunnel_at p t).flow (net.tunnels t lt).flow))
      ∙ (plan-is_valid p plan valid).new_rates t lt

  pub finished-mark : is_valid_plan p plan ≡ true → is_finished p plan h ≡ true → (t g : ℕ) → t < length p.tunnels → g < hops p t → settled_mark p plan (places_of p h) t g ≡ is_some (tunnel_at p t).new
  finished-mark valid finished t g lt low =
      ap (λ s. mark_at plan s t) (finished-stand finished (item.Entry t g) (is_item-entry p t g lt low))
      ∙ (plan-is_valid p plan valid).new_marks t lt

  -- the content of the last stage is the target
  last-target : IsNetwork p → IsValid p plan → (i : Item) → is_item p i ≡ true → content p plan i (last_stage plan) ≡ target p plan i
  last-target net valid (item.Flow f) here = list_below-same (flow_at p f).tunnels _ _ (λ j few. valid.new_rates (tunnel_of p f j) (tunnel_of-below p f j net (ltb-true f (length p.flows) here) few))
  last-target net valid (item.Entry t g) here = ap (λ b. (if b then 1 else 0) ∷ []) (valid.new_marks t (entry-is_item p t g here).row)

  pub finished-target : IsNetwork p → is_valid_plan p plan ≡ true → is_finished p plan h ≡ true → (i : Item) → is_item p i ≡ true → content_after p plan i (settled h (number_of p i)) ≡ target p plan i
  finished-target net valid finished i here = ap (content p plan i) (finished-stand finished i here) ∙ last-target net (plan-is_valid p plan valid) i here
