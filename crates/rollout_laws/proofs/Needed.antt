-- Needs that are met stay met as items stand at later stages.
use Rattle.std.proofs.Common.{◌≡◌, ℕ, ◌+◌, ◌<◌, ◌≤◌, Bool, true, ◌||◌, length, inl, inr, le_trans, le-leb, leb-true, nat_le, nat_eq, ltb-true}
use Rattle.std.proofs.lemmas.Bool.{or_cases, or_left, or_right}
use Rattle.rollout_rules.specs.Wan.{Problem, Plan, flow_at, tunnel_at, tunnel_of, hops, rate_at, mark_at}
use Rattle.rollout_rules.specs.Network.{IsNetwork}
use Rattle.rollout_rules.specs.Items.{is_item}
use Rattle.rollout_rules.specs.History.{Places, stand}
use Rattle.rollout_rules.specs.Needs.{installed_since, idle_since, entries_past, needs_met_at}
use Rattle.rollout_rules.specs.declared.item.Item.{Item}
use Rattle.rollout_rules.specs.declared.item.Item.TheVariants as item
use Rattle.rollout_rules.proofs.Below.{all_below-at, all_below-from}
use Rattle.rollout_rules.proofs.OverItems.{is_item-flow, is_item-entry, entry-is_item}
use Rattle.rollout_rules.proofs.Tunnels.{tunnel_of-below}

or-mono : (z a b : Bool) → (a ≡ true → b ≡ true) → (z || a) ≡ true → (z || b) ≡ true
or-mono z a b up e = elim (or_cases z a e) as (λ c. (z || b) ≡ true) [
  | inl left ↦ or_left z b left
  | inr right ↦ or_right z b (up right)
]

module _ (p : Problem) (plan : Plan) (net : IsNetwork p) (at later : Places) (up : (i : Item) → is_item p i ≡ true → stand p plan at i ≤ stand p plan later i) where
  entries_past-later : (t s : ℕ) → t < length p.tunnels → entries_past p plan at t s ≡ true → entries_past p plan later t s ≡ true
  entries_past-later t s lt past =
      all_below-from (hops p t) (λ h. nat_le s (stand p plan later (item.Entry t h)))
      (λ h low. le-leb s (stand p plan later (item.Entry t h))
      (le_trans (leb-true s (stand p plan at (item.Entry t h)) (all_below-at (hops p t) (λ g. nat_le s (stand p plan at (item.Entry t g))) past h low)) (up (item.Entry t h) (is_item-entry p t h lt low))))

  pub needs-later : (i : Item) → is_item p i ≡ true → (s : ℕ) → needs_met_at p plan at i s ≡ true → needs_met_at p plan later i s ≡ true
  needs-later (item.Flow f) here s met =
      all_below-from (flow_at p f).tunnels _
      (λ j lt. or-mono (nat_eq (rate_at plan (s + 1) (tunnel_of p f j)) 0) _ _
      (entries_past-later (tunnel_of p f j) (installed_since plan (tunnel_of p f j) (s + 1)) (tunnel_of-below p f j net (ltb-true f (length p.flows) here) lt))
      (all_below-at (flow_at p f).tunnels _ met j lt))
  needs-later (item.Entry t h) here s met =
      let flow = item.Flow (tunnel_at p t).flow in
      or-mono (mark_at plan (s + 1) t) (nat_le (idle_since plan t s) (stand p plan at flow)) (nat_le (idle_since plan t s) (stand p plan later flow))
      (λ left. le-leb (idle_since plan t s) (stand p plan later flow)
      (le_trans (leb-true (idle_since plan t s) (stand p plan at flow) left) (up flow (is_item-flow p (tunnel_at p t).flow (net.tunnels t (entry-is_item p t h here).row).flow))))
      met
