-- Needs and room go by the places of items alone.
use Rattle.std.proofs.Common.{◌≡◌, ℕ, zero, suc, ◌+◌, ◌<◌, Bool, true, ◌&&◌, ◌||◌, min, length, refl, ap, ap₂, arith, nat_le, nat_lt, ◌==◌, if◌then◌else◌}
use Rattle.rollout_rules.specs.Sums.{all_below, least_below}
use Rattle.rollout_rules.specs.Wan.{Problem, Plan, tunnel_at, tunnel_of, flow_at, hops, rate_at, mark_at, last_stage}
use Rattle.rollout_rules.specs.Network.{IsNetwork}
use Rattle.rollout_rules.specs.Items.{Resource, the_link, the_table, is_item, capacity_of, use_at, step_maximum}
use Rattle.rollout_rules.specs.Operations.{stand_after}
use Rattle.rollout_rules.specs.History.{Places, stand}
use Rattle.rollout_rules.specs.Needs.{installed_since, idle_since, entries_past, needs_met_at}
use Rattle.rollout_rules.specs.Room.{least_stage, share, room, fits_at, fits}
use Rattle.rollout_rules.specs.declared.item.Item.{Item}
use Rattle.rollout_rules.specs.declared.item.Item.TheVariants as item
use Rattle.rollout_rules.proofs.Tunnels.{tunnel_of-below}
use Rattle.rollout_rules.proofs.OverItems.{is_item-flow, is_item-entry, sum_items-same}

pub all_below-same : (n : ℕ) (f g : ℕ → Bool) → ((k : ℕ) → k < n → f k ≡ g k) → all_below n f ≡ all_below n g
all_below-same zero f g e = refl
all_below-same (suc n) f g e = ap₂ (λ a b. a && b) (all_below-same n f g (λ k lt. e k (omega arith))) (e n (omega arith))

pub least_below-same : (n top : ℕ) (f g : ℕ → ℕ) → ((k : ℕ) → k < n → f k ≡ g k) → least_below n top f ≡ least_below n top g
least_below-same zero top f g e = refl
least_below-same (suc n) top f g e = ap₂ min (least_below-same n top f g (λ k lt. e k (omega arith))) (e n (omega arith))

-- two places of the items are the same
pub record Agree (p : Problem) (at other : Places) : Type 0 where
  pub settled : (i : Item) → is_item p i ≡ true → at.settled i ≡ other.settled i
  pub flies : (i : Item) → is_item p i ≡ true → at.flies i ≡ other.flies i

module _ (p : Problem) (plan : Plan) (at other : Places) (same : Agree p at other) where
  pub stand-same : (i : Item) → is_item p i ≡ true → stand p plan at i ≡ stand p plan other i
  stand-same i here = ap (stand_after p plan i) (same.settled i here)

  entries_past-same : (t s : ℕ) → t < length p.tunnels → entries_past p plan at t s ≡ entries_past p plan other t s
  entries_past-same t s lt =
      all_below-same (hops p t) (λ h. nat_le s (stand p plan at (item.Entry t h))) (λ h. nat_le s (stand p plan other (item.Entry t h)))
      (λ h low. ap (nat_le s) (stand-same (item.Entry t h) (is_item-entry p t h lt low)))

  pub needs_at-flow : (f s : ℕ) → IsNetwork p → f < length p.flows → needs_met_at p plan at (item.Flow f) s ≡ needs_met_at p plan other (item.Flow f) s
  needs_at-flow f s net lt =
      all_below-same (flow_at p f).tunnels
      (λ j. (rate_at plan (s + 1) (tunnel_of p f j) == 0) || entries_past p plan at (tunnel_of p f j) (installed_since plan (tunnel_of p f j) (s + 1)))
      (λ j. (rate_at plan (s + 1) (tunnel_of p f j) == 0) || entries_past p plan other (tunnel_of p f j) (installed_since plan (tunnel_of p f j) (s + 1)))
      (λ j few. ap (λ b. (rate_at plan (s + 1) (tunnel_of p f j) == 0) || b) (entries_past-same (tunnel_of p f j) (installed_since plan (tunnel_of p f j) (s + 1)) (tunnel_of-below p f j net lt few)))

  pub needs_at-entry : (t h s : ℕ) → IsNetwork p → t < length p.tunnels → needs_met_at p plan at (item.Entry t h) s ≡ needs_met_at p plan other (item.Entry t h) s
  needs_at-entry t h s net lt =
      ap (λ u. mark_at plan (s + 1) t || nat_le (idle_since plan t s) u)
      (stand-same (item.Flow (tunnel_at p t).flow) (is_item-flow p (tunnel_at p t).flow (net.tunnels t lt).flow))

  abbrev share_from : ℕ → Resource → Item → ℕ → Bool → ℕ
  share_from s r i j fl = if nat_le (stand_after p plan i j) s then step_maximum p plan s i r else (if fl then step_maximum p plan (stand_after p plan i j) i r else use_at p plan (stand_after p plan i j) i r)

  pub room-same : (s : ℕ) (r : Resource) → room p plan at s r ≡ room p plan other s r
  room-same s r = sum_items-same p (share p plan at s r) (share p plan other s r) (λ i here. ap₂ (share_from s r i) (same.settled i here) (same.flies i here))

  pub fits_at-same : (s : ℕ) → fits_at p plan at s ≡ fits_at p plan other s
  fits_at-same s =
      ap₂ (λ a b. a && b)
      (all_below-same (length p.links) (λ l. nat_le (room p plan at s (the_link l)) (capacity_of p plan (the_link l))) (λ l. nat_le (room p plan other s (the_link l)) (capacity_of p plan (the_link l)))
      (λ l lt. ap (λ x. nat_le x (capacity_of p plan (the_link l))) (room-same s (the_link l))))
      (all_below-same (length p.switches) (λ w. nat_le (room p plan at s (the_table w)) (capacity_of p plan (the_table w))) (λ w. nat_le (room p plan other s (the_table w)) (capacity_of p plan (the_table w)))
      (λ w lt. ap (λ x. nat_le x (capacity_of p plan (the_table w))) (room-same s (the_table w))))

  pub least_stage-same : least_stage p plan at ≡ least_stage p plan other
  least_stage-same =
      ap₂ min
      (least_below-same (length p.flows) (last_stage plan) (λ n. stand p plan at (item.Flow n)) (λ n. stand p plan other (item.Flow n)) (λ n lt. stand-same (item.Flow n) (is_item-flow p n lt)))
      (least_below-same (length p.tunnels) (last_stage plan)
      (λ t. least_below (hops p t) (last_stage plan) (λ h. stand p plan at (item.Entry t h)))
      (λ t. least_below (hops p t) (last_stage plan) (λ h. stand p plan other (item.Entry t h)))
      (λ t lt. least_below-same (hops p t) (last_stage plan) (λ h. stand p plan at (item.Entry t h)) (λ h. stand p plan other (item.Entry t h)) (λ h low. stand-same (item.Entry t h) (is_item-entry p t h lt low))))

  pub fits-same : fits p plan at ≡ fits p plan other
  fits-same =
      all_below-same (last_stage plan) (λ s. nat_lt s (least_stage p plan at) || fits_at p plan at s) (λ s. nat_lt s (least_stage p plan other) || fits_at p plan other s)
      (λ s lt. ap₂ (λ m b. nat_lt s m || b) least_stage-same (fits_at-same s))
