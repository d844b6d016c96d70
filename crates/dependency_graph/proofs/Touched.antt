-- The room of a link is a sum over the tunnels that cross it, and that of a table one over the entries in it.
use Rattle.std.proofs.Common.{◌≡◌, ℕ, ◌+◌, ◌<◌, ◌≤◌, Bool, true, false, ◌&&◌, List, length, slice_index, refl, sym, ap, ap₂, ◌∙◌, arith, nat_le, ◌==◌, if◌then◌else◌}
use Rattle.rollout_rules.specs.Sums.{sum_below}
use Rattle.rollout_rules.specs.Wan.{Problem, Plan, Rollout, tunnel_of, flow_at, hops, switch_of, width_of, crosses, rate_at, mark_at, last_stage}
use Rattle.rollout_rules.specs.Network.{IsNetwork}
use Rattle.rollout_rules.specs.Items.{the_link, the_table, is_item, item_count, item_at, number_of, greater_rate, either_mark}
use Rattle.rollout_rules.specs.Operations.{stand_after}
use Rattle.rollout_rules.specs.History.{Places, stand}
use Rattle.rollout_rules.specs.Room.{least_stage, share, room}
use Rattle.rollout_rules.specs.declared.item.Item.{Item}
use Rattle.rollout_rules.specs.declared.item.Item.TheVariants as item
use Rattle.rollout_rules.specs.declared.op.Op.{Op}
use Rattle.rollout_rules.specs.declared.op.Entry.{Entry}
use Rattle.rollout_rules.proofs.Below.{sum_below-same, sum_below-zero, least_below-top, least_below-at, least_below-from}
use Rattle.rollout_rules.proofs.Numbers.{item_at-number_of, number_of-below, is_item-item_at, number_of-item_at}
use Rattle.rollout_rules.proofs.Tunnels.{flow-tunnel_of}
use Rattle.rollout_rules.proofs.Totals.{sum_below-tunnels}
use Rattle.rollout_rules.proofs.OverItems.{is_item-flow, is_item-entry, least_items-top, least_items-at, least_items-from}
use Rattle.dependency_graph.specs.declared.index.table_place.TablePlace.{TablePlace}
use Rattle.dependency_graph.specs.Index.{place_at, IsCrossing, IsTable}
use Rattle.dependency_graph.specs.Progress.{Counts}
use Rattle.dependency_graph.specs.Ahead.{settled_with, flies_begun, stand_with, places_begun, flow_share, rate_share, width_share}
use Rattle.dependency_graph.specs.Fits.{least_stand}

-- which of three sums is taken is asked once, or for each place
pulled : (near fl : Bool) (n : ℕ) (over : ℕ → Bool) (x y z : ℕ → ℕ)
    → (if near then sum_below n (λ j. if over j then x j else 0) else (if fl then sum_below n (λ j. if over j then y j else 0) else sum_below n (λ j. if over j then z j else 0)))
    ≡ sum_below n (λ j. if over j then (if near then x j else (if fl then y j else z j)) else 0)
pulled true fl n over x y z = refl
pulled false true n over x y z = refl
pulled false false n over x y z = refl

none : (near fl : Bool) → ◌≡◌ {A = ℕ} (if near then 0 else (if fl then 0 else 0)) 0
none true fl = refl
none false true = refl
none false false = refl

its_width : (width : ℕ) (near fl here a b d : Bool)
    → ◌≡◌ {A = ℕ} (if near then (if here && a then width else 0) else (if fl then (if here && b then width else 0) else (if here && d then width else 0)))
    (if here then (if (if near then a else (if fl then b else d)) then width else 0) else 0)
its_width width true fl true a b d = refl
its_width width true fl false a b d = refl
its_width width false true true a b d = refl
its_width width false true false a b d = refl
its_width width false false true a b d = refl
its_width width false false false a b d = refl

module _ (r : Rollout) (c : Counts) (ahead : List Entry) (op : Op) where
  abbrev p : Problem
  p = r.problem

  abbrev plan : Plan
  plan = r.plan

  abbrev at : Places
  at = places_begun r c ahead op

  -- an item stands where its number does
  stand-number : (i : Item) → is_item p i ≡ true → stand p plan at i ≡ stand_with r c ahead (number_of p i)
  stand-number i here = ap (λ x. stand_after p plan x (settled_with c ahead (number_of p i))) (sym (item_at-number_of p i here))

  -- a flow's share of a link, tunnel by tunnel
  abbrev shared : ℕ → ℕ → Bool → ℕ → ℕ
  shared s u fl t = if nat_le u s then greater_rate plan s t else (if fl then greater_rate plan u t else rate_at plan u t)

  share-flow : (s l f : ℕ) → IsNetwork p → f < length p.flows → share p plan at s (the_link l) (item.Flow f) ≡ sum_below (flow_at p f).tunnels (λ j. if crosses p (tunnel_of p f j) l then rate_share r c ahead op s (tunnel_of p f j) else 0)
  share-flow s l f net lt =
      let u = stand p plan at (item.Flow f) in
      let fl = flies_begun c ahead op f in
      let here = stand-number (item.Flow f) (is_item-flow p f lt) in
      pulled (nat_le u s) fl (flow_at p f).tunnels (λ j. crosses p (tunnel_of p f j) l) (λ j. greater_rate plan s (tunnel_of p f j)) (λ j. greater_rate plan u (tunnel_of p f j)) (λ j. rate_at plan u (tunnel_of p f j))
      ∙ sum_below-same (flow_at p f).tunnels
      (λ j. if crosses p (tunnel_of p f j) l then shared s u fl (tunnel_of p f j) else 0)
      (λ j. if crosses p (tunnel_of p f j) l then rate_share r c ahead op s (tunnel_of p f j) else 0)
      (λ j few. ap (λ x. if crosses p (tunnel_of p f j) l then x else 0)
      (ap (λ v. shared s v fl (tunnel_of p f j)) here ∙ ap (λ g. flow_share r c ahead op s g (tunnel_of p f j)) (sym (flow-tunnel_of p f j net lt few))))

  share-off : (s l t h : ℕ) → share p plan at s (the_link l) (item.Entry t h) ≡ 0
  share-off s l t h = none (nat_le (stand p plan at (item.Entry t h)) s) (flies_begun c ahead op (number_of p (item.Entry t h)))

  pub room-link : (s l : ℕ) → IsNetwork p → room p plan at s (the_link l) ≡ sum_below (length p.tunnels) (λ t. if crosses p t l then rate_share r c ahead op s t else 0)
  room-link s l net =
      let flows = sum_below-same (length p.flows) (λ f. share p plan at s (the_link l) (item.Flow f))
      (λ f. sum_below (flow_at p f).tunnels (λ j. if crosses p (tunnel_of p f j) l then rate_share r c ahead op s (tunnel_of p f j) else 0))
      (λ f lt. share-flow s l f net lt) in
      let entries = sum_below-zero (length p.tunnels) (λ t. sum_below (hops p t) (λ h. share p plan at s (the_link l) (item.Entry t h)))
      (λ t lt. sum_below-zero (hops p t) (λ h. share p plan at s (the_link l) (item.Entry t h)) (λ h low. share-off s l t h)) in
      let tunnels = sum_below-tunnels p (λ t. if crosses p t l then rate_share r c ahead op s t else 0) net in
      ap₂ (λ a b. a + b) (flows ∙ tunnels) entries ∙ omega arith

  -- what an entry takes of its table
  abbrev taken : ℕ → ℕ → ℕ → ℕ
  taken = width_share r c ahead op

  abbrev placed : ℕ → ℕ → Bool → ℕ → Bool
  placed s u fl t = if nat_le u s then either_mark plan s t else (if fl then either_mark plan u t else mark_at plan u t)

  share-entry : (s w t h : ℕ) → t < length p.tunnels → h < hops p t → share p plan at s (the_table w) (item.Entry t h) ≡ (if switch_of p t h == w then taken s t (number_of p (item.Entry t h)) else 0)
  share-entry s w t h lt low =
      let u = stand p plan at (item.Entry t h) in
      let fl = flies_begun c ahead op (number_of p (item.Entry t h)) in
      its_width (width_of p t) (nat_le u s) fl (switch_of p t h == w) (either_mark plan s t) (either_mark plan u t) (mark_at plan u t)
      ∙ ap (λ v. if switch_of p t h == w then (if placed s v fl t then width_of p t else 0) else 0) (stand-number (item.Entry t h) (is_item-entry p t h lt low))

  share-away : (s w f : ℕ) → share p plan at s (the_table w) (item.Flow f) ≡ 0
  share-away s w f = none (nat_le (stand p plan at (item.Flow f)) s) (flies_begun c ahead op f)

  pub room-table : (s w : ℕ) → room p plan at s (the_table w) ≡ sum_below (length p.tunnels) (λ t. sum_below (hops p t) (λ h. if switch_of p t h == w then taken s t (number_of p (item.Entry t h)) else 0))
  room-table s w =
      let flows = sum_below-zero (length p.flows) (λ f. share p plan at s (the_table w) (item.Flow f)) (λ f lt. share-away s w f) in
      let entries = sum_below-same (length p.tunnels) (λ t. sum_below (hops p t) (λ h. share p plan at s (the_table w) (item.Entry t h)))
      (λ t. sum_below (hops p t) (λ h. if switch_of p t h == w then taken s t (number_of p (item.Entry t h)) else 0))
      (λ t lt. sum_below-same (hops p t) (λ h. share p plan at s (the_table w) (item.Entry t h)) (λ h. if switch_of p t h == w then taken s t (number_of p (item.Entry t h)) else 0)
      (λ h low. share-entry s w t h lt low)) in
      ap₂ (λ a b. a + b) flows entries ∙ omega arith

  -- by the rows of an index
  pub room-crossing : (s l : ℕ) (row : List ℕ) → IsNetwork p → IsCrossing p l (length p.tunnels) row → sum_below (length row) (λ j. rate_share r c ahead op s (slice_index row j)) ≡ room p plan at s (the_link l)
  room-crossing s l row net so = so.sums (rate_share r c ahead op s) ∙ sym (room-link s l net)

  pub room-places : (s w : ℕ) (row : List TablePlace) → IsTable p w (length p.tunnels) 0 row → sum_below (length row) (λ j. taken s (place_at row j).tunnel (place_at row j).item) ≡ room p plan at s (the_table w)
  room-places s w row so = so.sums (taken s) ∙ omega (arith, room-table s w)

  -- the least stage by the items' numbers
  pub least-numbers : least_stand r c ahead ≡ least_stage p plan at
  least-numbers = le_antisym up down
    where
      le_antisym : {a b : ℕ} → a ≤ b → b ≤ a → a ≡ b
      le_antisym x y = omega arith

      up : least_stand r c ahead ≤ least_stage p plan at
      up = least_items-from p (last_stage plan) (stand p plan at) (least_stand r c ahead) (least_below-top (item_count p) (last_stage plan) (stand_with r c ahead))
          (λ i here. omega (arith, least_below-at (item_count p) (last_stage plan) (stand_with r c ahead) (number_of p i) (number_of-below p i here), stand-number i here))

      down : least_stage p plan at ≤ least_stand r c ahead
      down = least_below-from (item_count p) (last_stage plan) (stand_with r c ahead) (least_stage p plan at) (least_items-top p (last_stage plan) (stand p plan at))
          (λ n lt. omega (arith, least_items-at p (last_stage plan) (stand p plan at) (item_at p n) (is_item-item_at p n lt), stand-number (item_at p n) (is_item-item_at p n lt) ∙ ap (stand_with r c ahead) (number_of-item_at p n lt)))
