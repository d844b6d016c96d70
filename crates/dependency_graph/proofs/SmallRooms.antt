-- No room is above 2^64, wherever the items stand: each takes there no more than in some step of the plan, and each step fits.
use Rattle.std.proofs.Common.{◌≡◌, ℕ, ◌+◌, ◌*◌, ◌^◌, ◌<◌, ◌≤◌, Bool, true, false, if◌then◌else◌, length, zero, suc, sym, ap₂, ◌∙◌, arith, le_trans, ltb-true, nat_le, mul-le-mul}
use Rattle.rollout_rules.specs.Sums.{sum_below}
use Rattle.rollout_rules.specs.Wan.{Problem, Plan, hops, last_stage}
use Rattle.rollout_rules.specs.Network.{IsNetwork}
use Rattle.rollout_rules.specs.Items.{Resource, the_link, the_table, is_resource, sum_items, capacity_of, use_at, step_maximum}
use Rattle.rollout_rules.specs.Valid.{is_valid_plan, step_total}
use Rattle.rollout_rules.specs.History.{Places, stand}
use Rattle.rollout_rules.specs.Room.{share, room}
use Rattle.rollout_rules.specs.declared.item.Item.{Item}
use Rattle.rollout_rules.specs.declared.item.Item.TheVariants as item
use Rattle.rollout_rules.proofs.Below.{sum_below-at, sum_below-plus, sum_below-same, sum_below-swap}
use Rattle.rollout_rules.proofs.OverItems.{sum_items-mono}
use Rattle.rollout_laws.proofs.Contents.{step-begins}
use Rattle.rollout_laws.proofs.Standing.{stand-most}
use Rattle.rollout_laws.proofs.Validity.{plan-is_valid}
use Rattle.dependency_graph.proofs.RoomCells.{scale-few, valid-shape}

capacity-small : (p : Problem) (plan : Plan) → IsNetwork p → is_valid_plan p plan ≡ true → (u : Resource) → is_resource p u ≡ true → capacity_of p plan u < 2 ^ 56
capacity-small p plan net valid (the_link l) here =
    let few = net.links.capacities l (ltb-true l (length p.links) here) in
    let scaled = mul-le-mul few (scale-few p plan (valid-shape p plan valid)) in
    omega (arith, scaled)
capacity-small p plan net valid (the_table w) here =
    let few = net.switches.tables w (ltb-true w (length p.switches) here) in
    omega (arith, few)

-- a sum over items of sums, by what is summed over the items
sum_items-swap : (p : Problem) (m : ℕ) (f : Item → ℕ → ℕ) → sum_items p (λ i. sum_below m (f i)) ≡ sum_below m (λ s. sum_items p (λ i. f i s))
sum_items-swap p m f =
    let flows = sum_below-swap (length p.flows) m (λ n. f (item.Flow n)) in
    let hops_of = sum_below-same (length p.tunnels) (λ t. sum_below (hops p t) (λ h. sum_below m (f (item.Entry t h)))) (λ t. sum_below m (λ s. sum_below (hops p t) (λ h. f (item.Entry t h) s)))
    (λ t lt. sum_below-swap (hops p t) m (λ h. f (item.Entry t h))) in
    let entries = sum_below-swap (length p.tunnels) m (λ t s. sum_below (hops p t) (λ h. f (item.Entry t h) s)) in
    ap₂ (λ a b. a + b) flows (hops_of ∙ entries)
    ∙ sym (sum_below-plus m (λ s. sum_below (length p.flows) (λ n. f (item.Flow n) s)) (λ s. sum_below (length p.tunnels) (λ t. sum_below (hops p t) (λ h. f (item.Entry t h) s))))

sum_below-small : (n : ℕ) (f : ℕ → ℕ) → ((k : ℕ) → k < n → f k < 2 ^ 56) → sum_below n f ≤ n * 72057594037927935
sum_below-small zero f small = omega arith
sum_below-small (suc n) f small = omega (arith, sum_below-small n f (λ k lt. small k (omega arith)), small n (omega arith))

some : (near fl : Bool) (a b d m : ℕ) → a ≤ m → b ≤ m → d ≤ m → (if near then a else (if fl then b else d)) ≤ m
some true fl a b d m x y z = x
some false true a b d m x y z = y
some false false a b d m x y z = z

module _ (p : Problem) (plan : Plan) (at : Places) (u : Resource) where
  abbrev most : Item → ℕ → ℕ
  most i s = step_maximum p plan s i u

  most-all : (i : Item) (s : ℕ) → s ≤ last_stage plan → most i s ≤ sum_below (last_stage plan + 1) (most i)
  most-all i s le = sum_below-at (last_stage plan + 1) (most i) s (omega (arith, le))

  share-all : (s : ℕ) → s ≤ last_stage plan → (i : Item) → share p plan at s u i ≤ sum_below (last_stage plan + 1) (most i)
  share-all s le i =
      let x = stand p plan at i in
      let here = most-all i x (stand-most p plan i (at.settled i)) in
      some (nat_le x s) (at.flies i) (most i s) (most i x) (use_at p plan x i u) (sum_below (last_stage plan + 1) (most i))
      (most-all i s le) here (le_trans (step-begins p plan i u x) here)

  room-all : (s : ℕ) → s ≤ last_stage plan → room p plan at s u ≤ sum_below (last_stage plan + 1) (λ x. step_total p plan x u)
  room-all s le =
      let each : room p plan at s u ≤ sum_items p (λ i. sum_below (last_stage plan + 1) (most i)) =
      sum_items-mono p (share p plan at s u) (λ i. sum_below (last_stage plan + 1) (most i)) (λ i here. share-all s le i) in
      let swapped : sum_items p (λ i. sum_below (last_stage plan + 1) (most i)) ≡ sum_below (last_stage plan + 1) (λ x. step_total p plan x u) = sum_items-swap p (last_stage plan + 1) most in
      omega (arith, each, swapped)

  pub room-small : IsNetwork p → is_valid_plan p plan ≡ true → is_resource p u ≡ true → (s : ℕ) → s ≤ last_stage plan → last_stage plan < 256 → room p plan at s u < 2 ^ 64
  room-small net valid here s le few =
      let step : (x : ℕ) → x < last_stage plan + 1 → step_total p plan x u < 2 ^ 56 =
      λ x lt. omega (arith, (plan-is_valid p plan valid).step x (omega (arith, lt)) u here, capacity-small p plan net valid u here) in
      omega (arith, room-all s le, sum_below-small (last_stage plan + 1) (λ x. step_total p plan x u) step, few)
