-- A sum over items of what they take is a sum over tunnels.
use Rattle.std.proofs.Common.{◌≡◌, ℕ, ◌+◌, Bool, if◌then◌else◌, length, sym, refl, ap, ◌∙◌, arith}
use Rattle.rollout_rules.specs.Sums.{sum_below}
use Rattle.rollout_rules.specs.Wan.{Problem, Plan, tunnel_of, hops, crosses}
use Rattle.rollout_rules.specs.Network.{IsNetwork}
use Rattle.rollout_rules.specs.Items.{the_link, the_table, sum_items, takes, load, entries_at, greater_rate, either_mark}
use Rattle.rollout_rules.specs.Valid.{step_total}
use Rattle.rollout_rules.proofs.Below.{sum_below-same, sum_below-zero, sum_below-blocks}
use Rattle.rollout_rules.proofs.Tunnels.{tunnels_of}

-- a sum over the flows of sums over each flow's tunnels is a sum over all tunnels
pub sum_below-tunnels : (p : Problem) (f : ℕ → ℕ) → IsNetwork p → sum_below (length p.flows) (λ g. sum_below (tunnels_of p g) (λ j. f (tunnel_of p g j))) ≡ sum_below (length p.tunnels) f
sum_below-tunnels p f net =
    sum_below-same (length p.flows) (λ g. sum_below (tunnels_of p g) (λ j. f (tunnel_of p g j))) (λ g. sum_below (tunnels_of p g) (λ j. f (sum_below g (tunnels_of p) + j)))
    (λ g lt. ap (λ first. sum_below (tunnels_of p g) (λ j. f (first + j))) (net.flows.in_order g lt))
    ∙ sym (sum_below-blocks (length p.flows) (tunnels_of p) f)
    ∙ ap (λ n. sum_below n f) (sym net.flows.all)

pub sum_items-load : (p : Problem) (rate : ℕ → ℕ) (there : ℕ → ℕ → Bool) (l : ℕ) → IsNetwork p → sum_items p (λ i. takes p rate there i (the_link l)) ≡ load p rate l
sum_items-load p rate there l net =
    let none = sum_below-zero (length p.tunnels) (λ t. sum_below (hops p t) (λ h. 0)) (λ t lt. sum_below-zero (hops p t) (λ h. 0) (λ h low. refl)) in
    let flows = sum_below-tunnels p (λ t. if crosses p t l then rate t else 0) net in
    omega (arith, none, flows)

pub sum_items-entries_at : (p : Problem) (rate : ℕ → ℕ) (there : ℕ → ℕ → Bool) (w : ℕ) → sum_items p (λ i. takes p rate there i (the_table w)) ≡ entries_at p there w
sum_items-entries_at p rate there w = omega (arith, sum_below-zero (length p.flows) (λ f. 0) (λ f lt. refl))

-- the step maxima of all items on a link, and in a table
pub step_total-load : (p : Problem) (plan : Plan) (s l : ℕ) → IsNetwork p → step_total p plan s (the_link l) ≡ load p (greater_rate plan s) l
step_total-load p plan s l net = sum_items-load p (greater_rate plan s) (λ t h. either_mark plan s t) l net

pub step_total-entries_at : (p : Problem) (plan : Plan) (s w : ℕ) → step_total p plan s (the_table w) ≡ entries_at p (λ t h. either_mark plan s t) w
step_total-entries_at p plan s w = sum_items-entries_at p (greater_rate plan s) (λ t h. either_mark plan s t) w
