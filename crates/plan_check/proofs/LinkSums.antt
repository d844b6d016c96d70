-- Loads of links that were added up, and how large they get.
use Rattle.std.proofs.Common.{◌≡◌, ℕ, zero, suc, ◌*◌, ◌^◌, ◌<◌, ◌≤◌, Bool, List, length, slice_index, Option, Some, None, unwrap_or, if◌then◌else◌, ap, ◌∙◌, arith}
use Rattle.lists.proofs.Conditions.{if_most}
use Rattle.rollout_rules.specs.declared.limits.TheConstants.{LARGEST_PLAN_RATE}
use Rattle.rollout_rules.specs.Sums.{sum_below, list_below}
use Rattle.rollout_rules.specs.Wan.{Problem, tunnel_at, crosses}
use Rattle.rollout_rules.specs.Items.{load}
use Rattle.rollout_rules.specs.Network.{IsNetwork, IsRate}
use Rattle.rollout_rules.proofs.Below.{sum_below-same}
use Rattle.rollout_rules.proofs.Rows.{list_below-length, list_below-at}
use Rattle.wan_model.specs.declared.side.Side.{Side}
use Rattle.wan_model.specs.declared.side.Side.TheVariants.{Old, New}
use Rattle.wan_model.specs.Sides.{rate_on}
use Rattle.plan_check.specs.Parts.{rate_share}
use Rattle.plan_check.specs.LeastSlack.{AreLoads}
use Rattle.plan_check.proofs.Rows.{list_below-from}
use Rattle.plan_check.proofs.Shares.{AreSums}

-- rates within the limit of a plan's add up to no more than so many times that
sum_most : (p : Problem) (rate : ℕ → ℕ) (l n : ℕ) → ((t : ℕ) → t < n → rate t ≤ LARGEST_PLAN_RATE) → sum_below n (λ t. rate_share p rate t l) ≤ n * LARGEST_PLAN_RATE
sum_most p rate l zero within = omega arith
sum_most p rate l (suc n) within = omega (arith, sum_most p rate l n (λ t lt. within t (omega arith)), if_most (crosses p n l) (rate n) LARGEST_PLAN_RATE (within n (omega arith)))

module _ (p : Problem) (rate : ℕ → ℕ) (sums : List ℕ) (n : ℕ) (all : n ≡ length p.tunnels) (so : AreSums sums (length p.links) n (rate_share p rate)) where
  pub loads-from_sums : sums ≡ list_below (length p.links) (load p rate)
  loads-from_sums = list_below-from sums (length p.links) (load p rate) so.count
      (λ l lt. so.each l lt ∙ ap (λ m. sum_below m (λ t. rate_share p rate t l)) all)

  pub loads-small : IsNetwork p → ((t : ℕ) → t < length p.tunnels → rate t ≤ LARGEST_PLAN_RATE) → (k : ℕ) → k < length sums → slice_index sums k < 2 ^ 64
  loads-small net within k lt =
      omega (arith, so.each k (omega (arith, so.count)), sum_most p rate k n (λ t low. within t (omega (arith, all))), all, net.few)

-- the rates of a split are within that limit
rate_most : (r : Option ℕ) → IsRate r → unwrap_or r 0 ≤ LARGEST_PLAN_RATE
rate_most None is = omega arith
rate_most (Some n) is = omega (arith, is)

split_most : (side : Side) (p : Problem) (t : ℕ) → IsNetwork p → t < length p.tunnels → unwrap_or (rate_on side (tunnel_at p t)) 0 ≤ LARGEST_PLAN_RATE
split_most Old p t net lt = rate_most (tunnel_at p t).old (net.tunnels t lt).old
split_most New p t net lt = rate_most (tunnel_at p t).new (net.tunnels t lt).new

module _ (side : Side) (p : Problem) (rates : List ℕ) (n : ℕ) (all : n ≡ length p.tunnels) (are : rates ≡ list_below n (λ t. unwrap_or (rate_on side (tunnel_at p t)) 0)) where
  pub split-length : length rates ≡ length p.tunnels
  split-length = ap length are ∙ list_below-length n (λ t. unwrap_or (rate_on side (tunnel_at p t)) 0) ∙ all

  split-at : (t : ℕ) → t < length p.tunnels → slice_index rates t ≡ unwrap_or (rate_on side (tunnel_at p t)) 0
  split-at t lt = ap (λ xs. slice_index xs t) are ∙ list_below-at n (λ t. unwrap_or (rate_on side (tunnel_at p t)) 0) t 0 (omega (arith, all))

  pub split-within : IsNetwork p → (t : ℕ) → t < length rates → slice_index rates t ≤ LARGEST_PLAN_RATE
  split-within net t lt = let inside : t < length p.tunnels = omega (arith, split-length) in omega (arith, split-at t inside, split_most side p t net inside)

  share-same : (b : Bool) (x y : ℕ) → x ≡ y → (if b then x else 0) ≡ (if b then y else 0)
  share-same b x y e = ap (λ z. if b then z else 0) e

  pub split-loads : (sums : List ℕ) → sums ≡ list_below (length p.links) (load p (slice_index rates)) → AreLoads side p sums
  split-loads sums is = record {
    count = ap length is ∙ list_below-length (length p.links) (load p (slice_index rates));
    each = λ l lt.
        ap (λ xs. slice_index xs l) is
        ∙ list_below-at (length p.links) (load p (slice_index rates)) l 0 lt
        ∙ sum_below-same (length p.tunnels) (λ t. if crosses p t l then slice_index rates t else 0) (λ t. if crosses p t l then unwrap_or (rate_on side (tunnel_at p t)) 0 else 0)
        (λ t low. share-same (crosses p t l) (slice_index rates t) (unwrap_or (rate_on side (tunnel_at p t)) 0) (split-at t low));
  }
