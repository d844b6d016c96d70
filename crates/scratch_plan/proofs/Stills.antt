-- Equal rates need no rate step.
use Rattle.std.proofs.Common.{◌≡◌, ℕ, suc, ◌*◌, ◌<◌, ◌≤◌, max, true, List, [], ◌∷◌, map, length, get_or, slice_index, ◌==◌, None, refl, ap, ap₂, subst, arith, eqb-true}
use Rattle.rollout_rules.specs.Wan.{Problem, Tunnel, no_tunnel, tunnel_at, link_at, old_rate, new_rate}
use Rattle.rollout_rules.specs.Network.{IsNetwork}
use Rattle.rollout_rules.specs.Items.{load}
use Rattle.rollout_rules.specs.Valid.{is_valid_plan}
use Rattle.rollout_rules.proofs.Below.{all_below-at}
use Rattle.scratch_plan.specs.Frame.{old_row, new_row, still, has_equal_rates}
use Rattle.scratch_plan.specs.Refusals.{refusal}
use Rattle.scratch_plan.specs.Steps.{IsRow}
use Rattle.scratch_plan.proofs.Installed.{rate-row}
use Rattle.scratch_plan.proofs.Frames.{load-mono, frame-valid}
use Rattle.scratch_plan.proofs.Slackness.{row-blended, old-blended}
use Rattle.scratch_plan.proofs.Causes.{loads-fit, room}

same-map : (f g : Tunnel → ℕ) (ts : List Tunnel) → ((t : ℕ) → t < length ts → f (get_or ts t no_tunnel) ≡ g (get_or ts t no_tunnel)) → map f ts ≡ map g ts
same-map f g [] same = refl
same-map f g (t ∷ ts) same = ap₂ ◌∷◌ (same 0 (omega arith)) (same-map f g ts (λ k lt. same (suc k) (omega arith)))

module _ (p : Problem) (net : IsNetwork p) (free : refusal p ≡ None) (equal : has_equal_rates p ≡ true) where
  same-rate : (t : ℕ) → t < length p.tunnels → old_rate (tunnel_at p t) ≡ new_rate (tunnel_at p t)
  same-rate t inside = eqb-true (old_rate (tunnel_at p t)) (new_rate (tunnel_at p t)) (all_below-at (length p.tunnels) (λ u. old_rate (tunnel_at p u) == new_rate (tunnel_at p u)) equal t inside)

  same-row : old_row p 1 ≡ new_row p 1
  same-row = same-map (λ t. 1 * old_rate t) (λ t. 1 * new_rate t) p.tunnels (λ t inside. ap (λ x. 1 * x) (same-rate t inside))

  row : IsRow p 1 (old_row p 1)
  row = subst (IsRow p 1) (old-blended p 1) (row-blended p 1 net 0 (omega arith))

  fits : (l : ℕ) → l < length p.links → load p (λ t. max (slice_index (old_row p 1) t) (slice_index (old_row p 1) t)) l ≤ (link_at p l).capacity * 1
  fits l inside =
      let less = load-mono p (λ t. max (slice_index (old_row p 1) t) (slice_index (old_row p 1) t)) (λ t. old_rate (tunnel_at p t)) l (λ t low. omega (arith, rate-row p (λ u. 1 * old_rate u) t low)) in
      omega (arith, less, (loads-fit p free l inside).0)

  pub still-valid : is_valid_plan p (still p) ≡ true
  still-valid = frame-valid p 1 [] (room p free) (record {
    low = omega arith;
    high = omega arith;
    few = omega arith;
    last = same-row;
    steps = record { before = row; after = row; fits = fits };
  }) net
