-- How a problem grows by a flow and by a tunnel, and where the tunnels of its last flow stand.
use Rattle.std.proofs.Common.{◌≡◌, ◌≢◌, ℕ, zero, suc, ◌+◌, ◌-◌, ◌<◌, ◌≤◌, List, [], ◌∷◌, ◌++◌, length, Option, ap, arith, length-append}
use Rattle.std.proofs.lemmas.List.{get_or_push}
use Rattle.std.proofs.lemmas.Grind.{common_steps, get_or-set_at}
use Rattle.std.proofs.Math.ListN.{length-set}
use Rattle.serde_json.specs.Data.{Items}
use Rattle.serde_json.specs.Events.{items_len}
use Rattle.rollout_rules.specs.Sums.{sum_below}
use Rattle.rollout_rules.specs.Wan.{Problem, flow_at, hops, no_flow}
use Rattle.rollout_rules.specs.Network.{IsNetwork}
use Rattle.rollout_rules.specs.Building.{with_flow, with_tunnel, with_one_more, last_flow}
use Rattle.problem_json.specs.GrammarGrowth.{tunnels_of_last, HasMoreTunnels}

pub flow_starts : (p : Problem) (name : List ℕ) → tunnels_of_last (with_flow p name) ≡ 0
flow_starts p name =
    let last : length p.flows ≡ length (p.flows ++ record { name = name; first = length p.tunnels; tunnels = 0 } ∷ []) - 1 = omega (arith, length-append p.flows (record { name = name; first = length p.tunnels; tunnels = 0 } ∷ [])) in
    ap (λ f. f.tunnels) (get_or_push p.flows (record { name = name; first = length p.tunnels; tunnels = 0 }) no_flow _ last)

pub flow_more : (p : Problem) (name : List ℕ) → length (with_flow p name).flows ≡ length p.flows + 1
flow_more p name = grind (arith, common_steps)

pub tunnel_grows : (p : Problem) (path : List ℕ) (old new : Option ℕ) (width : ℕ) → 0 < length p.flows → HasMoreTunnels p (with_tunnel p path old new width) 1
tunnel_grows p path old new width some = record {
  flows = grind (arith, common_steps);
  tunnels = grind (arith, common_steps);
  of_last = let f = with_one_more (flow_at p (last_flow p)) in
      ap (λ g. g.tunnels) (get_or-set_at p.flows (last_flow p) _ f no_flow (omega (arith, length-set p.flows (last_flow p) f)) (omega arith));
}

pub grows_on : (p q r : Problem) (n : ℕ) → HasMoreTunnels p q n → HasMoreTunnels q r 1 → HasMoreTunnels p r (n + 1)
grows_on p q r n before after = record {
  flows = omega arith;
  tunnels = omega arith;
  of_last = omega arith;
}

-- those that have come and those that are left are all of a list
pub one_fewer : (n : ℕ) (left rest all : Items) → n + items_len left ≡ items_len all → items_len left ≡ items_len rest + 1 → n + 1 + items_len rest ≡ items_len all
one_fewer n left rest all are is = omega (arith, are, is)

sum_last : (n : ℕ) (f : ℕ → ℕ) → 0 < n → sum_below n f ≡ sum_below (n - 1) f + f (n - 1)
sum_last zero f some = absurd (omega arith)
sum_last (suc n) f some = let one : suc n - 1 ≡ n = omega arith in rw one

-- a flow with tunnels has its first among those that stand
pub first_stands : (p : Problem) → IsNetwork p → 0 < length p.flows → tunnels_of_last p ≢ 0 → (flow_at p (last_flow p)).first < length p.tunnels
first_stands p n some tunnels =
    omega (arith, n.flows.all, n.flows.in_order (last_flow p) (omega arith), sum_last (length p.flows) (λ f. (flow_at p f).tunnels) some)

pub path_stands : (p : Problem) → IsNetwork p → (t : ℕ) → t < length p.tunnels → 2 ≤ hops p t
path_stands p n t below = (n.tunnels t below).path.least
