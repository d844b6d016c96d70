-- The longest chains of operations, worked out once.
use Rattle.std.specs.Prelude.{◌≡◌, ℕ, ◌+◌, ◌-◌, Bool, true, not, ◌&&◌, ◌==◌, List, length, nat_le, nat_lt, if◌then◌else◌}
use Rattle.rollout_rules.specs.Sums.{list_below}
use Rattle.rollout_rules.specs.Wan.{Problem, Plan, Rollout, tunnel_at, rate_at, mark_at, last_stage}
use Rattle.rollout_rules.specs.Operations.{run_start, changes_behind}
use Rattle.rollout_rules.specs.Release.{most_below, chain}
use Rattle.rollout_rules.specs.declared.item.Item.{Item}
use Rattle.rollout_rules.specs.declared.item.Item.TheVariants as item

-- the greatest of these numbers over the stages from v on that count and whose run of stages reaches down to v
abbrev pub longest_from : ℕ → (ℕ → Bool) → (ℕ → Bool) → (ℕ → ℕ) → ℕ → ℕ
longest_from last run counts number v = most_below last (λ u. if nat_le v u && counts u && nat_le (run_start run u) v then number u else 0)

-- the longest chain that begins with an operation of the item from stage v on
abbrev pub longest_own : Problem → Plan → Item → ℕ → ℕ
longest_own p plan i v = longest_from (last_stage plan) (λ u. true) (changes_behind p plan i) (chain p plan i) v

-- with a removal of tunnel t's entries, while the tunnel has carried nothing from stage v on
abbrev pub is_removed : Problem → Plan → ℕ → ℕ → Bool
is_removed p plan t u = changes_behind p plan (item.Entry t 0) u && not (mark_at plan (u + 1) t)

abbrev pub longest_departure : Problem → Plan → ℕ → ℕ → ℕ
longest_departure p plan t v = longest_from (last_stage plan) (λ u. rate_at plan u t == 0) (is_removed p plan t) (chain p plan (item.Entry t 0)) v

-- with a step of its flow to a stage at which the tunnel carries, while it has been installed from stage v on
abbrev pub is_entered : Problem → Plan → ℕ → ℕ → Bool
is_entered p plan t u = changes_behind p plan (item.Flow (tunnel_at p t).flow) u && nat_lt 0 (rate_at plan (u + 1) t)

abbrev pub longest_arrival : Problem → Plan → ℕ → ℕ → ℕ
longest_arrival p plan t v = longest_from (last_stage plan) (λ u. mark_at plan u t) (is_entered p plan t) (chain p plan (item.Flow (tunnel_at p t).flow)) v

-- the same for each of the first flows, and for each of the first tunnels; all entries of a tunnel have the same chains
pub record AreFlowsAt (p : Problem) (plan : Plan) (v n : ℕ) (chain_row own_row step_row : List ℕ) : Type 0 where
  pub chains : chain_row ≡ list_below n (λ f. chain p plan (item.Flow f) v)
  pub own : own_row ≡ list_below n (λ f. longest_own p plan (item.Flow f) v)
  pub steps : step_row ≡ list_below n (λ f. if changes_behind p plan (item.Flow f) v then chain p plan (item.Flow f) v else 0)

pub record AreTunnelsAt (p : Problem) (plan : Plan) (v n : ℕ) (chain_row own_row departure_row arrival_row : List ℕ) : Type 0 where
  pub chains : chain_row ≡ list_below n (λ t. chain p plan (item.Entry t 0) v)
  pub own : own_row ≡ list_below n (λ t. longest_own p plan (item.Entry t 0) v)
  pub departures : departure_row ≡ list_below n (λ t. longest_departure p plan t v)
  pub arrivals : arrival_row ≡ list_below n (λ t. longest_arrival p plan t v)

-- what is known of the stages from v on
pub record AreAhead (p : Problem) (plan : Plan) (v : ℕ) (flow_row own_row departure_row arrival_row : List ℕ) : Type 0 where
  pub flows : flow_row ≡ list_below (length p.flows) (λ f. longest_own p plan (item.Flow f) v)
  pub own : own_row ≡ list_below (length p.tunnels) (λ t. longest_own p plan (item.Entry t 0) v)
  pub departures : departure_row ≡ list_below (length p.tunnels) (λ t. longest_departure p plan t v)
  pub arrivals : arrival_row ≡ list_below (length p.tunnels) (λ t. longest_arrival p plan t v)

-- the rows of the last n stages but one, from the last of them down
abbrev pub flow_rows : Problem → Plan → ℕ → List (List ℕ)
flow_rows p plan n = list_below n (λ k. list_below (length p.flows) (λ f. chain p plan (item.Flow f) (last_stage plan - 1 - k)))

abbrev pub tunnel_rows : Problem → Plan → ℕ → List (List ℕ)
tunnel_rows p plan n = list_below n (λ k. list_below (length p.tunnels) (λ t. chain p plan (item.Entry t 0) (last_stage plan - 1 - k)))

-- these rows, and what is known of the stages from the first of them on
pub record AreChainsFrom (p : Problem) (plan : Plan) (n : ℕ) (of_flows of_tunnels : List (List ℕ)) (flow_row own_row departure_row arrival_row : List ℕ) : Type 0 where
  pub flows : of_flows ≡ flow_rows p plan n
  pub tunnels : of_tunnels ≡ tunnel_rows p plan n
  pub ahead : AreAhead p plan (last_stage plan - n) flow_row own_row departure_row arrival_row

-- the rows of all stages
pub record AreAllChains (r : Rollout) (of_flows of_tunnels : List (List ℕ)) : Type 0 where
  pub flows : of_flows ≡ flow_rows r.problem r.plan (last_stage r.plan)
  pub tunnels : of_tunnels ≡ tunnel_rows r.problem r.plan (last_stage r.plan)
