-- The tunnels of a flow get their rates one by one.
use Rattle.std.proofs.Common.{◌≡◌, ℕ, ◌+◌, ◌-◌, ◌<◌, ◌≤◌, List, length, get_or, set, inl, inr, refl, sym, ap, ◌∙◌, subst, arith, get_or-set_same, get_or-set_other}
use Rattle.std.proofs.lemmas.Bool.{cases_lt}
use Rattle.rollout_rules.specs.Wan.{Problem, Plan, flow_at, tunnel_at, tunnel_of}
use Rattle.rollout_rules.specs.Network.{IsNetwork}
use Rattle.rollout_rules.proofs.Tunnels.{flow-tunnel_of}
use Rattle.rollout_report.specs.Loads.{larger_at, AreRefreshed}

-- a flow's first tunnels have their rates, and all others are as before
pub record ArePartly (p : Problem) (plan : Plan) (f here next : ℕ) (before : List ℕ) (tunnels : ℕ) (rates : List ℕ) : Type 0 where
  pub all : length rates ≡ length before
  pub own : (j : ℕ) → j < tunnels → get_or rates (tunnel_of p f j) 0 ≡ larger_at plan here next (tunnel_of p f j)
  pub others : (t : ℕ) → ((j : ℕ) → j < tunnels → t ≡ tunnel_of p f j → ⊥) → get_or rates t 0 ≡ get_or before t 0

module _ (p : Problem) (plan : Plan) (f here next : ℕ) (before : List ℕ) where
  pub nothing-refreshed : ArePartly p plan f here next before 0 before
  nothing-refreshed = record { all = refl; own = λ j lt. absurd (omega arith); others = λ t _. refl }

  pub one_refreshed : (j : ℕ) (rates : List ℕ) (rate : ℕ) → tunnel_of p f j < length before → ArePartly p plan f here next before j rates → rate ≡ larger_at plan here next (tunnel_of p f j)
      → (after : List ℕ) → after ≡ set rates (tunnel_of p f j) rate → length after ≡ length rates → ArePartly p plan f here next before (j + 1) after
  one_refreshed j rates rate fits part is after e same =
      record {
        all = same ∙ part.all;
        own = λ k lt. elim (cases_lt k j) as (λ c. get_or after (tunnel_of p f k) 0 ≡ larger_at plan here next (tunnel_of p f k)) [
          | inl below ↦ ap (λ l. get_or l (tunnel_of p f k) 0) e ∙ get_or-set_other rates (tunnel_of p f j) (tunnel_of p f k) rate 0 (λ q. omega arith) ∙ part.own k below
          | inr at ↦
              let last : k ≡ j = omega arith in
              subst (λ i. get_or after (tunnel_of p f i) 0 ≡ larger_at plan here next (tunnel_of p f i)) (sym last)
              (ap (λ l. get_or l (tunnel_of p f j) 0) e ∙ get_or-set_same rates (tunnel_of p f j) rate 0 (omega (arith, part.all)) ∙ is)
        ];
        others = λ t apart. ap (λ l. get_or l t 0) e ∙ get_or-set_other rates (tunnel_of p f j) t rate 0 (apart j (omega arith)) ∙ part.others t (λ k lt. apart k (omega arith));
      }

  pub all_refreshed : IsNetwork p → f < length p.flows → (rates : List ℕ) → ArePartly p plan f here next before (flow_at p f).tunnels rates → AreRefreshed p plan f here next before rates
  all_refreshed net lt rates part =
      record {
        own = λ t low of_f.
            let row = net.tunnels t low in
            let first : (flow_at p f).first ≤ t = subst (λ g. (flow_at p g).first ≤ t) of_f row.behind in
            let last : t < (flow_at p f).first + (flow_at p f).tunnels = subst (λ g. t < (flow_at p g).first + (flow_at p g).tunnels) of_f row.ahead in
            let place : tunnel_of p f (t - (flow_at p f).first) ≡ t = omega arith in
            subst (λ u. get_or rates u 0 ≡ larger_at plan here next u) place (part.own (t - (flow_at p f).first) (omega arith));
        others = λ t low other. part.others t (λ j small e. other (subst (λ u. (tunnel_at p u).flow ≡ f) (sym e) (flow-tunnel_of p f j net lt small)));
      }
