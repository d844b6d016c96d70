-- The old side of a problem that goes on from a safe place fits.
use Rattle.std.proofs.Common.{◌≡◌, ℕ, zero, suc, ◌+◌, ◌*◌, ◌<◌, ◌≤◌, Bool, true, false, ◌&&◌, ◌==◌, if◌then◌else◌, List, length, get_or, inl, refl, ap, ap₂, ◌∙◌, arith}
use Rattle.std.specs.List.{list_any}
use Rattle.std.proofs.Math.Nat.{le_of_mul-le-mul_left}
use Rattle.rollout_rules.specs.Sums.{sum_below}
use Rattle.rollout_rules.specs.Wan.{Problem, Plan, Switch, Tunnel, switch_at, link_at, tunnel_at, hops, switch_of, width_of, crosses, old_rate}
use Rattle.rollout_rules.specs.Items.{load, entries_at}
use Rattle.rollout_rules.specs.Slack.{old_load, was_installed}
use Rattle.rollout_rules.specs.History.{Places}
use Rattle.rollout_rules.specs.Safe.{settled_rate, settled_mark, IsSafe}
use Rattle.rollout_rules.proofs.Below.{sum_below-same}
use Rattle.retarget_plan.specs.Standing.{GoesOnFrom, OldSideFits}

-- a sum so many times
times-sum : (n d : ℕ) (f : ℕ → ℕ) → d * sum_below n f ≡ sum_below n (λ k. d * f k)
times-sum zero d f = grind arith
times-sum (suc n) d f =
    let split : d * (sum_below n f + f n) ≡ d * sum_below n f + d * f n = grind arith in
    omega (arith, split, times-sum n d f)

times-if : (b : Bool) (d m : ℕ) → d * (if b then m else 0) ≡ (if b then d * m else 0)
times-if true d m = refl
times-if false d m = grind arith

module _ (p : Problem) (plan : Plan) (at : Places) (d : ℕ) (q : Problem) (on : GoesOnFrom p plan at d q) where
  crosses-same : (t l : ℕ) → t < length p.tunnels → crosses q t l ≡ crosses p t l
  crosses-same t l lt = ap (λ (u : Tunnel). list_any (λ k. k == l) u.links) (on.alike t lt)

  share : (l t : ℕ) → t < length p.tunnels → d * (if crosses q t l then old_rate (tunnel_at q t) else 0) ≡ (if crosses p t l then settled_rate p plan at t else 0)
  share l t lt =
      times-if (crosses q t l) d (old_rate (tunnel_at q t))
      ∙ ap₂ (λ (b : Bool) (n : ℕ). if b then n else 0) (crosses-same t l lt) (on.rates t lt)

  -- a load of its old split is the settled one in its units
  pub load-settled : (l : ℕ) → d * old_load q l ≡ load p (settled_rate p plan at) l
  load-settled l =
      ap (λ (n : ℕ). d * sum_below n (λ t. if crosses q t l then old_rate (tunnel_at q t) else 0)) on.tunnels
      ∙ times-sum (length p.tunnels) d (λ t. if crosses q t l then old_rate (tunnel_at q t) else 0)
      ∙ sum_below-same (length p.tunnels) _ _ (share l)

  hops-same : (t : ℕ) → t < length p.tunnels → hops q t ≡ hops p t
  hops-same t lt = ap (λ (u : Tunnel). length u.path) (on.alike t lt)

  entry : (w t h : ℕ) → t < length p.tunnels → h < hops p t → (if (switch_of q t h == w) && was_installed q t h then width_of q t else 0) ≡ (if (switch_of p t h == w) && settled_mark p plan at t h then width_of p t else 0)
  entry w t h lt hop =
      ap₂ (λ (u : Tunnel) (b : Bool). if (get_or u.path h 0 == w) && b then u.width else 0) (on.alike t lt) (on.marks t h lt hop)

  row : (w t : ℕ) → t < length p.tunnels → sum_below (hops q t) (λ h. if (switch_of q t h == w) && was_installed q t h then width_of q t else 0) ≡ sum_below (hops p t) (λ h. if (switch_of p t h == w) && settled_mark p plan at t h then width_of p t else 0)
  row w t lt =
      ap (λ (n : ℕ). sum_below n (λ h. if (switch_of q t h == w) && was_installed q t h then width_of q t else 0)) (hops-same t lt)
      ∙ sum_below-same (hops p t) _ _ (λ h hop. entry w t h lt hop)

  -- and its entries in a table are those that are there
  pub entries-settled : (w : ℕ) → entries_at q (was_installed q) w ≡ entries_at p (settled_mark p plan at) w
  entries-settled w =
      ap (λ (n : ℕ). sum_below n (λ t. sum_below (hops q t) (λ h. if (switch_of q t h == w) && was_installed q t h then width_of q t else 0))) on.tunnels
      ∙ sum_below-same (length p.tunnels) _ _ (row w)

  module _ (safe : IsSafe p plan at) where
    link-fits : (l : ℕ) → l < length q.links → old_load q l ≤ (link_at q l).capacity
    link-fits l lt =
        let inside : l < length p.links = omega (arith, lt, on.links) in
        let holds = safe.links (settled_rate p plan at) (λ t low. inl refl) l inside in
        let whole : d * old_load q l ≤ d * (link_at q l).capacity = omega (arith, load-settled l, holds, on.capacities l inside) in
        le_of_mul-le-mul_left {m = old_load q l} {n = (link_at q l).capacity} {k = d} whole on.some

    table-fits : (w : ℕ) → w < length q.switches → entries_at q (was_installed q) w ≤ (switch_at q w).table
    table-fits w lt =
        let inside : w < length p.switches = omega (arith, lt, ap (λ (ss : List Switch). length ss) on.switches) in
        let holds = safe.tables (settled_mark p plan at) (λ t h low near. inl refl) w inside in
        let same : (switch_at q w).table ≡ (switch_at p w).table = ap (λ (ss : List Switch). (switch_at (record p { switches = ss }) w).table) on.switches in
        omega (arith, entries-settled w, holds, same)

    pub old_side-fits : OldSideFits q
    old_side-fits = record { links = link-fits; tables = table-fits }
