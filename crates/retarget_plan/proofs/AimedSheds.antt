-- The problem that sheds a link from where a rollout stands only gives way, and then nothing crosses the link.
use Rattle.std.proofs.Common.{◌≡◌, ℕ, ◌<◌, ◌≤◌, Bool, true, false, length, Option, Some, None, is_some, unwrap_or, Ok, refl, sym, ap, ◌∙◌, subst, arith}
use Rattle.std.specs.List.{list_any}
use Rattle.std.specs.Prelude.{◌==◌}
use Rattle.rollout_rules.specs.Wan.{Problem, Plan, Tunnel, tunnel_at, crosses, new_rate}
use Rattle.rollout_rules.specs.Network.{IsNetwork}
use Rattle.rollout_rules.specs.Valid.{is_valid_plan}
use Rattle.rollout_rules.specs.History.{History, Places, places_of}
use Rattle.rollout_rules.proofs.Rows.{list_below-at}
use Rattle.wan_model.specs.Rates.{rated}
use Rattle.wan_model.proofs.Rated.{rated-at, rated-count}
use Rattle.retarget_plan.specs.Aiming.{IsAimed, aimed_capacities, aimed_problem, aimed_rate, aimed_rates, shed_where}
use Rattle.retarget_plan.specs.Left.{factor_of, left_rate, left_rates, with_capacities}
use Rattle.retarget_plan.specs.Shedding.{OnlyGivesWay, one_step}
use Rattle.retarget_plan.specs.Standing.{OldSideFits}
use Rattle.retarget_plan.specs.declared.aim.Aim.TheVariants.{Shed}
use Rattle.retarget_plan.proofs.Sheds.{one_step-is_valid}

shed-le : (gives : Bool) (rate : Option ℕ) → unwrap_or (shed_where gives rate) 0 ≤ unwrap_or rate 0
shed-le gives None = omega arith
shed-le true (Some n) = omega arith
shed-le false (Some n) = omega arith

shed-mark : (gives : Bool) (rate : Option ℕ) → is_some (shed_where gives rate) ≡ is_some rate
shed-mark gives None = refl
shed-mark gives (Some n) = refl

shed-none : (gives : Bool) (rate : Option ℕ) → gives ≡ true → unwrap_or (shed_where gives rate) 0 ≡ 0
shed-none gives None is = refl
shed-none true (Some n) is = refl
shed-none false (Some n) is = cc

module _ (p : Problem) (plan : Plan) (at : Places) (link : ℕ) where
  abbrev m : Problem
  m = aimed_problem p plan at (Shed link)

  abbrev sized : Problem
  sized = with_capacities p (aimed_capacities p (Shed link) (factor_of p plan at))

  inside : (t : ℕ) → t < length m.tunnels → t < length p.tunnels
  inside t lt = omega (arith, lt, rated-count sized (left_rates p plan at) (aimed_rates p plan at (Shed link)))

  row : (t : ℕ) → t < length p.tunnels → tunnel_at m t ≡ rated p (left_rates p plan at) (aimed_rates p plan at (Shed link)) t
  row t lt = rated-at sized (left_rates p plan at) (aimed_rates p plan at (Shed link)) t lt

  was : (t : ℕ) → t < length p.tunnels → (tunnel_at m t).old ≡ left_rate p plan at t
  was t lt = ap (λ (u : Tunnel). u.old) (row t lt) ∙ list_below-at (length p.tunnels) (left_rate p plan at) t None lt

  is : (t : ℕ) → t < length p.tunnels → (tunnel_at m t).new ≡ shed_where (crosses p t link) (left_rate p plan at t)
  is t lt = ap (λ (u : Tunnel). u.new) (row t lt) ∙ list_below-at (length p.tunnels) (aimed_rate p plan at (Shed link)) t None lt

  gives : OnlyGivesWay m
  gives = record {
    rates = λ t lt.
        let low = inside t lt in
        let less = shed-le (crosses p t link) (left_rate p plan at t) in
        omega (arith, less, ap (λ (r : Option ℕ). unwrap_or r 0) (was t low), ap (λ (r : Option ℕ). unwrap_or r 0) (is t low));
    marks = λ t lt.
        let low = inside t lt in
        ap (λ (r : Option ℕ). is_some r) (is t low) ∙ shed-mark (crosses p t link) (left_rate p plan at t) ∙ sym (ap (λ (r : Option ℕ). is_some r) (was t low));
  }

  crosses-same : (t : ℕ) → t < length p.tunnels → crosses m t link ≡ crosses p t link
  crosses-same t lt = ap (λ (u : Tunnel). list_any (λ k. k == link) u.links) (row t lt)

  empties : (t : ℕ) → t < length m.tunnels → crosses m t link ≡ true → new_rate (tunnel_at m t) ≡ 0
  empties t lt crossing =
      let low = inside t lt in
      ap (λ (r : Option ℕ). unwrap_or r 0) (is t low) ∙ shed-none (crosses p t link) (left_rate p plan at t) (sym (crosses-same t low) ∙ crossing)

module _ (p : Problem) (plan : Plan) (h : History) (link : ℕ) (q : Problem) (aimed : IsAimed p plan h (Shed link) (Ok q)) where
  pub stand-is_planned : IsNetwork q → OldSideFits q → is_valid_plan q (one_step q) ≡ true
  stand-is_planned net fits = one_step-is_valid q net (subst OnlyGivesWay (sym aimed.1) (gives p plan (places_of p h) link)) fits

  pub stand-empties : (t : ℕ) → t < length q.tunnels → crosses q t link ≡ true → new_rate (tunnel_at q t) ≡ 0
  stand-empties = subst (λ (m : Problem). (t : ℕ) → t < length m.tunnels → crosses m t link ≡ true → new_rate (tunnel_at m t) ≡ 0) (sym aimed.1) (empties p plan (places_of p h) link)
