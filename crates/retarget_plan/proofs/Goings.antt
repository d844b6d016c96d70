-- The problem that is left goes on from what is settled.
use Rattle.std.proofs.Common.{◌≡◌, ℕ, ◌*◌, ◌<◌, ◌⊎◌, Bool, true, false, List, length, Option, Some, None, is_some, unwrap_or, if◌then◌else◌, inl, inr, refl, sym, ap, ◌∙◌, arith}
use Rattle.std.specs.Prelude.{◌/◌}
use Rattle.std.proofs.lemmas.Bool.{cases_Bool, cases_lt}
use Rattle.lists.proofs.Conditions.{not_both}
use Rattle.rollout_rules.specs.Wan.{Problem, Plan, Tunnel, link_at, tunnel_at, hops, old_rate}
use Rattle.rollout_rules.specs.History.{Places}
use Rattle.rollout_rules.specs.Safe.{settled_rate, settled_mark, IsSafe}
use Rattle.rollout_rules.specs.Valid.{same_mark}
use Rattle.rollout_rules.proofs.Below.{all_below-at}
use Rattle.rollout_rules.proofs.Rows.{list_below-at}
use Rattle.wan_model.specs.Rates.{rated}
use Rattle.wan_model.proofs.Rated.{rated-count, rated-at}
use Rattle.retarget_plan.specs.Left.{is_whole, divisor_of, factor_of, left_rate, left_rates, left_capacities, scaled_capacity, with_capacities, left_with}
use Rattle.retarget_plan.specs.Standing.{unrated, GoesOnFrom}
use Rattle.retarget_plan.proofs.Divisors.{divisor-pos, top-units, each-units}
use Rattle.retarget_plan.proofs.Sizes.{sized-count, capacity-at}

same-mark : (a b : Bool) → same_mark a b ≡ true → b ≡ a
same-mark true b e = e
same-mark false true e = cc
same-mark false false e = refl

-- a rate that is told where a mark stands
rate-there : (mark : Bool) (n : ℕ) → mark ≡ true → unwrap_or (if mark then Some n else None) 0 ≡ n
rate-there mark n e = rw e refl

rate-gone : (mark : Bool) (n : ℕ) → mark ≡ false → unwrap_or (if mark then Some n else None) 0 ≡ 0
rate-gone mark n e = rw e refl

told-where : (mark : Bool) (n : ℕ) → is_some (if mark then Some n else None) ≡ mark
told-where true n = refl
told-where false n = refl

times-none : (n : ℕ) → n * 0 ≡ 0
times-none n = grind arith

-- a product the other way round
regrouped : (d c u s : ℕ) → d * u ≡ s → d * (c * u) ≡ c * s
regrouped d c u s e = turned ∙ ap (λ (n : ℕ). c * n) e
  where
    turned : d * (c * u) ≡ c * (d * u)
    turned = grind arith

module _ (p : Problem) (plan : Plan) (at : Places) (new : List (Option ℕ)) (some : 0 < plan.scale) (safe : IsSafe p plan at) (long : (t : ℕ) → t < length p.tunnels → 0 < hops p t)
    (whole : (t : ℕ) → t < length p.tunnels → is_whole p plan at t ≡ true) where
  abbrev q : Problem
  q = left_with p plan at new

  abbrev sized : Problem
  sized = with_capacities p (left_capacities p plan at)

  abbrev d : ℕ
  d = divisor_of p plan at

  row-at : (t : ℕ) → t < length p.tunnels → tunnel_at q t ≡ rated p (left_rates p plan at) new t
  row-at t lt = rated-at sized (left_rates p plan at) new t lt

  old-at : (t : ℕ) → t < length p.tunnels → (tunnel_at q t).old ≡ left_rate p plan at t
  old-at t lt = ap (λ (u : Tunnel). u.old) (row-at t lt) ∙ list_below-at (length p.tunnels) (left_rate p plan at) t None lt

  -- traffic has all its entries
  carried : (t : ℕ) → t < length p.tunnels → 0 < settled_rate p plan at t → settled_mark p plan at t 0 ≡ true
  carried t lt flows = (safe.entries t 0 lt (long t lt) (inl flows)).0

  rate-whole : (t : ℕ) → t < length p.tunnels → d * old_rate (tunnel_at q t) ≡ settled_rate p plan at t
  rate-whole t lt =
      ap (λ (r : Option ℕ). d * unwrap_or r 0) (old-at t lt)
      ∙ by_mark (cases_Bool (settled_mark p plan at t 0))
    where
      by_mark : (settled_mark p plan at t 0 ≡ true) ⊎ (settled_mark p plan at t 0 ≡ false) → d * unwrap_or (left_rate p plan at t) 0 ≡ settled_rate p plan at t
      by_mark (inl there) =
          ap (λ (n : ℕ). d * n) (rate-there (settled_mark p plan at t 0) (settled_rate p plan at t / d) there)
          ∙ each-units (length p.tunnels) plan.scale (settled_rate p plan at) t lt
      by_mark (inr gone) =
          let none : settled_rate p plan at t ≡ 0 = elim (cases_lt 0 (settled_rate p plan at t)) as (λ _. settled_rate p plan at t ≡ 0) [
            | inl flows ↦ absurd (not_both (settled_mark p plan at t 0) (carried t lt flows) gone)
            | inr least ↦ omega (arith, least)
          ] in
          ap (λ (n : ℕ). d * n) (rate-gone (settled_mark p plan at t 0) (settled_rate p plan at t / d) gone)
          ∙ times-none d ∙ sym none

  pub left-goes_on : GoesOnFrom p plan at d q
  left-goes_on = record {
    some = divisor-pos (length p.tunnels) plan.scale (settled_rate p plan at) some;
    switches = refl;
    flows = refl;
    tunnels = rated-count sized (left_rates p plan at) new;
    alike = λ t lt. ap unrated (row-at t lt);
    links = sized-count p (left_capacities p plan at);
    capacities = λ l lt.
        ap (λ (n : ℕ). d * n)
        (capacity-at p (left_capacities p plan at) l lt ∙ list_below-at (length p.links) (scaled_capacity p (factor_of p plan at)) l 0 lt)
        ∙ regrouped d (link_at p l).capacity (factor_of p plan at) plan.scale (top-units (length p.tunnels) plan.scale (settled_rate p plan at));
    rates = rate-whole;
    marks = λ t h lt hop.
        ap (λ (r : Option ℕ). is_some r) (old-at t lt)
        ∙ told-where (settled_mark p plan at t 0) (settled_rate p plan at t / d)
        ∙ same-mark (settled_mark p plan at t h) (settled_mark p plan at t 0) (all_below-at (hops p t) (λ k. same_mark (settled_mark p plan at t k) (settled_mark p plan at t 0)) (whole t lt) h hop);
  }
