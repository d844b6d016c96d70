-- What a valid plan of such a problem begins with.
use Rattle.std.proofs.Common.{◌≡◌, ℕ, ◌*◌, ◌<◌, true, ◌&&◌, ◌==◌, length, is_some, ap, ◌∙◌, arith, eqb-true}
use Rattle.std.proofs.lemmas.Bool.{and_parts}
use Rattle.rollout_rules.specs.Wan.{Problem, Plan, tunnel_at, old_rate, rate_at, mark_at}
use Rattle.rollout_rules.specs.History.{Places}
use Rattle.rollout_rules.specs.Valid.{is_valid_plan, has_shape, begins_at_old, ends_at_new, fits_each_step, carries_what_flows, keeps_totals, same_mark}
use Rattle.rollout_rules.proofs.Below.{all_below-at}
use Rattle.rollout_rules.proofs.Alike.{same_mark-is}
use Rattle.retarget_plan.specs.Standing.{GoesOnFrom, BeginsWithSettled}

pub begins-old : (q : Problem) (on : Plan) → is_valid_plan q on ≡ true → begins_at_old q on ≡ true
begins-old q on valid =
    let a = and_parts (has_shape q on && begins_at_old q on && ends_at_new q on && fits_each_step q on && carries_what_flows q on) (keeps_totals q on) valid in
    let b = and_parts (has_shape q on && begins_at_old q on && ends_at_new q on && fits_each_step q on) (carries_what_flows q on) a.0 in
    let c = and_parts (has_shape q on && begins_at_old q on && ends_at_new q on) (fits_each_step q on) b.0 in
    let e = and_parts (has_shape q on && begins_at_old q on) (ends_at_new q on) c.0 in
    (and_parts (has_shape q on) (begins_at_old q on) e.0).1

swapped : (d s n : ℕ) → d * (s * n) ≡ s * (d * n)
swapped d s n = grind arith

module _ (p : Problem) (plan : Plan) (at : Places) (d : ℕ) (q : Problem) (goes : GoesOnFrom p plan at d q) (on : Plan) (valid : is_valid_plan q on ≡ true) where
  at-old : (t : ℕ) → t < length p.tunnels → ((rate_at on 0 t == on.scale * old_rate (tunnel_at q t)) && same_mark (mark_at on 0 t) (is_some (tunnel_at q t).old)) ≡ true
  at-old t lt =
      all_below-at (length q.tunnels) (λ t. (rate_at on 0 t == on.scale * old_rate (tunnel_at q t)) && same_mark (mark_at on 0 t) (is_some (tunnel_at q t).old))
      (begins-old q on valid) t (omega (arith, lt, goes.tunnels))

  pub begins-settled : BeginsWithSettled p plan at d on
  begins-settled = record {
    rates = λ t lt.
        let first : rate_at on 0 t ≡ on.scale * old_rate (tunnel_at q t) = eqb-true (rate_at on 0 t) (on.scale * old_rate (tunnel_at q t)) (and_parts _ _ (at-old t lt)).0 in
        ap (λ (n : ℕ). d * n) first ∙ swapped d on.scale (old_rate (tunnel_at q t)) ∙ ap (λ (n : ℕ). on.scale * n) (goes.rates t lt);
    marks = λ t h lt hop. same_mark-is (mark_at on 0 t) (is_some (tunnel_at q t).old) (and_parts _ _ (at-old t lt)).1 ∙ goes.marks t h lt hop;
  }
