-- What the calls rest on: the rollout back as it is copied.
use Rattle.std.proofs.Common.{◌≡◌, ℕ, ◌+◌, ◌-◌, ◌<◌, ◌≤◌, true, List, [], ◌∷◌, ◌++◌, length, map, take, reverse, get_or, Option, None, Result, Ok, Err, IfOk, sym, ap, ap₂, ◌∙◌, arith}
use Rattle.std.proofs.lemmas.List.{take_more, take_all, length-reverse, get_or-reverse, get_or-map}
use Rattle.rollout_rules.specs.Wan.{Problem, Plan, Stage, Rollout, no_tunnel, no_stage, tunnel_at}
use Rattle.rollout_rules.specs.Valid.{is_valid_plan}
use Rattle.wan_model.specs.Rates.{with_rates}
use Rattle.wan_model.specs.Sides.{rate_on}
use Rattle.wan_model.specs.declared.side.Side.TheVariants.{Old, New}
use Rattle.wan_model.proofs.Rated.{rows-are}
use Rattle.rollback_plan.specs.Turning.{turned, back_problem, back_plan, back}
use Rattle.rollback_plan.proofs.Ways.{back-is_valid}

-- new rates in place of the old ones, and old in place of the new
pub rates-turned : (p : Problem) → with_rates p (map (rate_on New) p.tunnels) (map (rate_on Old) p.tunnels) ≡ back_problem p
rates-turned p = rows-are p turned (map (rate_on New) p.tunnels) (map (rate_on Old) p.tunnels) (λ t lt.
    let were = get_or-map (rate_on New) p.tunnels t no_tunnel None lt in
    let become = get_or-map (rate_on Old) p.tunnels t no_tunnel None lt in
    ap₂ (λ (o n : Option ℕ). record (tunnel_at p t) { old = o; new = n }) were become)

pub copy-is : (p copy : Problem) (old new : List (Option ℕ)) → copy ≡ with_rates p old new → old ≡ map (rate_on New) p.tunnels → new ≡ map (rate_on Old) p.tunnels → copy ≡ back_problem p
copy-is p copy old new is were become = is ∙ ap₂ (λ o n. with_rates p o n) were become ∙ rates-turned p

pub copy-given : {E : Type 0} (p : Problem) (r : Result Problem E) (old new : List (Option ℕ)) → IfOk r (λ copy. copy ≡ with_rates p old new) → old ≡ map (rate_on New) p.tunnels → new ≡ map (rate_on Old) p.tunnels
    → IfOk r (λ copy. copy ≡ back_problem p)
copy-given p (Ok copy) old new is were become = copy-is p copy old new is were become
copy-given p (Err e) old new is were become = tt

-- one stage more of those turned round
pub one-more : (gs : List Stage) (s : ℕ) (g : Stage) → s < length gs → g ≡ get_or gs (length gs - 1 - s) no_stage → take s (reverse gs) ++ g ∷ [] ≡ take (s + 1) (reverse gs)
one-more gs s g lt is =
    let inside : s < length (reverse gs) = omega (arith, lt, length-reverse gs) in
    ap (λ x. take s (reverse gs) ++ x ∷ []) (is ∙ sym (get_or-reverse gs s no_stage lt)) ∙ sym (take_more (reverse gs) s no_stage inside)

pub all-turned : (plan : Plan) (n : ℕ) → length plan.stages ≤ n → record { scale = plan.scale; stages = take n (reverse plan.stages) } ≡ back_plan plan
all-turned plan n le = ap (λ (gs : List Stage). record plan { stages = gs }) (take_all n (reverse plan.stages) (omega (arith, le, length-reverse plan.stages)))

-- the parts of a rollout back make a valid one
pub parts-valid : (r : Rollout) (p : Problem) (plan : Plan) → is_valid_plan r.problem r.plan ≡ true → p ≡ back_problem r.problem → plan ≡ back_plan r.plan → is_valid_plan p plan ≡ true
parts-valid r p plan valid problem stages = ap₂ is_valid_plan problem stages ∙ back-is_valid r.problem r.plan valid

pub parts-back : (r : Rollout) (p : Problem) (plan : Plan) → p ≡ back_problem r.problem → plan ≡ back_plan r.plan → record { problem = p; plan = plan } ≡ back r
parts-back r p plan problem stages = ap₂ (λ (x : Problem) (y : Plan). record { problem = x; plan = y }) problem stages
