use Rattle.std.proofs.Common.{◌≡◌, ◌<◌, ℕ, Bool, Some, None, if◌then◌else◌, ap, ap₂, ◌∙◌, arith}
use Rattle.std.specs.Prelude.{◌/◌}
use Rattle.rollout_rules.specs.History.{Places, places_of}
use Rattle.rollout_rules.specs.Wan.{hops}
use Rattle.retarget_plan.proofs.Looked.{first-counted, first-mark}
use Rattle.retarget_plan.proofs.rows.left_rate.Goals as goal

pub is_there-there-requires-clause-number : goal.is_there-there-requires-clause-number
is_there-there-requires-clause-number c =
    first-counted c.args.plan.now.problem c.args.tunnel c.args.first c.requires.tunnel c.requires.first (omega (arith, (c.checked_plan_is_valid.ensures.network.tunnels c.args.tunnel c.requires.tunnel).path.least))

-- a rate that is told where the first entry is there
told : (there mark : Bool) (rate settled divisor unit : ℕ) → there ≡ mark → rate ≡ settled → divisor ≡ unit → (if there then Some (rate / divisor) else None) ≡ (if mark then Some (settled / unit) else None)
told there mark rate settled divisor unit is so by =
    ap (λ (b : Bool). if b then Some (rate / divisor) else None) is ∙ ap₂ (λ (r d : ℕ). if mark then Some (r / d) else None) so by

pub returns : goal.returns
returns c =
    let r = c.args.plan.now in
    let at : Places = places_of r.problem c.args.graph.now.history in
    let some : 0 < hops r.problem c.args.tunnel = omega (arith, (c.checked_plan_is_valid.ensures.network.tunnels c.args.tunnel c.requires.tunnel).path.least) in
    c.rate_where_there.ensures ∙ told c.is_there-there.result _ c.settled_rate-rate.result _ c.args.divisor _
    (first-mark r.problem c.args.tunnel c.args.first c.requires.tunnel c.requires.first r.plan at c.is_there-there.result some c.is_there-there.ensures) c.settled_rate-rate.ensures c.requires.divisor
