-- What comes of asking switches, as what comes of fencing them off.
use Rattle.std.proofs.Common.{◌≡◌, ◌⊎◌, ℕ, List, Result, Ok, Err, inl, inr, refl, sym, ap, subst, ◌∙◌}
use Rattle.std.specs.Prelude.{IfErr, IfOk, IsErrOf}
use Rattle.rollout_rules.specs.Wan.{Plan, Problem}
use Rattle.wan_edge.specs.Ports.{PortTrace}
use Rattle.switch_ports.specs.Berths.{FleetPorts}
use Rattle.held_service.specs.Noting.{Notes}
use Rattle.held_service.specs.Visits.{Fails, TellsAll}
use Rattle.held_service.specs.declared.not_told.NotTold.{NotTold}
use Rattle.held_service.specs.declared.not_told.NotTold.TheVariants as cause
use Rattle.fence_takeover.specs.Ends.{end_of}
use Rattle.fence_takeover.specs.Fences.{Fences}
use Rattle.fence_takeover.specs.Starts.{IsTaken, IsUntaken}
use Rattle.fence_takeover.specs.declared.end.FenceEnd.{FenceEnd}
use Rattle.fence_takeover.specs.declared.end.FenceEnd.TheVariants as fence

module _ {P : Type 0} (tell : P → PortTrace) (p : Problem) (plan : Plan) (migration limit : ℕ) (before now : FleetPorts P) where
  -- all told
  pub fences-told : (notes : Notes) (result : Result (List ℕ) FenceEnd) → TellsAll tell p plan migration limit before now notes → IfOk result (λ start. IsTaken p plan migration notes start)
      → IfErr result (λ end. (end ≡ fence.Memory) ⊎ IsUntaken p plan migration notes end) → Fences result tell p plan migration limit before now
  fences-told notes (Ok start) tells taken refused = record { notes = notes; tells = tells; taken = taken }
  fences-told notes (Err end) tells taken refused = inr (record { notes = notes; tells = tells; why = refused })

  -- not all did
  pub fences-untold : (why : NotTold) (end : FenceEnd) → end ≡ end_of limit why → Fails tell p plan migration limit why before now → Fences (Err end) tell p plan migration limit before now
  fences-untold why end is fails = inl (record { why = why; end_is = is; fails = fails })

-- only the want of a port is one here
pub untold-port : (limit w : ℕ) (why : NotTold) → end_of limit why ≡ fence.NoPort w → why ≡ cause.NoPort w
untold-port limit w (cause.Spent item) is = absurd (cc is)
untold-port limit w (cause.NoPort v) is = port-of v w is
  where
    port-of : (a b : ℕ) → fence.NoPort a ≡ fence.NoPort b → cause.NoPort a ≡ cause.NoPort b
    port-of a b same = let number : a ≡ b = cc same in ap (λ (n : ℕ). cause.NoPort n) number
untold-port limit w (cause.Port v) is = absurd (cc is)
untold-port limit w (cause.NotAsked v item) is = absurd (cc is)
untold-port limit w (cause.NoAnswer v byte) is = absurd (cc is)
untold-port limit w cause.Memory is = absurd (cc is)

-- and nothing that is held is one
pub taken-port : (p : Problem) (plan : Plan) (migration w : ℕ) (notes : Notes) (result : Result (List ℕ) FenceEnd) → IfErr result (λ end. (end ≡ fence.Memory) ⊎ IsUntaken p plan migration notes end) → IsErrOf result (fence.NoPort w) → ⊥
taken-port p plan migration w notes (Ok start) refused is = absurd (cc is)
taken-port p plan migration w notes (Err end) refused is =
    elim refused [
      | inl memory ↦ let both : fence.NoPort w ≡ fence.Memory = sym (end-is is) ∙ memory in cc both
      | inr untaken ↦ (subst (λ (e : FenceEnd). IsUntaken p plan migration notes e) (end-is is) untaken).refused
    ]
  where
    end-is : IsErrOf {T = List ℕ} (Err end) (fence.NoPort w) → end ≡ fence.NoPort w
    end-is failed = cc failed

-- where the end is the want of a port, so is why the switches didn't tell
pub not-told : {T U : Type 0} (limit w : ℕ) (why : NotTold) (end : FenceEnd) → end ≡ end_of limit why → IsErrOf {T = T} (Err end) (fence.NoPort w) → IsErrOf {T = U} (Err why) (cause.NoPort w)
not-told limit w why end is failed =
    let same : end ≡ fence.NoPort w = cc failed in
    ap (λ (n : NotTold). Err n) (untold-port limit w why (sym is ∙ same))
