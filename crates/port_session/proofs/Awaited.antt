-- How many answers are awaited after an offer.
use Rattle.std.proofs.Common.{◌≡◌, ℕ, zero, suc, ◌<◌, Bool, if◌then◌else◌, refl, ap, arith}
use Rattle.std.proofs.lemmas.Bool.{ne_eqb}
use Rattle.port_session.specs.Sessions.{awaited_behind}

-- where no command went out, as many as before
pub awaited_none : (before count : ℕ) → count ≡ 0 → awaited_behind before count ≡ before
awaited_none before zero none = refl
awaited_none before (suc n) none = absurd (omega (arith, none))

-- and else as many as commands
pub awaited_some : (before count : ℕ) → 0 < count → awaited_behind before count ≡ count
awaited_some before count some = ap (λ (none : Bool). if none then before else count) (ne_eqb count 0 (λ none. absurd (omega (arith, some, none))))
