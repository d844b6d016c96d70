use Rattle.std.proofs.Common.{ℕ, Bool, ap}
use Rattle.takeover_cases.proofs.ports.heard_at.Goals as goal

pub heard_over-requires : goal.heard_over-requires
heard_over-requires g c = ap (λ (lent : ℕ → Bool). lent 0) c.in-Ok.ensures.place
