use Rattle.std.proofs.Common.{sym, subst}
use Rattle.port_session.specs.Reading.{Stream}
use Rattle.port_session.specs.Standing.{EndsWith}
use Rattle.port_session.proofs.Standing.{ends-first}
use Rattle.port_session.proofs.session.Session.new.Goals as goal

pub invariant_of-result : goal.invariant_of-result
invariant_of-result g c = (
  λ live. c.new.ensures.cut,
  λ live. subst (λ (s : Stream). EndsWith s.kept (g.T.Port.told c.args.port).heard) (sym c.new.ensures.new) (ends-first (g.T.Port.told c.args.port).heard),
)
