use Rattle.retarget_top.proofs.Aiming.{refused-target}
use Rattle.retarget_top.proofs.aims.toward.Goals as goal

pub returns-in-Err-clause-aim : goal.returns-in-Err-clause-aim
returns-in-Err-clause-aim c = refused-target c.in-Err.fault c.from.result _ c.from.ensures c.in-Err.ensures.target
