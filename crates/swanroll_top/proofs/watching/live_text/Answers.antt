use Rattle.std.proofs.Common.{subst, sym}
use Rattle.swanroll_top.specs.Watches.{TextOr}
use Rattle.swanroll_top.proofs.LookingOn.{refused-text}
use Rattle.swanroll_top.proofs.watching.live_text.Goals as goal

pub returns-in-Ok : goal.returns-in-Ok
returns-in-Ok g c = subst (λ rollout. TextOr g.W.Source.told c.args.migration rollout c.text_seen.result) (sym c.in-Ok.ensures) c.text_seen.ensures

pub returns-in-Err : goal.returns-in-Err
returns-in-Err g c = refused-text g.W.Source.told c.args.migration c.args.input.now c.in-Err.ending c.in-Err.ensures
