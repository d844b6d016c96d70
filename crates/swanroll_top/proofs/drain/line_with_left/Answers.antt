use Rattle.std.proofs.Common.{◌≡◌, ℕ, subst}
use Rattle.std.specs.Prelude.{IfOk}
use Rattle.swanroll_top.specs.Drains.{drained_line}
use Rattle.swanroll_top.proofs.drain.line_with_left.Goals as goal

pub returns : goal.returns
returns c = subst (λ (n : ℕ). IfOk c.drained_line.result (λ text. text ≡ drained_line c.args.operations n)) c.less.ensures c.drained_line.ensures
