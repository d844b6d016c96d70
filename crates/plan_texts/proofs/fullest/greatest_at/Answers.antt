use Rattle.std.proofs.Common.{◌+◌, arith}
use Rattle.plan_texts.proofs.Cells.{long-less}
use Rattle.plan_texts.proofs.fullest.greatest_at.Goals as goal

pub later_if_greater-later-requires-clause-rows : goal.later_if_greater-later-requires-clause-rows
later_if_greater-later-requires-clause-rows c = long-less c.args.rows.now c.args.place (c.args.count + 1) (c.loop-s.s + 1) c.requires (omega (arith, c.loop-s-test.true))
