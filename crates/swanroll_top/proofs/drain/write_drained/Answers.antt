use Rattle.std.proofs.Common.{sym, subst}
use Rattle.text_commands.specs.Runs.{Follows}
use Rattle.swanroll_top.proofs.Agents.{text-follows}
use Rattle.swanroll_top.proofs.DrainEnds.{drained-gives}
use Rattle.swanroll_top.proofs.Outcomes.{err-disk, err-ends, err-not-cut, gives-follows, text-ends, text-not-disk}
use Rattle.swanroll_top.proofs.drain.write_drained.Goals as goal

pub returns-in-Ok-clause-follows : goal.returns-in-Ok-clause-follows
returns-in-Ok-clause-follows g c = subst (λ r. Follows r c.write_text.result (g.K.Sink.told c.args.sink.now).written (g.K.Sink.told c.write_text.new.sink).written) (sym c.in-Ok.ensures) (text-follows _ _ _ _ _ c.as_str.ensures c.write_text.ensures.written)

pub returns-in-Ok-clause-ends : goal.returns-in-Ok-clause-ends
returns-in-Ok-clause-ends g c = text-ends _ _ _ _ c.write_text.ensures.written

pub returns-in-Ok-clause-disk : goal.returns-in-Ok-clause-disk
returns-in-Ok-clause-disk g c = λ e. absurd (text-not-disk _ _ _ _ c.write_text.ensures.written e)

pub returns-in-Err-clause-follows : goal.returns-in-Err-clause-follows
returns-in-Err-clause-follows g c = gives-follows _ _ _ c.in-Err.ensures

pub returns-in-Err-clause-ends : goal.returns-in-Err-clause-ends
returns-in-Err-clause-ends g c = err-ends c.args.outcome _ _ (drained-gives c.args.outcome _ c.in-Err.ensures)

pub returns-in-Err-clause-disk : goal.returns-in-Err-clause-disk
returns-in-Err-clause-disk g c = λ e. err-disk c.args.outcome _ (drained-gives c.args.outcome _ c.in-Err.ensures) e

pub returns-in-Err-clause-write_fault : goal.returns-in-Err-clause-write_fault
returns-in-Err-clause-write_fault g c = λ e. absurd (err-not-cut c.args.outcome _ (drained-gives c.args.outcome _ c.in-Err.ensures) e)
