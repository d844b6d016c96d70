use Rattle.std.proofs.Common.{Ok, Err}
use Rattle.held_service.specs.declared.not_told.NotTold.TheVariants as not_told
use Rattle.swanroll_top.proofs.Agents.{text-follows}
use Rattle.swanroll_top.proofs.HeldAsking.{not-told-cut, not-told-disk, not-told-ends, not-told-follows, told-none}
use Rattle.swanroll_top.proofs.Outcomes.{text-ends, text-not-disk}
use Rattle.swanroll_top.proofs.held.ask_plan.Goals as goal

pub returns-in-Ok-clause-asks : goal.returns-in-Ok-clause-asks
returns-in-Ok-clause-asks g c = record {
  answer = Ok c.in-Ok.text;
  asks = c.in-Ok.ensures.asks;
  no_port = λ w e. absurd (told-none c.in-Ok.text (not_told.NoPort w) e);
  follows = text-follows _ c.in-Ok.text _ _ _ c.as_str.ensures c.write_text.ensures.written;
}

pub returns-in-Ok-clause-ends : goal.returns-in-Ok-clause-ends
returns-in-Ok-clause-ends g c = text-ends _ _ _ _ c.write_text.ensures.written

pub returns-in-Ok-clause-no_disk : goal.returns-in-Ok-clause-no_disk
returns-in-Ok-clause-no_disk g c = λ e. text-not-disk _ _ _ _ c.write_text.ensures.written e

pub returns-in-Err-clause-asks : goal.returns-in-Err-clause-asks
returns-in-Err-clause-asks g c = record {
  answer = Err c.in-Err.why;
  asks = c.in-Err.ensures.asks;
  no_port = c.in-Err.ensures.cause;
  follows = not-told-follows c.args.plan c.args.rounds c.in-Err.why _ _ c.ending_of_not_told.ensures;
}

pub returns-in-Err-clause-ends : goal.returns-in-Err-clause-ends
returns-in-Err-clause-ends g c = not-told-ends c.args.plan c.args.rounds c.in-Err.why _ _ c.ending_of_not_told.ensures

pub returns-in-Err-clause-write_fault : goal.returns-in-Err-clause-write_fault
returns-in-Err-clause-write_fault g c = λ e. absurd (not-told-cut c.args.plan c.args.rounds c.in-Err.why _ c.ending_of_not_told.ensures e)

pub returns-in-Err-clause-no_disk : goal.returns-in-Err-clause-no_disk
returns-in-Err-clause-no_disk g c = λ e. not-told-disk c.args.plan c.args.rounds c.in-Err.why _ c.ending_of_not_told.ensures e
