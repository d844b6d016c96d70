use Rattle.swanroll_top.proofs.Seeing.{was_there}
use Rattle.swanroll_top.proofs.live.report_live.Goals as goal

pub returns : goal.returns
returns g c = record {
  ending = c.live_ending-ending.result;
  does = c.live_ending-ending.ensures.reports;
  once = was_there c.live_ending-ending.ensures.reports.seen;
  told = c.tell.ensures;
  read_fault = c.live_ending-ending.ensures.read_fault;
  write_fault = c.live_ending-ending.ensures.write_fault;
}
