use Rattle.swanroll_top.proofs.KeptAgents.{still_left, untold}
use Rattle.swanroll_top.proofs.kept_agent.keep_agent.Goals as goal

pub returns-in-Ok-clause-keeps : goal.returns-in-Ok-clause-keeps
returns-in-Ok-clause-keeps g c = record {
  opened = c.open.new.self;
  opens = c.open.ensures.opens;
  any_moment = c.keep_opened.ensures.any_moment;
  served = c.keep_opened.ensures.served;
}

pub returns-in-Err-clause-keeps : goal.returns-in-Err-clause-keeps
returns-in-Err-clause-keeps g c = record {
  opened = c.open.new.self;
  opens = c.open.ensures.opens;
  any_moment = still_left g.D.Disk.told (g.D.Disk.told c.open.new.self).bytes c.open.new.self (g.met.D.Disk.only_now c.open.new.self);
  served = λ zero. absurd (untold c.tell.result zero c.tell.ensures);
}
