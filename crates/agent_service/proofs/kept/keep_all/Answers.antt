use Rattle.fenced_agent.specs.Agents.{fenced_holding}
use Rattle.agent_service.proofs.KeptRows.{come_still}
use Rattle.agent_service.proofs.kept.keep_all.Goals as goal

-- no memory was found for the seats: the disk is as it was
pub returns-in-Err-clause-any_moment : goal.returns-in-Err-clause-any_moment
returns-in-Err-clause-any_moment g c = come_still g.D.Disk.told c.args.disk.now c.args.place (fenced_holding c.args.agent.now) (g.met.D.Disk.only_now c.args.disk.now) c.requires
