use Rattle.disk_model.proofs.Quiet.{no_call}
use Rattle.disk_model.proofs.whole.read_whole.Goals as goal

pub returns-in_err-buffer-clause-quiet : goal.returns-in_err-buffer-clause-quiet
returns-in_err-buffer-clause-quiet g c = no_call g.D.Disk.told c.args.disk.now (g.met.D.Disk.only_now c.args.disk.now)
