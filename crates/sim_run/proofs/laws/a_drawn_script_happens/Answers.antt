use Rattle.sim_run.proofs.Drafted.{script-drawn}
use Rattle.sim_run.proofs.laws.a_drawn_script_happens.Goals as goal

pub returns : goal.returns
returns c = script-drawn
