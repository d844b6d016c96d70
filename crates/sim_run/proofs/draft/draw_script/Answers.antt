use Rattle.sim_run.proofs.draft.draw_script.Goals as goal

pub returns-clause-script : goal.returns-clause-script
returns-clause-script g c = c.in_ok-drawn.ensures

pub returns-clause-happens : goal.returns-clause-happens
returns-clause-happens g c = c.script_is_drawn.ensures
