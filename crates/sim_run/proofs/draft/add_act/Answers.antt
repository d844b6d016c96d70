use Rattle.sim_run.proofs.draft.add_act.Goals as goal

pub returns : goal.returns
returns g c = record { rehearsal = c.in_ok-act_out.ensures.state; script = c.in_ok-push.ensures.ok }
