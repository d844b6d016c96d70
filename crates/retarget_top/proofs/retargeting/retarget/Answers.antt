use Rattle.retarget_top.proofs.retargeting.retarget.Goals as goal

pub returns : goal.returns
returns g c = record { ending = c.retarget_ending-ending.result.ending; does = c.retarget_ending-ending.ensures; told = c.tell-status.ensures }
