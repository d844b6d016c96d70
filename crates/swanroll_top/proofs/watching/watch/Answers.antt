use Rattle.swanroll_top.proofs.watching.watch.Goals as goal

pub returns : goal.returns
returns g c = record { ending = c.watch_all-ending.result; does = c.watch_all-ending.ensures; told = c.tell.ensures }
