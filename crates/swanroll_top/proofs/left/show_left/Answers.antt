use Rattle.swanroll_top.proofs.left.show_left.Goals as goal

pub returns : goal.returns
returns g c = record { ending = c.left_ending-ending.result; does = c.left_ending-ending.ensures; told = c.tell_left.ensures }
