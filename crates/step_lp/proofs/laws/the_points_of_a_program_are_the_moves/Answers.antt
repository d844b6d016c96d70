use Rattle.step_lp.proofs.Both.{feasible_is_move, move_is_feasible}
use Rattle.step_lp.proofs.laws.the_points_of_a_program_are_the_moves.Goals as goal

pub returns-clause-moves : goal.returns-clause-moves
returns-clause-moves c p q xs net feasible = feasible_is_move p q xs net feasible

pub returns-clause-points : goal.returns-clause-points
returns-clause-points c p q xs net move = move_is_feasible p q xs net move
