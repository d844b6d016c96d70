use Rattle.std.proofs.Common.{◌∙◌}
use Rattle.std.proofs.lemmas.List.{length-map}
use Rattle.step_lp.specs.Program.{row_of, limits}
use Rattle.step_lp.proofs.Sizes.{length-limits}
use Rattle.step_lp.proofs.laws.a_program_has_so_many_rows_and_unknowns.Goals as goal

pub returns-clause-rows : goal.returns-clause-rows
returns-clause-rows c p q = length-map (limits p q) (row_of p q) ∙ length-limits p q
