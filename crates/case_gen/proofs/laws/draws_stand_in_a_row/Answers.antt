use Rattle.case_gen.proofs.Rows.{behind, in_a_row}
use Rattle.case_gen.proofs.laws.draws_stand_in_a_row.Goals as goal

pub returns-clause-draws : goal.returns-clause-draws
returns-clause-draws c = in_a_row

pub returns-clause-behind : goal.returns-clause-behind
returns-clause-behind c = behind
