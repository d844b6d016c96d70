use Rattle.controller_run.proofs.Begun.{begun-stays, listed-begun, listed-in}
use Rattle.controller_run.proofs.Tallies.{listed-past}
use Rattle.controller_run.proofs.promises.listed_commands_are_begun.Goals as goal

pub returns-clause-listed : goal.returns-clause-listed
returns-clause-listed c = λ o seat switches log more listed rounds command lists at. listed-in o seat switches log more listed rounds command lists at

pub returns-clause-begun : goal.returns-clause-begun
returns-clause-begun c = λ o seat switches log more listed rounds command legal lists at. listed-begun o seat switches log more listed rounds command legal lists at

pub returns-clause-stays : goal.returns-clause-stays
returns-clause-stays c = λ o log later entry at. begun-stays o log later entry at

pub returns-clause-others : goal.returns-clause-others
returns-clause-others c = λ o seat switches log more past listed rounds none lists. listed-past o seat switches log more past listed rounds none lists
