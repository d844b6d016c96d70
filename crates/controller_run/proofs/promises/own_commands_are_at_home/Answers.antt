use Rattle.controller_run.proofs.AtHome.{own-at-home, same-home}
use Rattle.controller_run.proofs.promises.own_commands_are_at_home.Goals as goal

pub returns-clause-commands : goal.returns-clause-commands
returns-clause-commands c = λ p homes switch commands command same at. own-at-home p homes same switch commands command at

pub returns-clause-items : goal.returns-clause-items
returns-clause-items c = λ p homes switch n same home. same-home p homes same switch n home
