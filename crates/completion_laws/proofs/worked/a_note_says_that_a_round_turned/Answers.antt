use Rattle.std.proofs.Common.{[], ◌∷◌, refl}
use Rattle.shared_book.specs.declared.note.What.TheVariants as what
use Rattle.shared_book.specs.Worked.{says}
use Rattle.completion_laws.specs.Worked.{begins_first}
use Rattle.completion_laws.proofs.Examples.{work-no-turn}
use Rattle.completion_laws.proofs.worked.a_note_says_that_a_round_turned.Goals as goal

pub returns-clause-turned : goal.returns-clause-turned
returns-clause-turned c = record { front = says 0 0 what.Work ∷ []; note = begins_first; later = []; is = refl; dones = 0; begins = 1; says = refl }

pub returns-clause-none : goal.returns-clause-none
returns-clause-none c turned = work-no-turn turned.front turned.note turned.later turned.dones turned.begins turned.is turned.says
