-- Words of the worked examples: ports to switch 0 that are prompt, of the two flows of `switch_laws`.
use Rattle.std.specs.Prelude.{true, List, [], ◌∷◌}
use Rattle.rollout_rules.specs.Worked.{begin_of, done_of, fresh}
use Rattle.rollout_rules.specs.History.{History}
use Rattle.wan_edge.specs.Frames.{CommandFrame}
use Rattle.switch_ports.specs.Views.{SessionTrace}
use Rattle.shared_book.specs.declared.note.What.TheVariants as what
use Rattle.shared_book.specs.declared.note.Written.{Written}
use Rattle.shared_book.specs.Worked.{says_with}
use Rattle.switch_laws.specs.Worked.{first_command}

-- the same port, that is prompt
abbrev pub promptly : SessionTrace → SessionTrace
promptly v = record v { port = record v.port { prompt = true } }

-- the first operation in flight, and done
abbrev pub begun_one : History
begun_one = fresh (begin_of 0 1 ∷ [])

abbrev pub one_sent : List CommandFrame
one_sent = (4, first_command) ∷ []

-- a round of the book by seat 1 that begins the first operation, and one that settles it
abbrev pub begins_first : Written
begins_first = says_with 1 0 (what.Turned 0 1) (begin_of 0 1 ∷ [])

abbrev pub settles_first : Written
settles_first = says_with 1 1 (what.Turned 1 0) (done_of 0 1 ∷ [])
