-- What a port is seen as that answers one number, whatever its switch holds.
use Rattle.std.specs.Prelude.{◌≡◌, ℕ, Bool, false, List, [], map}
use Rattle.std.specs.List.{flat_map}
use Rattle.rollout_rules.specs.Agent.{pair_of}
use Rattle.wan_edge.specs.Frames.{AnswerFrame, CommandFrame, answer_bytes}
use Rattle.wan_edge.specs.Switches.{answer_of}
use Rattle.lossy_link.specs.Counting.{Counts, no_counts}
use Rattle.lossy_link.specs.WayBack.{Back, with_due}

-- the bytes offered, those that came back, the number that is answered, whether memory ran out, and the counts
pub record Alien : Type 0 where
  pub offered : List ℕ
  pub back : Back
  pub number : ℕ
  pub down : Bool
  pub counts : Counts

-- nothing was offered yet
abbrev pub fresh : ℕ → Alien
fresh number = record { offered = []; back = record { heard = []; due = [] }; number = number; down = false; counts = no_counts }

-- the answer to a command: its migration and its item, and the number
abbrev pub alien_answer : ℕ → CommandFrame → AnswerFrame
alien_answer number c = answer_of c.1.item (pair_of c.0 number)

-- the bytes of the answers to commands
abbrev pub alien_bytes : ℕ → List CommandFrame → List ℕ
alien_bytes number commands = flat_map answer_bytes (map (alien_answer number) commands)

-- each of these commands was answered with the number, one after the other
abbrev pub AreAnsweredWith : ℕ → Back → Back → List CommandFrame → Type 0
AreAnsweredWith number back back_now commands = back_now ≡ with_due back (alien_bytes number commands)
