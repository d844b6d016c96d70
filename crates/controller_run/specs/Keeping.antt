-- What a worker has come to, said of a history that goes on.
use Rattle.std.specs.Prelude.{◌≡◌, ℕ, List, All, Option}
use Rattle.std.specs.List.{Contains}
use Rattle.rollout_rules.specs.History.{History}
use Rattle.rollout_rules.specs.declared.op.Op.{Op}
use Rattle.rollout_rules.specs.declared.op.Entry.TheVariants as entry
use Rattle.wan_edge.specs.Frames.{Command}
use Rattle.wan_edge.specs.Ports.{PortTrace}
use Rattle.switch_ports.specs.Stories.{LastStoryEach}
use Rattle.rollout_book.specs.Commands.{command_of}
use Rattle.shared_book.specs.declared.note.Written.{Written}
use Rattle.shared_book.specs.Histories.{Opening, history_of}
use Rattle.controller_run.specs.Promises.{AreAnswered}
use Rattle.controller_run.specs.Shifts.{Shift}

-- the command of an operation that a history begins
pub record IsBegun (o : Opening) (h : History) (c : Command) : Type 0 where
  pub op : Op
  pub is : c ≡ command_of o.rollout op
  pub begun : Contains h.entries (entry.Begin op)

-- At each port a front of the frames of its own commands went out, and each command is of an operation that the history begins. Each
-- operation that a note of the worker says is done was answered by the port of its item's home.
pub record Keeps {P : Type 0} (tell : P → PortTrace) (o : Opening) (migration : ℕ) (homes : List (Option ℕ)) (log : List Written) (s : Shift P) : Type 0 where
  pub sent : List Command
  pub begun : All (IsBegun o (history_of o log)) sent
  pub story : LastStoryEach tell migration homes sent s.given.before.ports s.now.ports
  pub answered : All (λ w. w.note.seat ≡ s.given.seat → AreAnswered tell migration homes s.given.before.ports w.entries s.now.ports) log
