-- Words of the worked examples.
use Rattle.std.specs.Prelude.{ℕ, true, false, List, [], ◌∷◌, Option, Some}
use Rattle.rollout_rules.specs.Wan.{Rollout}
use Rattle.rollout_rules.specs.History.{History}
use Rattle.rollout_rules.specs.Agent.{Holding, pair_of}
use Rattle.rollout_rules.specs.Named.{late, late_plan}
use Rattle.rollout_rules.specs.Worked.{begin_of, done_of, fresh, op_of}
use Rattle.rollout_rules.specs.declared.op.Entry.{Entry}
use Rattle.wan_edge.specs.Frames.{Answer, Command, answer_bytes}
use Rattle.wan_edge.specs.Switches.{Holdings, after_command, holding_nothing}
use Rattle.port_session.specs.Offers.{frames_of}
use Rattle.port_session.specs.Reading.{fresh_stream}
use Rattle.rollout_book.specs.Commands.{command_of}
use Rattle.switch_ports.specs.Views.{SessionTrace}

-- a flow with three operations, and a second one with one
abbrev pub two_flows : Rollout
two_flows = record { problem = late; plan = late_plan }

-- Of the first flow the first operation is done and the second in flight; of the second none is begun.
abbrev pub under_way : History
under_way = fresh (begin_of 0 1 ∷ done_of 0 1 ∷ begin_of 0 2 ∷ [])

abbrev pub holding_with : ℕ → ℕ → List ℕ → Holding
holding_with migration number content = record { held = pair_of migration number; content = content }

-- what operation 7 of migration 3 left of each item
abbrev pub left_by_third : Holdings
left_by_third = λ item. holding_with 3 7 (5 ∷ [])

-- the homes of both flows
abbrev pub both_at_first : List (Option ℕ)
both_at_first = Some 0 ∷ Some 0 ∷ []

-- An honest port to switch 0: what was offered and heard there, what the switch holds, and what was read up to the last byte.
abbrev pub port_of : List ℕ → List ℕ → Holdings → SessionTrace
port_of offered heard holdings = record {
  switch = 0;
  port = record { offered = Some offered; heard = Some heard; held = Some holdings; quiet = Some 0; waits = Some 0; faults = 0; honest = true; prompt = false; start = holding_nothing };
  stream = fresh_stream;
}

-- one that was never used
abbrev pub unused : SessionTrace
unused = port_of [] [] holding_nothing

-- The first operation of the first flow: its command, and the answer to it.
abbrev pub first_command : Command
first_command = command_of two_flows (op_of 0 1)

abbrev pub first_answer : Answer
first_answer = record { item = 0; held = 1 }

-- once it was offered and applied, and these bytes were heard
abbrev pub applied : List ℕ → SessionTrace
applied heard = port_of (frames_of 4 (first_command ∷ [])) heard (after_command holding_nothing (4, first_command))

-- a switch that answers, and one that doesn't
abbrev pub answering : SessionTrace
answering = applied (answer_bytes (4, first_answer))

abbrev pub silent : SessionTrace
silent = applied []

-- that it was begun and done
abbrev pub begun_and_done : List Entry
begun_and_done = begin_of 0 1 ∷ done_of 0 1 ∷ []
