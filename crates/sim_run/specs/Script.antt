-- The text of a script under a policy: a line for each act, the peaks, and whether the rollout is finished.
use Rattle.std.specs.Prelude.{ℕ, ◌+◌, ◌-◌, List, [], ◌∷◌, ◌++◌, length, codes, decimal, if◌then◌else◌, slice_index_or}
use Rattle.rollout_rules.specs.Wan.{Problem, Plan}
use Rattle.rollout_rules.specs.World.{World, no_op, no_answer, in_flight}
use Rattle.rollout_rules.specs.declared.held.Given.{Given}
use Rattle.rollout_rules.specs.declared.op.OpView.{OpView}
use Rattle.rollout_rules.specs.declared.event.Act.{Act}
use Rattle.rollout_rules.specs.declared.event.Act.TheVariants as act
use Rattle.update_scheduler.specs.Counts.{count_done, count_begun}
use Rattle.rollout_report.specs.Ends.{end_lines}
use Rattle.sim_run.specs.declared.act_line.ActLine.{ActLine}
use Rattle.sim_run.specs.declared.act_line.ActLine.TheVariants as line
use Rattle.sim_run.specs.Acts.{Rehearsal, first_rehearsal, round_batch, can_happen, acted, after_act, after_acts}

-- the answer given last
abbrev pub newest_given : World → Given
newest_given w = slice_index_or w.given (length w.given - 1) no_answer

-- what the line of an act that can happen says
abbrev pub line_acting : Problem → Plan → (OpView → ℕ) → Rehearsal → Act → ActLine
line_acting p plan policy r act.Round = line.Round (count_done (round_batch p plan policy r)) (count_begun (round_batch p plan policy r))
line_acting p plan policy r (act.Send n) = line.Sent n (slice_index_or (in_flight p r.world.durable) n no_op)
line_acting p plan policy r (act.Deliver n) = line.Delivered n (newest_given (acted p plan policy r (act.Deliver n)).world)
line_acting p plan policy r (act.Hand n) = line.Handed n (slice_index_or r.world.given n no_answer)
line_acting p plan policy r act.All = line.All (length (in_flight p r.world.durable))
line_acting p plan policy r act.CrashLost = line.CrashLost
line_acting p plan policy r act.CrashKept = line.CrashKept
line_acting p plan policy r act.Stop = line.Stop
line_acting p plan policy r act.Start = line.Start (length r.world.durable.entries)

-- what the line of an act says
abbrev pub line_of : Problem → Plan → (OpView → ℕ) → Rehearsal → Act → ActLine
line_of p plan policy r a = if can_happen p r a then line_acting p plan policy r a else line.Skipped

-- a command sent or an answer: its place, the item, and the number that the word names
abbrev pub item_text : List ℕ → ℕ → ℕ → List ℕ → ℕ → List ℕ
item_text name place item word number = name ++ decimal place ++ codes ": item " ++ decimal item ++ word ++ decimal number

abbrev pub line_text : ActLine → List ℕ
line_text (line.Round dones begins) = codes "round: dones " ++ decimal dones ++ codes ", begins " ++ decimal begins
line_text (line.Sent place op) = item_text (codes "send ") place op.item (codes " operation ") op.number
line_text (line.Delivered place answer) = item_text (codes "deliver ") place answer.item (codes " held ") answer.held.number
line_text (line.Handed place answer) = item_text (codes "hand ") place answer.item (codes " held ") answer.held.number
line_text (line.All count) = codes "all: " ++ decimal count
line_text line.CrashLost = codes "crash lost"
line_text line.CrashKept = codes "crash kept"
line_text line.Stop = codes "stop"
line_text (line.Start entries) = codes "start: entries " ++ decimal entries
line_text line.Skipped = codes "skipped"

-- the line of the act with a number
abbrev pub numbered_line : Problem → Plan → (OpView → ℕ) → ℕ → Rehearsal → Act → List ℕ
numbered_line p plan policy n r a = decimal n ++ codes " " ++ line_text (line_of p plan policy r a) ++ codes "\n"

-- the lines of acts, from number n on
abbrev pub act_lines : Problem → Plan → (OpView → ℕ) → ℕ → Rehearsal → List Act → List ℕ
act_lines p plan policy n r [] = []
act_lines p plan policy n r (a ∷ rest) = numbered_line p plan policy n r a ++ act_lines p plan policy (n + 1) (after_act p plan policy r a) rest

-- these lines, and then those on how full links and tables came to be and what is left
abbrev pub script_text : Problem → Plan → (OpView → ℕ) → List Act → List ℕ
script_text p plan policy script =
    act_lines p plan policy 0 (first_rehearsal p plan) script
    ++ end_lines p plan (after_acts p plan policy (first_rehearsal p plan) script).world.durable
