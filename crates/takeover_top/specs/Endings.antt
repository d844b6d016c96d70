-- How a takeover ends, its status and its line.
use Rattle.std.specs.Prelude.{◌≡◌, ◌⊎◌, ℕ, List, Result, Ok, Err}
use Rattle.rollout_rules.specs.Wan.{Rollout}
use Rattle.wan_edge.specs.Streams.{SinkTrace}
use Rattle.dependency_graph.specs.declared.start_fault.StartFault.{StartFault}
use Rattle.dependency_graph.specs.declared.start_fault.StartFault.TheVariants as fault
use Rattle.fence_takeover.specs.declared.end.FenceEnd.{FenceEnd}
use Rattle.fence_takeover.specs.declared.end.FenceEnd.TheVariants as fence
use Rattle.controller_run.specs.declared.end.RunEnd.{RunEnd}
use Rattle.controller_run.specs.declared.end.RunEnd.TheVariants as run
use Rattle.controller_run.specs.declared.outcome.RunOutcome.{RunOutcome}
use Rattle.fence_takeover.specs.declared.begun.NotBegun.{NotBegun}
use Rattle.fence_takeover.specs.declared.begun.NotBegun.TheVariants as why
use Rattle.text_commands.specs.CommandEnds.{ending_of_journal, status_of}
use Rattle.text_commands.specs.Runs.{IsTold}
use Rattle.text_commands.specs.declared.command_end.CommandEnd.{CommandEnd}
use Rattle.text_commands.specs.declared.command_end.CommandEnd.TheVariants.{NotFinished, OutOfMemory}
use Rattle.text_commands.specs.declared.unfinished.Unfinished.TheVariants.{RoundsSpent, PortFault, Above, NotMine, NoAnswer}
use Rattle.swanroll_top.specs.Live.{NotesText}
use Rattle.swanroll_top.specs.Rollouts.{ending_at}
use Rattle.takeover_top.specs.Lines.{later_line, start_line, taken_line}
use Rattle.takeover_top.specs.declared.ending.TakeoverEnding.{TakeoverEnding}
use Rattle.takeover_top.specs.declared.ending.TakeoverEnding.TheVariants.{Ended, Later, Unsound}

-- ---- a takeover that wasn't begun

-- where not all switches told, or what one holds can't be taken over: a question is named as operation 0 of its item
abbrev pub ending_of_fence : Rollout → FenceEnd → TakeoverEnding
ending_of_fence r (fence.NoPort switch) = Ended (NotFinished (PortFault r switch))
ending_of_fence r (fence.Port switch) = Ended (NotFinished (PortFault r switch))
ending_of_fence r (fence.Above item held count) = Ended (NotFinished (Above item held count))
ending_of_fence r (fence.Later item migration) = Later item migration
ending_of_fence r (fence.NotMine switch item) = Ended (NotFinished (NotMine r switch item))
ending_of_fence r (fence.NoAnswer switch byte) = Ended (NotFinished (NoAnswer r switch byte))
ending_of_fence r (fence.Spent rounds item) = Ended (NotFinished (RoundsSpent rounds item 0))
ending_of_fence r fence.Memory = Ended OutOfMemory

-- where no rollout may begin at what they hold
abbrev pub ending_of_start : Rollout → StartFault → TakeoverEnding
ending_of_start r (fault.Above item held count) = Unsound r (fault.Above item held count)
ending_of_start r (fault.Need item number) = Unsound r (fault.Need item number)
ending_of_start r (fault.Room stage spot found wanted) = Unsound r (fault.Room stage spot found wanted)
ending_of_start r fault.Memory = Ended OutOfMemory

abbrev pub ending_of_not_begun : NotBegun → TakeoverEnding
ending_of_not_begun (why.Fence r end) = ending_of_fence r end
ending_of_not_begun (why.Start r f) = ending_of_start r f
ending_of_not_begun (why.Journal cause) = Ended (ending_of_journal cause)

-- ---- one that was

-- the line of a takeover from a start with so many operations settled, or how the rollout from there ends without one
abbrev pub taken_at : ℕ → RunEnd → RunOutcome → Result (List ℕ) CommandEnd
taken_at total run.Finished outcome = Ok (taken_line outcome.operations total)
taken_at total end outcome = Err (ending_at end outcome)

abbrev pub taken_or_ending : ℕ → RunOutcome → Result (List ℕ) CommandEnd
taken_or_ending total outcome = taken_at total outcome.end outcome

-- ---- status and line

abbrev pub takeover_status : TakeoverEnding → ℕ
takeover_status (Ended e) = status_of e
takeover_status (Later item migration) = 11
takeover_status (Unsound r f) = 13

-- the notes have this line and the status is this one, or lack of memory is told in its place
abbrev pub LineTold : List ℕ → ℕ → ℕ → SinkTrace → SinkTrace → Type 0
LineTold line own status before now = ((status ≡ own) × NotesText line before now) ⊎ IsTold OutOfMemory status before.written now.written before.faults now.faults

abbrev pub Told : TakeoverEnding → ℕ → SinkTrace → SinkTrace → Type 0
Told (Ended e) status before now = IsTold e status before.written now.written before.faults now.faults
Told (Later item migration) status before now = LineTold (later_line item migration) 11 status before now
Told (Unsound r f) status before now = LineTold (start_line r.problem f) 13 status before now
