-- The exit status of each ending, and its line in the notes.
use Rattle.std.specs.Prelude.{ℕ, Bool, true, false, List, [], codes}
use Rattle.wan_edge.specs.declared.reading.ReadFault.{ReadFault as SourceFault}
use Rattle.wan_edge.specs.declared.reading.ReadFault.TheVariants as reading
use Rattle.problem_json.specs.declared.fault.InputFault.{InputFault}
use Rattle.problem_json.specs.declared.fault.InputFault.TheVariants as fault
use Rattle.intent_journal.specs.declared.fault.JournalFault.{JournalFault}
use Rattle.intent_journal.specs.declared.fault.JournalFault.TheVariants as journal
use Rattle.text_commands.specs.FaultLines.{input_line, broken_line}
use Rattle.text_commands.specs.JournalLines.{journal_line}
use Rattle.fewest_plan.specs.declared.cause.Cause.{Cause}
use Rattle.fewest_plan.specs.declared.cause.Cause.TheVariants.{Unchosen}
use Rattle.scratch_plan.specs.declared.no_plan.NoPlan.TheVariants as cause
use Rattle.rollout_rules.specs.Wan.{Problem}
use Rattle.text_commands.specs.NoPlanLines.{not_found_line}
use Rattle.text_commands.specs.Unfinished.{unfinished_line, unfinished_status}
use Rattle.text_commands.specs.Unshown.{unshown_line}
use Rattle.text_commands.specs.declared.arguments.Unread.{Unread}
use Rattle.text_commands.specs.declared.arguments.Unread.TheVariants as unread
use Rattle.text_commands.specs.declared.command_end.CommandEnd.{CommandEnd}
use Rattle.text_commands.specs.declared.command_end.CommandEnd.TheVariants.{Done, Usage, AboveLimit, Input, NotValid, NoPlan, Unshown, ReadFault, WriteFault, DiskFault, GuestFault, Refused, NotFinished, OutOfMemory}

abbrev pub status_of : CommandEnd → ℕ
status_of Done = 0
status_of Usage = 2
status_of AboveLimit = 3
status_of (Input e) = 3
status_of (NotValid p b) = 3
status_of (NoPlan u) = 4
status_of (Unshown u) = 15
status_of ReadFault = 6
status_of WriteFault = 7
status_of DiskFault = 8
status_of GuestFault = 9
status_of (Refused e) = 10
status_of (NotFinished u) = unfinished_status u
status_of OutOfMemory = 12

abbrev pub line_of : CommandEnd → List ℕ
line_of Done = []
line_of Usage = codes "usage: swanroll COMMAND [--NAME VALUE]\n"
line_of AboveLimit = codes "input: above 16777216 bytes\n"
line_of (Input e) = input_line e
line_of (NotValid p b) = broken_line p b
line_of (NoPlan u) = not_found_line u.problem u.cause
line_of (Unshown u) = unshown_line u
line_of ReadFault = codes "read fault\n"
line_of WriteFault = codes "write fault\n"
line_of DiskFault = codes "journal device fault\n"
line_of GuestFault = codes "guest fault\n"
line_of (Refused e) = journal_line e
line_of (NotFinished u) = unfinished_line u
line_of OutOfMemory = codes "out of memory\n"

-- whether the line of an ending tells a place, and so takes memory
abbrev pub tells_place : CommandEnd → Bool
tells_place Done = false
tells_place Usage = false
tells_place AboveLimit = false
tells_place (Input e) = true
tells_place (NotValid p b) = true
tells_place (NoPlan u) = true
tells_place (Unshown u) = false
tells_place ReadFault = false
tells_place WriteFault = false
tells_place DiskFault = false
tells_place GuestFault = false
tells_place (Refused e) = true
tells_place (NotFinished u) = true
tells_place OutOfMemory = false

-- how a run ends that wasn't given its input, or whose input was refused
abbrev pub ending_of_reading : SourceFault → CommandEnd
ending_of_reading reading.Failed = ReadFault
ending_of_reading reading.TooLong = AboveLimit
ending_of_reading reading.Memory = OutOfMemory

abbrev pub ending_of : InputFault → CommandEnd
ending_of fault.Memory = OutOfMemory
ending_of e = Input e

-- how a run ends on whose disk no journal was opened
abbrev pub ending_of_journal : JournalFault → CommandEnd
ending_of_journal journal.Disk = DiskFault
ending_of_journal journal.Memory = OutOfMemory
ending_of_journal e = Refused e

-- how a run ends for a problem without a plan
abbrev pub ending_without : Problem → Cause → CommandEnd
ending_without p (Unchosen cause.Memory) = OutOfMemory
ending_without p why = NoPlan (record { problem = p; cause = why })

-- arguments that aren't text are no command line, and without memory for them the program ends for want of it
abbrev pub ending_of_unread : Unread → CommandEnd
ending_of_unread unread.NotText = Usage
ending_of_unread unread.Memory = OutOfMemory
