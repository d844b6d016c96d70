-- How `left` ends without a text, by why.
use Rattle.file_sight.specs.declared.unseen.Unseen.{Unseen}
use Rattle.file_sight.specs.declared.unseen.Unseen.TheVariants as unseen
use Rattle.retarget_service.specs.declared.unwritten.Unwritten.{Unwritten}
use Rattle.retarget_service.specs.declared.unwritten.Unwritten.TheVariants as unwritten
use Rattle.text_commands.specs.CommandEnds.{ending_of_journal}
use Rattle.text_commands.specs.declared.command_end.CommandEnd.TheVariants.{DiskFault, OutOfMemory}
use Rattle.swanroll_top.specs.declared.left.LeftEnd.{LeftEnd}
use Rattle.swanroll_top.specs.declared.left.LeftEnd.TheVariants.{Ended, InUse, Unleft}

abbrev pub left_of_unseen : Unseen → LeftEnd
left_of_unseen unseen.Failed = Ended DiskFault
left_of_unseen unseen.InUse = InUse
left_of_unseen unseen.Memory = Ended OutOfMemory

abbrev pub left_of_unwritten : Unwritten → LeftEnd
left_of_unwritten (unwritten.Refused cause) = Ended (ending_of_journal cause)
left_of_unwritten (unwritten.Unleft cause) = Unleft cause
left_of_unwritten unwritten.Memory = Ended OutOfMemory
