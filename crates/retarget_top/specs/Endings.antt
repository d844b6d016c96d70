-- How `retarget` ends without a new journal, by why.
use Rattle.retarget_service.specs.declared.unwritten.Unwritten.{Unwritten}
use Rattle.retarget_service.specs.declared.unwritten.Unwritten.TheVariants as unwritten
use Rattle.target_json.specs.declared.fault.TargetFault.{TargetFault}
use Rattle.target_json.specs.declared.fault.TargetFault.TheVariants as fault
use Rattle.text_commands.specs.CommandEnds.{ending_of_journal}
use Rattle.text_commands.specs.declared.command_end.CommandEnd.TheVariants.{OutOfMemory}
use Rattle.retarget_top.specs.declared.ending.RetargetEnding.{RetargetEnding}
use Rattle.retarget_top.specs.declared.ending.RetargetEnding.TheVariants.{Ended, Target, Unleft}

abbrev pub ending_of_target : TargetFault → RetargetEnding
ending_of_target fault.Memory = Ended OutOfMemory
ending_of_target other = Target other

abbrev pub ending_of_unwritten : Unwritten → RetargetEnding
ending_of_unwritten (unwritten.Refused cause) = Ended (ending_of_journal cause)
ending_of_unwritten (unwritten.Unleft cause) = Unleft cause
ending_of_unwritten unwritten.Memory = Ended OutOfMemory
