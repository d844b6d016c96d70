-- What a fault says.
use Rattle.std.specs.Prelude.{◌≡◌}
use Rattle.intent_journal.specs.declared.fault.JournalFault.{JournalFault}
use Rattle.intent_journal.specs.declared.fault.JournalFault.TheVariants.{Memory}

-- memory ran out
abbrev pub IsMemory : JournalFault → Type 0
IsMemory fault = fault ≡ Memory
