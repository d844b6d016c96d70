-- The lines of a journal that is refused.
use Rattle.std.specs.Prelude.{ℕ, List, ◌++◌, codes, decimal}
use Rattle.hex.specs.Hex.{encode_lower}
use Rattle.intent_journal.specs.declared.digest.Digest.{Digest}
use Rattle.intent_journal.specs.declared.fault.JournalFault.{JournalFault}
use Rattle.intent_journal.specs.declared.fault.JournalFault.TheVariants.{BadStart, Disk, Illegal, Memory, NotJournal, OtherPlan}

-- what a journal was made for: the digest in lower-case hexadecimal digits, and the migration
abbrev pub digest_text : Digest → List ℕ
digest_text d = encode_lower d.bytes ++ codes "/" ++ decimal d.migration

abbrev pub other_plan_line : Digest → Digest → List ℕ
other_plan_line kept wanted = codes "journal: other plan " ++ digest_text kept ++ codes " " ++ digest_text wanted ++ codes "\n"

abbrev pub first_line : ℕ → List ℕ
first_line first = codes "journal: first byte " ++ decimal first ++ codes "\n"

abbrev pub illegal_line : ℕ → List ℕ
illegal_line place = codes "journal: entry " ++ decimal place ++ codes " illegal\n"

abbrev pub journal_line : JournalFault → List ℕ
journal_line (NotJournal first) = first_line first
journal_line (OtherPlan kept wanted) = other_plan_line kept wanted
journal_line (Illegal place) = illegal_line place
journal_line BadStart = codes "journal: start refused\n"
journal_line Disk = codes "journal device fault\n"
journal_line Memory = codes "out of memory\n"
