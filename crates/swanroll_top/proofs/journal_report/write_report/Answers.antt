use Rattle.swanroll_top.proofs.journal_report.write_report.Goals as goal
use Rattle.swanroll_top.proofs.Outcomes.{text-not-disk}

pub returns-in-Ok-clause-disk : goal.returns-in-Ok-clause-disk
returns-in-Ok-clause-disk g c = λ e. absurd (text-not-disk _ _ _ _ c.write_text.ensures.written e)
