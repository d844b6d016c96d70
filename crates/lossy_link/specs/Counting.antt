-- How often a port in memory was quiet, and failed.
use Rattle.std.specs.Prelude.{ℕ, ◌==◌, ◌^◌, nat_lt, Option, Some, None, if◌then◌else◌}
use Rattle.wan_edge.specs.FailingTurns.{one_more}

pub record Counts : Type 0 where
  pub quiet : ℕ
  pub faults : ℕ

abbrev pub no_counts : Counts
no_counts = record { quiet = 0; faults = 0 }

abbrev pub one_quiet_more : Counts → Counts
one_quiet_more c = record { quiet = one_more c.quiet; faults = c.faults }

abbrev pub one_fault_more : Counts → Counts
one_fault_more c = record { quiet = c.quiet; faults = one_more c.faults }

-- a hear gave so many bytes, where 0 is a quiet one
abbrev pub after_giving : Counts → ℕ → Counts
after_giving c n = if n == 0 then one_quiet_more c else c

-- the hears that gave nothing are told while they are below 2^63
abbrev pub told_quiet : Counts → Option ℕ
told_quiet c = if nat_lt c.quiet (2 ^ 63) then Some c.quiet else None
