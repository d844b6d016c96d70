use Rattle.std.proofs.Common.{◌-◌, length}
use Rattle.json_data.specs.Plain.{IsGapUpTo}
use Rattle.json_data.proofs.plain_token.blanks_end.Given as goal

abbrev pub invariant-gap : goal.invariant-gap
invariant-gap l = IsGapUpTo l.bytes l.from l.end

abbrev pub decreases-gap : goal.decreases-gap
decreases-gap l = length l.bytes - l.end
