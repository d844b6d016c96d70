use Rattle.std.proofs.Common.{◌-◌, length}
use Rattle.json_data.specs.Plain.{ArePlain}
use Rattle.json_data.proofs.plain_token.plain_end.Given as goal

abbrev pub invariant-each : goal.invariant-each
invariant-each l = ArePlain l.bytes l.end

abbrev pub decreases-each : goal.decreases-each
decreases-each l = length l.bytes - l.end
