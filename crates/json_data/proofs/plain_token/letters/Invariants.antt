use Rattle.std.proofs.Common.{◌-◌, ◌≤◌, length}
use Rattle.json_data.proofs.plain_token.letters.Given as goal

abbrev pub invariant-word : goal.invariant-word
invariant-word l = l.size ≤ length l.bytes

abbrev pub decreases-word : goal.decreases-word
decreases-word l = length l.bytes - l.size
