use Rattle.std.proofs.Common.{◌≡◌, ℕ, ◌<◌, true, get_or}
use Rattle.std.specs.Prelude.{IsTrue}
use Rattle.json.specs.Run.{is_plain}
use Rattle.json_data.proofs.plain_token.are_plain.Given as goal

abbrev pub invariant-loop-place : goal.invariant-loop-place
invariant-loop-place l = IsTrue l.all → (k : ℕ) → k < l.place → is_plain (get_or l.block k 0) ≡ true
