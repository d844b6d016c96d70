use Rattle.std.proofs.Common.{◌≡◌, ◌-◌}
use Rattle.fraction_lp.specs.Dictionary.{end_of, end_from}
use Rattle.fraction_lp.proofs.Method.{IsSound}
use Rattle.fraction_lp.proofs.simplex.run.Given as goal

abbrev pub invariant-loop-made : goal.invariant-loop-made
invariant-loop-made l = record {
  sound : IsSound l.rows l.dictionary;
  end : end_of l.rows ≡ end_from l.rows (1000 - l.made) l.made l.dictionary;
}
