use Rattle.std.proofs.Common.{refl}
use Rattle.fraction_lp.specs.Dictionary.{end_from, end_of}
use Rattle.fraction_lp.proofs.worked.a_trade_takes_two_exchanges.Goals as goal

pub returns : goal.returns
unfolding end_from end_of
returns c = record { found = refl; not_yet = refl }
