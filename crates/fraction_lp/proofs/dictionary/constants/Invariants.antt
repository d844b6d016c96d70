use Rattle.std.proofs.Common.{◌≡◌, map, take}
use Rattle.fraction_lp.specs.Dictionary.{constant_of}
use Rattle.fraction_lp.proofs.dictionary.constants.Given as goal

abbrev pub invariant-loop-slot : goal.invariant-loop-slot
invariant-loop-slot l = l.constants ≡ map constant_of (take l.slot-index l.slots)
