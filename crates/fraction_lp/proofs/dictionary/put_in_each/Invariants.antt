use Rattle.std.proofs.Common.{◌≡◌, take, drop}
use Rattle.fraction_lp.specs.Dictionary.{put_in_each}
use Rattle.fraction_lp.specs.Steps.{behind}
use Rattle.fraction_lp.proofs.dictionary.put_in_each.Given as goal

abbrev pub invariant-loop-slot : goal.invariant-loop-slot
invariant-loop-slot l =
    put_in_each l.solved l.c l.initial.lines ≡ behind (take l.slot-index l.lines) (put_in_each l.solved l.c (drop l.slot-index l.lines))
