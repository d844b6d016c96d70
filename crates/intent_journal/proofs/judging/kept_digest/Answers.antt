use Rattle.std.proofs.Common.{length, ap, arith}
use Rattle.std.proofs.lemmas.List.{length-take-le}
use Rattle.intent_journal.proofs.judging.kept_digest.Goals as goal

pub copy_from_slice-requires : goal.copy_from_slice-requires
copy_from_slice-requires c = omega (arith, ap length c.up_to.ensures, length-take-le 32 c.args.part.now c.requires)
