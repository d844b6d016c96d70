use Rattle.std.proofs.Common.{inl, refl}
use Rattle.rollout_log.proofs.noting.write_lines.Goals as goal

pub returns-in-Some : goal.returns-in-Some
returns-in-Some g c = c.write_text.ensures c.args.first c.args.found c.in-Some.ensures.0 c.args.entries.now c.in-Some.ensures.1

pub returns-in-None : goal.returns-in-None
returns-in-None g c = inl refl
