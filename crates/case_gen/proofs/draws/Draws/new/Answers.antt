use Rattle.case_gen.specs.Draws.{seeded}
use Rattle.case_gen.proofs.draws.Draws.new.Goals as goal

pub returns : goal.returns
unfolding seeded
returns c = c.seed_from_u64.ensures
