use Rattle.levelling_laws.proofs.Shared.{ceiling-stays}
use Rattle.levelling_laws.proofs.the_ceiling_stays.Goals as goal

pub returns : goal.returns
returns c = ceiling-stays
