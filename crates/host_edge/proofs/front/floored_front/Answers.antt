use Rattle.std.proofs.Common.{arith, subst}
use Rattle.host_edge.specs.Inboxes.{FrontsAnswer}
use Rattle.host_edge.specs.declared.front.Front.TheVariants.{Cut, Other, Whole}
use Rattle.host_edge.proofs.Fronting.{floor-few, floor-slice}
use Rattle.host_edge.proofs.front.floored_front.Goals as goal

pub returns-in-Whole : goal.returns-in-Whole
returns-in-Whole c = floor-slice c.args.bytes.now (Whole c.in-Whole.n) c.requires.floor (omega arith) (subst (FrontsAnswer _) c.in-Whole.is c.answer_front.ensures)

pub returns-in-Cut : goal.returns-in-Cut
returns-in-Cut c = floor-slice c.args.bytes.now Cut c.requires.floor (omega arith) (subst (FrontsAnswer _) c.in-Cut.is c.answer_front.ensures)

pub returns-in-Other : goal.returns-in-Other
returns-in-Other c = floor-slice c.args.bytes.now Other c.requires.floor (omega arith) (subst (FrontsAnswer _) c.in-Other.is c.answer_front.ensures)
