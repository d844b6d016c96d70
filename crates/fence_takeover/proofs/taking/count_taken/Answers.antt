use Rattle.std.proofs.Common.{Option, Ok, refl, sym, subst}
use Rattle.rollout_rules.specs.declared.held.Held.{Held}
use Rattle.fence_takeover.specs.Starts.{TakesOne}
use Rattle.fence_takeover.proofs.taking.count_taken.Goals as goal

pub returns-in-Some : goal.returns-in-Some
returns-in-Some c = subst (λ (noted : Option Held). TakesOne c.args.migration c.args.item c.args.count noted c.taken_of.result) (sym c.in-Some.is) c.taken_of.ensures

pub returns-in-None : goal.returns-in-None
returns-in-None c = subst (λ (noted : Option Held). TakesOne c.args.migration c.args.item c.args.count noted (Ok 0)) (sym c.in-None.is) (refl, tt)
