use Rattle.std.proofs.Common.{◌≡◌, sym, subst, rules}
use Rattle.rollout_rules.specs.declared.op.Entry.TheVariants.{Begin}
use Rattle.update_scheduler.specs.InFlight.{items_of, with_entry}
use Rattle.update_scheduler.specs.Rows.{Rises}
use Rattle.update_scheduler.proofs.Placing.{rises-in}
use Rattle.update_scheduler.proofs.in_flight.put_in.Goals as goal

pub returns-clause-rises : goal.returns-clause-rises
returns-clause-rises c =
    let is : c.insert.new.self.items ≡ with_entry c.args.ops.now.items (Begin c.args.op) = search rules in
    subst (λ ops. Rises (items_of ops)) (sym is) (rises-in c.args.op c.args.ops.now.items c.requires.rises)
