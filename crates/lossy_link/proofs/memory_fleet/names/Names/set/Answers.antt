use Rattle.std.proofs.Common.{◌∙◌, Bool, Some, if◌then◌else◌, ap₂}
use Rattle.std.specs.Cmp.{nat_eq_equiv}
use Rattle.lossy_link.specs.Names.{NameRows, name_at}
use Rattle.lossy_link.proofs.memory_fleet.names.Names.set.Goals as goal

pub returns-clause-updates : goal.returns-clause-updates
returns-clause-updates c n =
    c.in_ok-insert.ensures.updates.0 n
    ∙ ap₂ (λ (here : Bool) (xs : NameRows). if here then Some c.args.name else name_at xs n) (nat_eq_equiv.symm c.args.switch n) c.self.view_is
