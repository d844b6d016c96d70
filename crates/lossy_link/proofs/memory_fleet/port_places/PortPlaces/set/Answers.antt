use Rattle.std.proofs.Common.{◌∙◌, Bool, Some, is_some, if◌then◌else◌, true≢false, ap, ap₂, sym}
use Rattle.std.specs.Cmp.{nat_eq_equiv}
use Rattle.lossy_link.specs.PortPlaces.{Places, port_place_at}
use Rattle.lossy_link.proofs.memory_fleet.port_places.PortPlaces.set.Goals as goal

pub returns-in_err-insert-clause-succeeds : goal.returns-in_err-insert-clause-succeeds
returns-in_err-insert-clause-succeeds g c there =
    let absent = ap (λ (xs : Places g.row.P.Denot). port_place_at xs c.args.switch) (sym c.self.view_is) ∙ c.in_err-insert.ensures.absent in
    absurd (true≢false (sym there ∙ ap is_some absent))

pub returns-clause-updates : goal.returns-clause-updates
returns-clause-updates g c n =
    c.in_ok-insert.ensures.updates.0 n
    ∙ ap₂ (λ (here : Bool) (xs : Places g.row.P.Denot). if here then Some c.args.berth else port_place_at xs n) (nat_eq_equiv.symm c.args.switch n) c.self.view_is
