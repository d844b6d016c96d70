use Rattle.std.proofs.Common.{◌≡◌, ◌<◌, sym, arith, subst, vec_capacity}
use Rattle.update_scheduler.specs.Rows.{Row, times}
use Rattle.update_scheduler.proofs.Marking.{add-room, add-marks}
use Rattle.update_scheduler.proofs.ack_set.AckSet.add.Goals as goal

pub push_reserved-requires : goal.push_reserved-requires
push_reserved-requires c =
    let s = c.self.inside in
    let lt = subst (λ (t : Row). c.args.item < t.items) (sym c.self.view_is) c.requires.item in
    let new = subst (λ (t : Row). times c.args.item t.row ≡ 0) (sym c.self.view_is) c.requires.new in
    omega (arith, add-room s.marks.items s.row.items (vec_capacity s.row) c.self.invariant c.args.item lt new, s.row.ok.0)

pub invariant_of-self : goal.invariant_of-self
invariant_of-self c =
    let s = c.self.inside in
    let lt = subst (λ (t : Row). c.args.item < t.items) (sym c.self.view_is) c.requires.item in
    let new = subst (λ (t : Row). times c.args.item t.row ≡ 0) (sym c.self.view_is) c.requires.new in
    rw (c.push_reserved.ensures.items, c.push_reserved.ensures.capacity) (add-marks s.marks.items s.row.items (vec_capacity s.row) c.self.invariant c.args.item lt new)
