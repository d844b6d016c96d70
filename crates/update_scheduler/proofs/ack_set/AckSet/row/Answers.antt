use Rattle.std.proofs.Common.{ℕ, ◌<◌, List, All, sym, subst, vec_capacity}
use Rattle.update_scheduler.specs.Rows.{Row}
use Rattle.update_scheduler.proofs.Marking.{all-inside}
use Rattle.update_scheduler.proofs.ack_set.AckSet.row.Goals as goal

pub returns-clause-items : goal.returns-clause-items
returns-clause-items c =
    let s = c.self.inside in
    let all = all-inside s.marks.items s.row.items (vec_capacity s.row) c.self.invariant in
    subst (λ (row : List ℕ). All (λ n. n < c.args.self.now.items) row) (sym c.as_slice.ensures.value) (subst (λ (t : Row). All (λ n. n < t.items) s.row.items) c.self.view_is all)
