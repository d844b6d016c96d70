use Rattle.std.proofs.Common.{◌≡◌, ℕ, ◌∙◌, List, length, sym, ap, subst, vec_capacity}
use Rattle.std.proofs.lemmas.List.Sorted.{IsNonDecreasingBy-from_sort}
use Rattle.update_scheduler.specs.Rows.{Row, HasSame}
use Rattle.update_scheduler.proofs.Rows.{permuted-same, sorted-rises, same-row}
use Rattle.update_scheduler.proofs.Marking.{same-marks}
use Rattle.update_scheduler.proofs.ack_set.AckSet.put_in_order.Goals as goal

pub invariant_of-self : goal.invariant_of-self
invariant_of-self c =
    let s = c.self.inside in
    rw c.sort_unstable.ensures.capacity (same-marks s.marks.items s.row.items c.sort_unstable.new.self.items (vec_capacity s.row) c.self.invariant (permuted-same s.row.items c.sort_unstable.new.self.items c.sort_unstable.ensures.permutation))

pub returns : goal.returns
returns c ns up same =
    let s = c.self.inside in
    let new = c.sort_unstable.new.self.items in
    let was = subst (λ (t : Row). HasSame t.row ns) (sym c.self.view_is) same in
    let moved = permuted-same s.row.items new c.sort_unstable.ensures.permutation in
    let is : new ≡ ns = same-row new ns (sorted-rises new (IsNonDecreasingBy-from_sort (λ x. x) new c.sort_unstable.ensures.sorted)) up (λ n. moved n ∙ was n) in
    ap (λ (row : List ℕ). record { items = length s.marks.items; row = row }) is ∙ ap (λ (t : Row). record { items = t.items; row = ns }) c.self.view_is
