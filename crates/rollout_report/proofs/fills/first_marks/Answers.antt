use Rattle.std.proofs.Common.{◌≡◌, ℕ, ◌<◌, length, sym, ap, ◌∙◌, subst, arith}
use Rattle.rollout_rules.specs.Wan.{hops, mark_at}
use Rattle.rollout_rules.specs.Items.{item_at, item_count, number_of}
use Rattle.rollout_rules.specs.declared.item.Item.TheVariants as item
use Rattle.rollout_rules.proofs.Numbers.{number_of-below}
use Rattle.rollout_rules.proofs.OverItems.{is_item-entry}
use Rattle.rollout_report.specs.Peaks.{either_there, front}
use Rattle.rollout_report.specs.Fills.{marked, AreTallies}
use Rattle.rollout_report.proofs.Marking.{numbered, flow_apart}
use Rattle.rollout_report.proofs.Looking.{here-told}
use Rattle.rollout_report.proofs.Holding.{there-first, none-marked, one-marked}
use Rattle.rollout_report.proofs.fills.first_marks.Goals as goal
use Rattle.rollout_report.proofs.fills.first_marks.Goals.{in-Entry, in_default}

pub mark-mark-requires-clause-tunnel : goal.mark-mark-requires-clause-tunnel
mark-mark-requires-clause-tunnel c =
    let p = c.args.plan.now.problem in
    let low : c.loop-number.number < item_count p = omega (arith, c.loop-number-test.true, c.item_count-number-end.ensures, ap item_count c.problem.ensures) in
    (numbered p c.loop-number.number c.in-Entry.tunnel c.in-Entry.hop low (c.in-Entry.ensures.value ∙ ap (λ r. item_at r.problem c.loop-number.number) c.requires.own)).row

pub set_mark-requires-clause-tunnel : goal.set_mark-requires-clause-tunnel
set_mark-requires-clause-tunnel c =
    let p = c.args.plan.now.problem in
    let low : c.loop-number.number < item_count p = omega (arith, c.loop-number-test.true, c.item_count-number-end.ensures, ap item_count c.problem.ensures) in
    (numbered p c.loop-number.number c.in-Entry.tunnel c.in-Entry.hop low (c.in-Entry.ensures.value ∙ ap (λ r. item_at r.problem c.loop-number.number) c.requires.own)).row

pub set_mark-requires-clause-hop : goal.set_mark-requires-clause-hop
set_mark-requires-clause-hop c =
    let p = c.args.plan.now.problem in
    let low : c.loop-number.number < item_count p = omega (arith, c.loop-number-test.true, c.item_count-number-end.ensures, ap item_count c.problem.ensures) in
    (numbered p c.loop-number.number c.in-Entry.tunnel c.in-Entry.hop low (c.in-Entry.ensures.value ∙ ap (λ r. item_at r.problem c.loop-number.number) c.requires.own)).hop

pub set_mark-requires-clause-number : goal.set_mark-requires-clause-number
set_mark-requires-clause-number c =
    let p = c.args.plan.now.problem in
    let low : c.loop-number.number < item_count p = omega (arith, c.loop-number-test.true, c.item_count-number-end.ensures, ap item_count c.problem.ensures) in
    (numbered p c.loop-number.number c.in-Entry.tunnel c.in-Entry.hop low (c.in-Entry.ensures.value ∙ ap (λ r. item_at r.problem c.loop-number.number) c.requires.own)).number

pub loop-number-preserved : goal.loop-number-preserved
loop-number-preserved c =
    let p = c.args.plan.now.problem in
    let plan = c.args.plan.now.plan in
    let h = c.args.history.now in
    let k = c.loop-number.number in
    let low : k < item_count p = omega (arith, c.loop-number-test.true, c.item_count-number-end.ensures, ap item_count c.problem.ensures) in
    elim c.match-item.branch [
      | in-Entry w ↦
          let is : item.Entry w.in-Entry.tunnel w.in-Entry.hop ≡ item_at p k = w.in-Entry.ensures.value ∙ ap (λ r. item_at r.problem k) c.requires.own in
          let numbers = numbered p k w.in-Entry.tunnel w.in-Entry.hop low is in
          let here = here-told c.args.plan.now c.args.course.now (front h 0) k (number_of p (item.Entry w.in-Entry.tunnel w.in-Entry.hop)) (item.Entry w.in-Entry.tunnel w.in-Entry.hop) w.here.result c.requires.own c.requires.counts low numbers.number is w.here.ensures.value in
          let mark : w.mark-mark.result ≡ either_there p plan (front h 0) w.in-Entry.tunnel w.in-Entry.hop =
          w.mark-mark.ensures ∙ ap (λ s. mark_at plan s w.in-Entry.tunnel) here ∙ sym (there-first p plan h w.in-Entry.tunnel w.in-Entry.hop) in
          record {
            tallies = subst (λ l. AreTallies p l c.match-item.sums) (sym w.marks-is) (subst (λ l. AreTallies p w.set_mark.new.marks l) (sym w.sums-is) w.set_mark.ensures.tallies);
            marks = one-marked p plan h k c.loop-number.marks c.loop-number.invariant.marks w.in-Entry.tunnel w.in-Entry.hop w.mark-mark.result c.match-item.marks numbers.row numbers.hop numbers.number c.loop-number.invariant.tallies.items (w.marks-is ∙ w.set_mark.ensures.marks) mark;
          }
      | in_default w ↦
          record {
            tallies = subst (λ l. AreTallies p l c.match-item.sums) (sym w.marks-is) (subst (λ l. AreTallies p c.loop-number.marks l) (sym w.sums-is) c.loop-number.invariant.tallies);
            marks = none-marked p plan h k c.match-item.marks (subst (λ l. (t n : ℕ) → t < length p.tunnels → n < hops p t → number_of p (item.Entry t n) < k → marked p l t n ≡ either_there p plan (front h 0) t n) (sym w.marks-is) c.loop-number.invariant.marks)
                (λ t n row hop q. flow_apart p w.in_default.field-0 k t n low (w.in_default.ensures.value ∙ ap (λ r. item_at r.problem k) c.requires.own) row hop q);
          }
    ]

pub returns-clause-marks : goal.returns-clause-marks
returns-clause-marks c = λ t n row hop.
    let p = c.args.plan.now.problem in
    c.loop-number.invariant.marks t n row hop
    (omega (arith, c.loop-number-test.false, c.item_count-number-end.ensures, ap item_count c.problem.ensures, number_of-below p (item.Entry t n) (is_item-entry p t n row hop)))
