use Rattle.std.proofs.Common.{◌≡◌, ℕ, ◌+◌, ◌<◌, ◌==◌, if◌then◌else◌, length, get_or, sym, ap, ◌∙◌, subst, arith}
use Rattle.rollout_report.specs.Peaks.{front}
use Rattle.rollout_report.specs.Counts.{AreCounts}
use Rattle.rollout_report.proofs.Counting.{whole, count-begin, count-done, settled-room, begun-room}
use Rattle.rollout_report.proofs.counts.Counts.add.Goals as goal

pub add_one-requires : goal.add_one-requires
add_one-requires c = λ n lt.
    let same : c.deref_mut.result.now ≡ c.args.self.now.begun = c.deref_mut.ensures.value ∙ ap (λ v. v.begun) c.self.view_is in
    let low : n < length c.args.self.now.begun = omega (arith, lt, ap length same) in
    omega (arith, ap (λ l. get_or l n 0) same, c.requires.counts.begun n low, begun-room c.args.history.now c.args.place n c.entry.ensures.short c.requires.place)

pub add_one-requires-in-Done : goal.add_one-requires-in-Done
add_one-requires-in-Done c = λ n lt.
    let same : c.deref_mut-in-Done.result.now ≡ c.args.self.now.settled = c.deref_mut-in-Done.ensures.value ∙ ap (λ v. v.settled) c.self.view_is in
    let low : n < length c.args.self.now.settled = omega (arith, lt, ap length same) in
    omega (arith, ap (λ l. get_or l n 0) same, c.requires.counts.settled n low, settled-room c.args.history.now c.args.place n c.entry.ensures.short c.requires.place)

pub returns-in-Begin-clause-counts : goal.returns-in-Begin-clause-counts
returns-in-Begin-clause-counts c =
    let same : c.deref_mut.result.now ≡ c.args.self.now.begun = c.deref_mut.ensures.value ∙ ap (λ v. v.begun) c.self.view_is in
    subst (λ l. AreCounts (front c.args.history.now (c.args.place + 1)) (record { settled = c.self.inside.settled.items; begun = l })) (sym (whole c.add_one.new.counts c.self.inside.begun.items c.self.inside.begun.len (c.add_one.auto.counts ∙ c.deref_mut.ensures.len)))
    (count-begin c.args.history.now c.args.place c.in-Begin.op c.args.self.now (record { settled = c.self.inside.settled.items; begun = c.add_one.new.counts }) c.requires.place (sym c.in-Begin.ensures.entry) c.requires.counts
    (ap (λ v. v.settled) c.self.view_is) (c.add_one.auto.counts ∙ ap length same)
    (subst (λ l. (n : ℕ) → n < length l → get_or c.add_one.new.counts n 0 ≡ (if c.in-Begin.op.item == n then 1 else 0) + get_or l n 0) same c.add_one.ensures))

pub returns-in-Done-clause-counts : goal.returns-in-Done-clause-counts
returns-in-Done-clause-counts c =
    let same : c.deref_mut-in-Done.result.now ≡ c.args.self.now.settled = c.deref_mut-in-Done.ensures.value ∙ ap (λ v. v.settled) c.self.view_is in
    subst (λ l. AreCounts (front c.args.history.now (c.args.place + 1)) (record { settled = l; begun = c.self.inside.begun.items })) (sym (whole c.add_one-in-Done.new.counts c.self.inside.settled.items c.self.inside.settled.len (c.add_one-in-Done.auto.counts ∙ c.deref_mut-in-Done.ensures.len)))
    (count-done c.args.history.now c.args.place c.in-Done.op c.args.self.now (record { settled = c.add_one-in-Done.new.counts; begun = c.self.inside.begun.items }) c.requires.place (sym c.in-Done.ensures.entry) c.requires.counts
    (ap (λ v. v.begun) c.self.view_is) (c.add_one-in-Done.auto.counts ∙ ap length same)
    (subst (λ l. (n : ℕ) → n < length l → get_or c.add_one-in-Done.new.counts n 0 ≡ (if c.in-Done.op.item == n then 1 else 0) + get_or l n 0) same c.add_one-in-Done.ensures))
