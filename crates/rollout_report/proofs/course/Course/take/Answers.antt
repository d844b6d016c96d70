use Rattle.std.proofs.Common.{◌≡◌, ◌+◌, ◌<◌, ◌≤◌, get_or, refl, sym, ap, ◌∙◌, subst, arith}
use Rattle.std.proofs.lemmas.List.{get_or_read}
use Rattle.rollout_rules.specs.Wan.{last_stage}
use Rattle.rollout_rules.specs.Items.{item_count}
use Rattle.rollout_rules.specs.declared.item.Item.TheVariants as item
use Rattle.rollout_rules.specs.declared.op.Entry.TheVariants.{Begin, Done}
use Rattle.rollout_report.specs.Peaks.{front}
use Rattle.rollout_report.specs.Counts.{AreCountsOf}
use Rattle.rollout_report.proofs.Counting.{entry_at-is}
use Rattle.rollout_report.proofs.Loading.{settled-other}
use Rattle.rollout_report.specs.Course.{Coursed}
use Rattle.rollout_report.proofs.Looking.{stage-inside, items-of, row-there, moved-by, stands-kept, stands-moved}
use Rattle.rollout_report.proofs.course.Course.take.Goals as goal

pub stand_behind-requires-clause-item : goal.stand_behind-requires-clause-item
stand_behind-requires-clause-item c =
    let inside : Coursed = record { rollout = c.self.inside.plan.value; counts = c.self.inside.counts } in
    let low : c.in-Done.op.item < item_count c.args.plan.now.problem = omega (arith, c.if-place-len.true, c.len.ensures, c.self.invariant.all_stands, ap (λ v. item_count v.rollout.problem) c.self.view_is, ap (λ r. item_count r.problem) c.requires.own) in
    row-there c.args.plan.now c.as_slice.result.now (items-of c.args.plan.now c.args.self.now inside c.self.inside.items c.as_slice.result.now c.self.inside.stands.items c.requires.own c.self.view_is c.self.invariant c.as_slice.ensures) c.in-Done.op.item _ low

pub stand_behind-requires-clause-here : goal.stand_behind-requires-clause-here
stand_behind-requires-clause-here c =
    let inside : Coursed = record { rollout = c.self.inside.plan.value; counts = c.self.inside.counts } in
    let low : c.in-Done.op.item < item_count c.args.self.now.rollout.problem = omega (arith, c.if-place-len.true, c.len.ensures, c.self.invariant.all_stands, ap (λ v. item_count v.rollout.problem) c.self.view_is) in
    let within = stage-inside c.args.self.now inside c.self.inside.items c.self.inside.stands.items c.in-Done.op.item c.index-here.result.now c.self.view_is c.self.invariant low c.index-here.ensures in
    subst (λ r. c.index-here.result.now ≤ last_stage r.plan) (sym c.requires.own) within

pub invariant_of-self : goal.invariant_of-self
invariant_of-self c =
    let inside : Coursed = record { rollout = c.self.inside.plan.value; counts = c.self.inside.counts } in
    let own : c.args.plan.now ≡ c.self.inside.plan.value = c.requires.own ∙ sym (ap (λ v. v.rollout) c.self.view_is) in
    let old : AreCountsOf c.self.inside.plan.value.problem (front c.args.history.now c.args.place) c.self.inside.counts =
    subst (λ v. AreCountsOf c.self.inside.plan.value.problem (front c.args.history.now c.args.place) v.counts) (sym c.self.view_is) (subst (λ r. AreCountsOf r.problem (front c.args.history.now c.args.place) c.args.self.now.counts) own c.requires.counts) in
    let new : AreCountsOf c.self.inside.plan.value.problem (front c.args.history.now (c.args.place + 1)) c.add.new.self =
    record { all_settled = c.add.ensures.settled ∙ old.all_settled; all_begun = c.add.ensures.begun ∙ old.all_begun; counts = c.add.ensures.counts } in
    let e = Done c.in-Done.op in
    let at : get_or c.args.history.now.entries c.args.place e ≡ e = entry_at-is c.args.history.now.entries c.args.place e c.requires.place (sym c.in-Done.ensures.entry) in
    let low : c.in-Done.op.item < item_count c.self.inside.plan.value.problem = omega (arith, c.if-place-len.true, c.len.ensures, c.self.invariant.all_stands) in
    let under : c.in-Done.op.item < item_count c.args.plan.now.problem = omega (arith, low, ap (λ r. item_count r.problem) own) in
    let are = items-of c.args.plan.now c.args.self.now inside c.self.inside.items c.as_slice.result.now c.self.inside.stands.items c.requires.own c.self.view_is c.self.invariant c.as_slice.ensures in
    let read : c.index-here.result.now ≡ get_or c.self.inside.stands.items c.in-Done.op.item 0 = get_or_read c.self.inside.stands.items c.in-Done.op.item c.index-here.result.now (omega (arith, low, c.self.invariant.all_stands)) c.index-here.ensures 0 in
    stands-moved inside c.self.inside.items c.self.inside.stands.items c.self.invariant c.args.history.now c.args.place e c.requires.place at c.add.new.self old new c.in-Done.op c.stand_behind.result refl low
    (moved-by c.args.plan.now c.self.inside.plan.value c.as_slice.result.now c.in-Done.op.item (item.Flow 0) c.index-here.result.now (get_or c.self.inside.stands.items c.in-Done.op.item 0) c.stand_behind.result own are under read c.stand_behind.ensures.next)

pub invariant_of-self-else-place-len : goal.invariant_of-self-else-place-len
invariant_of-self-else-place-len c =
    let inside : Coursed = record { rollout = c.self.inside.plan.value; counts = c.self.inside.counts } in
    let own : c.args.plan.now ≡ c.self.inside.plan.value = c.requires.own ∙ sym (ap (λ v. v.rollout) c.self.view_is) in
    let old : AreCountsOf c.self.inside.plan.value.problem (front c.args.history.now c.args.place) c.self.inside.counts =
    subst (λ v. AreCountsOf c.self.inside.plan.value.problem (front c.args.history.now c.args.place) v.counts) (sym c.self.view_is) (subst (λ r. AreCountsOf r.problem (front c.args.history.now c.args.place) c.args.self.now.counts) own c.requires.counts) in
    let new : AreCountsOf c.self.inside.plan.value.problem (front c.args.history.now (c.args.place + 1)) c.add.new.self =
    record { all_settled = c.add.ensures.settled ∙ old.all_settled; all_begun = c.add.ensures.begun ∙ old.all_begun; counts = c.add.ensures.counts } in
    let e = Done c.in-Done.op in
    let at : get_or c.args.history.now.entries c.args.place e ≡ e = entry_at-is c.args.history.now.entries c.args.place e c.requires.place (sym c.in-Done.ensures.entry) in
    stands-kept inside c.self.inside.items c.self.inside.stands.items c.self.invariant c.args.history.now c.args.place e c.requires.place at c.add.new.self old new
    (λ n low. settled-other e n (λ q. omega (arith, q, low, c.if-place-len.false, c.len.ensures, c.self.invariant.all_stands)))

pub invariant_of-self-in_default : goal.invariant_of-self-in_default
invariant_of-self-in_default c =
    let inside : Coursed = record { rollout = c.self.inside.plan.value; counts = c.self.inside.counts } in
    let own : c.args.plan.now ≡ c.self.inside.plan.value = c.requires.own ∙ sym (ap (λ v. v.rollout) c.self.view_is) in
    let old : AreCountsOf c.self.inside.plan.value.problem (front c.args.history.now c.args.place) c.self.inside.counts =
    subst (λ v. AreCountsOf c.self.inside.plan.value.problem (front c.args.history.now c.args.place) v.counts) (sym c.self.view_is) (subst (λ r. AreCountsOf r.problem (front c.args.history.now c.args.place) c.args.self.now.counts) own c.requires.counts) in
    let new : AreCountsOf c.self.inside.plan.value.problem (front c.args.history.now (c.args.place + 1)) c.add.new.self =
    record { all_settled = c.add.ensures.settled ∙ old.all_settled; all_begun = c.add.ensures.begun ∙ old.all_begun; counts = c.add.ensures.counts } in
    let e = Begin c.in_default.field-0 in
    let at : get_or c.args.history.now.entries c.args.place e ≡ e = entry_at-is c.args.history.now.entries c.args.place e c.requires.place (sym c.in_default.ensures.entry) in
    stands-kept inside c.self.inside.items c.self.inside.stands.items c.self.invariant c.args.history.now c.args.place e c.requires.place at c.add.new.self old new (λ n low. refl)
