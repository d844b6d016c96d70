use Rattle.std.proofs.Common.{◌≡◌, ◌<◌, ◌≤◌, [], ◌∷◌, length, get_or, true, sym, ap, ◌∙◌, subst, arith, take}
use Rattle.std.proofs.lemmas.List.{take_more, take_all}
use Rattle.rollout_rules.specs.History.{with_entries}
use Rattle.rollout_rules.specs.Legal.{is_legal}
use Rattle.rollout_rules.specs.declared.op.Entry.{Entry}
use Rattle.rollout_rules.specs.declared.op.Entry.TheVariants.{Begin}
use Rattle.rollout_laws.proofs.Histories.{with_both}
use Rattle.dependency_graph.specs.Progress.{AreCountsOf}
use Rattle.dependency_graph.proofs.Following.{counted_next}
use Rattle.rollout_core.proofs.Following.{is_legal-next}
use Rattle.rollout_core.proofs.history.count.Goals as goal

pub add-requires-clause-left : goal.add-requires-clause-left
add-requires-clause-left c =
    let none : Entry = Begin (record { item = 0; number = 0 }) in
    let lt : c.loop-entry.entry-index < length c.args.batch.now = omega arith in
    let so_far = with_entries c.requires.legal.history (take c.loop-entry.entry-index c.args.batch.now) in
    counted_next c.loop-entry.progress so_far (get_or c.args.batch.now c.loop-entry.entry-index none)
    (c.loop-entry.invariant.counts c.requires.legal.history c.requires.legal.counts)
    (subst (λ r. is_legal r.problem r.plan (with_entries so_far (get_or c.args.batch.now c.loop-entry.entry-index none ∷ [])) ≡ true) (sym c.loop-entry.invariant.rollout)
    (is_legal-next c.args.progress.now.rollout.problem c.args.progress.now.rollout.plan c.requires.legal.history c.requires.legal.legal c.args.batch.now c.requires.legal.follows c.loop-entry.entry-index none lt))

pub loop-entry-preserved : goal.loop-entry-preserved
loop-entry-preserved c =
    let none : Entry = Begin (record { item = 0; number = 0 }) in
    let lt : c.loop-entry.entry-index < length c.args.batch.now = omega arith in
    let front = take c.loop-entry.entry-index c.args.batch.now in
    let next = get_or c.args.batch.now c.loop-entry.entry-index none in
    record {
      rollout = c.add.ensures.rollout ∙ c.loop-entry.invariant.rollout;
      counts = λ h counts.
          subst (AreCountsOf c.add.new.self) (with_both h front (next ∷ []) ∙ ap (with_entries h) (sym (take_more c.args.batch.now c.loop-entry.entry-index none lt)))
          (c.add.ensures.counts (with_entries h front) (c.loop-entry.invariant.counts h counts));
    }

pub returns-clause-counts : goal.returns-clause-counts
returns-clause-counts c h counts =
    let past : length c.args.batch.now ≤ c.loop-entry.entry-index = omega arith in
    subst (λ b. AreCountsOf c.loop-entry.progress (with_entries h b)) (take_all c.loop-entry.entry-index c.args.batch.now past) (c.loop-entry.invariant.counts h counts)
