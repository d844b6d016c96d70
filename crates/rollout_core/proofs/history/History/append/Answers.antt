use Rattle.std.proofs.Common.{◌≡◌, ℕ, ◌++◌, List, length, true, sym, ap, ap₂, ◌∙◌, subst}
use Rattle.rollout_rules.specs.Items.{item_count}
use Rattle.rollout_rules.specs.History.{History, with_entries, flies}
use Rattle.rollout_rules.specs.Legal.{may_follow, is_legal}
use Rattle.rollout_rules.specs.declared.op.Entry.{Entry}
use Rattle.rollout_laws.proofs.Histories.{is_legal-append}
use Rattle.dependency_graph.specs.Progress.{AreCountsOf}
use Rattle.rollout_core.specs.InFlight.{passing}
use Rattle.rollout_core.proofs.Flying.{flying-counts}
use Rattle.rollout_core.proofs.history.History.append.Goals as goal

abbrev past : List ℕ → List Entry → History
past start entries = record { start = start; entries = entries }

pub invariant_of-self-2 : goal.invariant_of-self-2
invariant_of-self-2 c =
    let r = c.self.inside.plan.now in
    let h = past c.self.inside.start.items c.self.inside.entries in
    let grown : with_entries h c.args.batch.now ≡ past c.self.inside.start.items c.extend_from_slice.new.self = ap (past c.self.inside.start.items) (sym c.in_ok-extend_from_slice.ensures.ok) in
    let follows = subst (λ s. may_follow s.rollout.problem s.rollout.plan s.history c.args.batch.now ≡ true) (sym c.self.view_is) c.requires in
    let own : r ≡ c.count.new.progress.rollout = c.self.invariant.rollout ∙ sym c.count.ensures.rollout in
    record {
      counts = subst (AreCountsOf c.count.new.progress) grown (c.count.ensures.counts h c.self.invariant.counts);
      start = c.self.invariant.start;
      rollout = own;
      flights = record {
        room = c.note.ensures.room ∙ c.self.invariant.flights.room;
        items = c.note.ensures.items
            ∙ flying-counts c.count.new.progress (with_entries h c.args.batch.now) (c.count.ensures.counts h c.self.invariant.counts)
            ∙ ap₂ (λ l q. passing (flies l) (item_count q.problem)) grown (sym own);
      };
      legal = subst (λ l. is_legal r.problem r.plan l ≡ true) grown (is_legal-append r.problem r.plan h c.args.batch.now c.self.invariant.legal follows);
    }
