use Rattle.std.proofs.Common.{◌≡◌, ℕ, ◌∙◌, List, [], true, length, sym, ap, subst}
use Rattle.rollout_rules.specs.Items.{item_count}
use Rattle.rollout_rules.specs.History.{History, started}
use Rattle.rollout_rules.specs.Legal.{is_legal}
use Rattle.rollout_rules.specs.declared.op.Entry.{Entry}
use Rattle.rollout_laws.proofs.Histories.{started_is_legal}
use Rattle.dependency_graph.specs.Progress.{AreCountsOf}
use Rattle.rollout_core.specs.InFlight.{FlyingItems, AreFlying}
use Rattle.rollout_core.proofs.Flying.{flying-first}
use Rattle.rollout_core.proofs.history.History.new.Goals as goal

abbrev first : ℕ → FlyingItems
first room = record { room = room; items = [] }

abbrev past : List ℕ → List Entry → History
past start entries = record { start = start; entries = entries }

pub invariant_of-result : goal.invariant_of-result
invariant_of-result c =
    let r = c.args.plan.now in
    let is : started c.args.start.now ≡ past c.in_ok-numbers.numbers.items c.new-in-Ok.result = λ k. past (sym c.in_ok-numbers.ensures k) (sym c.new-in-Ok.ensures k) in
    let room = c.item_count.ensures ∙ ap (λ q. item_count q.problem) c.in_ok-progress.ensures.plan in
    record {
      rollout = sym c.in_ok-progress.ensures.plan;
      counts = subst (AreCountsOf c.in_ok-progress.progress) is c.in_ok-progress.ensures.counts;
      start = subst (λ h. length h.start ≡ item_count r.problem) is c.requires.numbers;
      flights = subst (λ h. AreFlying r.problem h c.in-Ok.flights) is (flying-first r.problem c.args.start.now c.in-Ok.flights (c.in-Ok.ensures ∙ ap first room));
      legal = subst (λ h. is_legal r.problem r.plan h ≡ true) is (started_is_legal r.problem r.plan c.args.start.now c.requires.sound);
    }
