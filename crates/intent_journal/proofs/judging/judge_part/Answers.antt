use Rattle.std.proofs.Common.{◌≡◌, ℕ, List, take, ap, ap₂, ◌∙◌}
use Rattle.rollout_rules.specs.Wan.{Rollout}
use Rattle.rollout_rules.specs.declared.op.Entry.{Entry}
use Rattle.intent_journal.specs.Judging.{part_entries, part_start}
use Rattle.intent_journal.specs.Reading.{Listed}
use Rattle.intent_journal.specs.Verdicts.{with_history}
use Rattle.intent_journal.proofs.LeftGraphs.{leaves_place}
use Rattle.intent_journal.proofs.judging.judge_part.Goals as goal

pub returns-in-Some-clause-left : goal.returns-in-Some-clause-left
returns-in-Some-clause-left c =
    let graph = c.args.graph.now in
    let slot = c.args.slot.now in
    let part = c.args.part.now in
    let start = c.deref-2.ensures.value ∙ c.in_ok-start.ensures ∙ ap (λ (r : Rollout). part_start r.problem slot part) c.plan.ensures in
    let entries = ap (λ (l : Listed). l.entries) c.in_ok-listed.ensures.all in
    let there = c.in-Some.ensures.stopped ∙ ap₂ (λ (s : List ℕ) (es : List Entry). with_history graph s (take c.in-Some.place es)) start entries in
    leaves_place (part_start graph.rollout.problem slot part) (part_entries slot part) graph c.bring.new.graph c.illegal_at.result c.in-Some.place c.args.digest.now c.illegal_at.ensures.late (c.illegal_at.ensures.refusal c.args.digest.now) there
