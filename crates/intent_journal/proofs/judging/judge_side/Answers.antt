use Rattle.std.proofs.Common.{rules, ap, ◌∙◌, List, true, ℕ, subst}
use Rattle.intent_journal.specs.Judging.{LeavesGraphOf}
use Rattle.intent_journal.specs.Parts.{is_whole}
use Rattle.intent_journal.specs.Reading.{IsRead}
use Rattle.intent_journal.proofs.Blanks.{side_whole}
use Rattle.intent_journal.proofs.Judgements.{judged_side}
use Rattle.intent_journal.proofs.LeftGraphs.{part_left}
use Rattle.intent_journal.proofs.judging.judge_side.Goals as goal

pub judge_part-requires-clause-whole : goal.judge_part-requires-clause-whole
judge_part-requires-clause-whole c =
    ap (is_whole c.at-slot.result) c.part_of.ensures ∙ side_whole c.args.image.now c.args.side c.at-slot.result c.requires.side c.at-slot.ensures

pub returns-clause-ok : goal.returns-clause-ok
returns-clause-ok c =
    let kept = c.in_ok-kept.ensures.ok in
    record {
      stands = judged_side c.args.graph.now.rollout c.args.digest.now c.args.image.now c.args.side c.at-slot.result c.part_of.result.now _ c.requires.journal c.requires.side c.at-slot.ensures c.part_of.ensures kept.stands;
      found = c.found_at-found.ensures _ (subst (λ (p : List ℕ). IsRead c.at-slot.result p (record { entries = c.in_ok-kept.kept.list; whole = true }) c.in_ok-kept.kept.gate) c.part_of.ensures kept.read);
      graph = kept.graph;
    }

pub returns-in_err-kept-clause-left : goal.returns-in_err-kept-clause-left
returns-in_err-kept-clause-left c =
    let fact : LeavesGraphOf c.args.image.now c.in_err-kept.field-0.0 c.args.graph.now c.judge_part.new.graph =
    part_left c.args.image.now c.args.side c.at-slot.result c.part_of.result.now c.in_err-kept.field-0.0 c.args.graph.now c.judge_part.new.graph c.requires.side c.at-slot.ensures c.part_of.ensures c.in_err-kept.ensures.left in
    search (rules, fact)
