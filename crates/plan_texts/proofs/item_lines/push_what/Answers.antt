use Rattle.std.proofs.Common.{◌≡◌, true, length, sym, ap, subst, ltb-true}
use Rattle.rollout_rules.specs.Items.{is_item}
use Rattle.text_writer.proofs.Pushing.{said_so}
use Rattle.plan_texts.specs.Explain.{item_text}
use Rattle.plan_texts.proofs.item_lines.push_what.Goals as goal

pub push_split-requires-clause-flow : goal.push_split-requires-clause-flow
push_split-requires-clause-flow g c =
    let p = c.args.problem.now in
    ltb-true c.in-Flow.flow (length p.flows) (subst (λ i. is_item p i ≡ true) c.in-Flow.is c.requires.item)

pub push_entry-requires-clause-item : goal.push_entry-requires-clause-item
push_entry-requires-clause-item g c = subst (λ i. is_item c.args.problem.now i ≡ true) c.in-Entry.is c.requires.item

pub returns-in-Flow : goal.returns-in-Flow
returns-in-Flow g c = said_so g.P.Pieces.pushes (ap (λ i. item_text c.args.problem.now i) (sym c.in-Flow.is)) c.push_split.ensures

pub returns-in-Entry : goal.returns-in-Entry
returns-in-Entry g c = said_so g.P.Pieces.pushes (ap (λ i. item_text c.args.problem.now i) (sym c.in-Entry.is)) c.push_entry.ensures
