use Rattle.std.proofs.Common.{◌≡◌, ◌+◌, true, length, if◌then◌else◌, sym, ap, subst, ◌∙◌, ltb-true}
use Rattle.rollout_rules.specs.Items.{content, is_item}
use Rattle.rollout_rules.proofs.OverItems.{entry-is_item}
use Rattle.text_writer.proofs.Pushing.{said_so}
use Rattle.plan_texts.specs.Explain.{entry_text, change_text}
use Rattle.plan_texts.proofs.op_lines.push_change.Goals as goal

pub push_rates-requires-clause-flow : goal.push_rates-requires-clause-flow
push_rates-requires-clause-flow g c =
    let p = c.args.plan.now.problem in
    ltb-true c.in-Flow.flow (length p.flows) (subst (λ i. is_item p i ≡ true) c.in-Flow.is c.requires.item)

pub mark-requires-clause-tunnel : goal.mark-requires-clause-tunnel
mark-requires-clause-tunnel g c =
    let p = c.args.plan.now.problem in
    (entry-is_item p c.in-Entry.tunnel c.in-Entry.hop (subst (λ i. is_item p i ≡ true) c.in-Entry.is c.requires.item)).row

pub returns-in-Flow : goal.returns-in-Flow
returns-in-Flow g c =
    let r = c.args.plan.now in
    said_so g.P.Pieces.pushes (ap (λ i. change_text i (content r.problem r.plan i c.args.s) (content r.problem r.plan i (c.args.s + 1))) (sym c.in-Flow.is)) c.push_rates.ensures

pub returns-in-Entry : goal.returns-in-Entry
returns-in-Entry g c =
    let r = c.args.plan.now in
    said_so g.P.Pieces.pushes
    (c.entry_text.ensures ∙ ap (λ b. entry_text (if b then 1 else 0)) c.mark.ensures
    ∙ ap (λ i. change_text i (content r.problem r.plan i c.args.s) (content r.problem r.plan i (c.args.s + 1))) (sym c.in-Entry.is))
    c.push_str.ensures
