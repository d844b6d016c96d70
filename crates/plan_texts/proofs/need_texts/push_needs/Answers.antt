use Rattle.std.proofs.Common.{◌≡◌, true, length, sym, ap, subst, ltb-true}
use Rattle.rollout_rules.specs.Items.{is_item}
use Rattle.rollout_rules.proofs.OverItems.{entry-is_item}
use Rattle.text_writer.proofs.Pushing.{said_so}
use Rattle.plan_texts.specs.Explain.{needs_text}
use Rattle.plan_texts.specs.Needs.{needs_of}
use Rattle.plan_texts.proofs.need_texts.push_needs.Goals as goal

pub push_carriers-requires-clause-flow : goal.push_carriers-requires-clause-flow
push_carriers-requires-clause-flow g c =
    let p = c.args.plan.now.problem in
    ltb-true c.in-Flow.flow (length p.flows) (subst (λ i. is_item p i ≡ true) c.in-Flow.is c.requires.item)

pub push_departure-requires-clause-tunnel : goal.push_departure-requires-clause-tunnel
push_departure-requires-clause-tunnel g c =
    let p = c.args.plan.now.problem in
    (entry-is_item p c.in-Entry.tunnel c.in-Entry.hop (subst (λ i. is_item p i ≡ true) c.in-Entry.is c.requires.item)).row

pub returns-in-Flow : goal.returns-in-Flow
returns-in-Flow g c =
    let r = c.args.plan.now in
    said_so g.P.Pieces.pushes (ap (λ i. needs_text r.problem (needs_of r.problem r.plan i c.args.s)) (sym c.in-Flow.is)) c.push_carriers.ensures

pub returns-in-Entry : goal.returns-in-Entry
returns-in-Entry g c =
    let r = c.args.plan.now in
    said_so g.P.Pieces.pushes (ap (λ i. needs_text r.problem (needs_of r.problem r.plan i c.args.s)) (sym c.in-Entry.is)) c.push_departure.ensures
