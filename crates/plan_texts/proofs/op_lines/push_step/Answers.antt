use Rattle.std.proofs.Common.{◌≡◌, ◌<◌, true, sym, ap, subst, ◌∙◌}
use Rattle.rollout_rules.specs.Wan.{Rollout, last_stage}
use Rattle.rollout_rules.specs.Items.{is_item}
use Rattle.rollout_rules.specs.Release.{chain}
use Rattle.text_writer.proofs.Pushing.{at_value}
use Rattle.plan_texts.specs.Explain.{chain_text}
use Rattle.plan_texts.proofs.Pushes.{by_five}
use Rattle.plan_texts.proofs.op_lines.push_step.Goals as goal

pub chain-requires-clause-item : goal.chain-requires-clause-item
chain-requires-clause-item g c = subst (λ (r : Rollout). is_item r.problem c.args.step.item ≡ true) (sym c.requires.lookup.chains) c.requires.item

pub chain-requires-clause-stage : goal.chain-requires-clause-stage
chain-requires-clause-stage g c = subst (λ (r : Rollout). c.args.step.stage < last_stage r.plan) (sym c.requires.lookup.chains) c.requires.stage

pub push_needs-requires-clause-own : goal.push_needs-requires-clause-own
push_needs-requires-clause-own g c = c.requires.lookup.index

pub returns : goal.returns
returns g c =
    let step = c.args.step in
    by_five g.P.Pieces.pushes g.met.P.Pieces.pushed_further c.push_head.ensures c.push_change.ensures
    (at_value g.P.Pieces.pushes chain_text (c.chain.ensures ∙ ap (λ (q : Rollout). chain q.problem q.plan step.item step.stage) c.requires.lookup.chains) c.push_chain.ensures)
    c.push_needs.ensures c.push_str.ensures
