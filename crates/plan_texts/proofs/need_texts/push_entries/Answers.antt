use Rattle.std.proofs.Common.{◌≡◌, ◌<◌, length, sym, ap, subst, arith}
use Rattle.rollout_rules.specs.Sums.{list_below}
use Rattle.rollout_rules.specs.Wan.{Rollout, hops}
use Rattle.text_writer.proofs.Pushing.{at_value, said_so}
use Rattle.plan_texts.specs.Explain.{stood_text, need_text, needs_text}
use Rattle.plan_texts.specs.Needs.{entry_need}
use Rattle.plan_texts.proofs.Needs.{entry-number}
use Rattle.plan_texts.proofs.Pushes.{row-pushed}
use Rattle.plan_texts.proofs.need_texts.push_entries.Goals as goal

pub first_entry-first-requires : goal.first_entry-first-requires
first_entry-first-requires g c = subst (λ (r : Rollout). c.args.tunnel < length r.problem.tunnels) (sym c.requires.own) c.requires.tunnel

pub loop-hop-init : goal.loop-hop-init
loop-hop-init g c = g.met.P.Pieces.nothing_pushed c.args.text.now

pub loop-hop-preserved : goal.loop-hop-preserved
loop-hop-preserved g c =
    let p = c.args.plan.now.problem in
    row-pushed g.P.Pieces.pushes g.met.P.Pieces.pushed_further (need_text p) (entry_need c.args.tunnel c.args.stage) c.loop-hop.hop c.loop-hop.invariant
    (at_value g.P.Pieces.pushes (λ n. stood_text n c.args.stage)
    (entry-number c.args.index.now c.args.plan.now c.args.tunnel c.loop-hop.hop c.first_entry-first.result c.requires.own c.first_entry-first.ensures) c.push_stood.ensures)

pub returns : goal.returns
returns g c =
    let p = c.args.plan.now.problem in
    let all : c.loop-hop.hop ≡ hops p c.args.tunnel = grind arith in
    said_so g.P.Pieces.pushes (ap (λ n. needs_text p (list_below n (entry_need c.args.tunnel c.args.stage))) all) c.loop-hop.invariant
