use Rattle.std.proofs.Common.{◌≡◌, ◌+◌, ◌∙◌, sym, ap, arith, nat_le}
use Rattle.rollout_rules.specs.Wan.{Rollout}
use Rattle.rollout_rules.specs.Items.{number_of}
use Rattle.rollout_rules.specs.Needs.{installed_since}
use Rattle.rollout_rules.specs.declared.item.Item.TheVariants as item
use Rattle.rollout_rules.proofs.Numbers.{number_of-below}
use Rattle.rollout_rules.proofs.OverItems.{is_item-entry}
use Rattle.dependency_graph.proofs.Growing.{number_of-few}
use Rattle.dependency_graph.proofs.Standings.{stand-entry}
use Rattle.dependency_graph.proofs.progress.needs.entry_past.Goals as goal

pub overflow_cast-item : goal.overflow_cast-item
overflow_cast-item c = omega (arith, number_of-few c.args.plan.now.problem c.args.t c.args.hop c.requires.network c.requires.tunnel c.requires.hop)

pub overflow_add-item : goal.overflow_add-item
overflow_add-item c =
    let same : c.lookup.result.now ≡ c.args.plan.now = c.lookup.ensures ∙ sym c.requires.own in
    omega (arith, c.first_entry.ensures, ap (λ (q : Rollout). number_of q.problem (item.Entry c.args.t 0)) same, number_of-few c.args.plan.now.problem c.args.t c.args.hop c.requires.network c.requires.tunnel c.requires.hop)

pub stand-requires-clause-item : goal.stand-requires-clause-item
stand-requires-clause-item c =
    let p = c.args.plan.now.problem in
    let same : c.lookup.result.now ≡ c.args.plan.now = c.lookup.ensures ∙ sym c.requires.own in
    omega (arith, c.first_entry.ensures, ap (λ (q : Rollout). number_of q.problem (item.Entry c.args.t 0)) same, number_of-below p (item.Entry c.args.t c.args.hop) (is_item-entry p c.args.t c.args.hop c.requires.tunnel c.requires.hop))

pub returns : goal.returns
returns c =
    let p = c.args.plan.now.problem in
    let same : c.lookup.result.now ≡ c.args.plan.now = c.lookup.ensures ∙ sym c.requires.own in
    let number : c.first_entry.result + c.args.hop ≡ number_of p (item.Entry c.args.t c.args.hop) = omega (arith, c.first_entry.ensures, ap (λ (q : Rollout). number_of q.problem (item.Entry c.args.t 0)) same) in
    c.installed_between.ensures ∙ ap (nat_le (installed_since c.args.plan.now.plan c.args.t c.args.s)) (c.stand.ensures.value ∙ stand-entry c.args.plan.now c.args.progress.now c.args.ahead.now c.args.t c.args.hop (c.first_entry.result + c.args.hop) c.requires.tunnel c.requires.hop number)
