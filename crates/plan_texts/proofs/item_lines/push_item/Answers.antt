use Rattle.std.proofs.Common.{◌≡◌, ℕ, ◌<◌, true, ◌++◌, sym, ap, subst, ◌∙◌}
use Rattle.rollout_rules.specs.Wan.{Problem, Plan, Rollout}
use Rattle.rollout_rules.specs.Items.{is_item, item_count, item_at}
use Rattle.rollout_rules.specs.Operations.{operations}
use Rattle.rollout_rules.specs.declared.item.Item.{Item}
use Rattle.rollout_rules.proofs.Numbers.{is_item-item_at}
use Rattle.text_writer.proofs.Pushing.{at_value, said_so, both}
use Rattle.wan_text.specs.Named.{AreNamesOf}
use Rattle.plan_texts.specs.Explain.{item_line, op_lines, all_of_item, item_lines}
use Rattle.plan_texts.proofs.item_lines.push_item.Goals as goal

item-there : (p : Problem) (n : ℕ) (i : Item) → i ≡ item_at p n → n < item_count p → is_item p i ≡ true
item-there p n i is lt = ap (is_item p) is ∙ is_item-item_at p n lt

lines-same : (p : Problem) (plan : Plan) (n : ℕ) (i : Item) (count : ℕ) → i ≡ item_at p n → count ≡ operations p plan i → item_line p n i count ++ op_lines p plan n i count ≡ item_lines p plan n
lines-same p plan n i count is all =
    ap (λ m. item_line p n i m ++ op_lines p plan n i m) all ∙ ap (λ j. all_of_item p plan n j) is

pub item-item-requires : goal.item-item-requires
item-item-requires g c = subst (λ (r : Rollout). c.args.number < item_count r.problem) (sym c.requires.lookup.index) c.requires.number

pub operations-count-requires : goal.operations-count-requires
operations-count-requires g c = subst (λ (r : Rollout). c.args.number < item_count r.problem) (sym c.requires.lookup.index) c.requires.number

pub push_line-requires-clause-item : goal.push_line-requires-clause-item
push_line-requires-clause-item g c =
    let r = c.args.plan.now in
    let is = c.item-item.ensures ∙ ap (λ (o : Rollout). item_at o.problem c.args.number) c.requires.lookup.index in
    subst (λ (q : Problem). is_item q c.item-item.result ≡ true) (sym c.problem.ensures) (item-there r.problem c.args.number c.item-item.result is c.requires.number)

pub push_operations-requires-clause-item : goal.push_operations-requires-clause-item
push_operations-requires-clause-item g c =
    let r = c.args.plan.now in
    item-there r.problem c.args.number c.item-item.result (c.item-item.ensures ∙ ap (λ (o : Rollout). item_at o.problem c.args.number) c.requires.lookup.index) c.requires.number

pub push_operations-requires-clause-all : goal.push_operations-requires-clause-all
push_operations-requires-clause-all g c =
    let r = c.args.plan.now in
    c.operations-count.ensures
    ∙ ap (λ (q : Rollout). operations q.problem q.plan (item_at q.problem c.args.number)) c.requires.lookup.index
    ∙ ap (operations r.problem r.plan) (sym (c.item-item.ensures ∙ ap (λ (o : Rollout). item_at o.problem c.args.number) c.requires.lookup.index))

pub push_line-requires-clause-names : goal.push_line-requires-clause-names
push_line-requires-clause-names g c = subst (λ (q : Problem). AreNamesOf c.args.lookup.now.names q) (sym c.problem.ensures) c.requires.lookup.names

pub returns : goal.returns
returns g c =
    let r = c.args.plan.now in
    let n = c.args.number in
    let i = c.item-item.result in
    let is = c.item-item.ensures ∙ ap (λ (o : Rollout). item_at o.problem n) c.requires.lookup.index in
    let all = c.operations-count.ensures ∙ ap (λ (q : Rollout). operations q.problem q.plan (item_at q.problem n)) c.requires.lookup.index ∙ ap (operations r.problem r.plan) (sym is) in
    said_so g.P.Pieces.pushes (lines-same r.problem r.plan n i c.operations-count.result is all)
    (both g.P.Pieces.pushes g.met.P.Pieces.pushed_further (at_value g.P.Pieces.pushes (λ (q : Problem). item_line q n i c.operations-count.result) c.problem.ensures c.push_line.ensures) c.push_operations.ensures)
