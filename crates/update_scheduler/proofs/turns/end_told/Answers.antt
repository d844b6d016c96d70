use Rattle.std.proofs.Common.{ℕ, ◌<◌, ◌∙◌, ◌++◌, [], All, length, sym, ap, ap₂, subst, arith}
use Rattle.rollout_rules.specs.Items.{item_count}
use Rattle.rollout_rules.specs.Release.{is_covered}
use Rattle.update_scheduler.specs.Endings.{Acks, covered_items, ended, CanEnd}
use Rattle.update_scheduler.proofs.Batches.{covered-short}
use Rattle.update_scheduler.proofs.Ended.{covered-ended, covered-can-end}
use Rattle.update_scheduler.proofs.Rows.{filtered-rise}
use Rattle.update_scheduler.proofs.Turning.{ended-graph}
use Rattle.update_scheduler.proofs.turns.end_told.Goals as goal

pub settle_each-requires-clause-items : goal.settle_each-requires-clause-items
settle_each-requires-clause-items c =
    let p = c.args.graph.now.rollout.problem in
    let ordered = c.put_in_order.ensures (covered_items p c.args.graph.now.history c.args.told.now.answers) (filtered-rise (is_covered c.args.graph.now.history c.args.told.now.answers) (item_count p)) c.requires.told.1 in
    subst (λ (k : ℕ). All (λ n. n < k) c.row.result.now) (ap (λ (t : Acks). t.items) ordered ∙ c.requires.told.0) c.row.ensures.items

pub settle_each-requires-clause-flying : goal.settle_each-requires-clause-flying
settle_each-requires-clause-flying c =
    let p = c.args.graph.now.rollout.problem in
    let h = c.args.graph.now.history in
    let ordered = c.put_in_order.ensures (covered_items p h c.args.told.now.answers) (filtered-rise (is_covered h c.args.told.now.answers) (item_count p)) c.requires.told.1 in
    subst (CanEnd h) (sym (c.row.ensures.value ∙ ap (λ (t : Acks). t.row) ordered)) (covered-can-end p h c.args.told.now.answers)

pub settle_each-requires-clause-room : goal.settle_each-requires-clause-room
settle_each-requires-clause-room c =
    let p = c.args.graph.now.rollout.problem in
    let h = c.args.graph.now.history in
    let ordered = c.put_in_order.ensures (covered_items p h c.args.told.now.answers) (filtered-rise (is_covered h c.args.told.now.answers) (item_count p)) c.requires.told.1 in
    omega (arith, ap length (c.row.ensures.value ∙ ap (λ (t : Acks). t.row) ordered), covered-short p h c.args.told.now.answers, ap length c.requires.empty, c.args.batch.now.ok.0, c.requires.room)

pub returns-clause-graph : goal.returns-clause-graph
returns-clause-graph c =
    let p = c.args.graph.now.rollout.problem in
    let h = c.args.graph.now.history in
    let ordered = c.put_in_order.ensures (covered_items p h c.args.told.now.answers) (filtered-rise (is_covered h c.args.told.now.answers) (item_count p)) c.requires.told.1 in
    c.settle_each.ensures.graph ∙ ended-graph c.args.graph.now c.args.told.now.answers c.row.result.now (c.row.ensures.value ∙ ap (λ (t : Acks). t.row) ordered)

pub returns-clause-batch : goal.returns-clause-batch
returns-clause-batch c =
    let p = c.args.graph.now.rollout.problem in
    let h = c.args.graph.now.history in
    let ordered = c.put_in_order.ensures (covered_items p h c.args.told.now.answers) (filtered-rise (is_covered h c.args.told.now.answers) (item_count p)) c.requires.told.1 in
    c.settle_each.ensures.batch ∙ ap₂ (λ es fs. es ++ fs) c.requires.empty (ap (ended h) (c.row.ensures.value ∙ ap (λ (t : Acks). t.row) ordered) ∙ covered-ended p h c.args.told.now.answers)

pub returns-clause-told : goal.returns-clause-told
returns-clause-told c =
    let p = c.args.graph.now.rollout.problem in
    let h = c.args.graph.now.history in
    let ordered = c.put_in_order.ensures (covered_items p h c.args.told.now.answers) (filtered-rise (is_covered h c.args.told.now.answers) (item_count p)) c.requires.told.1 in
    c.forget.ensures ∙ ap (λ (t : Acks). record { items = t.items; row = []; answers = [] }) ordered
