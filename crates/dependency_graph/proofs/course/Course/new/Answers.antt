use Rattle.std.proofs.Common.{◌≡◌, ◌≤◌, ◌*◌, ℕ, List, [], true, ◌∙◌, sym, ap, subst, arith}
use Rattle.rollout_rules.specs.Wan.{Rollout}
use Rattle.rollout_rules.specs.Items.{item_count}
use Rattle.rollout_rules.specs.History.{History, started}
use Rattle.rollout_rules.specs.Legal.{is_sound}
use Rattle.rollout_rules.specs.declared.op.Entry.{Entry}
use Rattle.dependency_graph.specs.Graph.{op_total, IsFollowed}
use Rattle.dependency_graph.proofs.Followed.{followed-first}
use Rattle.dependency_graph.proofs.course.Course.new.Goals as goal

abbrev so_far : List ℕ → List Entry → History
so_far start entries = record { start = start; entries = entries }

pub invariant_of-result : goal.invariant_of-result
invariant_of-result c =
    let r = c.args.plan.now in
    let own = c.in_ok-progress.ensures.plan in
    let is : started c.args.start.now ≡ so_far c.in_ok-start_kept.start_kept.items c.in_ok-past.past.items =
    ap (λ xs. so_far xs []) (sym c.in_ok-start_kept.ensures) ∙ ap (λ es. so_far c.in_ok-start_kept.start_kept.items es.items) (sym c.in_ok-past.ensures) in
    let room : 2 * op_total c.in_ok-progress.progress.rollout ≤ c.in_ok-past.past.room = omega (arith, c.op_total.ensures, ap (λ es. es.room) c.in_ok-past.ensures) in
    subst (λ h. IsFollowed c.in_ok-progress.progress h c.in_ok-past.past.room) is
    (followed-first c.in_ok-progress.progress c.args.start.now c.in_ok-past.past.room
    (c.requires.numbers ∙ ap (λ q. item_count q.problem) (sym own))
    (subst (λ (q : Rollout). is_sound q.problem q.plan c.args.start.now ≡ true) (sym own) c.requires.sound)
    c.in_ok-progress.ensures.counts room)
