use Rattle.std.proofs.Common.{◌∙◌, List, ℕ, length, sym, ap, ap₂}
use Rattle.rollout_rules.specs.Items.{item_count}
use Rattle.rollout_rules.specs.Legal.{is_sound}
use Rattle.rollout_rules.specs.Wan.{Rollout}
use Rattle.rollback_plan.proofs.Turned.{turn-long}
use Rattle.rollback_plan.proofs.here.may_turn.Goals as goal

pub may_begin_at-requires : goal.may_begin_at-requires
may_begin_at-requires c =
    let g = c.args.graph.now in
    ap length (c.as_slice.ensures ∙ c.in_ok-start.ensures) ∙ turn-long g.rollout.problem g.rollout.plan g.history c.args.stage ∙ sym (ap (λ (r : Rollout). item_count r.problem) c.requires.turned)

pub returns : goal.returns
returns c = c.in_ok-may.ensures ∙ ap₂ (λ (r : Rollout) (start : List ℕ). is_sound r.problem r.plan start) c.requires.turned (c.as_slice.ensures ∙ c.in_ok-start.ensures)
