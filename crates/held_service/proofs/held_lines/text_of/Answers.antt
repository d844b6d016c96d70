use Rattle.std.proofs.Common.{List, ℕ, ◌++◌, ap, ap₂, sym, ◌∙◌}
use Rattle.rollout_rules.specs.Items.{item_count}
use Rattle.rollout_rules.specs.Wan.{Rollout}
use Rattle.held_service.specs.HeldText.{held_text, last_line, lines_below}
use Rattle.held_service.proofs.held_lines.text_of.Goals as goal

pub told_count-told-requires : goal.told_count-told-requires
told_count-told-requires c = c.item_count-items.ensures ∙ ap (λ (r : Rollout). item_count r.problem) c.requires.index ∙ sym c.requires.rows

pub greatest-most-requires : goal.greatest-most-requires
greatest-most-requires c = c.item_count-items.ensures ∙ ap (λ (r : Rollout). item_count r.problem) c.requires.index ∙ sym c.requires.rows

pub returns : goal.returns
unfolding held_text
returns c =
    let r = c.args.plan.now in
    let notes = c.args.notes.now in
    let lines = lines_below r.problem r.plan notes in
    c.in_ok-push_last.ensures
    ∙ ap₂ (λ (t l : List ℕ). t ++ l) (c.in_ok-push_lines.ensures ∙ ap (λ (t : List ℕ). t ++ lines (item_count r.problem)) c.new-text.ensures ∙ ap lines (sym c.requires.rows)) (ap₂ last_line c.told_count-told.ensures c.greatest-most.ensures)
