use Rattle.std.proofs.Common.{◌≡◌, ◌==◌, ℕ, List, [], length, sym, ap, ◌∙◌, eqb-true}
use Rattle.std.proofs.lemmas.Bool.{and_parts}
use Rattle.rollout_rules.specs.Sums.{list_below}
use Rattle.rollout_rules.specs.Items.{item_count}
use Rattle.rollout_rules.specs.History.{History, no_start}
use Rattle.rollout_rules.specs.Legal.{is_sound}
use Rattle.intent_journal.proofs.judging.begin_at.Goals as goal

pub returns-then-is_nothing : goal.returns-then-is_nothing
returns-then-is_nothing c =
    let r = c.args.graph.now.rollout in
    let start = c.args.start.now in
    let counted : length start ≡ item_count r.problem = eqb-true (length start) (item_count r.problem) (and_parts (length start == item_count r.problem) (is_sound r.problem r.plan start) c.requires.start).0 in
    let nothing : start ≡ no_start r.problem = c.is_nothing.ensures c.if-is_nothing.true ∙ ap (λ (n : ℕ). list_below n (λ k. 0)) counted in
    ap (λ (h : History). record c.args.graph.now { history = h }) (c.requires.empty ∙ ap (λ (s : List ℕ). record { start = s; entries = [] }) (sym nothing))
