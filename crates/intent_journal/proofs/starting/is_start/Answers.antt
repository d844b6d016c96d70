use Rattle.std.proofs.Common.{◌≡◌, ◌==◌, ◌&&◌, Bool, true, ℕ, List, length, sym, ap, subst, ◌∙◌, arith, eq-eqb}
use Rattle.std.proofs.lemmas.Bool.{and_from}
use Rattle.rollout_rules.specs.Sums.{list_below}
use Rattle.rollout_rules.specs.Wan.{Rollout}
use Rattle.rollout_rules.specs.Items.{item_count}
use Rattle.rollout_rules.specs.History.{no_start}
use Rattle.rollout_rules.specs.Legal.{is_sound}
use Rattle.rollout_laws.proofs.SoundStarts.{no_start-sound}
use Rattle.intent_journal.proofs.Recoveries.{ok_as}
use Rattle.intent_journal.proofs.starting.is_start.Goals as goal

pub returns-then-is_nothing : goal.returns-then-is_nothing
returns-then-is_nothing c =
    let r = c.args.plan.now in
    let start = c.args.start.now in
    let counted : length start ≡ item_count r.problem = omega (arith, c.if-start-from.false, c.from.ensures, c.item_count.ensures, ap item_count c.problem.ensures) in
    let nothing : start ≡ no_start r.problem = c.is_nothing.ensures c.if-is_nothing.true ∙ ap (λ (n : ℕ). list_below n (λ k. 0)) counted in
    let sound : is_sound r.problem r.plan start ≡ true = subst (λ (s : List ℕ). is_sound r.problem r.plan s ≡ true) (sym nothing) (no_start-sound r.problem r.plan c.checked_plan_is_valid.ensures.valid) in
    sym (and_from (length start == item_count r.problem) (is_sound r.problem r.plan start) (eq-eqb (length start) (item_count r.problem) counted) sound)

pub returns-in-Ok : goal.returns-in-Ok
returns-in-Ok c =
    let r = c.args.plan.now in
    let start = c.args.start.now in
    let counted : length start ≡ item_count r.problem = omega (arith, c.if-start-from.false, c.from.ensures, c.item_count.ensures, ap item_count c.problem.ensures) in
    sym (and_from (length start == item_count r.problem) (is_sound r.problem r.plan start) (eq-eqb (length start) (item_count r.problem) counted) c.in-Ok.ensures.sound)

pub returns-in-Err : goal.returns-in-Err
returns-in-Err c =
    let r = c.args.plan.now in
    let start = c.args.start.now in
    let counted : length start ≡ item_count r.problem = omega (arith, c.if-start-from.false, c.from.ensures, c.item_count.ensures, ap item_count c.problem.ensures) in
    let sound = is_sound r.problem r.plan start in
    ok_as _ _ c.unsound.result c.unsound.ensures (λ is gives. gives sound c.in-Err.ensures.sound ∙ sym (ap (λ (b : Bool). b && sound) (eq-eqb (length start) (item_count r.problem) counted)))
