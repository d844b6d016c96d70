use Rattle.std.proofs.Common.{◌≡◌, ℕ, ◌<◌, List, ◌++◌, Option, sym, ap, ◌∙◌, subst}
use Rattle.std.proofs.lemmas.Result.{on_ok_weaker}
use Rattle.rollout_rules.specs.Items.{item_at, item_count}
use Rattle.rollout_rules.specs.Operations.{operations}
use Rattle.rollout_rules.specs.Wan.{Plan, Problem, Rollout}
use Rattle.rollout_rules.specs.declared.held.Held.{Held}
use Rattle.switch_ports.specs.Outboxes.{home_at}
use Rattle.held_service.specs.HeldText.{line_at, line_if}
use Rattle.held_service.specs.Noting.{Notes, noted_at}
use Rattle.held_service.specs.Questions.{asked_homes}
use Rattle.held_service.proofs.held_lines.push_line_at.Goals as goal

-- the line by what was looked up is the item's
line-is : (q p : Problem) (plan : Plan) (notes : Notes) (homes : List (Option ℕ)) (n count : ℕ) (home : Option ℕ) (held : Option Held) → q ≡ p → homes ≡ asked_homes p plan → home ≡ home_at homes n → held ≡ noted_at notes n → count ≡ operations p plan (item_at p n)
    → line_if q n home held count ≡ line_at p plan notes n
line-is q p plan notes homes n count home held same are home_is held_is count_is =
    ap (λ (o : Problem). line_if o n home held count) same
    ∙ ap (λ (h : Option ℕ). line_if p n h held count) (home_is ∙ ap (λ (hs : List (Option ℕ)). home_at hs n) are)
    ∙ ap (λ (h : Option Held). line_if p n (home_at (asked_homes p plan) n) h count) held_is
    ∙ ap (λ (m : ℕ). line_if p n (home_at (asked_homes p plan) n) (noted_at notes n) m) count_is

pub operations-count-requires : goal.operations-count-requires
operations-count-requires c = subst (λ (r : Rollout). c.args.number < item_count r.problem) (sym c.requires.index) c.requires.number

pub returns : goal.returns
returns c =
    let r = c.args.plan.now in
    let n = c.args.number in
    let line = line-is c.problem.result.now r.problem r.plan c.args.notes.now c.args.homes.now n c.operations-count.result c.home_at-home.result c.noted_at-held.result c.problem.ensures c.requires.homes c.home_at-home.ensures c.noted_at-held.ensures
    (c.operations-count.ensures ∙ ap (λ (q : Rollout). operations q.problem q.plan (item_at q.problem n)) c.requires.index) in
    on_ok_weaker c.push_line_if.result (λ e. e ∙ ap (λ (x : List ℕ). c.args.text.now ++ x) line) c.push_line_if.ensures
