-- What the calls on turning rest on: the start of the way back, item by item.
use Rattle.std.proofs.Common.{◌≡◌, ℕ, suc, ◌+◌, ◌-◌, List, [], ◌∷◌, ◌++◌, length, sym, ap, ap₂, ◌∙◌, arith}
use Rattle.rollout_rules.specs.Sums.{list_below}
use Rattle.rollout_rules.specs.Wan.{Problem, Plan}
use Rattle.rollout_rules.specs.Items.{item_count, item_at}
use Rattle.rollout_rules.specs.Operations.{operations}
use Rattle.rollout_rules.specs.History.{History}
use Rattle.rollout_rules.proofs.Rows.{list_below-length}
use Rattle.rollback_plan.specs.Turning.{back_problem}
use Rattle.rollback_plan.specs.Turns.{comes_to, turn_start}
use Rattle.rollback_plan.proofs.Alike.{count-turned}

module _ (p : Problem) (plan : Plan) (h : History) (s : ℕ) where
  -- how many operations are left of an item
  abbrev pub left : ℕ → ℕ
  left n = operations p plan (item_at p n) - comes_to p plan h s n

  -- one item more
  pub turn-next : (n number : ℕ) (start next : List ℕ) → start ≡ list_below n left → number ≡ left n → next ≡ start ++ number ∷ [] → next ≡ list_below (n + 1) left
  turn-next n number start next so this is =
      let more : suc n ≡ n + 1 = omega arith in
      is ∙ ap₂ (λ xs x. xs ++ x ∷ []) so this ∙ ap (λ m. list_below m left) more

  pub turn-all : (n : ℕ) (start : List ℕ) → n ≡ item_count p → start ≡ list_below n left → start ≡ turn_start p plan h s
  turn-all n start all so = so ∙ ap (λ m. list_below m left) all

  -- it has a number of each item, of the way there and of the way back
  pub turn-numbers : length (turn_start p plan h s) ≡ item_count p
  turn-numbers = list_below-length (item_count p) left

  pub turn-long : length (turn_start p plan h s) ≡ item_count (back_problem p)
  turn-long = turn-numbers ∙ sym (count-turned p)
