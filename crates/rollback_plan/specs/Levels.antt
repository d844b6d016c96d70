-- Levels: where all items stand that have made their operations to stages up to one, how far a history has come, and when
-- it is level.
use Rattle.std.specs.Prelude.{◌≡◌, ℕ, ◌+◌, ◌-◌, ◌<◌, ◌≤◌, Bool, true, ◌&&◌, List, slice_index, ◌==◌, nat_le, if◌then◌else◌, IsTrue, IsFalse}
use Rattle.rollout_rules.specs.Sums.{all_below, list_below}
use Rattle.rollout_rules.specs.Wan.{Problem, Plan, last_stage}
use Rattle.rollout_rules.specs.Items.{item_count, item_at, content}
use Rattle.rollout_rules.specs.Operations.{changes_to, stand_after, content_after}
use Rattle.rollout_rules.specs.History.{History, begun, settled}
use Rattle.rollout_rules.specs.Release.{most_below, held_back, is_held_back}
use Rattle.rollout_rules.specs.declared.op.OpView.{OpView}
use Rattle.order_policy.specs.Answers.{is_view, last_rank}
use Rattle.rollback_plan.specs.Turning.{back_problem, back_plan}

-- the start at which each item has made its operations to stages up to s, and no other
abbrev pub stage_start : Problem → Plan → ℕ → List ℕ
stage_start p plan s = list_below (item_count p) (λ n. changes_to p plan (item_at p n) s)

-- The start of the way back from stage s, whose content the plan back has at its stage Q - s, where Q is the last one.
abbrev pub back_start : Problem → Plan → ℕ → List ℕ
back_start p plan s = stage_start (back_problem p) (back_plan plan) (last_stage plan - s)

-- with a start's numbers of operations settled each item has its content of stage s
abbrev pub HasContentsOf : Problem → Plan → ℕ → List ℕ → Type 0
HasContentsOf p plan s start =
    (n : ℕ) → n < item_count p → content_after p plan (item_at p n) (slice_index start n) ≡ content p plan (item_at p n) s

-- the stage to which the last operation begun of item n leads, those of the start among them; 0 where none is begun
abbrev pub leads_to : Problem → Plan → History → ℕ → ℕ
leads_to p plan h n = if begun h n == 0 then 0 else stand_after p plan (item_at p n) (begun h n - 1) + 1

-- the greatest of these stages
abbrev pub ceiling : Problem → Plan → History → ℕ
ceiling p plan h = most_below (item_count p) (leads_to p plan h)

-- of no item is more begun than these numbers say
abbrev pub BegunTo : Problem → (ℕ → ℕ) → History → Type 0
BegunTo p most h = (n : ℕ) → n < item_count p → begun h n ≤ most n

-- no operation is begun that leads past stage s
abbrev pub BegunUpTo : Problem → Plan → ℕ → History → Type 0
BegunUpTo p plan s h = (n : ℕ) → n < item_count p → begun h n ≤ changes_to p plan (item_at p n) s

-- whether all operations of item n to stages up to s are settled, and no other is begun
abbrev pub is_levelled_at : Problem → Plan → History → ℕ → ℕ → Bool
is_levelled_at p plan h s n =
    nat_le (changes_to p plan (item_at p n) s) (settled h n) && nat_le (begun h n) (changes_to p plan (item_at p n) s)

abbrev pub is_levelled : Problem → Plan → History → ℕ → Bool
is_levelled p plan h s = all_below (item_count p) (is_levelled_at p plan h s)

-- A policy holds from stage s on: it holds back each operation of what stands at s or past it, and none of what stands
-- before.
pub record HoldsFrom (s : ℕ) (policy : OpView → ℕ) : Type 0 where
  pub from : (view : OpView) → is_view view ≡ true → s ≤ view.stage → IsTrue (is_held_back policy view)
  pub below : (view : OpView) → is_view view ≡ true → view.stage < s → IsFalse (is_held_back policy view)

-- longer chains first, and nothing of what stands at stage s or past it
abbrev pub levelling : ℕ → OpView → ℕ
levelling s view = if nat_le s view.stage then held_back else last_rank - view.chain
