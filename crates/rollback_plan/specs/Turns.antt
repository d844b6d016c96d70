-- Going back from where a history stands: so far each item comes, where the way back begins then, and the first stage to be levelled at for that.
use Rattle.std.specs.Prelude.{◌≡◌, ℕ, ◌-◌, ◌<◌, ◌≤◌, max, Bool, List, slice_index, IsTrue, IsFalse}
use Rattle.rollout_rules.specs.Sums.{list_below}
use Rattle.rollout_rules.specs.Wan.{Problem, Plan}
use Rattle.rollout_rules.specs.Items.{item_count, item_at}
use Rattle.rollout_rules.specs.Operations.{changes_to, content_after, operations}
use Rattle.rollout_rules.specs.History.{History, begun, settled, places_of}
use Rattle.rollout_rules.specs.Legal.{is_legal, is_sound}
use Rattle.rollout_rules.specs.Safe.{IsSafe}
use Rattle.rollback_plan.specs.Turning.{back_problem, back_plan}
use Rattle.rollback_plan.specs.Levels.{BegunTo, ceiling}

-- how many operations of item n are settled once all that is begun is, and all to stages up to s
abbrev pub comes_to : Problem → Plan → History → ℕ → ℕ → ℕ
comes_to p plan h s n = max (begun h n) (changes_to p plan (item_at p n) s)

-- the start of the way back there: what is left of each item on the way there
abbrev pub turn_start : Problem → Plan → History → ℕ → List ℕ
turn_start p plan h s = list_below (item_count p) (λ n. operations p plan (item_at p n) - comes_to p plan h s n)

-- whether the way back may begin so
abbrev pub may_turn : Problem → Plan → History → ℕ → Bool
may_turn p plan h s = is_sound (back_problem p) (back_plan plan) (turn_start p plan h s)

-- It may, up to its ceiling, and at no stage before: so it is levelled no further than it has to be. At stage 0 nothing more begins.
pub record TurnsFirstAt (p : Problem) (plan : Plan) (h : History) (s : ℕ) : Type 0 where
  pub sound : IsTrue (may_turn p plan h s)
  pub most : s ≤ ceiling p plan h
  pub first : (t : ℕ) → t < s → IsFalse (may_turn p plan h t)

-- there is such a stage
pub record TurnsSomewhere (p : Problem) (plan : Plan) (h : History) : Type 0 where
  pub stage : ℕ
  pub turns : TurnsFirstAt p plan h stage

-- The way back may begin so, and then each item has the content that it has once so much is settled.
pub record BeginsBack (p : Problem) (plan : Plan) (h : History) (s : ℕ) : Type 0 where
  pub sound : IsTrue (may_turn p plan h s)
  pub contents : (n : ℕ) → n < item_count p
      → content_after (back_problem p) (back_plan plan) (item_at p n) (slice_index (turn_start p plan h s) n) ≡ content_after p plan (item_at p n) (comes_to p plan h s n)

-- nothing is begun past that
abbrev pub BegunSoFar : Problem → Plan → History → ℕ → History → Type 0
BegunSoFar p plan found s h = BegunTo p (comes_to p plan found s) h

-- A history on the way from the one found: it is legal, so it is safe, and nothing is begun past that.
pub record IsOnTheTurn (p : Problem) (plan : Plan) (found : History) (s : ℕ) (h : History) : Type 0 where
  pub legal : IsTrue (is_legal p plan h)
  pub safe : IsSafe p plan (places_of p h)
  pub begun : BegunSoFar p plan found s h

-- A history that goes on from the one found has come so far: of each item that many operations are settled, and none is in flight.
pub record HasComeSoFar (p : Problem) (plan : Plan) (found : History) (s : ℕ) (h : History) : Type 0 where
  pub settled_so : (n : ℕ) → n < item_count p → settled h n ≡ comes_to p plan found s n
  pub still : (n : ℕ) → n < item_count p → begun h n ≡ settled h n
