-- The way of a history to a level.
use Rattle.std.specs.Prelude.{◌≡◌, List, ◌++◌, IsTrue, ℕ}
use Rattle.rollout_rules.specs.Wan.{Problem, Plan}
use Rattle.rollout_rules.specs.History.{History, with_entries, places_of}
use Rattle.rollout_rules.specs.Legal.{is_legal}
use Rattle.rollout_rules.specs.Safe.{IsSafe}
use Rattle.rollout_rules.specs.declared.op.Entry.{Entry}
use Rattle.rollback_plan.specs.Levels.{BegunUpTo, is_levelled}

-- A history on the way to stage s: it is legal, so it is safe, and nothing is begun that leads past s.
pub record IsOnTheWay (p : Problem) (plan : Plan) (s : ℕ) (h : History) : Type 0 where
  pub legal : IsTrue (is_legal p plan h)
  pub safe : IsSafe p plan (places_of p h)
  pub begun : BegunUpTo p plan s h

-- Entries that lead from a history to one that is levelled at stage s, by way of such histories alone.
pub record LevelsAt (p : Problem) (plan : Plan) (s : ℕ) (h : History) : Type 0 where
  pub entries : List Entry
  pub levelled : IsTrue (is_levelled p plan (with_entries h entries) s)
  pub way : (front rest : List Entry) → front ++ rest ≡ entries → IsOnTheWay p plan s (with_entries h front)
