-- What a round settles.
use Rattle.std.specs.Prelude.{◌≡◌, ℕ, Bool, true, List, [], ◌∷◌, ◌++◌, not, ◌&&◌, nat_lt, if◌then◌else◌}
use Rattle.std.specs.List.{filter}
use Rattle.rollout_rules.specs.Wan.{Problem}
use Rattle.rollout_rules.specs.Items.{item_count}
use Rattle.rollout_rules.specs.History.{History, with_entries, settled, flies}
use Rattle.rollout_rules.specs.Release.{next_op, is_covered, dones}
use Rattle.rollout_rules.specs.declared.op.Op.{Op}
use Rattle.rollout_rules.specs.declared.op.Entry.{Entry}
use Rattle.rollout_rules.specs.declared.op.Entry.TheVariants.{Done}
use Rattle.dependency_graph.specs.Graph.{Followed}
use Rattle.update_scheduler.specs.Rows.{numbers, times}

-- The items of which an answer covers the operation in flight, in any order, below a bound; and the answers.
pub record Acks : Type 0 where
  pub items : ℕ
  pub row : List ℕ
  pub answers : List Op

-- the items of which an answer covers the operation in flight, in order
abbrev pub covered_items : Problem → History → List Op → List ℕ
covered_items p h answers = filter (is_covered h answers) (numbers (item_count p))

-- whether an answer covers an operation in flight that isn't noted yet
abbrev pub tells_more : History → List ℕ → Op → Bool
tells_more h row answer = flies h answer.item && nat_lt (settled h answer.item) answer.number && not (nat_lt 0 (times answer.item row))

-- a row with the item of such an answer
abbrev pub with_told : History → List ℕ → Op → List ℕ
with_told h row answer = if tells_more h row answer then row ++ answer.item ∷ [] else row

-- the Dones of items one by one, each after those before it
abbrev pub ended : History → List ℕ → List Entry
ended h [] = []
ended h (n ∷ ns) = Done (next_op h n) ∷ ended (with_entries h (Done (next_op h n) ∷ [])) ns

abbrev pub with_ended : Followed → List ℕ → Followed
with_ended g ns = record g { history = with_entries g.history (ended g.history ns) }

-- the same rollout with the Dones of a round
abbrev pub with_dones : Followed → List Op → Followed
with_dones g answers = record g { history = with_entries g.history (dones g.rollout.problem g.history answers) }

-- Each of them is in flight when it is its turn.
abbrev pub CanEnd : History → List ℕ → Type 0
CanEnd h [] = Unit {0}
CanEnd h (n ∷ ns) = (flies h n ≡ true) × CanEnd (with_entries h (Done (next_op h n) ∷ [])) ns
