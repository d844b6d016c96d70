-- What is begun by trying items in order.
use Rattle.std.specs.Prelude.{ℕ, List, IsTrue}
use Rattle.rollout_rules.specs.History.{with_entries}
use Rattle.rollout_rules.specs.Legal.{may_begin}
use Rattle.rollout_rules.specs.Release.{next_op, view_of, is_held_back, begin_each, release}
use Rattle.rollout_rules.specs.declared.op.OpView.{OpView}
use Rattle.rollout_rules.specs.declared.op.Entry.{Entry}
use Rattle.dependency_graph.specs.Graph.{Followed}

-- the entries got by going once through items, and the rollout with them
abbrev pub begun_by : Followed → List ℕ → List Entry
begun_by g ns = begin_each g.rollout.problem g.rollout.plan g.history ns

abbrev pub tried : Followed → List ℕ → Followed
tried g ns = record g { history = with_entries g.history (begun_by g ns) }

-- the entries of a release, and the rollout with them
abbrev pub released_by : Followed → (OpView → ℕ) → List Entry
released_by g policy = release g.rollout.problem g.rollout.plan policy g.history

abbrev pub with_release : Followed → (OpView → ℕ) → Followed
with_release g policy = record g { history = with_entries g.history (released_by g policy) }

-- Each operation that may begin is held back.
abbrev pub IsAllHeld : Followed → (OpView → ℕ) → Type 0
IsAllHeld g policy =
    (n : ℕ) → IsTrue (may_begin g.rollout.problem g.rollout.plan g.history (next_op g.history n)) → IsTrue (is_held_back policy (view_of g.rollout.problem g.rollout.plan g.history n))
