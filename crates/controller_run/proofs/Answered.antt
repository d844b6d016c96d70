-- Which operations a batch says are done, and by which answers.
use Rattle.std.proofs.Common.{◌≡◌, ◌⊎◌, ℕ, ◌+◌, ◌≤◌, Bool, true, ◌&&◌, ◌==◌, nat_le, List, [], ◌++◌, map, refl, ⊎_elim, subst, arith, eqb-true, leb-true}
use Rattle.std.proofs.lemmas.Bool.{and_parts}
use Rattle.std.proofs.lemmas.List.Elements.{All-contains, Contains-append_cases}
use Rattle.std.specs.List.{Contains, list_any}
use Rattle.rollout_rules.specs.Wan.{Plan, Problem}
use Rattle.rollout_rules.specs.History.{History, with_entries}
use Rattle.rollout_rules.specs.Release.{batch, dones, release}
use Rattle.rollout_rules.specs.declared.op.Op.{Op}
use Rattle.rollout_rules.specs.declared.op.OpView.{OpView}
use Rattle.rollout_rules.specs.declared.op.Entry.{Entry}
use Rattle.rollout_rules.specs.declared.op.Entry.TheVariants.{Done}
use Rattle.rollout_laws.specs.Batches.{BeginsNext, EndsAnswered, covers}
use Rattle.rollout_laws.proofs.Rounds.{dones_are_answered, release_begins_next}
use Rattle.wan_edge.specs.Frames.{Answer}
use Rattle.rollout_book.specs.Aliens.{op_of, told_by}
use Rattle.controller_run.specs.Promises.{EndNothing}
use Rattle.controller_run.proofs.Elements.{any-found, map-found, none-inside}

-- among answers is one that covers an operation
pub record Covers (answers : List Op) (op : Op) : Type 0 where
  pub answer : Op
  pub among : Contains answers answer
  pub item : answer.item ≡ op.item
  pub number : op.number ≤ answer.number

module _ (p : Problem) (plan : Plan) (policy : OpView → ℕ) (h : History) (answers : List Op) where
  of-done : (op : Op) → Contains (dones p h answers) (Done op) → Covers answers op
  of-done op at =
      let ended = All-contains (EndsAnswered h answers) (dones p h answers) (Done op) (dones_are_answered p h answers) at in
      let found = any-found (covers op) answers ended.2 in
      let parts = and_parts (found.0.item == op.item) (nat_le op.number found.0.number) found.2 in
      record { answer = found.0; among = found.1; item = eqb-true found.0.item op.item parts.0; number = leb-true op.number found.0.number parts.1 }

  never-released : (op : Op) → Contains (release p plan policy (with_entries h (dones p h answers))) (Done op) → ⊥
  never-released op at =
      let after = with_entries h (dones p h answers) in
      All-contains (BeginsNext after) (release p plan policy after) (Done op) (release_begins_next p plan policy after) at

  pub batch-covered : (op : Op) → Contains (batch p plan policy h answers) (Done op) → Covers answers op
  batch-covered op at =
      ⊎_elim (of-done op) (λ (late : Contains (release p plan policy (with_entries h (dones p h answers))) (Done op)). absurd (never-released op late))
      (Contains-append_cases (dones p h answers) (release p plan policy (with_entries h (dones p h answers))) (Done op) at)

-- a round without answers ends nothing
pub none-ended : (p : Problem) (plan : Plan) (policy : OpView → ℕ) (h : History) → EndNothing (batch p plan policy h [])
none-ended p plan policy h op at = let covered = batch-covered p plan policy h [] op at in none-inside covered.answer covered.among

-- what the answers tell is what one of them does
pub told-answer : (told : List Answer) (op : Op) → Contains (told_by told) op → (answer : Answer) × Contains told answer × (op_of answer ≡ op)
told-answer told op at = map-found op_of told op at
