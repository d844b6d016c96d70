-- Where a worker has come to its end, and some operation isn't settled, the rest is held back.
use Rattle.std.proofs.Common.{◌≡◌, ℕ, ◌<◌, ◌==◌, true, false, List, ◌++◌, inl, inr, sym, ap, ◌∙◌, subst, arith, eqb-true, eq-eqb}
use Rattle.std.proofs.lemmas.Bool.{both_ways, cases_Bool}
use Rattle.rollout_rules.specs.Network.{IsNetwork}
use Rattle.rollout_rules.specs.Items.{item_at, item_count}
use Rattle.rollout_rules.specs.Valid.{is_valid_plan}
use Rattle.rollout_rules.specs.History.{History, settled, with_entries}
use Rattle.rollout_rules.specs.Legal.{is_finished}
use Rattle.rollout_rules.specs.Operations.{operations}
use Rattle.rollout_rules.proofs.Below.{all_below-at, all_below-from}
use Rattle.rollout_laws.specs.Waiting.{HoldsNothing}
use Rattle.rollout_laws.proofs.Histories.{is_counted, settled-with, with_both}
use Rattle.shared_book.specs.declared.note.Written.{Written}
use Rattle.shared_book.specs.Histories.{Opening, added, history_of}
use Rattle.shared_book.specs.Legal.{is_legal_shared, is_still}
use Rattle.shared_book.proofs.Going.{front_is_legal}
use Rattle.shared_book.proofs.Lists.{list-is_legal}
use Rattle.shared_book.proofs.Stops.{added-append}
use Rattle.completion_laws.specs.Finishing.{HasEnded}
use Rattle.completion_laws.proofs.InFlight.{AllHeld, rested-stays, still-flies, turned-leaves, turned-rests}

module _ (o : Opening) (front later : List Written) (legal : is_legal_shared o (front ++ later) ≡ true) where
  goes-on : history_of o (front ++ later) ≡ with_entries (history_of o front) (added later)
  goes-on = ap (with_entries o.found) (added-append o front later) ∙ sym (with_both o.found (added front) (added later))

  -- what was settled stays so
  pub finished-on : is_finished o.rollout.problem o.rollout.plan (history_of o front) ≡ true → is_finished o.rollout.problem o.rollout.plan (history_of o (front ++ later)) ≡ true
  finished-on finished = all_below-from (item_count o.rollout.problem) (λ n. settled (history_of o (front ++ later)) n == operations o.rollout.problem o.rollout.plan (item_at o.rollout.problem n)) one
    where
      one : (n : ℕ) → n < item_count o.rollout.problem → (settled (history_of o (front ++ later)) n == operations o.rollout.problem o.rollout.plan (item_at o.rollout.problem n)) ≡ true
      one n low =
          let h = history_of o front in
          let all = operations o.rollout.problem o.rollout.plan (item_at o.rollout.problem n) in
          let then : settled h n ≡ all = eqb-true (settled h n) all (all_below-at (item_count o.rollout.problem) (λ n. settled h n == operations o.rollout.problem o.rollout.plan (item_at o.rollout.problem n)) finished n low) in
          let more = settled-with h (added later) n in
          let same : settled (history_of o (front ++ later)) n ≡ settled (with_entries h (added later)) n = ap (λ (g : History). settled g n) goes-on in
          let counted = is_counted o.rollout.problem o.rollout.plan (history_of o (front ++ later)) (list-is_legal o (front ++ later) legal) n in
          let begun = counted.settled_begun in
          let exist = counted.exist low in
          eq-eqb (settled (history_of o (front ++ later)) n) all (omega (arith, then, more, same, begun, exist))

unfinished-before : (o : Opening) (front later : List Written) → is_legal_shared o (front ++ later) ≡ true → is_finished o.rollout.problem o.rollout.plan (history_of o (front ++ later)) ≡ false
    → is_finished o.rollout.problem o.rollout.plan (history_of o front) ≡ false
unfinished-before o front later legal unfinished =
    elim (cases_Bool (is_finished o.rollout.problem o.rollout.plan (history_of o front))) as (λ _. is_finished o.rollout.problem o.rollout.plan (history_of o front) ≡ false) [
      | inl finished ↦ absurd (both_ways (is_finished o.rollout.problem o.rollout.plan (history_of o (front ++ later))) unfinished (finished-on o front later legal finished))
      | inr before ↦ before
    ]

-- where some operation isn't settled at the end, nothing is in flight there and all that may begin is held back
pub ended-rests : (o : Opening) (log : List Written) → is_legal_shared o log ≡ true → HasEnded o log → is_finished o.rollout.problem o.rollout.plan (history_of o log) ≡ false
    → (is_still o.rollout.problem (history_of o log) ≡ true) × AllHeld o.rollout.problem o.rollout.plan o.policy (history_of o log)
ended-rests o log legal ended unfinished =
    let p = o.rollout.problem in
    let plan = o.rollout.plan in
    let legal' : is_legal_shared o (ended.front ++ ended.later) ≡ true = subst (λ (ws : List Written). is_legal_shared o ws ≡ true) ended.is legal in
    let unfinished' : is_finished p plan (history_of o (ended.front ++ ended.later)) ≡ false = subst (λ (ws : List Written). is_finished p plan (history_of o ws) ≡ false) ended.is unfinished in
    let before = unfinished-before o ended.front ended.later legal' unfinished' in
    let still = ended.idle before in
    let idle = still-flies p (history_of o ended.front) still in
    let held = turned-rests o ended.front (front_is_legal o ended.front ended.later legal') ended.turned idle in
    let same : history_of o ended.front ≡ history_of o log = sym (ap (history_of o) ended.is ∙ rested-stays o ended.front ended.later legal' (idle, held)) in
    (subst (λ (h : History). is_still p h ≡ true) same still, subst (λ (h : History). AllHeld p plan o.policy h) same held)

pub never-held : (o : Opening) → IsNetwork o.rollout.problem → is_valid_plan o.rollout.problem o.rollout.plan ≡ true → HoldsNothing o.policy → (log : List Written) → is_legal_shared o log ≡ true → HasEnded o log
    → is_finished o.rollout.problem o.rollout.plan (history_of o log) ≡ false → ⊥
never-held o net valid free log legal ended unfinished =
    let p = o.rollout.problem in
    let plan = o.rollout.plan in
    let legal' : is_legal_shared o (ended.front ++ ended.later) ≡ true = subst (λ (ws : List Written). is_legal_shared o ws ≡ true) ended.is legal in
    let unfinished' : is_finished p plan (history_of o (ended.front ++ ended.later)) ≡ false = subst (λ (ws : List Written). is_finished p plan (history_of o ws) ≡ false) ended.is unfinished in
    let before = unfinished-before o ended.front ended.later legal' unfinished' in
    turned-leaves o net valid free ended.front (front_is_legal o ended.front ended.later legal') ended.turned before (still-flies p (history_of o ended.front) (ended.idle before))
