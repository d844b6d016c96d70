-- What the journal of the way back keeps, and what is left where it isn't placed.
use Rattle.std.proofs.Common.{◌≡◌, ◌⊎◌, ◌+◌, ◌<◌, ℕ, false, List, [], get_or, length, Option, Some, None, IfSome, refl, sym, ap, ap₂, ◌∙◌, inl, arith}
use Rattle.std.proofs.lemmas.List.{ext_get_or}
use Rattle.rollout_rules.specs.Sums.{list_below}
use Rattle.rollout_rules.specs.Wan.{Rollout}
use Rattle.rollout_rules.specs.Items.{item_count}
use Rattle.rollout_rules.specs.History.{History, flies, settled, started}
use Rattle.rollout_rules.proofs.Rows.{list_below-length, list_below-at}
use Rattle.rollout_laws.proofs.Histories.{flies-started}
use Rattle.disk_model.specs.Traces.{DiskTrace}
use Rattle.disk_model.specs.Moments.{LeavesOnly}
use Rattle.disk_model.proofs.Running.{LeavesOnly-start}
use Rattle.dependency_graph.specs.Graph.{Followed}
use Rattle.intent_journal.specs.declared.digest.Digest.{Digest}
use Rattle.intent_journal.specs.declared.fault.JournalFault.TheVariants.{Memory}
use Rattle.intent_journal.specs.Parts.{Kept}
use Rattle.intent_journal.specs.Phases.{kept_of}
use Rattle.intent_journal.specs.Placements.{IsStoodOrPlaced, placed_kept, settled_numbers}
use Rattle.rollout_report.specs.Journals.{digest_for}
use Rattle.rollback_plan.specs.Turning.{back, back_problem}
use Rattle.rollback_plan.proofs.Alike.{count-turned}
use Rattle.rollback_service.specs.Levellings.{IsStartBack}
use Rattle.rollback_service.specs.Placings.{IsNotPlaced, MayPlace, kept_from}

-- after a start that alone is settled
pub settled-start : (n : ℕ) (start : List ℕ) → length start ≡ n → list_below n (settled (started start)) ≡ start
settled-start n start long =
    ext_get_or 0 (list_below n (settled (started start))) start (list_below-length n (settled (started start)) ∙ sym long) (λ i inside.
    let lt : i < n = omega (arith, inside, list_below-length n (settled (started start))) in
    let none : settled (started start) i ≡ get_or start i 0 = omega arith in
    list_below-at n (settled (started start)) i 0 lt ∙ none)

-- what is placed of a graph that begins the way back at a start
pub kept-is : (digest : Digest) (g : Followed) (r : Rollout) (migration : ℕ) (start : List ℕ) → digest ≡ digest_for (back r) (migration + 1) → g.rollout ≡ back r → g.history ≡ started start → IsStartBack r start
    → placed_kept digest g ≡ kept_from r migration start
kept-is digest g r migration start known rollout begins may =
    ap (λ (d : Digest). kept_of d (settled_numbers g) []) known
    ∙ ap₂ (λ (x : Rollout) (h : History). kept_of (digest_for (back r) (migration + 1)) (list_below (item_count x.problem) (settled h)) []) rollout begins
    ∙ ap (λ (xs : List ℕ). kept_of (digest_for (back r) (migration + 1)) xs []) (settled-start (item_count (back_problem r.problem)) start (may.numbers ∙ sym (count-turned r.problem)))

-- nothing is in flight there
pub still-there : (g : Followed) (start : List ℕ) (item : ℕ) → g.history ≡ started start → flies g.history item ≡ false
still-there g start item begins = ap (λ (h : History). flies h item) begins ∙ flies-started start item

module _ {D : Type 0} (trace : D → DiskTrace) (kept : Kept) (disk : D) where
  told-alone : ((c : List ℕ) → (trace disk).left_since (trace disk).moment c → (trace disk).may_leave c) → (told : Option (List ℕ))
      → IfSome told (λ image. LeavesOnly trace disk disk (λ c. (trace disk).may_leave c ⊎ IsStoodOrPlaced kept image c))
  told-alone now None = tt
  told-alone now (Some image) = LeavesOnly-start trace disk (λ c. (trace disk).may_leave c ⊎ IsStoodOrPlaced kept image c) (λ c left. inl (now c left))

  -- a disk that wasn't called is as it was
  pub never-placed : ((c : List ℕ) → (trace disk).left_since (trace disk).moment c → (trace disk).may_leave c) → MayPlace trace kept disk disk
  never-placed now = record { any_moment = told-alone now (trace disk).bytes; told = refl; count = omega arith }

-- for lack of memory
pub not-placed : {D : Type 0} (trace : D → DiskTrace) (disk : D) → IsNotPlaced trace Memory disk disk
not-placed trace disk = record { why = tt; unwritten = tt }
