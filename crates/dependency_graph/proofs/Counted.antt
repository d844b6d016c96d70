-- Counts of a history, with entries ahead, are those of the history with them.
use Rattle.std.proofs.Common.{◌≡◌, ℕ, ◌+◌, ◌<◌, List, [], ◌∷◌, ap₂, arith, ◌==◌, if◌then◌else◌}
use Rattle.rollout_rules.specs.Wan.{Problem, Plan}
use Rattle.rollout_rules.specs.Items.{item_count, number_of}
use Rattle.rollout_rules.specs.History.{History, with_entries, places_of, begun, settled, flies}
use Rattle.rollout_rules.specs.declared.op.Op.{Op}
use Rattle.rollout_rules.specs.declared.op.Entry.{Entry}
use Rattle.rollout_rules.specs.declared.op.Entry.TheVariants.{Begin}
use Rattle.rollout_rules.proofs.Numbers.{number_of-below}
use Rattle.rollout_laws.proofs.Histories.{begun-with, settled-with}
use Rattle.dependency_graph.specs.Progress.{Counts, AreCountsOf}
use Rattle.dependency_graph.specs.Ahead.{settled_with, begun_with, flies_with, places_with, places_begun}
use Rattle.dependency_graph.proofs.Agreement.{Agree}

module _ (c : Counts) (h : History) (ahead : List Entry) (so : AreCountsOf c h) where
  abbrev p : Problem
  p = c.rollout.problem

  abbrev plan : Plan
  plan = c.rollout.plan

  pub settled-ahead : (n : ℕ) → n < item_count p → settled_with c ahead n ≡ settled (with_entries h ahead) n
  settled-ahead n lt = omega (arith, so.settled n lt, settled-with h ahead n)

  pub begun-ahead : (n : ℕ) → n < item_count p → begun_with c ahead n ≡ begun (with_entries h ahead) n
  begun-ahead n lt = omega (arith, so.begun n lt, begun-with h ahead n)

  pub flies-ahead : (n : ℕ) → n < item_count p → flies_with c ahead n ≡ flies (with_entries h ahead) n
  flies-ahead n lt = ap₂ (λ a b. a == b + 1) (begun-ahead n lt) (settled-ahead n lt)

  pub with-agree : Agree p (places_with c.rollout c ahead) (places_of p (with_entries h ahead))
  with-agree = record {
    settled = λ i here. settled-ahead (number_of p i) (number_of-below p i here);
    flies = λ i here. flies-ahead (number_of p i) (number_of-below p i here);
  }

  pub begun-agree : (op : Op) → Agree p (places_begun c.rollout c ahead op) (places_of p (with_entries (with_entries h ahead) (Begin op ∷ [])))
  begun-agree op = record {
    settled = λ i here. omega (arith, settled-ahead (number_of p i) (number_of-below p i here), settled-with (with_entries h ahead) (Begin op ∷ []) (number_of p i));
    flies = λ i here.
        let lt = number_of-below p i here in
        let n = number_of p i in
        let b : begun_with c ahead n + (if op.item == n then 1 else 0) ≡ begun (with_entries (with_entries h ahead) (Begin op ∷ [])) n = omega (arith, begun-ahead n lt, begun-with (with_entries h ahead) (Begin op ∷ []) n) in
        let d : settled_with c ahead n ≡ settled (with_entries (with_entries h ahead) (Begin op ∷ [])) n = omega (arith, settled-ahead n lt, settled-with (with_entries h ahead) (Begin op ∷ []) n) in
        ap₂ (λ a e. a == e + 1) b d;
  }
