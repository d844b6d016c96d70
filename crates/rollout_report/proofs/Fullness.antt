-- No peak over a legal history is above its capacity.
use Rattle.std.proofs.Common.{◌≡◌, ℕ, ◌+◌, ◌*◌, ◌<◌, ◌≤◌, ◌⊎◌, Bool, true, false, ◌||◌, max, length, drop, inl, inr, refl, sym, subst, arith}
use Rattle.std.proofs.lemmas.Bool.{cases_lt}
use Rattle.std.proofs.lemmas.List.{take-append-drop}
use Rattle.rollout_rules.specs.Wan.{Problem, Plan, link_at, switch_at}
use Rattle.rollout_rules.specs.Network.{IsNetwork}
use Rattle.rollout_rules.specs.Valid.{is_valid_plan}
use Rattle.rollout_rules.specs.Legal.{is_legal}
use Rattle.rollout_rules.specs.History.{History, with_entries, places_of}
use Rattle.rollout_rules.specs.Safe.{settled_rate, next_rate, settled_mark, next_mark, IsSafe}
use Rattle.rollout_rules.proofs.Below.{most_below-within}
use Rattle.rollout_laws.proofs.Histories.{front_is_legal}
use Rattle.rollout_laws.proofs.Safety.{legal-safe}
use Rattle.rollout_report.specs.Peaks.{larger_rate, either_there, link_sum, table_sum, link_peak, table_peak, front}

larger-is : (a b : ℕ) → (max a b ≡ a) ⊎ (max a b ≡ b)
larger-is a b = elim (cases_lt a b) as (λ c. (max a b ≡ a) ⊎ (max a b ≡ b)) [ inl lt ↦ inr (omega arith) | inr le ↦ inl (omega arith) ]

either-is : (a b : Bool) → ((a || b) ≡ a) ⊎ ((a || b) ≡ b)
either-is true b = inl refl
either-is false b = inr refl

module _ (p : Problem) (plan : Plan) (h : History) (net : IsNetwork p) (valid : is_valid_plan p plan ≡ true) (legal : is_legal p plan h ≡ true) where
  front-whole : (k : ℕ) → with_entries (front h k) (drop k h.entries) ≡ h
  front-whole k = let whole = take-append-drop k h.entries in λ i. record { start = h.start; entries = whole i }

  front-safe : (k : ℕ) → IsSafe p plan (places_of p (front h k))
  front-safe k = legal-safe p plan (front h k) net valid (front_is_legal p plan (front h k) (drop k h.entries) (subst (λ g. is_legal p plan g ≡ true) (sym (front-whole k)) legal))

  pub link-fits : (l : ℕ) → l < length p.links → link_peak p plan h l ≤ (link_at p l).capacity * plan.scale
  link-fits l lt = most_below-within (length h.entries + 1) (λ k. link_sum p plan (front h k) l) _
      (λ k _. (front-safe k).links (larger_rate p plan (front h k)) (λ t _. larger-is (settled_rate p plan (places_of p (front h k)) t) (next_rate p plan (places_of p (front h k)) t)) l lt)

  pub table-fits : (w : ℕ) → w < length p.switches → table_peak p plan h w ≤ (switch_at p w).table
  table-fits w lt = most_below-within (length h.entries + 1) (λ k. table_sum p plan (front h k) w) _
      (λ k _. (front-safe k).tables (either_there p plan (front h k)) (λ t n _ _. either-is (settled_mark p plan (places_of p (front h k)) t n) (next_mark p plan (places_of p (front h k)) t n)) w lt)
