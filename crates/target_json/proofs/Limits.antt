-- Rows of numbers within their limits, and the link that is found.
use Rattle.std.proofs.Common.{◌≡◌, ◌⊎◌, ℕ, zero, suc, ◌<◌, ◌≤◌, ◌==◌, ◌&&◌, ◌++◌, List, [], ◌∷◌, length, replicate, set, get_or, Option, Some, None, inl, inr, refl, sym, ap, ◌∙◌, subst, arith}
use Rattle.std.proofs.lemmas.Bool.{cases_eq, cases_lt}
use Rattle.std.proofs.lemmas.List.{get_or-set_same, get_or-set_other, get_or-replicate, length-replicate}
use Rattle.std.proofs.lemmas.List.Quantifiers.{position-Some}
use Rattle.std.proofs.Math.ListN.{get_or-eq_default, length-set}
use Rattle.rollout_rules.specs.declared.limits.TheConstants.{LARGEST_CAPACITY}
use Rattle.rollout_rules.specs.Building.{find_link}
use Rattle.rollout_rules.specs.Network.{IsRate}
use Rattle.rollout_rules.specs.Wan.{Problem, no_link}
use Rattle.wan_model.specs.Rates.{rate_in}
use Rattle.retarget_plan.specs.Aiming.{AreGiven, AreWithin, IsGiven}

pub within_none : AreWithin []
within_none t = tt

within-push : (xs : List (Option ℕ)) (r : Option ℕ) → AreWithin xs → IsRate r → AreWithin (xs ++ r ∷ [])
within-push [] r all this zero = this
within-push [] r all this (suc t) = tt
within-push (x ∷ xs) r all this zero = all 0
within-push (x ∷ xs) r all this (suc t) = within-push xs r (λ k. all (suc k)) this t

pub within_more : (xs ys : List (Option ℕ)) (r : Option ℕ) → AreWithin xs → IsRate r → ys ≡ xs ++ r ∷ [] → AreWithin ys
within_more xs ys r all this is = subst AreWithin (sym is) (within-push xs r all this)

given-none : (n : ℕ) → AreGiven (replicate n None)
given-none n l = elim (cases_lt l n) as (λ _. IsGiven (rate_in (replicate n None) l)) [
  | inl lt ↦ subst IsGiven (sym (get_or-replicate n l None None lt)) tt
  | inr past ↦ subst IsGiven (sym (get_or-eq_default (replicate n None) None {n = l} (omega (arith, past, length-replicate {A = Option ℕ} n None)))) tt
]

pub nothing_given : (n : ℕ) (xs : List (Option ℕ)) → xs ≡ replicate n None → AreGiven xs
nothing_given n xs is = subst AreGiven (sym is) (given-none n)

pub given_set : (xs : List (Option ℕ)) (i n : ℕ) → AreGiven xs → i < length xs → n ≤ LARGEST_CAPACITY → AreGiven (set xs i (Some n))
given_set xs i n all lt few l = elim (cases_eq l i) as (λ _. IsGiven (rate_in (set xs i (Some n)) l)) [
  | inl same ↦ subst (λ k. IsGiven (rate_in (set xs i (Some n)) k)) (sym same) (subst IsGiven (sym (get_or-set_same xs i (Some n) None lt)) few)
  | inr other ↦ subst IsGiven (sym (get_or-set_other xs i l (Some n) None other)) (all l)
]

pub link_below : (p : Problem) (a b l : ℕ) → find_link p a b ≡ Some l → l < length p.links
link_below p a b l is = (position-Some (λ k. (k.from == a) && (k.to == b)) p.links l no_link is).0

pub ruleset limits = (within_none, within_more, nothing_given, given_set, link_below, length-set, length-replicate)
