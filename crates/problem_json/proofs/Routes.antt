-- A route that goes on to a new switch, to which a link leads, is a route.
use Rattle.std.proofs.Common.{◌≡◌, ℕ, ◌+◌, ◌-◌, ◌<◌, List, [], ◌∷◌, ◌++◌, length, get_or, Bool, true, false, ◌||◌, ◌==◌, IsSome, refl, sym, ◌∙◌, subst, arith, length-append, below_more, eq-eqb}
use Rattle.std.specs.List.{list_any}
use Rattle.std.proofs.lemmas.Bool.{false≢true}
use Rattle.std.proofs.lemmas.Bool.Decides.{nat_tests}
use Rattle.std.proofs.lemmas.List.{get_or_append_left, get_or_push}
use Rattle.std.proofs.lemmas.List.Folds.{list_any_at}
use Rattle.rollout_rules.specs.Wan.{Problem}
use Rattle.rollout_rules.specs.declared.limits.TheConstants.{MOST_HOPS}
use Rattle.rollout_rules.specs.Building.{find_link, IsRoute}
use Rattle.problem_json.specs.GrammarNetwork.{leads_on}

or_right : (a b : Bool) → a ≡ false → (a || b) ≡ true → b ≡ true
or_right a b is h = rw is at h

not_empty : (n h : ℕ) → n ≡ h + 1 → (n == 0) ≡ false
not_empty n h is = grind (arith, nat_tests)

joined_at : (p : Problem) (a b c d : ℕ) → c ≡ a → d ≡ b → IsSome (find_link p a b) → IsSome (find_link p c d)
joined_at p a b c d from to h = subst (λ (x : ℕ). IsSome (find_link p x d)) (sym from) (subst (λ (x : ℕ). IsSome (find_link p a x)) (sym to) h)

module _ (p : Problem) (path : List ℕ) (next : ℕ) where
  abbrev at : ℕ → ℕ
  at h = get_or (path ++ next ∷ []) h 0

  before : (h : ℕ) → h < length path → at h ≡ get_or path h 0
  before h below = get_or_append_left path (next ∷ []) 0 h below

  here : at (length path) ≡ next
  here = get_or_push path next 0 (length path) refl

  -- a switch that the path doesn't pass isn't at any of its places
  elsewhere : list_any (λ s. s == next) path ≡ false → (h : ℕ) → h < length path → get_or path h 0 ≡ next → ⊥
  elsewhere new h below is = false≢true (sym new ∙ list_any_at (λ s. s == next) path h 0 below (eq-eqb _ _ is))

  once_more : IsRoute p path → list_any (λ s. s == next) path ≡ false → (g : ℕ) → g < length path + 1 → (h : ℕ) → h < length path + 1 → at g ≡ at h → g ≡ h
  once_more r new =
      below_more (λ g. (h : ℕ) → h < length path + 1 → at g ≡ at h → g ≡ h) (length path)
      (λ g gb. below_more (λ h. at g ≡ at h → g ≡ h) (length path)
      (λ h hb e. r.once g h gb hb (sym (before g gb) ∙ e ∙ before h hb))
      (λ e. absurd (elsewhere new g gb (sym (before g gb) ∙ e ∙ here))))
      (below_more (λ h. at (length path) ≡ at h → length path ≡ h) (length path)
      (λ h hb e. absurd (elsewhere new h hb (sym (before h hb) ∙ sym e ∙ here)))
      (λ e. refl))

  joined_more : IsRoute p path → leads_on p path next ≡ true → (h k : ℕ) → k ≡ h + 1 → k < length path + 1 → IsSome (find_link p (at h) (at k))
  joined_more r leads h k is below =
      below_more (λ k. k ≡ h + 1 → IsSome (find_link p (at h) (at k))) (length path)
      (λ k kb e. rw e (let b : h + 1 < length path = omega arith in joined_at p _ _ _ _ (before h (omega arith)) (before (h + 1) b) (r.joined h b)))
      (λ e. let last : length path - 1 ≡ h = omega arith in
      let b : h < length path = omega arith in
      joined_at p (get_or path (length path - 1) 0) next _ _ (before h b ∙ rw last refl) here (or_right _ _ (not_empty (length path) h e) leads))
      k below is

  pub route_more : IsRoute p path → length path < MOST_HOPS → next < length p.switches → list_any (λ s. s == next) path ≡ false → leads_on p path next ≡ true → IsRoute p (path ++ next ∷ [])
  route_more r room below new leads =
      let longer : length (path ++ next ∷ []) ≡ length path + 1 = length-append path (next ∷ []) in
      record {
        most = omega arith;
        switches = λ h lt. below_more (λ h. at h < length p.switches) (length path)
            (λ k kb. rw (before k kb) (r.switches k kb)) (rw here below) h (omega arith);
        once = λ g h gb hb e. once_more r new g (omega arith) h (omega arith) e;
        joined = λ h lt. joined_more r leads h (h + 1) refl (omega arith);
      }

-- a path without switches is a route
pub route_none : (p : Problem) → IsRoute p []
route_none p = record {
  most = omega arith;
  switches = λ h lt. absurd (omega arith);
  once = λ g h gb hb e. absurd (omega arith);
  joined = λ h lt. absurd (omega arith);
}
