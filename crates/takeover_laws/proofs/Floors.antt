-- Laws of terms, command by command.
use Rattle.std.proofs.Common.{◌≡◌, ℕ, ◌<◌, ◌≤◌, nat_lt, List, [], ◌∷◌, refl, sym, ap, ◌∙◌, arith, le_refl}
use Rattle.std.proofs.lemmas.Bool.{cond_both, cond-true, cond-false, lt-ltb, le-ltb, ltb-false}
use Rattle.rollout_rules.specs.Agent.{pair_of, Holding, held_after}
use Rattle.rollout_rules.specs.declared.held.Held.{Held}
use Rattle.rollout_rules.proofs.Pairs.{held_after-probe}
use Rattle.takeover_rules.specs.Terms.{Guarded, floor_after, guarded_after, Asked, held_after_all, guarded_after_all}

-- a command of a term that isn't below the floor, and one of a term that is
pub carried : (g : Guarded) (term : ℕ) (asked : Held) (content : List ℕ) → g.floor ≤ term → guarded_after g term asked content ≡ record { floor = term; holding = held_after g.holding asked content }
carried g term asked content le = cond-false (nat_lt term g.floor) g (record { floor = term; holding = held_after g.holding asked content }) (le-ltb term g.floor le)

pub passed : (g : Guarded) (term : ℕ) (asked : Held) (content : List ℕ) → term < g.floor → guarded_after g term asked content ≡ g
passed g term asked content lt = cond-true (nat_lt term g.floor) g (record { floor = term; holding = held_after g.holding asked content }) (lt-ltb term g.floor lt)

pub floor-of : (g : Guarded) (term : ℕ) (asked : Held) (content : List ℕ) → (guarded_after g term asked content).floor ≡ floor_after g.floor term
floor-of g term asked content =
    cond_both (nat_lt term g.floor) g (record { floor = term; holding = held_after g.holding asked content }) (λ (v : Guarded). v.floor ≡ floor_after g.floor term)
    (λ below. sym (cond-true (nat_lt term g.floor) g.floor term below))
    (λ above. sym (cond-false (nat_lt term g.floor) g.floor term above))

pub floor-raised : (floor term : ℕ) → floor ≤ term → floor_after floor term ≡ term
floor-raised floor term le = cond-false (nat_lt term floor) floor term (le-ltb term floor le)

pub floor-least : (floor term : ℕ) → floor ≤ floor_after floor term
floor-least floor term =
    cond_both (nat_lt term floor) floor term (λ (n : ℕ). floor ≤ n)
    (λ below. le_refl floor)
    (λ above. ltb-false term floor above)

-- in a row, of one term
pub all_carried : (g : Guarded) (term : ℕ) (cs : List Asked) → g.floor ≤ term → (guarded_after_all g term cs).holding ≡ held_after_all g.holding cs
all_carried g term [] le = refl
all_carried g term (c ∷ cs) le =
    let one = carried g term c.pair c.content le in
    ap (λ (v : Guarded). (guarded_after_all v term cs).holding) one
    ∙ all_carried (record { floor = term; holding = held_after g.holding c.pair c.content }) term cs (le_refl term)

pub none_carried : (g : Guarded) (term : ℕ) (cs : List Asked) → term < g.floor → guarded_after_all g term cs ≡ g
none_carried g term [] lt = refl
none_carried g term (c ∷ cs) lt = ap (λ (v : Guarded). guarded_after_all v term cs) (passed g term c.pair c.content lt) ∙ none_carried g term cs lt

pub probe-guarded : (g : Guarded) (term migration : ℕ) (content : List ℕ) → g.floor ≤ term → guarded_after g term (pair_of migration 0) content ≡ record g { floor = term }
probe-guarded g term migration content le =
    carried g term (pair_of migration 0) content le
    ∙ ap (λ (v : Holding). guarded_at term v) (held_after-probe g.holding migration content)
  where
    guarded_at : ℕ → Holding → Guarded
    guarded_at floor holding = record { floor = floor; holding = holding }
