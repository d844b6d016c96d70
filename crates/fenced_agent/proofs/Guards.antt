-- An agent keeps the rule of terms item by item, and without terms it is the plain one.
use Rattle.std.proofs.Common.{◌≡◌, ℕ, ◌==◌, nat_lt, List, [], ◌∷◌, refl, ap, ◌∙◌, sym, eq-eqb, ne_eqb}
use Rattle.std.proofs.lemmas.Bool.{cond_both, cond-true, cond-false}
use Rattle.rollout_rules.specs.Agent.{Holding, held_after}
use Rattle.wan_edge.specs.Frames.{CommandFrame}
use Rattle.wan_edge.specs.Switches.{Holdings, after_command, after_commands, pair_asked}
use Rattle.takeover_rules.specs.Terms.{Guarded, floor_after, guarded_after}
use Rattle.fenced_agent.specs.Agents.{FencedHoldings, after_fenced, after_all_termed, guarded_of, plain}

module _ (f : FencedHoldings) (term : ℕ) (c : CommandFrame) where
  abbrev carried : FencedHoldings
  carried = record { floor = term; held = after_command f.held c }

  own_held : after_command f.held c c.1.item ≡ held_after (f.held c.1.item) (pair_asked c) c.1.content
  own_held = cond-true (c.1.item == c.1.item) (held_after (f.held c.1.item) (pair_asked c) c.1.content) (f.held c.1.item) (eq-eqb c.1.item c.1.item refl)

  pub guards-own : guarded_of (after_fenced f term c) c.1.item ≡ guarded_after (guarded_of f c.1.item) term (pair_asked c) c.1.content
  guards-own =
      cond_both (nat_lt term f.floor) f carried (λ (g : FencedHoldings). guarded_of g c.1.item ≡ guarded_after (guarded_of f c.1.item) term (pair_asked c) c.1.content)
      (λ below. sym (cond-true (nat_lt term f.floor) (guarded_of f c.1.item) (record { floor = term; holding = held_after (f.held c.1.item) (pair_asked c) c.1.content }) below))
      (λ above.
      ap (λ (h : Holding). at_floor term h) own_held
      ∙ sym (cond-false (nat_lt term f.floor) (guarded_of f c.1.item) (record { floor = term; holding = held_after (f.held c.1.item) (pair_asked c) c.1.content }) above))
    where
      at_floor : ℕ → Holding → Guarded
      at_floor floor holding = record { floor = floor; holding = holding }

  module _ (item : ℕ) (other : item ≡ c.1.item → ⊥) where
    other_held : after_command f.held c item ≡ f.held item
    other_held = cond-false (item == c.1.item) (held_after (f.held item) (pair_asked c) c.1.content) (f.held item) (ne_eqb item c.1.item other)

    pub guards-others : guarded_of (after_fenced f term c) item ≡ record { floor = floor_after f.floor term; holding = f.held item }
    guards-others =
        cond_both (nat_lt term f.floor) f carried (λ (g : FencedHoldings). guarded_of g item ≡ record { floor = floor_after f.floor term; holding = f.held item })
        (λ below. ap (λ (n : ℕ). at_floor n (f.held item)) (sym (cond-true (nat_lt term f.floor) f.floor term below)))
        (λ above. ap (λ (h : Holding). at_floor term h) other_held ∙ ap (λ (n : ℕ). at_floor n (f.held item)) (sym (cond-false (nat_lt term f.floor) f.floor term above)))
      where
        at_floor : ℕ → Holding → Guarded
        at_floor floor holding = record { floor = floor; holding = holding }

-- no term is below 0
pub plain-held : (held : Holdings) (commands : List CommandFrame) → after_all_termed (record { floor = 0; held = held }) (plain commands) ≡ record { floor = 0; held = after_commands held commands }
plain-held held [] = refl
plain-held held (c ∷ cs) = plain-held (after_command held c) cs
