-- What is held after an item's entry was set.
use Rattle.std.proofs.Common.{◌≡◌, ℕ, ◌==◌, ◌||◌, Bool, true, false, cond, Option, Some, None, is_some, unwrap_or, sym, ap, ◌∙◌, inl, inr, eq-eqb}
use Rattle.std.specs.Map.{lookup}
use Rattle.std.proofs.lemmas.Bool.{cases_eq, cond-true, cond-false, ne_eqb}
use Rattle.rollout_rules.specs.Agent.{held_after, is_next_command}
use Rattle.wan_edge.specs.Frames.{CommandFrame, Command}
use Rattle.wan_edge.specs.Switches.{after_command, pair_asked}
use Rattle.switch_agent.specs.Items.{Items, held_by, holding, seen, with_stored}

-- the agent rule, by the last command
pub carried : (last : Option CommandFrame) (c : CommandFrame) → is_next_command (held_by last).held (pair_asked c) ≡ true → held_by (Some c) ≡ held_after (held_by last) (pair_asked c) c.1.content
carried last c next = sym (cond-true _ _ _ next)

pub passed_over : (last : Option CommandFrame) (c : CommandFrame) → is_next_command (held_by last).held (pair_asked c) ≡ false → held_by last ≡ held_after (held_by last) (pair_asked c) c.1.content
passed_over last c other = sym (cond-false _ _ _ other)

unfoldable pub some_command : ℕ → Command → Option CommandFrame
some_command migration c = Some (migration, c)

module _ (items new : Items) (item : ℕ) (now : Option CommandFrame) (updated : (q : ℕ) → lookup (λ key. q == key) new ≡ cond (item == q) (Some now) (lookup (λ key. q == key) items)) where
  at_item : (q : ℕ) → q ≡ item → lookup (λ key. q == key) new ≡ Some now
  at_item q e = updated q ∙ cond-true _ _ _ (eq-eqb item q (sym e))

  elsewhere : (q : ℕ) → (q ≡ item → ⊥) → lookup (λ key. q == key) new ≡ lookup (λ key. q == key) items
  elsewhere q other = updated q ∙ cond-false _ _ _ (ne_eqb item q (λ e. other (sym e)))

  held_at : (c : CommandFrame) → c.1.item ≡ item → held_by now ≡ held_after (holding items item) (pair_asked c) c.1.content → (q : ℕ) → holding new q ≡ after_command (holding items) c q
  held_at c of_item rule q =
      elim (cases_eq q item) [
        | inl e ↦
            ap (λ (found : Option (Option CommandFrame)). held_by (unwrap_or found None)) (at_item q e) ∙ rule
            ∙ ap (λ (n : ℕ). held_after (holding items n) (pair_asked c) c.1.content) (sym e)
            ∙ sym (cond-true (q == c.1.item) (held_after (holding items q) (pair_asked c) c.1.content) (holding items q) (eq-eqb q c.1.item (e ∙ sym of_item)))
        | inr other ↦
            ap (λ (found : Option (Option CommandFrame)). held_by (unwrap_or found None)) (elsewhere q other)
            ∙ sym (cond-false (q == c.1.item) (held_after (holding items q) (pair_asked c) c.1.content) (holding items q) (ne_eqb q c.1.item (λ e. other (e ∙ of_item))))
      ]

  pub holding_now : (c : CommandFrame) → c.1.item ≡ item → held_by now ≡ held_after (holding items item) (pair_asked c) c.1.content → holding new ≡ after_command (holding items) c
  holding_now c of_item rule i q = held_at c of_item rule q i

  pub seen_now : (q : ℕ) → seen new q ≡ (q == item || seen items q)
  seen_now q =
      elim (cases_eq q item) [
        | inl e ↦ ap is_some (at_item q e) ∙ ap (λ (b : Bool). b || seen items q) (sym (eq-eqb q item e))
        | inr other ↦ ap is_some (elsewhere q other) ∙ ap (λ (b : Bool). b || seen items q) (sym (ne_eqb q item other))
      ]

  -- a command that is put in the place of what was held of its item
  stored_at : (c : CommandFrame) → c.1.item ≡ item → now ≡ Some c → (q : ℕ) → holding new q ≡ with_stored (holding items) c q
  stored_at c of_item is q =
      elim (cases_eq q item) [
        | inl e ↦
            ap (λ (found : Option (Option CommandFrame)). held_by (unwrap_or found None)) (at_item q e) ∙ ap held_by is
            ∙ sym (cond-true (q == c.1.item) (held_by (Some c)) (holding items q) (eq-eqb q c.1.item (e ∙ sym of_item)))
        | inr other ↦
            ap (λ (found : Option (Option CommandFrame)). held_by (unwrap_or found None)) (elsewhere q other)
            ∙ sym (cond-false (q == c.1.item) (held_by (Some c)) (holding items q) (ne_eqb q c.1.item (λ e. other (e ∙ of_item))))
      ]

  pub stored_now : (c : CommandFrame) → c.1.item ≡ item → now ≡ Some c → holding new ≡ with_stored (holding items) c
  stored_now c of_item is i q = stored_at c of_item is q i
