-- What is begun and settled after further notes.
use Rattle.std.proofs.Common.{◌≡◌, ℕ, zero, suc, ◌+◌, ◌≤◌, true, ◌==◌, List, [], ◌∷◌, ◌++◌, refl, sym, ap, ◌∙◌, subst, arith, eq-eqb}
use Rattle.std.specs.List.{Contains}
use Rattle.rollout_rules.specs.History.{History, begun, dones_in, settled, with_entries}
use Rattle.rollout_rules.specs.declared.op.Op.{Op}
use Rattle.rollout_rules.specs.declared.op.Entry.{Entry}
use Rattle.rollout_rules.specs.declared.op.Entry.TheVariants.{Begin, Done}
use Rattle.rollout_laws.proofs.Histories.{begun-with, settled-with, with_both}
use Rattle.shared_book.specs.declared.note.Written.{Written}
use Rattle.shared_book.specs.Histories.{Opening, added, history_of}
use Rattle.shared_book.proofs.Stops.{added-append}
use Rattle.controller_run.proofs.Elements.{none-inside}

-- a Done among entries counts
pub some-done : (es : List Entry) (op : Op) → Contains es (Done op) → 1 ≤ dones_in es op.item
some-done [] op at = absurd (none-inside (Done op) at)
some-done (e ∷ es) op (zero, inside, is) = subst (λ (x : Entry). 1 ≤ dones_in (x ∷ es) op.item) (sym is) (let here : (op.item == op.item) ≡ true = eq-eqb op.item op.item refl in rw here (omega arith))
some-done (Begin other ∷ es) op (suc k, inside, is) = some-done es op (k, omega (arith, inside), is)
some-done (Done other ∷ es) op (suc k, inside, is) = omega (arith, some-done es op (k, omega (arith, inside), is))

module _ (o : Opening) where
  pub history-behind : (ws more : List Written) → history_of o (ws ++ more) ≡ with_entries (history_of o ws) (added more)
  history-behind ws more = ap (with_entries o.found) (added-append o ws more) ∙ sym (with_both o.found (added ws) (added more))

  pub settled-behind : (ws more : List Written) (n : ℕ) → settled (history_of o (ws ++ more)) n ≡ settled (history_of o ws) n + dones_in (added more) n
  settled-behind ws more n = ap (λ (h : History). settled h n) (history-behind ws more) ∙ settled-with (history_of o ws) (added more) n

  pub begun-behind : (ws more : List Written) (n : ℕ) → begun (history_of o ws) n ≤ begun (history_of o (ws ++ more)) n
  begun-behind ws more n = omega (arith, ap (λ (h : History). begun h n) (history-behind ws more), begun-with (history_of o ws) (added more) n)
