-- Torn writes.
use Rattle.std.proofs.Common.{List, ap, arith, drop, length, sym, take, ℕ, ⊎_elim, ◌+◌, ◌-◌, ◌∙◌, ◌≡◌, ◌≤◌}
use Rattle.std.proofs.lemmas.Bool.{cases_lt}
use Rattle.std.proofs.lemmas.List.{drop-drop, take-take}
use Rattle.disk_model.specs.Writes.{Torn}

pub torn_wider : (at n from k : ℕ) (old new : List ℕ) → from ≤ at → at + n ≤ from + k → Torn at n old new → Torn from k old new
torn_wider at n from k old new low high torn = record {
  no_shorter = torn.no_shorter;
  no_longer = omega (arith, torn.no_longer, low, high);
  before = λ inside. ⊎_elim
      (λ reaches. sym (take-take from at new low) ∙ ap (take from) (torn.before (omega (arith, reaches))) ∙ take-take from at old low)
      (λ shorter. sym (take-take from (length old) new inside) ∙ ap (take from) (torn.beyond (omega (arith, shorter))))
      (cases_lt at (length old));
  beyond = λ outside. torn.beyond (omega (arith, outside, low));
  after =
      let is : at + n + (from + k - (at + n)) ≡ from + k = omega (arith, high) in
      ap (λ (i : ℕ). drop i new) (sym is) ∙ sym (drop-drop (from + k - (at + n)) (at + n) new) ∙ ap (drop (from + k - (at + n))) torn.after
      ∙ drop-drop (from + k - (at + n)) (at + n) old ∙ ap (λ (i : ℕ). drop i old) is;
}
