-- What a legal history counts of an operation that it has begun, and that it settles no more than was answered.
use Rattle.std.proofs.Common.{◌≡◌, ℕ, ◌+◌, ◌<◌, ◌≤◌, true, List, [], ◌∷◌, ◌++◌, take, drop, slice_index, refl, sym, ap, ◌∙◌, subst, ⊎_elim, arith, take-append-drop}
use Rattle.std.proofs.lemmas.Bool.{and_parts, cases_eq}
use Rattle.std.proofs.lemmas.List.{drop_more}
use Rattle.std.proofs.lemmas.List.Elements.{Contains-append_right}
use Rattle.std.specs.List.{Contains}
use Rattle.rollout_rules.specs.Wan.{Problem, Plan}
use Rattle.rollout_rules.specs.History.{History, begins_in, with_entries, begun, settled}
use Rattle.rollout_rules.specs.Legal.{is_legal, may_add, may_follow}
use Rattle.rollout_rules.specs.declared.op.Op.{Op}
use Rattle.rollout_rules.specs.declared.op.Entry.{Entry}
use Rattle.rollout_rules.specs.declared.op.Entry.TheVariants.{Begin, Done}
use Rattle.rollout_laws.proofs.Histories.{begins, begun-begin, begun-with, ends, front_is_legal, is_counted, rest_follows, settled-begin, settled-done, settled-done_other, with_both, with_none}

-- its number is above the start's, and at most what is begun
pub record IsWithin (h : History) (op : Op) : Type 0 where
  pub above : slice_index h.start op.item < op.number
  pub within : op.number ≤ begun h op.item

module _ (p : Problem) (plan : Plan) where
  -- where it stands after these entries, and others after it
  begun_between : (before : History) (op : Op) (rest : List Entry) → is_legal p plan (with_entries before (Begin op ∷ rest)) ≡ true → IsWithin (with_entries before (Begin op ∷ rest)) op
  begun_between before op rest legal =
      let follows = rest_follows p plan before (Begin op ∷ rest) legal in
      let may = (and_parts (may_add p plan before (Begin op)) (may_follow p plan (with_entries before (Begin op ∷ [])) rest) follows).0 in
      let number = (begins p plan before op may).next.number in
      let low = (is_counted p plan before (front_is_legal p plan before (Begin op ∷ rest) legal) op.item).settled_begun in
      let total : begun (with_entries before (Begin op ∷ rest)) op.item ≡ begun before op.item + 1 + begins_in rest op.item
      = ap (λ (g : History). begun g op.item) (sym (with_both before (Begin op ∷ []) rest)) ∙ begun-with (with_entries before (Begin op ∷ [])) rest op.item ∙ ap (λ (k : ℕ). k + begins_in rest op.item) (begun-begin before op) in
      record { above = omega (arith, number); within = omega (arith, number, low, total) }

  pub begun_within : (h : History) → is_legal p plan h ≡ true → (op : Op) → Contains h.entries (Begin op) → IsWithin h op
  begun_within h legal op has =
      let before : History = record { start = h.start; entries = take has.0 h.entries } in
      let rest = drop (has.0 + 1) h.entries in
      let at : h.entries ≡ take has.0 h.entries ++ Begin op ∷ rest
      = sym (take-append-drop has.0 h.entries) ∙ ap (λ (es : List Entry). take has.0 h.entries ++ es) (drop_more h.entries has.0 (Begin op) has.1) ∙ ap (λ (e : Entry). take has.0 h.entries ++ e ∷ rest) has.2 in
      let whole : with_entries before (Begin op ∷ rest) ≡ h = λ k. record { start = h.start; entries = sym at k } in
      subst (λ (g : History). IsWithin g op) whole (begun_between before op rest (subst (λ (g : History). is_legal p plan g ≡ true) (sym whole) legal))

  -- where each Done of item n is at most a number, what is settled of it is
  module _ (n top : ℕ) where
    settled_one : (h : History) (e : Entry) → may_add p plan h e ≡ true → ((op : Op) → e ≡ Done op → op.item ≡ n → op.number ≤ top) → settled h n ≤ top → settled (with_entries h (e ∷ [])) n ≤ top
    settled_one h (Begin op) may told low = subst (λ (k : ℕ). k ≤ top) (sym (settled-begin h op n)) low
    settled_one h (Done op) may told low =
        ⊎_elim
        (λ (e : op.item ≡ n). subst (λ (i : ℕ). settled (with_entries h (Done op ∷ [])) i ≤ top) e (subst (λ (k : ℕ). k ≤ top) ((ends h op may).number ∙ sym (settled-done h op)) (told op refl e)))
        (λ (o : op.item ≡ n → ⊥). subst (λ (k : ℕ). k ≤ top) (sym (settled-done_other h op n o)) low)
        (cases_eq op.item n)

    pub settled_told : (h : History) (es : List Entry) → may_follow p plan h es ≡ true → ((op : Op) → Contains es (Done op) → op.item ≡ n → op.number ≤ top) → settled h n ≤ top → settled (with_entries h es) n ≤ top
    settled_told h [] follows told low = subst (λ (g : History). settled g n ≤ top) (sym (with_none h)) low
    settled_told h (e ∷ es) follows told low =
        let parts = and_parts (may_add p plan h e) (may_follow p plan (with_entries h (e ∷ [])) es) follows in
        let first = settled_one h e parts.0 (λ op is. told op (subst (λ (x : Entry). Contains (e ∷ es) x) is (0, omega arith, refl))) low in
        subst (λ (g : History). settled g n ≤ top) (with_both h (e ∷ []) es)
        (settled_told (with_entries h (e ∷ [])) es parts.1 (λ op has. told op (Contains-append_right (e ∷ []) es (Done op) has)) first)
