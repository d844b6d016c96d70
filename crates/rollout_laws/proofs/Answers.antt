-- Laws of answers: what they cover, and that a history settles no more than what was applied.
use Rattle.std.proofs.Common.{◌≡◌, ℕ, zero, suc, ◌≤◌, Bool, true, false, ◌&&◌, ◌==◌, nat_le, List, [], ◌∷◌, ◌++◌, take, refl, sym, ◌∙◌, subst, ⊎_elim, arith, eqb-true, leb-true}
use Rattle.std.proofs.lemmas.Bool.{and_parts, and_from, or_cases, or_left, cases_eq}
use Rattle.std.proofs.lemmas.List.Elements.{All-nil, All-cons, All-contains, Contains-append_right}
use Rattle.std.proofs.lemmas.List.Folds.{list_any-append}
use Rattle.std.specs.List.{All, Contains, list_any}
use Rattle.rollout_rules.specs.Wan.{Problem, Plan}
use Rattle.rollout_rules.specs.History.{History, with_entries, settled}
use Rattle.rollout_rules.specs.Legal.{may_add, may_follow}
use Rattle.rollout_rules.specs.World.{is_answered, all_answered}
use Rattle.rollout_rules.specs.declared.held.Given.{Given}
use Rattle.rollout_rules.specs.declared.op.Op.{Op}
use Rattle.rollout_rules.specs.declared.op.Entry.{Entry}
use Rattle.rollout_rules.specs.declared.op.Entry.TheVariants.{Begin, Done}
use Rattle.rollout_laws.specs.Kept.{HasAnswer}
use Rattle.rollout_laws.proofs.Histories.{with_none, with_both, ends, settled-begin, settled-done, settled-done_other}

-- whether an answer of a migration covers an operation
abbrev covers : ℕ → Op → Given → Bool
covers migration op a = (a.item == op.item) && (a.held.migration == migration) && nat_le op.number a.held.number

module _ (migration : ℕ) where
  -- more answers cover no less
  is_answered-more : (handed more : List Given) (e : Entry) → is_answered migration handed e ≡ true → is_answered migration (handed ++ more) e ≡ true
  is_answered-more handed more (Begin op) answered = refl
  is_answered-more handed more (Done op) answered = list_any-append (covers migration op) handed more ∙ or_left _ _ answered

  pub all_answered-more : (handed more : List Given) (es : List Entry) → all_answered migration handed es ≡ true → all_answered migration (handed ++ more) es ≡ true
  all_answered-more handed more [] all = refl
  all_answered-more handed more (e ∷ es) all =
      let parts = and_parts (is_answered migration handed e) (all_answered migration handed es) all in
      and_from _ _ (is_answered-more handed more e parts.0) (all_answered-more handed more es parts.1)

  pub all_answered-take : (handed : List Given) (n : ℕ) (es : List Entry) → all_answered migration handed es ≡ true → all_answered migration handed (take n es) ≡ true
  all_answered-take handed zero es all = refl
  all_answered-take handed (suc n) [] all = refl
  all_answered-take handed (suc n) (e ∷ es) all =
      let parts = and_parts (is_answered migration handed e) (all_answered migration handed es) all in
      and_from _ _ parts.0 (all_answered-take handed n es parts.1)

  all_answered-at : (handed : List Given) (es : List Entry) → all_answered migration handed es ≡ true → All (λ e. is_answered migration handed e ≡ true) es
  all_answered-at handed [] all = All-nil (λ e. is_answered migration handed e ≡ true)
  all_answered-at handed (e ∷ es) all =
      let parts = and_parts (is_answered migration handed e) (all_answered migration handed es) all in
      All-cons (λ x. is_answered migration handed x ≡ true) e es parts.0 (all_answered-at handed es parts.1)

  -- an operation that is covered has its answer
  more_has_answer : (op : Op) (a : Given) (handed : List Given) → HasAnswer migration handed op → HasAnswer migration (a ∷ handed) op
  more_has_answer op a handed was =
      record { answer = was.answer; there = Contains-append_right (a ∷ []) handed was.answer was.there; item = was.item; migration = was.migration; number = was.number }

  covered_has_answer : (op : Op) (handed : List Given) → list_any (covers migration op) handed ≡ true → HasAnswer migration handed op
  covered_has_answer op [] some = absurd (absurd_false some)
    where
      absurd_false : false ≡ true → ⊥
      absurd_false e = cc
  covered_has_answer op (a ∷ handed) some =
      ⊎_elim here (λ later. more_has_answer op a handed (covered_has_answer op handed later)) (or_cases (covers migration op a) (list_any (covers migration op) handed) some)
    where
      here : covers migration op a ≡ true → HasAnswer migration (a ∷ handed) op
      here c =
          let parts = and_parts ((a.item == op.item) && (a.held.migration == migration)) (nat_le op.number a.held.number) c in
          let same = and_parts (a.item == op.item) (a.held.migration == migration) parts.0 in
          record { answer = a; there = (0, omega arith, refl); item = eqb-true a.item op.item same.0; migration = eqb-true a.held.migration migration same.1; number = leb-true op.number a.held.number parts.1 }

  pub answered_has_answer : (handed : List Given) (es : List Entry) → all_answered migration handed es ≡ true → (op : Op) → Contains es (Done op) → HasAnswer migration handed op
  answered_has_answer handed es answered op has =
      covered_has_answer op handed (All-contains (λ e. is_answered migration handed e ≡ true) es (Done op) (all_answered-at handed es answered) has)

  -- entries whose answers stand for no more than what was applied settle no more than that
  module _ (p : Problem) (plan : Plan) (applied : ℕ → ℕ) (handed : List Given) (hold : (op : Op) → HasAnswer migration handed op → op.number ≤ applied op.item) where
    settled_one : (h : History) (e : Entry) → may_add p plan h e ≡ true → is_answered migration handed e ≡ true → (n : ℕ) → settled h n ≤ applied n → settled (with_entries h (e ∷ [])) n ≤ applied n
    settled_one h (Begin op) may has n before = subst (λ k. k ≤ applied n) (sym (settled-begin h op n)) before
    settled_one h (Done op) may has n before =
        ⊎_elim
        (λ (e : op.item ≡ n). subst (λ i. settled (with_entries h (Done op ∷ [])) i ≤ applied i) e (subst (λ k. k ≤ applied op.item) ((ends h op may).number ∙ sym (settled-done h op)) (hold op (covered_has_answer op handed has))))
        (λ (o : op.item ≡ n → ⊥). subst (λ k. k ≤ applied n) (sym (settled-done_other h op n o)) before)
        (cases_eq op.item n)

    pub settled-applied : (h : History) (es : List Entry) → may_follow p plan h es ≡ true → all_answered migration handed es ≡ true → (n : ℕ) → settled h n ≤ applied n → settled (with_entries h es) n ≤ applied n
    settled-applied h [] follows answered n before = subst (λ g. settled g n ≤ applied n) (sym (with_none h)) before
    settled-applied h (e ∷ es) follows answered n before =
        let may = and_parts (may_add p plan h e) (may_follow p plan (with_entries h (e ∷ [])) es) follows in
        let has = and_parts (is_answered migration handed e) (all_answered migration handed es) answered in
        subst (λ g. settled g n ≤ applied n) (with_both h (e ∷ []) es) (settled-applied (with_entries h (e ∷ [])) es may.1 has.1 n (settled_one h e may.0 has.0 n before))
