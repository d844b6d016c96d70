-- A batch that follows a history, entry by entry.
use Rattle.std.proofs.Common.{◌≡◌, ℕ, ◌+◌, ◌<◌, ◌≤◌, true, false, ◌&&◌, ◌==◌, List, [], ◌∷◌, ◌++◌, length, get_or, take, drop, sym, ap, ◌∙◌, subst, arith, ne_eqb, take-append-drop}
use Rattle.std.proofs.Math.Bool.{and-true}
use Rattle.std.proofs.lemmas.List.{take_more}
use Rattle.rollout_rules.specs.Wan.{Problem, Plan}
use Rattle.rollout_rules.specs.Items.{item_count}
use Rattle.rollout_rules.specs.History.{History, with_entries, begun, settled}
use Rattle.rollout_rules.specs.Legal.{may_end, may_add, may_follow, is_legal}
use Rattle.rollout_rules.specs.declared.op.Op.{Op}
use Rattle.rollout_rules.specs.declared.op.Entry.{Entry}
use Rattle.rollout_laws.proofs.Histories.{with_both, may_follow-append, take_follows, is_legal-append, is_counted}

module _ (p : Problem) (plan : Plan) (h : History) where
  -- an operation of no item is never done
  pub may_end-no_item : is_legal p plan h ≡ true → (op : Op) → item_count p ≤ op.item → may_end h op ≡ false
  may_end-no_item legal op past =
      let within = (is_counted p plan h legal op.item).within in
      let never : begun h op.item ≡ settled h op.item + 1 → ⊥ = λ e. let lt = within (omega (arith, e)) in omega arith in
      ap (λ b. b && (op.number == settled h op.item + 1)) (ne_eqb (begun h op.item) (settled h op.item + 1) never)

  -- one entry more follows where it may be added
  pub may_follow-one : (b : List Entry) (e : Entry) → may_follow p plan h b ≡ true → may_follow p plan h (b ++ e ∷ []) ≡ may_add p plan (with_entries h b) e
  may_follow-one b e follows = may_follow-append p plan h b (e ∷ []) ∙ ap (λ x. x && (may_add p plan (with_entries h b) e && true)) follows ∙ and-true (may_add p plan (with_entries h b) e)

  -- what doesn't follow in its first part doesn't follow
  pub may_follow-fails : (b rest : List Entry) → may_follow p plan h b ≡ false → may_follow p plan h (b ++ rest) ≡ false
  may_follow-fails b rest fails = may_follow-append p plan h b rest ∙ ap (λ x. x && may_follow p plan (with_entries h b) rest) fails

  -- the history with the first entries of a batch that follows, and then the next
  pub is_legal-next : is_legal p plan h ≡ true → (b : List Entry) → may_follow p plan h b ≡ true → (i : ℕ) (d : Entry) → i < length b → is_legal p plan (with_entries (with_entries h (take i b)) (get_or b i d ∷ [])) ≡ true
  is_legal-next legal b follows i d inside =
      let more = is_legal-append p plan h (take (i + 1) b) legal (take_follows p plan h b (i + 1) follows) in
      subst (λ g. is_legal p plan g ≡ true) (ap (with_entries h) (take_more b i d inside) ∙ sym (with_both h (take i b) (get_or b i d ∷ []))) more

  -- whether a batch follows, entry by entry: where the next one may be added, and where it may not
  module _ (b : List Entry) (i : ℕ) (d : Entry) (inside : i < length b) (follows : may_follow p plan h (take i b) ≡ true) where
    upto_next : may_follow p plan h (take (i + 1) b) ≡ may_add p plan (with_entries h (take i b)) (get_or b i d)
    upto_next = ap (may_follow p plan h) (take_more b i d inside) ∙ may_follow-one (take i b) (get_or b i d) follows

    pub may_follow-more : may_add p plan (with_entries h (take i b)) (get_or b i d) ≡ true → may_follow p plan h (take (i + 1) b) ≡ true
    may_follow-more may = upto_next ∙ may

    pub may_follow-stops : may_add p plan (with_entries h (take i b)) (get_or b i d) ≡ false → may_follow p plan h b ≡ false
    may_follow-stops may = ap (may_follow p plan h) (sym (take-append-drop (i + 1) b)) ∙ may_follow-fails (take (i + 1) b) (drop (i + 1) b) (upto_next ∙ may)
