-- The places of a history, as its entries move them.
use Rattle.std.proofs.Common.{ap₂, ◌≡◌, ℕ, ◌+◌, ◌≤◌, ◌⊎◌, Bool, true, false, if◌then◌else◌, List, [], ◌∷◌, inl, inr, sym, refl, ap, ◌∙◌, subst, arith, le_of_eq, ne_eqb, eq-eqb, eqb-true, ◌==◌}
use Rattle.std.proofs.lemmas.Bool.{and_parts, cases_eq, eqb-false}
use Rattle.rollout_rules.specs.Wan.{Problem, Plan}
use Rattle.rollout_rules.specs.Network.{IsNetwork}
use Rattle.rollout_rules.specs.Items.{is_item, number_of, item_at}
use Rattle.rollout_rules.specs.Operations.{operations}
use Rattle.rollout_rules.specs.History.{History, started, with_entries, begun, settled, places_of}
use Rattle.rollout_rules.specs.Legal.{may_add, may_follow, is_legal}
use Rattle.rollout_rules.specs.declared.item.Item.{Item}
use Rattle.rollout_rules.specs.declared.op.Op.{Op}
use Rattle.rollout_rules.specs.declared.op.Entry.{Entry}
use Rattle.rollout_rules.specs.declared.op.Entry.TheVariants.{Begin, Done}
use Rattle.rollout_rules.proofs.Numbers.{item_at-number_of, number_of-item_at}
use Rattle.rollout_laws.specs.Good.{begun_at, IsGood, IsBetween}
use Rattle.rollout_laws.proofs.Histories.{begun-begin, begun-begin_other, begun-done, settled-done, settled-done_other, settled-begin, begins, ends, MayBegin, MayEnd, is_counted, with_none, with_both, legal_is_sound, legal_follows, started_is_legal, is_legal-append}
use Rattle.rollout_laws.proofs.Goods.{IsBegun, good-later, good-begun}
use Rattle.rollout_laws.proofs.SoundStarts.{sound-good}

-- what is begun of an item in the places of a history that counts well
begun_at-from : (b s : ℕ) → s ≤ b → b ≤ s + 1 → (if (b == s + 1) then s + 1 else s) ≡ b
begun_at-from b s low high = split (b == s + 1) refl
  where
    split : (fl : Bool) → (b == s + 1) ≡ fl → (if fl then s + 1 else s) ≡ b
    split true e = sym (eqb-true b (s + 1) e)
    split false e = let other = eqb-false b (s + 1) e in omega (arith, other, low, high)

module _ (p : Problem) where
  -- places count alike where histories do
  pub begun_at-same : (h k : History) (i : Item) → begun k (number_of p i) ≡ begun h (number_of p i) → settled k (number_of p i) ≡ settled h (number_of p i) → begun_at (places_of p k) i ≡ begun_at (places_of p h) i
  begun_at-same h k i b s = ap₂ (λ x y. if (x == y + 1) then y + 1 else y) b s

  -- a Done settles what was begun
  pub done-between : (h : History) (op : Op) → MayEnd h op → IsBetween p (places_of p h) (places_of p (with_entries h (Done op ∷ [])))
  done-between h op end = record {
    settled = λ i here. up (number_of p i) (cases_eq op.item (number_of p i));
    begun = λ i here. le_of_eq (same i (cases_eq op.item (number_of p i)));
  }
    where
      up : (n : ℕ) → (op.item ≡ n) ⊎ (op.item ≡ n → ⊥) → settled h n ≤ settled (with_entries h (Done op ∷ [])) n
      up n (inl e) = subst (λ m. settled h m ≤ settled (with_entries h (Done op ∷ [])) m) e (omega (arith, settled-done h op))
      up n (inr other) = omega (arith, settled-done_other h op n other)

      -- all that was begun of the item is settled
      lands : (b s : ℕ) → b ≡ s + 1 → (if (b == s + 1 + 1) then s + 1 + 1 else s + 1) ≡ (if (b == s + 1) then s + 1 else s)
      lands b s e = let landed = ne_eqb b (s + 1 + 1) (omega arith) in let flew = eq-eqb b (s + 1) e in rw (landed, flew)

      own : (n : ℕ) → op.item ≡ n → (if (begun (with_entries h (Done op ∷ [])) n == settled (with_entries h (Done op ∷ [])) n + 1) then settled (with_entries h (Done op ∷ [])) n + 1 else settled (with_entries h (Done op ∷ [])) n) ≡ (if (begun h n == settled h n + 1) then settled h n + 1 else settled h n)
      own n e = subst (λ m. (if (begun (with_entries h (Done op ∷ [])) m == settled (with_entries h (Done op ∷ [])) m + 1) then settled (with_entries h (Done op ∷ [])) m + 1 else settled (with_entries h (Done op ∷ [])) m) ≡ (if (begun h m == settled h m + 1) then settled h m + 1 else settled h m)) e
          (ap₂ (λ x y. if (x == y + 1) then y + 1 else y) (begun-done h op op.item) (settled-done h op) ∙ lands (begun h op.item) (settled h op.item) (eqb-true (begun h op.item) (settled h op.item + 1) end.flying))

      same : (i : Item) → (op.item ≡ number_of p i) ⊎ (op.item ≡ number_of p i → ⊥) → begun_at (places_of p (with_entries h (Done op ∷ []))) i ≡ begun_at (places_of p h) i
      same i (inl e) = own (number_of p i) e
      same i (inr other) = begun_at-same h (with_entries h (Done op ∷ [])) i (begun-done h op (number_of p i)) (settled-done_other h op (number_of p i) other)

module _ (p : Problem) (plan : Plan) where
  pub begun_at-places : (h : History) → is_legal p plan h ≡ true → (i : Item) → begun_at (places_of p h) i ≡ begun h (number_of p i)
  begun_at-places h legal i =
      let counted = is_counted p plan h legal (number_of p i) in
      begun_at-from (begun h (number_of p i)) (settled h (number_of p i)) counted.settled_begun counted.one_flies

  -- a Begin begins the next operation of one item
  pub begin-begun : (h : History) (op : Op) → is_legal p plan h ≡ true → is_legal p plan (with_entries h (Begin op ∷ [])) ≡ true → MayBegin p plan h op → IsBegun p plan (places_of p h) (places_of p (with_entries h (Begin op ∷ []))) (item_at p op.item)
  begin-begun h op legal legal' may = record {
    settled = λ i here. sym (settled-begin h op (number_of p i));
    begun = λ i here. begun_of i here (cases_eq op.item (number_of p i));
  }
    where
      same : op.item ≡ op.item → begun (with_entries h (Begin op ∷ [])) op.item ≡ settled h op.item + 1
      same e =
          let counted = is_counted p plan h legal op.item in
          let idle = eqb-false (begun h op.item) (settled h op.item + 1) may.next.idle in
          omega (arith, begun-begin h op, counted.settled_begun, counted.one_flies, idle)

      begun_of : (i : Item) → is_item p i ≡ true → (op.item ≡ number_of p i) ⊎ (op.item ≡ number_of p i → ⊥) → (begun_at (places_of p (with_entries h (Begin op ∷ []))) i ≡ begun_at (places_of p h) i) ⊎ ((item_at p op.item ≡ i) × (begun_at (places_of p (with_entries h (Begin op ∷ []))) i ≡ settled h (number_of p i) + 1))
      begun_of i here (inl e) = inr (ap (item_at p) e ∙ item_at-number_of p i here, begun_at-places (with_entries h (Begin op ∷ [])) legal' i ∙ subst (λ n. begun (with_entries h (Begin op ∷ [])) n ≡ settled h n + 1) e (same refl))
      begun_of i here (inr other) = inl (begun_at-places (with_entries h (Begin op ∷ [])) legal' i ∙ begun-begin_other h op (number_of p i) other ∙ sym (begun_at-places h legal i))

  good-add : IsNetwork p → (h : History) (e : Entry) → is_legal p plan h ≡ true → is_legal p plan (with_entries h (e ∷ [])) ≡ true → may_add p plan h e ≡ true → IsGood p plan (places_of p h) → IsGood p plan (places_of p (with_entries h (e ∷ [])))
  good-add net h (Done op) legal legal' may good = good-later p plan net (places_of p h) (places_of p (with_entries h (Done op ∷ []))) good (done-between p h op (ends h op may))
  good-add net h (Begin op) legal legal' may good =
      let begin = begins p plan h op may in
      let this = item_at p op.item in
      let number = number_of-item_at p op.item begin.next.within in
      let exists : settled h op.item + 1 ≤ operations p plan this = subst (λ n. n ≤ operations p plan this) begin.next.number begin.next.exists in
      good-begun p plan net (places_of p h) (places_of p (with_entries h (Begin op ∷ []))) this good (begin-begun h op legal legal' begin)
      (subst (λ n. settled h n + 1 ≤ operations p plan this) (sym number) exists) begin.needs begin.room

  good-follow : IsNetwork p → (h : History) (es : List Entry) → is_legal p plan h ≡ true → may_follow p plan h es ≡ true → IsGood p plan (places_of p h) → IsGood p plan (places_of p (with_entries h es))
  good-follow net h [] legal follows good = subst (λ g. IsGood p plan (places_of p g)) (sym (with_none h)) good
  good-follow net h (e ∷ es) legal follows good =
      let parts = and_parts (may_add p plan h e) (may_follow p plan (with_entries h (e ∷ [])) es) follows in
      let first : may_follow p plan h (e ∷ []) ≡ true = rw (parts.0) refl in
      let legal' = is_legal-append p plan h (e ∷ []) legal first in
      subst (λ g. IsGood p plan (places_of p g)) (with_both h (e ∷ []) es) (good-follow net (with_entries h (e ∷ [])) es legal' parts.1 (good-add net h e legal legal' parts.0 good))

  -- the places of every legal history are good
  pub legal-good : IsNetwork p → (h : History) → is_legal p plan h ≡ true → IsGood p plan (places_of p h)
  legal-good net h legal =
      let sound = legal_is_sound p plan h legal in
      good-follow net (started h.start) h.entries (started_is_legal p plan h.start sound) (legal_follows p plan h legal) (sound-good p plan h.start sound)
