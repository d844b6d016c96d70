-- What may not begin may not after a Begin, so it may be left out.
use Rattle.std.proofs.Common.{◌≡◌, ℕ, suc, ◌+◌, ◌<◌, ◌≤◌, Bool, true, false, not, ◌&&◌, ◌==◌, if◌then◌else◌, cond, List, [], ◌∷◌, filter, nat_lt, nat_le, inl, inr, refl, sym, ap, ap₂, ◌∙◌, subst, arith, le_of_eq, le_trans, eq-eqb, eqb-true, lt-ltb, le-leb}
use Rattle.std.proofs.lemmas.Bool.{cases_Bool, cases_eq, and_from, both_ways, not_from_false, false_from_ne_true, eqb-false}
use Rattle.rollout_rules.specs.Wan.{Problem, Plan, last_stage}
use Rattle.rollout_rules.specs.Network.{IsNetwork}
use Rattle.rollout_rules.specs.Items.{is_item, item_count, item_at, number_of}
use Rattle.rollout_rules.specs.Operations.{operations, stand_after}
use Rattle.rollout_rules.specs.History.{History, with_entries, begins_in, begun, settled, flies, places_of, stand}
use Rattle.rollout_rules.specs.Needs.{needs_met, needs_met_at}
use Rattle.rollout_rules.specs.Room.{fits}
use Rattle.rollout_rules.specs.Legal.{may_begin, may_follow, is_legal}
use Rattle.rollout_rules.specs.Release.{next_op, begin_each}
use Rattle.rollout_rules.specs.declared.item.Item.{Item}
use Rattle.rollout_rules.specs.declared.op.Op.{Op}
use Rattle.rollout_rules.specs.declared.op.Entry.{Entry}
use Rattle.rollout_rules.specs.declared.op.Entry.TheVariants.{Begin}
use Rattle.rollout_rules.proofs.Numbers.{is_item-item_at}
use Rattle.rollout_laws.specs.Good.{begun_at, IsBetween}
use Rattle.rollout_laws.proofs.Histories.{begins, begun-begin, begun-begin_other, begun-with, settled-begin, is_counted, is_legal-append}
use Rattle.rollout_laws.proofs.Goods.{fits-room, room-fits}
use Rattle.rollout_laws.proofs.Needed.{needs-later}
use Rattle.rollout_laws.proofs.Rooms.{least_stage-up, room-later}

-- what is begun of an item grows with how many of its operations were
begun-mono : (b c s : ℕ) → b ≤ c → c ≤ s + 1 → (if (b == s + 1) then s + 1 else s) ≤ (if (c == s + 1) then s + 1 else s)
begun-mono b c s le most = split (b == s + 1) (c == s + 1) refl refl
  where
    split : (x y : Bool) → (b == s + 1) ≡ x → (c == s + 1) ≡ y → (if x then s + 1 else s) ≤ (if y then s + 1 else s)
    split true true e q = omega arith
    split false true e q = omega arith
    split false false e q = omega arith
    split true false e q = absurd (eqb-false c (s + 1) q (let at = eqb-true b (s + 1) e in omega (arith, at, le, most)))

module _ (p : Problem) (plan : Plan) (net : IsNetwork p) where
  abbrev with_next : History → ℕ → History
  with_next h n = with_entries h (Begin (next_op h n) ∷ [])

  pub next-legal : (h : History) (n : ℕ) → is_legal p plan h ≡ true → may_begin p plan h (next_op h n) ≡ true → is_legal p plan (with_next h n) ≡ true
  next-legal h n legal may =
      let follows : may_follow p plan h (Begin (next_op h n) ∷ []) ≡ true = rw may refl in
      is_legal-append p plan h (Begin (next_op h n) ∷ []) legal follows

  module _ (h : History) (n m : ℕ) (legal : is_legal p plan h ≡ true) (first : may_begin p plan h (next_op h n) ≡ true) (may : may_begin p plan (with_next h n) (next_op (with_next h n) m) ≡ true) where
    abbrev h' : History
    h' = with_next h n

    legal' : is_legal p plan (with_next h n) ≡ true
    legal' = next-legal h n legal first

    legal'' : is_legal p plan (with_next (with_next h n) m) ≡ true
    legal'' = next-legal (with_next h n) m legal' may

    -- it is another item's
    apart : n ≡ m → ⊥
    apart same =
        let idle = (begins p plan (with_next h n) (next_op (with_next h n) m) may).next.idle in
        let was = eqb-false (begun h n) (settled h n + 1) (begins p plan h (next_op h n) first).next.idle in
        let counted = is_counted p plan h legal n in
        let now = eqb-false (begun (with_next h n) m) (settled (with_next h n) m + 1) idle in
        let b = ap (begun (with_next h n)) same in
        let s = ap (settled (with_next h n)) same in
        now (omega (arith, begun-begin h (next_op h n), settled-begin h (next_op h n) n, counted.settled_begun, counted.one_flies, was, b, s))

    flies-same : flies (with_next h n) m ≡ flies h m
    flies-same = ap₂ (λ a b. a == b + 1) (begun-begin_other h (next_op h n) m apart) (settled-begin h (next_op h n) m)

    stand-same : (i : Item) → stand p plan (places_of p (with_next h n)) i ≡ stand p plan (places_of p h) i
    stand-same i = ap (stand_after p plan i) (settled-begin h (next_op h n) (number_of p i))

    needs-before : needs_met p plan (places_of p h) (item_at p m) ≡ true
    needs-before =
        let so = begins p plan (with_next h n) (next_op (with_next h n) m) may in
        subst (λ s. needs_met_at p plan (places_of p h) (item_at p m) s ≡ true) (stand-same (item_at p m))
        (needs-later p plan net (places_of p (with_next h n)) (places_of p h) (λ i here. le_of_eq (stand-same i)) (item_at p m) (is_item-item_at p m so.next.within)
        (stand p plan (places_of p (with_next h n)) (item_at p m)) so.needs)

    settled-both : (k : ℕ) → settled (with_next (with_next h n) m) k ≡ settled (with_next h m) k
    settled-both k = omega (arith, settled-begin (with_next h n) (next_op (with_next h n) m) k, settled-begin h (next_op h n) k, settled-begin h (next_op h m) k)

    less-begun : (k : ℕ) → begun (with_next h m) k ≤ begun (with_next (with_next h n) m) k
    less-begun k = omega (arith, begun-with h (Begin (next_op h m) ∷ []) k, begun-with (with_next h n) (Begin (next_op (with_next h n) m) ∷ []) k, begun-with h (Begin (next_op h n) ∷ []) k)

    between : IsBetween p (places_of p (with_next (with_next h n) m)) (places_of p (with_next h m))
    between = record {
      settled = λ i here. le_of_eq (settled-both (number_of p i));
      begun = λ i here.
          let k = number_of p i in
          let most = (is_counted p plan (with_next (with_next h n) m) legal'' k).one_flies in
          subst (λ s. (if (begun (with_next h m) k == s + 1) then s + 1 else s) ≤ (if (begun (with_next (with_next h n) m) k == settled (with_next (with_next h n) m) k + 1) then settled (with_next (with_next h n) m) k + 1 else settled (with_next (with_next h n) m) k))
          (settled-both k) (begun-mono (begun (with_next h m) k) (begun (with_next (with_next h n) m) k) (settled (with_next (with_next h n) m) k) (less-begun k) most);
    }

    stand-both : (i : Item) → stand p plan (places_of p (with_next (with_next h n) m)) i ≡ stand p plan (places_of p (with_next h m)) i
    stand-both i = ap (stand_after p plan i) (settled-both (number_of p i))

    room-before : fits p plan (places_of p (with_next h m)) ≡ true
    room-before =
        let so = begins p plan (with_next h n) (next_op (with_next h n) m) may in
        let low = least_stage-up p plan (places_of p (with_next (with_next h n) m)) (places_of p (with_next h m)) (λ i here. le_of_eq (stand-both i)) in
        room-fits p plan (places_of p (with_next h m)) (λ s from before u here.
        le_trans (room-later p plan (places_of p (with_next (with_next h n) m)) (places_of p (with_next h m)) between s u)
        (fits-room p plan (places_of p (with_next (with_next h n) m)) so.room s (le_trans low from) before u here))

    -- what may begin after a Begin might have begun before it
    pub begins-before : may_begin p plan h (next_op h m) ≡ true
    begins-before =
        let next = (begins p plan (with_next h n) (next_op (with_next h n) m) may).next in
        let inside : nat_lt m (item_count p) ≡ true = lt-ltb m (item_count p) next.within in
        let idle : not (flies h m) ≡ true = not_from_false (flies h m) (sym flies-same ∙ next.idle) in
        let same : (settled h m + 1 == settled h m + 1) ≡ true = eq-eqb (settled h m + 1) (settled h m + 1) refl in
        let exists : nat_le (settled h m + 1) (operations p plan (item_at p m)) ≡ true = le-leb (settled h m + 1) (operations p plan (item_at p m)) (omega (arith, next.exists, settled-begin h (next_op h n) m)) in
        rw (inside, idle, same, exists, needs-before, room-before) refl

  Refuses : History → (ℕ → Bool) → Type 0
  Refuses h keep = (m : ℕ) → keep m ≡ false → may_begin p plan h (next_op h m) ≡ false

  refuses-behind : (h : History) (n : ℕ) (keep : ℕ → Bool) → is_legal p plan h ≡ true → may_begin p plan h (next_op h n) ≡ true → Refuses h keep → Refuses (with_next h n) keep
  unfolding Refuses
  refuses-behind h n keep legal first so m away =
      false_from_ne_true (may_begin p plan (with_next h n) (next_op (with_next h n) m)) (λ may. both_ways (may_begin p plan h (next_op h m)) (so m away) (begins-before h n m legal first may))

  -- going through items is the same without those that may not begin
  pub begin_each-kept : (ns : List ℕ) (keep : ℕ → Bool) (h : History) → is_legal p plan h ≡ true → ((m : ℕ) → keep m ≡ false → may_begin p plan h (next_op h m) ≡ false) → begin_each p plan h ns ≡ begin_each p plan h (filter keep ns)
  unfolding Refuses
  begin_each-kept [] keep h legal so = refl
  begin_each-kept (n ∷ ns) keep h legal so = elim (cases_Bool (may_begin p plan h (next_op h n))) as (λ _. begin_each p plan h (n ∷ ns) ≡ begin_each p plan h (filter keep (n ∷ ns))) [
    | inl may ↦
        let kept : keep n ≡ true = Rattle.std.proofs.lemmas.Bool.true_from_ne_false (keep n) (λ away. both_ways (may_begin p plan h (next_op h n)) (so n away) may) in
        let rest = begin_each-kept ns keep (with_next h n) (next-legal h n legal may) (refuses-behind h n keep legal may so) in
        rw (kept, may) (ap (λ es. Begin (next_op h n) ∷ es) rest)
    | inr stays ↦ elim (cases_Bool (keep n)) as (λ _. begin_each p plan h (n ∷ ns) ≡ begin_each p plan h (filter keep (n ∷ ns))) [
      | inl kept ↦ rw (kept, stays) (begin_each-kept ns keep h legal so)
      | inr away ↦ rw (away, stays) (begin_each-kept ns keep h legal so)
    ]
  ]
