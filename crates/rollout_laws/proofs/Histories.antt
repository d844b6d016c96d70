-- Laws of histories: what is counted in one that goes on, and what is known of a legal one.
use Rattle.std.proofs.Common.{◌≡◌, ℕ, ◌+◌, ◌<◌, ◌≤◌, Bool, true, false, ◌&&◌, cond, ◌==◌, List, [], ◌∷◌, ◌++◌, take, drop, slice_index, refl, sym, ap, ◌∙◌, subst, ⊎_elim, arith, append_assoc, append-nil, eqb-true, ltb-true, leb-true, eq-eqb, ne_eqb, take-append-drop}
use Rattle.std.proofs.lemmas.Bool.{and_parts, and_from, cases_eq, not-true, eqb-false}
use Rattle.std.proofs.lemmas.List.Elements.{Contains-append_left, Contains-push}
use Rattle.std.specs.List.{Contains}
use Rattle.lists.proofs.Conditions.{and_regrouped_back}
use Rattle.rollout_rules.specs.Wan.{Problem, Plan}
use Rattle.rollout_rules.specs.Items.{item_count, item_at}
use Rattle.rollout_rules.specs.Operations.{operations}
use Rattle.rollout_rules.specs.History.{History, started, with_entries, begins_in, dones_in, begun, settled, flies, places_of}
use Rattle.rollout_rules.specs.Needs.{needs_met}
use Rattle.rollout_rules.specs.Room.{fits}
use Rattle.rollout_rules.specs.Legal.{has_settled, is_sound, is_next, may_begin, may_end, may_add, may_follow, is_legal}
use Rattle.rollout_rules.specs.declared.op.Op.{Op}
use Rattle.rollout_rules.specs.declared.op.Entry.{Entry}
use Rattle.rollout_rules.specs.declared.op.Entry.TheVariants.{Begin, Done}
use Rattle.rollout_rules.proofs.Below.{all_below-at}
use Rattle.rollout_rules.proofs.Numbers.{number_of-item_at}

-- a history that goes on by no entry, and by two lists in a row
pub with_none : (h : History) → with_entries h [] ≡ h
with_none h = λ k. record { start = h.start; entries = append-nil h.entries k }

pub with_both : (h : History) (xs ys : List Entry) → with_entries (with_entries h xs) ys ≡ with_entries h (xs ++ ys)
with_both h xs ys = λ k. record { start = h.start; entries = append_assoc h.entries xs ys k }

-- counts over two lists in a row, and in a history that goes on
pub begins_in-append : (xs ys : List Entry) (n : ℕ) → begins_in (xs ++ ys) n ≡ begins_in xs n + begins_in ys n
begins_in-append [] ys n = omega arith
begins_in-append (Begin op ∷ xs) ys n = omega (arith, begins_in-append xs ys n)
begins_in-append (Done op ∷ xs) ys n = begins_in-append xs ys n

pub dones_in-append : (xs ys : List Entry) (n : ℕ) → dones_in (xs ++ ys) n ≡ dones_in xs n + dones_in ys n
dones_in-append [] ys n = omega arith
dones_in-append (Begin op ∷ xs) ys n = dones_in-append xs ys n
dones_in-append (Done op ∷ xs) ys n = omega (arith, dones_in-append xs ys n)

pub begun-with : (h : History) (es : List Entry) (n : ℕ) → begun (with_entries h es) n ≡ begun h n + begins_in es n
begun-with h es n = omega (arith, begins_in-append h.entries es n)

pub settled-with : (h : History) (es : List Entry) (n : ℕ) → settled (with_entries h es) n ≡ settled h n + dones_in es n
settled-with h es n = omega (arith, dones_in-append h.entries es n)

-- what an entry adds to the count of its own item, and of another
abbrev one_if : Bool → ℕ
one_if b = cond b 1 0

adds_one : (n : ℕ) → one_if (n == n) ≡ 1
adds_one n = ap one_if (eq-eqb n n refl)

adds_none : (m n : ℕ) → (m ≡ n → ⊥) → one_if (m == n) ≡ 0
adds_none m n other = ap one_if (ne_eqb m n other)

-- counts with one entry more: of its own item, and of another
pub begun-begin : (h : History) (op : Op) → begun (with_entries h (Begin op ∷ [])) op.item ≡ begun h op.item + 1
begun-begin h op =
    omega (arith, begun-with h (Begin op ∷ []) op.item, adds_one op.item)

pub begun-begin_other : (h : History) (op : Op) (n : ℕ) → (op.item ≡ n → ⊥) → begun (with_entries h (Begin op ∷ [])) n ≡ begun h n
begun-begin_other h op n other =
    omega (arith, begun-with h (Begin op ∷ []) n, adds_none op.item n other)

pub begun-done : (h : History) (op : Op) (n : ℕ) → begun (with_entries h (Done op ∷ [])) n ≡ begun h n
begun-done h op n = omega (arith, begun-with h (Done op ∷ []) n)

pub settled-done : (h : History) (op : Op) → settled (with_entries h (Done op ∷ [])) op.item ≡ settled h op.item + 1
settled-done h op =
    omega (arith, settled-with h (Done op ∷ []) op.item, adds_one op.item)

pub settled-done_other : (h : History) (op : Op) (n : ℕ) → (op.item ≡ n → ⊥) → settled (with_entries h (Done op ∷ [])) n ≡ settled h n
settled-done_other h op n other =
    omega (arith, settled-with h (Done op ∷ []) n, adds_none op.item n other)

pub settled-begin : (h : History) (op : Op) (n : ℕ) → settled (with_entries h (Begin op ∷ [])) n ≡ settled h n
settled-begin h op n = omega (arith, settled-with h (Begin op ∷ []) n)

-- nothing is in flight at a start
pub flies-started : (start : List ℕ) (n : ℕ) → flies (started start) n ≡ false
flies-started start n = ne_eqb (begun (started start) n) (settled (started start) n + 1) (λ e. omega arith)

-- what an operation that is next, or may begin, has
pub record IsNextOp (p : Problem) (plan : Plan) (h : History) (op : Op) : Type 0 where
  pub within : op.item < item_count p
  pub idle : flies h op.item ≡ false
  pub number : op.number ≡ settled h op.item + 1
  pub exists : op.number ≤ operations p plan (item_at p op.item)

pub record MayBegin (p : Problem) (plan : Plan) (h : History) (op : Op) : Type 0 where
  pub next : IsNextOp p plan h op
  pub needs : needs_met p plan (places_of p h) (item_at p op.item) ≡ true
  pub room : fits p plan (places_of p (with_entries h (Begin op ∷ []))) ≡ true

-- what an operation that may be done has
pub record MayEnd (h : History) (op : Op) : Type 0 where
  pub flying : flies h op.item ≡ true
  pub number : op.number ≡ settled h op.item + 1

-- How a legal history counts the operations of an item; of what is no item it counts the start alone.
pub record IsCounted (p : Problem) (plan : Plan) (h : History) (n : ℕ) : Type 0 where
  pub settled_begun : settled h n ≤ begun h n
  pub one_flies : begun h n ≤ settled h n + 1
  pub exist : n < item_count p → begun h n ≤ operations p plan (item_at p n)
  pub within : slice_index h.start n < begun h n → n < item_count p

pub ends : (h : History) (op : Op) → may_end h op ≡ true → MayEnd h op
ends h op may =
    let parts = and_parts _ _ may in
    record { flying = parts.0; number = eqb-true _ _ parts.1 }

module _ (p : Problem) (plan : Plan) where
  pub is_next_op : (h : History) (op : Op) → is_next p plan h op ≡ true → IsNextOp p plan h op
  is_next_op h op next =
      let a = and_parts _ _ next in
      let b = and_parts _ _ a.0 in
      let c = and_parts _ _ b.0 in
      record { within = ltb-true _ _ c.0; idle = not-true _ c.1; number = eqb-true _ _ b.1; exists = leb-true _ _ a.1 }

  pub begins : (h : History) (op : Op) → may_begin p plan h op ≡ true → MayBegin p plan h op
  begins h op may =
      let a = and_parts _ _ may in
      let b = and_parts _ _ a.0 in
      record { next = is_next_op h op b.0; needs = b.1; room = a.1 }

  -- entries that follow in two parts
  pub may_follow-append : (h : History) (xs ys : List Entry) → may_follow p plan h (xs ++ ys) ≡ (may_follow p plan h xs && may_follow p plan (with_entries h xs) ys)
  may_follow-append h [] ys = ap (λ g. may_follow p plan g ys) (sym (with_none h))
  may_follow-append h (x ∷ xs) ys =
      ap (λ b. may_add p plan h x && b) (may_follow-append (with_entries h (x ∷ [])) xs ys ∙ ap (λ g. may_follow p plan (with_entries h (x ∷ [])) xs && may_follow p plan g ys) (with_both h (x ∷ []) xs))
      ∙ sym (and_regrouped_back (may_add p plan h x) _ _)

  pub front_follows : (h : History) (xs ys : List Entry) → may_follow p plan h (xs ++ ys) ≡ true → may_follow p plan h xs ≡ true
  front_follows h xs ys e = (and_parts _ _ (sym (may_follow-append h xs ys) ∙ e)).0

  pub back_follows : (h : History) (xs ys : List Entry) → may_follow p plan h (xs ++ ys) ≡ true → may_follow p plan (with_entries h xs) ys ≡ true
  back_follows h xs ys e = (and_parts _ _ (sym (may_follow-append h xs ys) ∙ e)).1

  pub both_follow : (h : History) (xs ys : List Entry) → may_follow p plan h xs ≡ true → may_follow p plan (with_entries h xs) ys ≡ true → may_follow p plan h (xs ++ ys) ≡ true
  both_follow h xs ys a b = may_follow-append h xs ys ∙ and_from _ _ a b

  -- the first so many of entries that follow
  pub take_follows : (h : History) (xs : List Entry) (n : ℕ) → may_follow p plan h xs ≡ true → may_follow p plan h (take n xs) ≡ true
  take_follows h xs n e = front_follows h (take n xs) (drop n xs) (subst (λ l. may_follow p plan h l ≡ true) (sym (take-append-drop n xs)) e)

  -- a legal history begins at a sound start, and its entries may follow it
  pub legal_is_sound : (h : History) → is_legal p plan h ≡ true → is_sound p plan h.start ≡ true
  legal_is_sound h legal = (and_parts (is_sound p plan h.start) _ legal).0

  pub legal_follows : (h : History) → is_legal p plan h ≡ true → may_follow p plan (started h.start) h.entries ≡ true
  legal_follows h legal = (and_parts (is_sound p plan h.start) _ legal).1

  pub started_is_legal : (start : List ℕ) → is_sound p plan start ≡ true → is_legal p plan (started start) ≡ true
  started_is_legal start sound = and_from _ _ sound refl

  pub front_is_legal : (h : History) (rest : List Entry) → is_legal p plan (with_entries h rest) ≡ true → is_legal p plan h ≡ true
  front_is_legal h rest legal =
      and_from _ _ (legal_is_sound (with_entries h rest) legal) (front_follows (started h.start) h.entries rest (legal_follows (with_entries h rest) legal))

  pub rest_follows : (h : History) (rest : List Entry) → is_legal p plan (with_entries h rest) ≡ true → may_follow p plan h rest ≡ true
  rest_follows h rest legal = back_follows (started h.start) h.entries rest (legal_follows (with_entries h rest) legal)

  pub is_legal-append : (h : History) (es : List Entry) → is_legal p plan h ≡ true → may_follow p plan h es ≡ true → is_legal p plan (with_entries h es) ≡ true
  is_legal-append h es legal follows =
      and_from _ _ (legal_is_sound h legal) (both_follow (started h.start) h.entries es (legal_follows h legal) follows)

  -- one entry more keeps the counts
  counted-begin : (h : History) (op : Op) → IsNextOp p plan h op → ((n : ℕ) → IsCounted p plan h n) → (n : ℕ) → IsCounted p plan (with_entries h (Begin op ∷ [])) n
  counted-begin h op next before n =
      ⊎_elim (λ (e : op.item ≡ n). subst (λ m. IsCounted p plan (with_entries h (Begin op ∷ [])) m) e same) other (cases_eq op.item n)
    where
      same : IsCounted p plan (with_entries h (Begin op ∷ [])) op.item
      same =
          let was = before op.item in
          let idle = eqb-false (begun h op.item) (settled h op.item + 1) next.idle in
          let b = begun-begin h op in
          let s = settled-begin h op op.item in
          let low = was.settled_begun in
          let high = was.one_flies in
          let number = next.number in
          let exists = next.exists in
          record {
            settled_begun = omega (arith, b, s, low);
            one_flies = omega (arith, b, s, low, high, idle);
            exist = λ _. omega (arith, b, s, low, high, idle, number, exists);
            within = λ _. next.within;
          }

      other : (op.item ≡ n → ⊥) → IsCounted p plan (with_entries h (Begin op ∷ [])) n
      other o =
          let was = before n in
          let b = begun-begin_other h op n o in
          let s = settled-begin h op n in
          record {
            settled_begun = omega (arith, b, s, was.settled_begun);
            one_flies = omega (arith, b, s, was.one_flies);
            exist = λ here. subst (λ k. k ≤ operations p plan (item_at p n)) (sym b) (was.exist here);
            within = λ some. was.within (subst (λ k. slice_index h.start n < k) b some);
          }

  counted-done : (h : History) (op : Op) → MayEnd h op → ((n : ℕ) → IsCounted p plan h n) → (n : ℕ) → IsCounted p plan (with_entries h (Done op ∷ [])) n
  counted-done h op end before n =
      ⊎_elim (λ (e : op.item ≡ n). subst (λ m. IsCounted p plan (with_entries h (Done op ∷ [])) m) e same) other (cases_eq op.item n)
    where
      same : IsCounted p plan (with_entries h (Done op ∷ [])) op.item
      same =
          let was = before op.item in
          let flying = eqb-true (begun h op.item) (settled h op.item + 1) end.flying in
          let b = begun-done h op op.item in
          let s = settled-done h op in
          record {
            settled_begun = omega (arith, b, s, flying);
            one_flies = omega (arith, b, s, flying);
            exist = λ here. subst (λ k. k ≤ operations p plan (item_at p op.item)) (sym b) (was.exist here);
            within = λ some. was.within (subst (λ k. slice_index h.start op.item < k) b some);
          }

      other : (op.item ≡ n → ⊥) → IsCounted p plan (with_entries h (Done op ∷ [])) n
      other o =
          let was = before n in
          let b = begun-done h op n in
          let s = settled-done_other h op n o in
          record {
            settled_begun = omega (arith, b, s, was.settled_begun);
            one_flies = omega (arith, b, s, was.one_flies);
            exist = λ here. subst (λ k. k ≤ operations p plan (item_at p n)) (sym b) (was.exist here);
            within = λ some. was.within (subst (λ k. slice_index h.start n < k) b some);
          }

  counted-add : (h : History) (e : Entry) → may_add p plan h e ≡ true → ((n : ℕ) → IsCounted p plan h n) → (n : ℕ) → IsCounted p plan (with_entries h (e ∷ [])) n
  counted-add h (Begin op) may before = counted-begin h op (begins h op may).next before
  counted-add h (Done op) may before = counted-done h op (ends h op may) before

  counted-follow : (h : History) (es : List Entry) → may_follow p plan h es ≡ true → ((n : ℕ) → IsCounted p plan h n) → (n : ℕ) → IsCounted p plan (with_entries h es) n
  counted-follow h [] may before n = subst (λ g. IsCounted p plan g n) (sym (with_none h)) (before n)
  counted-follow h (e ∷ es) may before n =
      let parts = and_parts (may_add p plan h e) (may_follow p plan (with_entries h (e ∷ [])) es) may in
      subst (λ g. IsCounted p plan g n) (with_both h (e ∷ []) es) (counted-follow (with_entries h (e ∷ [])) es parts.1 (counted-add h e parts.0 before) n)

  -- at a sound start no more operations are settled than there are
  pub sound-exist : (start : List ℕ) → is_sound p plan start ≡ true → (n : ℕ) → n < item_count p → settled (started start) n ≤ operations p plan (item_at p n)
  sound-exist start sound n here =
      let each = (and_parts _ _ (and_parts _ _ sound).0).0 in
      subst (λ m. settled (started start) m ≤ operations p plan (item_at p n)) (number_of-item_at p n here)
      (leb-true _ _ (all_below-at (item_count p) (λ m. has_settled p plan (places_of p (started start)) (item_at p m)) each n here))

  pub sound-counted : (start : List ℕ) → is_sound p plan start ≡ true → (n : ℕ) → IsCounted p plan (started start) n
  sound-counted start sound n = record {
    settled_begun = omega arith;
    one_flies = omega arith;
    exist = λ here. omega (arith, sound-exist start sound n here);
    within = λ some. absurd (omega arith);
  }

  -- In a legal history settled is at most begun, begun is at most one more, and at most the item's operations.
  pub is_counted : (h : History) → is_legal p plan h ≡ true → (n : ℕ) → IsCounted p plan h n
  is_counted h legal n = counted-follow (started h.start) h.entries (legal_follows h legal) (sound-counted h.start (legal_is_sound h legal)) n

  -- each operation begun since the start, by its number, is begun by an entry
  BegunAreThere : History → Type 0
  BegunAreThere h = (n j : ℕ) → slice_index h.start n < j → j ≤ begun h n → Contains h.entries (Begin (record { item = n; number = j }))

  there-add : (h : History) (e : Entry) → may_add p plan h e ≡ true → ((n : ℕ) → IsCounted p plan h n) → BegunAreThere h → BegunAreThere (with_entries h (e ∷ []))
  unfolding BegunAreThere
  there-add h (Begin op) may counted before n j low high =
      ⊎_elim same (λ (o : op.item ≡ n → ⊥). Contains-append_left h.entries (Begin op ∷ []) _ (before n j low (subst (λ k. j ≤ k) (begun-begin_other h op n o) high))) (cases_eq op.item n)
    where
      same : op.item ≡ n → Contains (h.entries ++ Begin op ∷ []) (Begin (record { item = n; number = j }))
      same e =
          let next = (begins h op may).next in
          let idle = eqb-false (begun h op.item) (settled h op.item + 1) next.idle in
          let top : j ≤ begun h op.item + 1 = subst (λ k. j ≤ k) (begun-begin h op) (subst (λ m. j ≤ begun (with_entries h (Begin op ∷ [])) m) (sym e) high) in
          let low' = (counted op.item).settled_begun in
          let high' = (counted op.item).one_flies in
          let number = next.number in
          ⊎_elim
          (λ (i : j ≡ op.number). subst (λ o. Contains (h.entries ++ Begin op ∷ []) (Begin o)) (λ k. record { item = e k; number = sym i k }) (Contains-push h.entries (Begin op)))
          (λ (i : j ≡ op.number → ⊥). Contains-append_left h.entries (Begin op ∷ []) _ (before n j low (subst (λ m. j ≤ begun h m) e (omega (arith, top, low', high', idle, number, i)))))
          (cases_eq j op.number)
  there-add h (Done op) may counted before n j low high = Contains-append_left h.entries (Done op ∷ []) _ (before n j low (subst (λ k. j ≤ k) (begun-done h op n) high))

  there-follow : (h : History) (es : List Entry) → may_follow p plan h es ≡ true → ((n : ℕ) → IsCounted p plan h n) → BegunAreThere h → BegunAreThere (with_entries h es)
  there-follow h [] may counted before = subst BegunAreThere (sym (with_none h)) before
  there-follow h (e ∷ es) may counted before =
      let parts = and_parts (may_add p plan h e) (may_follow p plan (with_entries h (e ∷ [])) es) may in
      subst BegunAreThere (with_both h (e ∷ []) es) (there-follow (with_entries h (e ∷ [])) es parts.1 (counted-add h e parts.0 counted) (there-add h e parts.0 counted before))

  -- in a legal history each operation that counts as begun since the start has its entry
  pub begun_is_there : (h : History) → is_legal p plan h ≡ true → (n j : ℕ) → slice_index h.start n < j → j ≤ begun h n → Contains h.entries (Begin (record { item = n; number = j }))
  unfolding BegunAreThere
  begun_is_there h legal =
      there-follow (started h.start) h.entries (legal_follows h legal) (sound-counted h.start (legal_is_sound h legal)) (λ n j low high. absurd (omega arith))
