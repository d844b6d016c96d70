-- Berths are dealt in turn, one after the other, and taken back.
use Rattle.std.proofs.Common.{◌≡◌, ℕ, zero, suc, ◌+◌, ◌-◌, ◌<◌, ◌≤◌, ◌%◌, Bool, true, false, cond, ◌||◌, List, [], ◌∷◌, ◌++◌, length, length-append, get_or, set, take, drop, reverse, nat_eq, refl, sym, ap, ap₂, ◌∙◌, subst, arith, append-nil, append_assoc, eqb-true, inl, inr}
use Rattle.std.proofs.Math.Nat.{mod-lt}
use Rattle.std.proofs.Math.Seq.{drop-cons, drop-length, take-length}
use Rattle.std.proofs.lemmas.Bool.{cases_Bool, cases_lt, eqb-false}
use Rattle.std.proofs.lemmas.List.{ext_get_or, get_or-set_other, get_or-set_same, get_or_append_left, get_or_push, length-set, length-take, reverse-append, reverse-reverse, take_more}
use Rattle.std.specs.Cmp.{nat_eq_equiv}
use Rattle.std.specs.List.{AllByRecursion, list_any}
use Rattle.rollout_rules.specs.Sums.{list_below}
use Rattle.port_session.specs.Sessions.{SessionView, first_session}
use Rattle.switch_ports.specs.Rows.{IsLast}
use Rattle.switch_ports.specs.declared.ports.Berth.{Berth}
use Rattle.switch_ports.specs.Berths.{AreApart}
use Rattle.switch_ports.specs.Hands.{TakesLast, at_places, first_sessions, hand, hands}
use Rattle.switch_ports.proofs.Given.{all_both}
use Rattle.switch_ports.proofs.Places.{swapped}

-- ---- rows by number
module _ {A : Type 0} where
  pub length-below : (n : ℕ) (f : ℕ → A) → length (list_below n f) ≡ n
  length-below zero f = refl
  length-below (suc n) f = omega (arith, length-append (list_below n f) (f n ∷ []), length-below n f)

  pub read-below : (n : ℕ) (f : ℕ → A) (k : ℕ) (d : A) → k < n → get_or (list_below n f) k d ≡ f k
  read-below zero f k d lt = absurd (omega (arith, lt))
  read-below (suc n) f k d lt = elim (cases_lt k n) as (λ c. get_or (list_below n f ++ f n ∷ []) k d ≡ f k) [
    | inl below ↦ get_or_append_left (list_below n f) (f n ∷ []) d k (omega (arith, below, length-below n f)) ∙ read-below n f k d below
    | inr above ↦
        let at : n ≡ k = omega (arith, above, lt) in
        subst (λ m. get_or (list_below n f ++ f n ∷ []) m d ≡ f m) at (get_or_push (list_below n f) (f n) d n (length-below n f))
  ]

  -- where one differs
  pub set-below : (n : ℕ) (f g : ℕ → A) (w : ℕ) (v : A) → w < n → v ≡ g w → ((k : ℕ) → nat_eq w k ≡ false → f k ≡ g k) → set (list_below n f) w v ≡ list_below n g
  set-below n f g w v inside is others =
      ext_get_or v (set (list_below n f) w v) (list_below n g) (omega (arith, length-set (list_below n f) w v, length-below n f, length-below n g)) (λ k lt.
      let low : k < n = omega (arith, lt, length-set (list_below n f) w v, length-below n f) in
      elim (cases_Bool (nat_eq w k)) as (λ c. get_or (set (list_below n f) w v) k v ≡ get_or (list_below n g) k v) [
        | inl here ↦
            let at : w ≡ k = eqb-true w k here in
            subst (λ j. get_or (set (list_below n f) w v) j v ≡ get_or (list_below n g) j v) at
            (get_or-set_same (list_below n f) w v v (omega (arith, inside, length-below n f)) ∙ is ∙ sym (read-below n g w v inside))
        | inr apart ↦
            get_or-set_other (list_below n f) w k v v (λ same. eqb-false w k apart (sym same)) ∙ read-below n f k v low ∙ others k apart ∙ sym (read-below n g k v low)
      ])

  drop_more : (xs : List A) (k : ℕ) (d : A) → k < length xs → drop k xs ≡ get_or xs k d ∷ drop (k + 1) xs
  drop_more xs k d inside = let same : suc k ≡ k + 1 = omega arith in drop-cons xs k d inside ∙ ap (λ j. get_or xs k d ∷ drop j xs) same

  -- the front, and the last one
  pub ends_alike : (xs ys : List A) (x y : A) → xs ++ x ∷ [] ≡ ys ++ y ∷ [] → (xs ≡ ys) × (x ≡ y)
  ends_alike [] [] x y same = (refl, cc)
  ends_alike [] (b ∷ ys) x y same = absurd (omega (arith, ap length same, length-append ys (y ∷ [])))
  ends_alike (a ∷ xs) [] x y same = absurd (omega (arith, ap length same, length-append xs (x ∷ [])))
  ends_alike (a ∷ xs) (b ∷ ys) x y same =
      let first : a ≡ b = cc in
      let rest : xs ++ x ∷ [] ≡ ys ++ y ∷ [] = cc in
      let ends = ends_alike xs ys x y rest in
      (ap₂ (λ (c : A) (zs : List A). c ∷ zs) first ends.0, ends.1)

  -- one more in a row
  places_more : (test : ℕ → Bool) (place : ℕ) (xs : List A) (x : A) → at_places test place (xs ++ x ∷ []) ≡ at_places test place xs ++ cond (test (place + length xs)) (x ∷ []) []
  places_more test place [] x =
      let same : place ≡ place + 0 = omega arith in
      append-nil (cond (test place) (x ∷ []) []) ∙ ap (λ k. cond (test k) (x ∷ []) []) same
  places_more test place (y ∷ ys) x =
      let same : place + 1 + length ys ≡ place + suc (length ys) = omega arith in
      ap (λ (zs : List A). cond (test place) (y ∷ []) [] ++ zs) (places_more test (place + 1) ys x ∙ ap (λ k. at_places test (place + 1) ys ++ cond (test k) (x ∷ []) []) same)
      ∙ sym (append_assoc (cond (test place) (y ∷ []) []) (at_places test (place + 1) ys) (cond (test (place + suc (length ys))) (x ∷ []) []))

  all_if : (R : A → Type 0) (b : Bool) (x : A) → R x → AllByRecursion R (cond b (x ∷ []) [])
  all_if R true x holds = (holds, tt)
  all_if R false x holds = tt

  pub all_places : (R : A → Type 0) (test : ℕ → Bool) (place : ℕ) (xs : List A) → AllByRecursion R xs → AllByRecursion R (at_places test place xs)
  all_places R test place [] each = tt
  all_places R test place (x ∷ xs) each = all_both R (cond (test place) (x ∷ []) []) (at_places test (place + 1) xs) (all_if R (test place) x each.0) (all_places R test (place + 1) xs each.1)

-- ---- hands
module _ {P : Type 0} where
  abbrev talk_of : Berth P → SessionView P
  talk_of b = first_session b.switch b.port

  abbrev row_of : ℕ → List (Berth P) → ℕ → List (SessionView P)
  row_of n bs w = first_sessions (hand n w bs)

  talks_append : (bs cs : List (Berth P)) → first_sessions (bs ++ cs) ≡ first_sessions bs ++ first_sessions cs
  talks_append [] cs = refl
  talks_append (b ∷ bs) cs = ap (λ (ts : List (SessionView P)). talk_of b ∷ ts) (talks_append bs cs)

  row_more : (n : ℕ) (bs : List (Berth P)) (b : Berth P) (w : ℕ) → row_of n (bs ++ b ∷ []) w ≡ row_of n bs w ++ first_sessions (cond (nat_eq (length bs % n) w) (b ∷ []) [])
  row_more n bs b w =
      let none : 0 + length bs ≡ length bs = omega arith in
      ap first_sessions (places_more (λ place. nat_eq (place % n) w) 0 bs b ∙ ap (λ k. hand n w bs ++ cond (nat_eq (k % n) w) (b ∷ []) []) none)
      ∙ talks_append (hand n w bs) (cond (nat_eq (length bs % n) w) (b ∷ []) [])

  row_gets : (n : ℕ) (bs : List (Berth P)) (b : Berth P) → row_of n (bs ++ b ∷ []) (length bs % n) ≡ row_of n bs (length bs % n) ++ talk_of b ∷ []
  row_gets n bs b = row_more n bs b (length bs % n) ∙ ap (λ c. row_of n bs (length bs % n) ++ first_sessions (cond c (b ∷ []) [])) (nat_eq_equiv.refl (length bs % n))

  row_stays : (n : ℕ) (bs : List (Berth P)) (b : Berth P) (w : ℕ) → nat_eq (length bs % n) w ≡ false → row_of n (bs ++ b ∷ []) w ≡ row_of n bs w
  row_stays n bs b w other = row_more n bs b w ∙ ap (λ c. row_of n bs w ++ first_sessions (cond c (b ∷ []) [])) other ∙ append-nil (row_of n bs w)

  pub hands_long : (n : ℕ) (bs : List (Berth P)) → length (hands n bs) ≡ n
  hands_long n bs = length-below n (row_of n bs)

  -- the row of the worker that gets the next
  pub next_row : (n : ℕ) (bs : List (Berth P)) → 0 < n → get_or (hands n bs) (length bs % n) [] ≡ row_of n bs (length bs % n)
  next_row n bs some = read-below n (row_of n bs) (length bs % n) [] (mod-lt (length bs) some)

  -- one more is dealt
  pub hands_more : (n : ℕ) (bs : List (Berth P)) (b : Berth P) → 0 < n → set (hands n bs) (length bs % n) (get_or (hands n bs) (length bs % n) [] ++ talk_of b ∷ []) ≡ hands n (bs ++ b ∷ [])
  hands_more n bs b some =
      set-below n (row_of n bs) (row_of n (bs ++ b ∷ [])) (length bs % n) (get_or (hands n bs) (length bs % n) [] ++ talk_of b ∷ []) (mod-lt (length bs) some)
      (ap (λ (ts : List (SessionView P)). ts ++ talk_of b ∷ []) (next_row n bs some) ∙ sym (row_gets n bs b))
      (λ k other. sym (row_stays n bs b k other))

  -- the last one's row
  pub last_row : (n : ℕ) (bs : List (Berth P)) (b : Berth P) → 0 < n → get_or (hands n (bs ++ b ∷ [])) (length bs % n) [] ≡ row_of n bs (length bs % n) ++ talk_of b ∷ []
  last_row n bs b some = read-below n (row_of n (bs ++ b ∷ [])) (length bs % n) [] (mod-lt (length bs) some) ∙ row_gets n bs b

  -- the last one is taken back
  pub hands_less : (n : ℕ) (bs : List (Berth P)) (b : Berth P) (row : List (SessionView P)) → 0 < n → row ≡ row_of n bs (length bs % n) → set (hands n (bs ++ b ∷ [])) (length bs % n) row ≡ hands n bs
  hands_less n bs b row some is =
      set-below n (row_of n (bs ++ b ∷ [])) (row_of n bs) (length bs % n) row (mod-lt (length bs) some) is (λ k other. row_stays n bs b k other)

  apart_before : (bs : List (Berth P)) (b : Berth P) (cs : List (Berth P)) → AreApart (bs ++ b ∷ cs) → AllByRecursion (λ c. nat_eq b.switch c.switch ≡ false) bs
  apart_before [] b cs apart = tt
  apart_before (a ∷ bs) b cs apart = (swapped a.switch b.switch (there a bs apart.0), apart_before bs b cs apart.1)
    where
      there : (a : Berth P) (bs : List (Berth P)) → AllByRecursion (λ c. nat_eq a.switch c.switch ≡ false) (bs ++ b ∷ cs) → nat_eq a.switch b.switch ≡ false
      there a [] each = each.0
      there a (d ∷ ds) each = there a ds each.1

  none_is : (switch : ℕ) (bs : List (Berth P)) → AllByRecursion (λ c. nat_eq switch c.switch ≡ false) bs → list_any (λ (t : SessionView P). nat_eq switch t.switch) (first_sessions bs) ≡ false
  none_is switch [] each = refl
  none_is switch (b ∷ bs) each = ap₂ (λ x y. x || y) each.0 (none_is switch bs each.1)

  -- none of a worker's ports is to the switch of the next
  pub next_is_new : (n : ℕ) (bs : List (Berth P)) (b : Berth P) (cs : List (Berth P)) → 0 < n → AreApart (bs ++ b ∷ cs) → list_any (λ (t : SessionView P). nat_eq b.switch t.switch) (get_or (hands n bs) (length bs % n) []) ≡ false
  next_is_new n bs b cs some apart =
      ap (list_any (λ (t : SessionView P). nat_eq b.switch t.switch)) (next_row n bs some)
      ∙ none_is b.switch (hand n (length bs % n) bs) (all_places (λ c. nat_eq b.switch c.switch ≡ false) (λ place. nat_eq (place % n) (length bs % n)) 0 bs (apart_before bs b cs apart))

  -- ---- how far berths are dealt
  -- Of all the first so many are dealt; what is left stands in the other order.
  pub record Dealt (n : ℕ) (all left : List (Berth P)) (rows : List (List (SessionView P))) (count : ℕ) : Type 0 where
    pub earlier : List (Berth P)
    pub parts : all ≡ earlier ++ reverse left
    pub long : length earlier ≡ count
    pub dealt : rows ≡ hands n earlier

  pub dealt_none : (n : ℕ) (left : List (Berth P)) (rows : List (List (SessionView P))) → rows ≡ hands n [] → Dealt n (reverse left) left rows 0
  dealt_none n left rows fresh = record { earlier = []; parts = refl; long = refl; dealt = fresh }

  pub dealt_long : (n : ℕ) (all left : List (Berth P)) (rows : List (List (SessionView P))) (count : ℕ) → Dealt n all left rows count → length rows ≡ n
  dealt_long n all left rows count so = ap length so.dealt ∙ hands_long n so.earlier

  goes_on : (all left rest earlier : List (Berth P)) (b : Berth P) → all ≡ earlier ++ reverse left → left ≡ rest ++ b ∷ [] → all ≡ earlier ++ b ∷ reverse rest
  goes_on all left rest earlier b parts ends = parts ∙ ap (λ (bs : List (Berth P)). earlier ++ bs) (ap reverse ends ∙ reverse-append rest (b ∷ []))

  pub dealt_next : (n : ℕ) (all left rest : List (Berth P)) (rows now : List (List (SessionView P))) (count : ℕ) (b : Berth P) → Dealt n all left rows count → left ≡ rest ++ b ∷ [] → 0 < n
      → now ≡ set rows (count % length rows) (get_or rows (count % length rows) [] ++ talk_of b ∷ []) → Dealt n all rest now (count + 1)
  dealt_next n all left rest rows now count b so ends some is = record {
    earlier = so.earlier ++ b ∷ [];
    parts = goes_on all left rest so.earlier b so.parts ends ∙ sym (append_assoc so.earlier (b ∷ []) (reverse rest));
    long = omega (arith, so.long, length-append so.earlier (b ∷ []));
    dealt = is ∙ ap (λ m. set rows (count % m) (get_or rows (count % m) [] ++ talk_of b ∷ [])) (dealt_long n all left rows count so)
        ∙ ap (λ (rs : List (List (SessionView P))). set rs (count % n) (get_or rs (count % n) [] ++ talk_of b ∷ [])) so.dealt
        ∙ ap (λ k. set (hands n so.earlier) (k % n) (get_or (hands n so.earlier) (k % n) [] ++ talk_of b ∷ [])) (sym so.long)
        ∙ hands_more n so.earlier b some;
  }

  pub dealt_all : (n : ℕ) (all left : List (Berth P)) (rows : List (List (SessionView P))) (count : ℕ) → Dealt n all left rows count → left ≡ [] → rows ≡ hands n all
  dealt_all n all left rows count so none = so.dealt ∙ ap (hands n) (sym (so.parts ∙ ap (λ (bs : List (Berth P)). so.earlier ++ reverse bs) none ∙ append-nil so.earlier))

  pub dealt_new : (n : ℕ) (all left rest : List (Berth P)) (rows : List (List (SessionView P))) (count : ℕ) (b : Berth P) → Dealt n all left rows count → left ≡ rest ++ b ∷ [] → 0 < n → AreApart all
      → list_any (λ (t : SessionView P). nat_eq b.switch t.switch) (get_or rows (count % length rows) []) ≡ false
  dealt_new n all left rest rows count b so ends some apart =
      ap (λ m. list_any (λ (t : SessionView P). nat_eq b.switch t.switch) (get_or rows (count % m) [])) (dealt_long n all left rows count so)
      ∙ ap (λ (rs : List (List (SessionView P))). list_any (λ (t : SessionView P). nat_eq b.switch t.switch) (get_or rs (count % n) [])) so.dealt
      ∙ ap (λ k. list_any (λ (t : SessionView P). nat_eq b.switch t.switch) (get_or (hands n so.earlier) (k % n) [])) (sym so.long)
      ∙ next_is_new n so.earlier b (reverse rest) some (subst (λ (bs : List (Berth P)). AreApart bs) (goes_on all left rest so.earlier b so.parts ends) apart)

  -- what was dealt
  pub dealt_so : (n : ℕ) (all left : List (Berth P)) (rows now : List (List (SessionView P))) (count : ℕ) (so : Dealt n all left rows count) → now ≡ rows → now ≡ hands (length now) so.earlier
  dealt_so n all left rows now count so is =
      let are : now ≡ hands n so.earlier = is ∙ so.dealt in
      are ∙ ap (λ m. hands m so.earlier) (sym (ap length are ∙ hands_long n so.earlier))

  pub fresh_so : (n : ℕ) (rows : List (List (SessionView P))) → rows ≡ hands n [] → rows ≡ hands (length rows) []
  fresh_so n rows is = is ∙ ap (λ m. hands m []) (sym (ap length is ∙ hands_long n []))

  -- what is left, and what was dealt, taken back
  pub dealt_back : (n : ℕ) (old left : List (Berth P)) (rows : List (List (SessionView P))) (count : ℕ) (so : Dealt n (reverse old) left rows count) → left ++ reverse so.earlier ≡ old
  dealt_back n old left rows count so =
      sym (sym (reverse-reverse old) ∙ ap reverse so.parts ∙ reverse-append so.earlier (reverse left) ∙ ap (λ (bs : List (Berth P)). bs ++ reverse so.earlier) (reverse-reverse left))

  -- ---- how far they are taken back
  pub record TakenBack (n : ℕ) (berths start left : List (Berth P)) (rows : List (List (SessionView P))) (place : ℕ) : Type 0 where
    pub parts : left ≡ start ++ reverse (drop place berths)
    pub dealt : rows ≡ hands n (take place berths)

  pub none_back : (n : ℕ) (berths start : List (Berth P)) (rows : List (List (SessionView P))) (place : ℕ) → place ≡ length berths → rows ≡ hands n berths → TakenBack n berths start start rows place
  none_back n berths start rows place all is = record {
    parts = sym (ap (λ k. start ++ reverse (drop k berths)) all ∙ ap (λ (bs : List (Berth P)). start ++ reverse bs) (drop-length berths) ∙ append-nil start);
    dealt = is ∙ ap (hands n) (sym (ap (λ k. take k berths) all ∙ take-length berths));
  }

  pub all_back : (n : ℕ) (berths start left : List (Berth P)) (rows : List (List (SessionView P))) (place : ℕ) → TakenBack n berths start left rows place → place ≡ 0 → left ≡ start ++ reverse berths
  all_back n berths start left rows place so none = so.parts ∙ ap (λ k. start ++ reverse (drop k berths)) none

  module _ (n : ℕ) (berths start left : List (Berth P)) (rows : List (List (SessionView P))) (place : ℕ) (so : TakenBack n berths start left rows (place + 1)) (some : 0 < n) (inside : place < length berths) (d : Berth P) where
    abbrev earlier : List (Berth P)
    earlier = take place berths

    abbrev last : Berth P
    last = get_or berths place d

    long : length earlier ≡ place
    long = omega (arith, length-take place berths, inside)

    dealt_is : rows ≡ hands n (earlier ++ last ∷ [])
    dealt_is = so.dealt ∙ ap (hands n) (take_more berths place d inside)

    row_is : get_or rows (place % n) [] ≡ row_of n earlier (place % n) ++ talk_of last ∷ []
    row_is =
        ap (λ (rs : List (List (SessionView P))). get_or rs (place % n) []) dealt_is
        ∙ ap (λ k. get_or (hands n (earlier ++ last ∷ [])) (k % n) []) (sym long)
        ∙ last_row n earlier last some
        ∙ ap (λ k. row_of n earlier (k % n) ++ talk_of last ∷ []) long

    -- a port is there to be taken
    pub back_there : 0 < length (get_or rows (place % n) [])
    back_there = omega (arith, ap length row_is, length-append (row_of n earlier (place % n)) (talk_of last ∷ []))

    -- the berth that was dealt last comes back
    last_is : (b : Berth P) (rest : List (SessionView P)) → IsLast b.switch b.port (get_or rows (place % n) []) rest → (rest ≡ row_of n earlier (place % n)) × (b ≡ last)
    last_is b rest takes =
        let ends = ends_alike rest (row_of n earlier (place % n)) takes.talk (talk_of last) (sym takes.parts ∙ row_is) in
        let switch : b.switch ≡ last.switch = sym takes.switch_is ∙ ap (λ (t : SessionView P). t.switch) ends.1 in
        let port : b.port ≡ last.port = sym takes.port_is ∙ ap (λ (t : SessionView P). t.port) ends.1 in
        (ends.0, ap₂ berth_at switch port)
      where
        berth_at : ℕ → P → Berth P
        berth_at switch port = record { switch = switch; port = port }

    pub back_next : (b : Berth P) (now : List (List (SessionView P))) → TakesLast rows (place % n) b now → TakenBack n berths start (left ++ b ∷ []) now place
    back_next b now takes =
        let is = last_is b takes.rest takes.last in
        record {
          parts = ap (λ (bs : List (Berth P)). bs ++ b ∷ []) so.parts ∙ append_assoc start (reverse (drop (place + 1) berths)) (b ∷ [])
              ∙ ap (λ (x : Berth P). start ++ (reverse (drop (place + 1) berths) ++ x ∷ [])) is.1
              ∙ ap (λ (bs : List (Berth P)). start ++ bs) (sym (ap reverse (drop_more berths place d inside) ∙ reverse-append (last ∷ []) (drop (place + 1) berths)));
          dealt = takes.others ∙ ap (λ (rs : List (List (SessionView P))). set rs (place % n) takes.rest) dealt_is
              ∙ ap (λ k. set (hands n (earlier ++ last ∷ [])) (k % n) takes.rest) (sym long)
              ∙ hands_less n earlier last takes.rest some (is.0 ∙ ap (λ k. row_of n earlier (k % n)) (sym long));
        }

  some_of : (bs : List (Berth P)) → 0 < length bs → Berth P
  some_of [] some = absurd (omega (arith, some))
  some_of (b ∷ bs) some = b

  pub back_long : (n : ℕ) (berths start left : List (Berth P)) (rows : List (List (SessionView P))) (place : ℕ) → TakenBack n berths start left rows place → length rows ≡ n
  back_long n berths start left rows place so = ap length so.dealt ∙ hands_long n (take place berths)

  -- the same, as a loop counts down
  pub take_there : (n : ℕ) (berths start left : List (Berth P)) (rows : List (List (SessionView P))) (from place : ℕ) → TakenBack n berths start left rows from → from ≡ place + 1 → 0 < n → from ≤ length berths
      → 0 < length (get_or rows (place % length rows) [])
  take_there n berths start left rows from place so is some within =
      subst (λ m. 0 < length (get_or rows (place % m) [])) (sym (back_long n berths start left rows from so))
      (back_there n berths start left rows place (subst (TakenBack n berths start left rows) is so) some (omega (arith, is, within)) (some_of berths (omega (arith, is, within))))

  pub take_next : (n : ℕ) (berths start left : List (Berth P)) (rows now : List (List (SessionView P))) (from place : ℕ) (b : Berth P) → TakenBack n berths start left rows from → from ≡ place + 1 → 0 < n → from ≤ length berths
      → TakesLast rows (place % length rows) b now → TakenBack n berths start (left ++ b ∷ []) now place
  take_next n berths start left rows now from place b so is some within takes =
      back_next n berths start left rows place (subst (TakenBack n berths start left rows) is so) some (omega (arith, is, within)) b b now
      (subst (λ m. TakesLast rows (place % m) b now) (back_long n berths start left rows from so) takes)
