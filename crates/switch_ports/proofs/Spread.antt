-- What is known of berths is known of those that were dealt, and of each port by its switch.
use Rattle.std.proofs.Common.{◌≡◌, ℕ, zero, suc, ◌+◌, ◌<◌, ◌≤◌, ◌%◌, Bool, true, false, cond, List, [], ◌∷◌, ◌++◌, Option, Some, nat_eq, refl, sym, ap, ◌∙◌, subst, arith, eqb-true}
use Rattle.std.proofs.lemmas.Bool.{ne_eqb}
use Rattle.std.specs.Cmp.{nat_eq_equiv}
use Rattle.std.specs.List.{AllByRecursion}
use Rattle.rollout_rules.specs.Sums.{list_below}
use Rattle.port_session.specs.Sessions.{SessionView}
use Rattle.switch_ports.specs.declared.ports.Berth.{Berth}
use Rattle.switch_ports.specs.Berths.{AreApart, AreLent, switches_of, with_each}
use Rattle.switch_ports.specs.Hands.{all_berths, at_places, berths_of, first_sessions, hand, hands}
use Rattle.switch_ports.proofs.Given.{all_both, all_to, rows_append}
use Rattle.switch_ports.proofs.Places.{swapped}
use Rattle.switch_ports.proofs.Turns.{all_places}

all_with : {X : Type 0} (A B C : X → Type 0) → ((x : X) → A x → B x → C x) → (xs : List X) → AllByRecursion A xs → AllByRecursion B xs → AllByRecursion C xs
all_with A B C to [] first second = tt
all_with A B C to (x ∷ xs) first second = (to x first.0 second.0, all_with A B C to xs first.1 second.1)

never_both : (n k m : ℕ) → k < m → (place : ℕ) → nat_eq (place % n) k ≡ true → nat_eq (place % n) m ≡ false
never_both n k m lt place here = ne_eqb (place % n) m (λ same. omega (arith, lt, same, eqb-true (place % n) k here))

module _ {P : Type 0} where
  abbrev Apart : Berth P → Berth P → Type 0
  Apart b c = nat_eq b.switch c.switch ≡ false

  abbrev row : ℕ → List (Berth P) → ℕ → List (SessionView P)
  row n bs w = first_sessions (hand n w bs)

  berths_back : (bs : List (Berth P)) → berths_of (first_sessions bs) ≡ bs
  berths_back [] = refl
  berths_back (b ∷ bs) = ap (λ (cs : List (Berth P)). b ∷ cs) (berths_back bs)

  one_row_more : (n m : ℕ) (bs : List (Berth P)) → all_berths (list_below (suc m) (row n bs)) ≡ all_berths (list_below m (row n bs)) ++ hand n m bs
  one_row_more n m bs = rows_append (list_below m (row n bs)) (row n bs m) ∙ ap (λ (cs : List (Berth P)). all_berths (list_below m (row n bs)) ++ cs) (berths_back (hand n m bs))

  all_rows : (R : Berth P → Type 0) (n m : ℕ) (bs : List (Berth P)) → AllByRecursion R bs → AllByRecursion R (all_berths (list_below m (row n bs)))
  all_rows R n zero bs each = tt
  all_rows R n (suc m) bs each =
      subst (λ (cs : List (Berth P)). AllByRecursion R cs) (sym (one_row_more n m bs))
      (all_both R (all_berths (list_below m (row n bs))) (hand n m bs) (all_rows R n m bs each) (all_places R (λ place. nat_eq (place % n) m) 0 bs each))

  -- what holds of each berth holds of each that was dealt
  pub all_dealt : (R : Berth P → Type 0) (n : ℕ) (bs : List (Berth P)) → AllByRecursion R bs → AllByRecursion R (all_berths (hands n bs))
  all_dealt R n bs each = all_rows R n n bs each

  apart_if : (here : Bool) (b : Berth P) (bs : List (Berth P)) → AllByRecursion (Apart b) bs → AreApart bs → AreApart (cond here (b ∷ []) [] ++ bs)
  apart_if true b bs others rest = (others, rest)
  apart_if false b bs others rest = rest

  apart_places : (test : ℕ → Bool) (place : ℕ) (bs : List (Berth P)) → AreApart bs → AreApart (at_places test place bs)
  apart_places test place [] apart = tt
  apart_places test place (b ∷ bs) apart =
      apart_if (test place) b (at_places test (place + 1) bs) (all_places (Apart b) test (place + 1) bs apart.0) (apart_places test (place + 1) bs apart.1)

  apart_both : (bs cs : List (Berth P)) → AreApart bs → AreApart cs → AllByRecursion (λ b. AllByRecursion (Apart b) cs) bs → AreApart (bs ++ cs)
  apart_both [] cs first rest cross = rest
  apart_both (b ∷ bs) cs first rest cross = (all_both (Apart b) bs cs first.0 cross.0, apart_both bs cs first.1 rest cross.1)

  none_if : (here there : Bool) → (here ≡ true → there ≡ false) → (b : Berth P) (bs : List (Berth P)) → AllByRecursion (Apart b) bs
      → AllByRecursion (λ c. AllByRecursion (Apart c) (cond there (b ∷ []) [] ++ bs)) (cond here (b ∷ []) [])
  none_if true true never b bs others = absurd (apart (never refl))
    where
      apart : true ≡ false → ⊥
      apart same = cc
  none_if true false never b bs others = (others, tt)
  none_if false there never b bs others = tt

  and_one : (there : Bool) (b c : Berth P) (bs : List (Berth P)) → Apart c b → AllByRecursion (Apart c) bs → AllByRecursion (Apart c) (cond there (b ∷ []) [] ++ bs)
  and_one true b c bs apart others = (apart, others)
  and_one false b c bs apart others = others

  -- of two tests that never both pass, what passes the one is apart from what passes the other
  crossed : (first second : ℕ → Bool) → ((k : ℕ) → first k ≡ true → second k ≡ false) → (place : ℕ) (bs : List (Berth P)) → AreApart bs
      → AllByRecursion (λ b. AllByRecursion (Apart b) (at_places second place bs)) (at_places first place bs)
  crossed first second never place [] apart = tt
  crossed first second never place (b ∷ bs) apart =
      all_both (λ c. AllByRecursion (Apart c) (at_places second place (b ∷ bs))) (cond (first place) (b ∷ []) []) (at_places first (place + 1) bs)
      (none_if (first place) (second place) (never place) b (at_places second (place + 1) bs) (all_places (Apart b) second (place + 1) bs apart.0))
      (all_with (λ c. Apart c b) (λ c. AllByRecursion (Apart c) (at_places second (place + 1) bs)) (λ c. AllByRecursion (Apart c) (at_places second place (b ∷ bs)))
      (λ c other rest. and_one (second place) b c (at_places second (place + 1) bs) other rest) (at_places first (place + 1) bs)
      (all_places (λ c. Apart c b) first (place + 1) bs (all_to (Apart b) (λ c. Apart c b) (λ c other. swapped b.switch c.switch other) bs apart.0))
      (crossed first second never (place + 1) bs apart.1))

  crossed_rows : (n k m : ℕ) (bs : List (Berth P)) → k ≤ m → AreApart bs → AllByRecursion (λ b. AllByRecursion (Apart b) (hand n m bs)) (all_berths (list_below k (row n bs)))
  crossed_rows n zero m bs le apart = tt
  crossed_rows n (suc k) m bs le apart =
      subst (λ (cs : List (Berth P)). AllByRecursion (λ b. AllByRecursion (Apart b) (hand n m bs)) cs) (sym (one_row_more n k bs))
      (all_both (λ b. AllByRecursion (Apart b) (hand n m bs)) (all_berths (list_below k (row n bs))) (hand n k bs) (crossed_rows n k m bs (omega (arith, le)) apart)
      (crossed (λ place. nat_eq (place % n) k) (λ place. nat_eq (place % n) m) (never_both n k m (omega (arith, le))) 0 bs apart))

  rows_apart : (n m : ℕ) (bs : List (Berth P)) → AreApart bs → AreApart (all_berths (list_below m (row n bs)))
  rows_apart n zero bs apart = tt
  rows_apart n (suc m) bs apart =
      subst (λ (cs : List (Berth P)). AreApart cs) (sym (one_row_more n m bs))
      (apart_both (all_berths (list_below m (row n bs))) (hand n m bs) (rows_apart n m bs apart) (apart_places (λ place. nat_eq (place % n) m) 0 bs apart) (crossed_rows n m m bs (omega arith) apart))

  -- those that were dealt are apart
  pub dealt_apart : (n : ℕ) (bs : List (Berth P)) → AreApart bs → AreApart (all_berths (hands n bs))
  dealt_apart n bs apart = rows_apart n n bs apart

  -- ---- by their switches alone
  others_alike : (n : ℕ) (bs cs : List (Berth P)) → switches_of cs ≡ switches_of bs → AllByRecursion (λ b. nat_eq n b.switch ≡ false) bs → AllByRecursion (λ c. nat_eq n c.switch ≡ false) cs
  others_alike n bs [] same others = tt
  others_alike n [] (c ∷ cs) same others = absurd (impossible same)
    where
      impossible : c.switch ∷ switches_of cs ≡ [] → ⊥
      impossible e = cc
  others_alike n (b ∷ bs) (c ∷ cs) same others =
      let first : c.switch ≡ b.switch = cc in
      let rest : switches_of cs ≡ switches_of bs = cc in
      (ap (nat_eq n) first ∙ others.0, others_alike n bs cs rest others.1)

  pub apart_alike : (bs cs : List (Berth P)) → switches_of cs ≡ switches_of bs → AreApart bs → AreApart cs
  apart_alike bs [] same apart = tt
  apart_alike [] (c ∷ cs) same apart = absurd (impossible same)
    where
      impossible : c.switch ∷ switches_of cs ≡ [] → ⊥
      impossible e = cc
  apart_alike (b ∷ bs) (c ∷ cs) same apart =
      let first : c.switch ≡ b.switch = cc in
      let rest : switches_of cs ≡ switches_of bs = cc in
      (subst (λ n. AllByRecursion (λ d. nat_eq n d.switch ≡ false) cs) (sym first) (others_alike b.switch bs cs rest apart.0), apart_alike bs cs rest apart.1)

  pub lent_alike : (lent : ℕ → Bool) (bs cs : List (Berth P)) → switches_of cs ≡ switches_of bs → AreLent lent bs → AreLent lent cs
  lent_alike lent bs [] same each = tt
  lent_alike lent [] (c ∷ cs) same each = absurd (impossible same)
    where
      impossible : c.switch ∷ switches_of cs ≡ [] → ⊥
      impossible e = cc
  lent_alike lent (b ∷ bs) (c ∷ cs) same each =
      let first : c.switch ≡ b.switch = cc in
      let rest : switches_of cs ≡ switches_of bs = cc in
      (ap lent first ∙ each.0, lent_alike lent bs cs rest each.1)

  -- ---- by switch
  behind_one : (places : ℕ → Option P) (b : Berth P) (bs cs : List (Berth P)) → AllByRecursion (Apart b) cs → AllByRecursion (λ c. with_each places bs c.switch ≡ Some c.port) cs
      → AllByRecursion (λ c. with_each places (b ∷ bs) c.switch ≡ Some c.port) cs
  behind_one places b bs [] apart each = tt
  behind_one places b bs (c ∷ cs) apart each = (
    ap (λ here. cond here (Some b.port) (with_each places bs c.switch)) (swapped b.switch c.switch apart.0) ∙ each.0,
    behind_one places b bs cs apart.1 each.1,
  )

  -- each port stands at its switch
  pub each_stands : (places : ℕ → Option P) (bs : List (Berth P)) → AreApart bs → AllByRecursion (λ b. with_each places bs b.switch ≡ Some b.port) bs
  each_stands places [] apart = tt
  each_stands places (b ∷ bs) apart = (
    ap (λ here. cond here (Some b.port) (with_each places bs b.switch)) (nat_eq_equiv.refl b.switch),
    behind_one places b bs bs apart.0 (each_stands places bs apart.1),
  )

  -- and at other switches what stood there
  pub others_stand : (places : ℕ → Option P) (bs : List (Berth P)) (n : ℕ) → AllByRecursion (λ b. nat_eq n b.switch ≡ false) bs → with_each places bs n ≡ places n
  others_stand places [] n others = refl
  others_stand places (b ∷ bs) n others = ap (λ here. cond here (Some b.port) (with_each places bs n)) others.0 ∙ others_stand places bs n others.1
