-- Each switch, link and flow that is added to a ring is new there, and within the limits.
use Rattle.std.proofs.Common.{◌≡◌, ℕ, ◌+◌, ◌/◌, ◌%◌, ◌<◌, ◌≤◌, ◌^◌, ◌==◌, nat_lt, Bool, false, cond, ◌&&◌, List, [], ◌∷◌, ◌++◌, length, get_or, slice_index, Some, None, codes, decimal, refl, sym, ap, ap₂, subst, ◌∙◌, inl, inr, eqb-true, le-ltb, position, add-one, arith, length-append}
use Rattle.std.proofs.Math.Nat.{mod-lt}
use Rattle.std.proofs.lemmas.Bool.{and_parts, cases_Bool, cond-false}
use Rattle.std.proofs.lemmas.Fmt.{decimal_injective, length-decimal-le}
use Rattle.std.proofs.lemmas.List.{append_cancel_left}
use Rattle.std.proofs.lemmas.List.Sums.{position_or_len_is}
use Rattle.std.specs.List.{position_or_len}
use Rattle.rollout_rules.specs.Building.{find_flow, find_link, find_switch, no_problem, with_link, with_switch, MayAddFlow, MayAddLink, MayAddSwitch}
use Rattle.rollout_rules.specs.declared.limits.TheConstants.{MOST_SWITCHES}
use Rattle.rollout_rules.specs.Sums.{list_below, same_numbers}
use Rattle.rollout_rules.specs.Wan.{Flow, Link, Problem, Switch, no_flow, no_link, no_switch}
use Rattle.rollout_rules.proofs.Rows.{list_below-at, list_below-length}
use Rattle.rollout_rules.proofs.Alike.{same_numbers-is}
use Rattle.case_gen.specs.Conditions.{AreCapacities, AreTables}
use Rattle.case_gen.specs.Rings.{flow_named, flows_below, link_with, links_below, switch_with, switches_below}
use Rattle.case_gen.proofs.Round.{same_link}

-- where a test passes nowhere, nothing is found
nowhere : {X : Type 0} (test : X → Bool) (xs : List X) (d : X) → ((k : ℕ) → k < length xs → test (get_or xs k d) ≡ false) → position test xs ≡ None
nowhere test xs d fails =
    let at : position_or_len test xs ≡ length xs = position_or_len_is test xs (length xs) d (omega arith) fails (λ lt. absurd (omega arith)) in
    ap (λ m. cond (nat_lt m (length xs)) (Some m) None) at ∙ cond-false _ _ _ (le-ltb (length xs) (length xs) (omega arith))

-- a list of rows in which a test passes at no number
nowhere_below : {X : Type 0} (test : X → Bool) (n : ℕ) (row : ℕ → X) (d : X) → ((k : ℕ) → k < n → test (row k) ≡ false) → position test (list_below n row) ≡ None
nowhere_below test n row d fails =
    nowhere test (list_below n row) d (λ k lt. let below : k < n = omega (arith, list_below-length n row) in ap test (list_below-at n row k d below) ∙ fails k below)

-- names of different numbers are different
names_apart : (letter : List ℕ) (a b : ℕ) → a < b → b < 2 ^ 64 → same_numbers (letter ++ decimal a) (letter ++ decimal b) ≡ false
names_apart letter a b less small = elim (cases_Bool (same_numbers (letter ++ decimal a) (letter ++ decimal b))) as (λ _. same_numbers (letter ++ decimal a) (letter ++ decimal b) ≡ false) [
  | inl same ↦
      let text : decimal a ≡ decimal b = append_cancel_left letter (decimal a) (decimal b) (same_numbers-is (letter ++ decimal a) (letter ++ decimal b) same) in
      let number : a ≡ b = decimal_injective a b (omega arith) small text in
      absurd (omega arith)
  | inr other ↦ other
]

-- and short
short_name : (letter : List ℕ) (n : ℕ) → length letter ≤ 1 → n < 10_000 → length (letter ++ decimal n) ≤ 128
short_name letter n one few = omega (arith, length-append letter (decimal n), length-decimal-le 4 n (omega arith) (omega arith) (omega arith))

module _ (tables : List ℕ) (are : AreTables tables) (w : ℕ) (inside : w < length tables) where
  switch_fresh : find_switch (record no_problem { switches = switches_below tables w }) (codes "s" ++ decimal w) ≡ None
  unfolding switches_below
  switch_fresh = nowhere_below (λ s. same_numbers s.name (codes "s" ++ decimal w)) w (λ v. switch_with v (slice_index tables v)) no_switch (λ v lt. names_apart (codes "s") v w lt (omega (arith, are.most)))

  switch_count : length (switches_below tables w) ≡ w
  unfolding switches_below
  switch_count = list_below-length w (λ v. switch_with v (slice_index tables v))

  pub may_switch : (p : Problem) → p ≡ record no_problem { switches = switches_below tables w } → MayAddSwitch p (codes "s" ++ decimal w) (slice_index tables w)
  may_switch p is = subst (λ q. MayAddSwitch q (codes "s" ++ decimal w) (slice_index tables w)) (sym is) (record {
    room = omega (arith, switch_count, inside, are.most);
    short = short_name (codes "s") w (omega arith) (omega (arith, inside, are.most));
    fresh = switch_fresh;
    within = are.within w inside;
  })

-- a switch more
pub switch_more : (tables : List ℕ) (w : ℕ) → switches_below tables w ++ switch_with w (slice_index tables w) ∷ [] ≡ switches_below tables (w + 1)
unfolding switches_below
switch_more tables w = rw add-one refl

pub switch_added : (tables : List ℕ) (w : ℕ) (p q : Problem) (name : List ℕ) → p ≡ record no_problem { switches = switches_below tables w } → name ≡ codes "s" ++ decimal w → q ≡ with_switch p name (slice_index tables w)
    → q ≡ record no_problem { switches = switches_below tables (w + 1) }
switch_added tables w p q name so named is =
    is
    ∙ ap₂ (λ (r : Problem) (n : List ℕ). with_switch r n (slice_index tables w)) so named
    ∙ ap (λ (rows : List Switch). record no_problem { switches = rows }) (switch_more tables w)

module _ (n : ℕ) (capacities : List ℕ) (three : 3 ≤ n) (most : n ≤ MOST_SWITCHES) (are : AreCapacities n capacities) (l : ℕ) (inside : l < length capacities) (p : Problem) (all : length p.switches ≡ n) (so : p.links ≡ links_below n capacities l) where
  abbrev joins : Link → Bool
  joins k = (k.from == l / 2) && (k.to == (l / 2 + 1 + l % 2) % n)

  other_link : (k : ℕ) → k < l → joins (link_with n k (slice_index capacities k)) ≡ false
  other_link k lt = elim (cases_Bool (joins (link_with n k (slice_index capacities k)))) as (λ _. joins (link_with n k (slice_index capacities k)) ≡ false) [
    | inl same ↦
        let both = and_parts (k / 2 == l / 2) ((k / 2 + 1 + k % 2) % n == (l / 2 + 1 + l % 2) % n) same in
        let at : k ≡ l = same_link n k l three (omega (arith, are.count)) (omega (arith, are.count)) (eqb-true (k / 2) (l / 2) both.0) (eqb-true ((k / 2 + 1 + k % 2) % n) ((l / 2 + 1 + l % 2) % n) both.1) in
        absurd (omega arith)
    | inr other ↦ other
  ]

  link_fresh : find_link p (l / 2) ((l / 2 + 1 + l % 2) % n) ≡ None
  unfolding links_below
  link_fresh = ap (λ rows. position joins rows) so ∙ nowhere_below joins l (λ k. link_with n k (slice_index capacities k)) no_link other_link

  link_count : length p.links ≡ l
  unfolding links_below
  link_count = ap length so ∙ list_below-length l (λ k. link_with n k (slice_index capacities k))

  pub may_link : MayAddLink p (l / 2) ((l / 2 + 1 + l % 2) % n) (slice_index capacities l)
  may_link = record {
    room = omega (arith, link_count, are.count);
    begins = omega (arith, all, are.count);
    ends = omega (arith, all, mod-lt (l / 2 + 1 + l % 2) {m = n} (omega arith));
    fresh = link_fresh;
    within = are.within l inside;
  }

-- a link more
link_more : (n : ℕ) (capacities : List ℕ) (l : ℕ) → links_below n capacities l ++ link_with n l (slice_index capacities l) ∷ [] ≡ links_below n capacities (l + 1)
unfolding links_below
link_more n capacities l = rw (add-one l) refl

pub link_added : (n : ℕ) (capacities : List ℕ) (l : ℕ) (bare p q : Problem) → p ≡ record bare { links = links_below n capacities l } → q ≡ with_link p (l / 2) ((l / 2 + 1 + l % 2) % n) (slice_index capacities l)
    → q ≡ record bare { links = links_below n capacities (l + 1) }
link_added n capacities l bare p q so is =
    is
    ∙ ap (λ (r : Problem). with_link r (l / 2) ((l / 2 + 1 + l % 2) % n) (slice_index capacities l)) so
    ∙ ap (λ (rows : List Link). record bare { links = rows }) (link_more n capacities l)

module _ (f : ℕ) (few : f < 1_024) (p : Problem) (so : p.flows ≡ flows_below f) where
  flow_fresh : find_flow p (codes "f" ++ decimal f) ≡ None
  unfolding flows_below
  flow_fresh =
      ap (λ (rows : List Flow). position (λ r. same_numbers r.name (codes "f" ++ decimal f)) rows) so
      ∙ nowhere_below (λ r. same_numbers r.name (codes "f" ++ decimal f)) f flow_named no_flow (λ g lt. names_apart (codes "f") g f lt (omega arith))

  pub flow_count : length p.flows ≡ f
  unfolding flows_below
  flow_count = ap length so ∙ list_below-length f flow_named

  pub may_flow : (name : List ℕ) → name ≡ codes "f" ++ decimal f → MayAddFlow p name
  may_flow name named = subst (λ (text : List ℕ). MayAddFlow p text) (sym named) (record {
    room = omega (arith, flow_count);
    short = short_name (codes "f") f (omega arith) (omega arith);
    fresh = flow_fresh;
  })
