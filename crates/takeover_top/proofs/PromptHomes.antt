-- Which switches are asked about which items, and that these are the switches at which a rollout has work.
use Rattle.std.proofs.Common.{◌≡◌, ℕ, zero, suc, ◌<◌, ◌^◌, ◌==◌, ◌||◌, nat_lt, Bool, true, false, List, [], ◌∷◌, length, Option, Some, None, if◌then◌else◌, inl, inr, refl, sym, ap, ◌∙◌, subst, arith, ltb-true, lt-ltb}
use Rattle.std.proofs.lemmas.Bool.{and_parts, cases_lt, eq-eqb, false≢true, ne_eqb}
use Rattle.std.proofs.lemmas.List.Elements.{All-append, All-cons, All-contains, All-nil, Contains-append_left, Contains-append_right}
use Rattle.std.specs.List.{All, AllByRecursion, Contains}
use Rattle.lists.proofs.Conditions.{or_second, and_true, some_same_is}
use Rattle.rollout_rules.specs.Items.{home_of, is_item, item_at, item_count}
use Rattle.rollout_rules.specs.Network.{IsNetwork}
use Rattle.rollout_rules.specs.Operations.{operations}
use Rattle.rollout_rules.specs.Wan.{Plan, Problem, flow_at, hops, switch_of, tunnel_of}
use Rattle.rollout_rules.specs.declared.item.Item.{Item}
use Rattle.rollout_rules.specs.declared.item.Item.TheVariants as item
use Rattle.rollout_rules.proofs.Below.{sum_below-most}
use Rattle.rollout_rules.proofs.Numbers.{is_item-item_at}
use Rattle.rollout_rules.proofs.Tunnels.{tunnel_of-below}
use Rattle.rollout_rules.proofs.Rows.{list_below-length, list_below-at}
use Rattle.switch_ports.specs.Homes.{has_work, is_working_home, passing_below, some_below, working_homes, works_at}
use Rattle.switch_ports.specs.Outboxes.{home_at, is_switch}
use Rattle.switch_ports.proofs.Numbers.{passing_inside}
use Rattle.shared_book.specs.Homes.{homes_of}
use Rattle.switch_laws.proofs.Fitting.{none_to_change}
use Rattle.controller_run.proofs.AtHome.{read-home}
use Rattle.controller_run.proofs.Chains.{is-home}
use Rattle.held_service.specs.Questions.{asked_home, asked_homes, has_items, is_asked, items_at}

-- ---- numbers that pass a test

chosen-true : (test : ℕ → Bool) (n : ℕ) (b : Bool) → test n ≡ b → All (λ m. test m ≡ true) (if b then n ∷ [] else [])
chosen-true test n true is = All-cons (λ m. test m ≡ true) n [] is (All-nil (λ m. test m ≡ true))
chosen-true test n false is = All-nil (λ m. test m ≡ true)

pub passing-true : (n : ℕ) (test : ℕ → Bool) → All (λ m. test m ≡ true) (passing_below n test)
passing-true zero test = All-nil (λ m. test m ≡ true)
passing-true (suc n) test = All-append (λ m. test m ≡ true) (passing_below n test) (if test n then n ∷ [] else []) (passing-true n test) (chosen-true test n (test n) refl)

pub passing-has : (n : ℕ) (test : ℕ → Bool) (m : ℕ) → m < n → test m ≡ true → Contains (passing_below n test) m
passing-has zero test m low is = absurd (omega (arith, low))
passing-has (suc n) test m low is = elim (cases_lt m n) [
  | inl below ↦ Contains-append_left (passing_below n test) (if test n then n ∷ [] else []) m (passing-has n test m below is)
  | inr past ↦
      let same : m ≡ n = omega (arith, low, past) in
      Contains-append_right (passing_below n test) (if test n then n ∷ [] else []) m
      (subst (λ (b : Bool). Contains (if b then n ∷ [] else []) m) (sym (ap test (sym same) ∙ is)) (0, omega arith, sym same))
]

or-left : (a b : Bool) → a ≡ true → (a || b) ≡ true
or-left true b is = refl
or-left false b is = absurd (false≢true is)

some-has : (n : ℕ) (test : ℕ → Bool) (m : ℕ) → m < n → test m ≡ true → some_below n test ≡ true
some-has zero test m low is = absurd (omega (arith, low))
some-has (suc n) test m low is = elim (cases_lt m n) [
  | inl below ↦ or-left (some_below n test) (test n) (some-has n test m below is)
  | inr past ↦ let same : m ≡ n = omega (arith, low, past) in or_second (some_below n test) (test n) (ap test (sym same) ∙ is)
]

pub all-at : (P : ℕ → Type 0) (ns : List ℕ) (n : ℕ) → AllByRecursion P ns → Contains ns n → P n
all-at P [] n all at = absurd (omega (arith, at.1))
all-at P (m ∷ ns) n all (zero, low, is) = subst P is all.0
all-at P (m ∷ ns) n all (suc k, low, is) = all-at P ns n all.1 (k, omega (arith, low), is)

-- ---- homes

unless-none : (b : Bool) (o : Option ℕ) (s : ℕ) → (if b then None else o) ≡ Some s → (b ≡ false) × (o ≡ Some s)
unless-none true o s is = absurd (let no : ◌≡◌ {A = Option ℕ} None (Some s) = is in cc no)
unless-none false o s is = (refl, is)

module _ (p : Problem) (net : IsNetwork p) where
  -- the number of each item fits a frame
  pub few-items : item_count p < 2 ^ 32
  few-items = omega (arith, sum_below-most (length p.tunnels) 17 (hops p) (λ t lt. omega (arith, (net.tunnels t lt).path.most)), net.few, net.flows.count)

  on-path : (t h s : ℕ) → t < length p.tunnels → h < hops p t → switch_of p t h ≡ s → s < length p.switches
  on-path t h s lt low is = subst (λ (w : ℕ). w < length p.switches) is ((net.tunnels t lt).path.switches h low)

  -- a home is a switch
  low-of : (i : Item) (s : ℕ) → is_item p i ≡ true → home_of p i ≡ Some s → s < length p.switches
  low-of (item.Flow f) s there home =
      let inside : f < length p.flows = ltb-true f (length p.flows) there in
      let parts = unless-none ((flow_at p f).tunnels == 0) (Some (switch_of p (tunnel_of p f 0) 0)) s home in
      let some : 0 < (flow_at p f).tunnels = elim (cases_lt 0 (flow_at p f).tunnels) [
        | inl more ↦ more
        | inr none ↦ absurd (false≢true (sym parts.0 ∙ eq-eqb (flow_at p f).tunnels 0 (omega (arith, none))))
      ] in
      let lt = tunnel_of-below p f 0 net inside some in
      on-path (tunnel_of p f 0) 0 s lt (omega (arith, (net.tunnels (tunnel_of p f 0) lt).path.least)) (some_same_is (switch_of p (tunnel_of p f 0) 0) s parts.1)
  low-of (item.Entry t h) s there home =
      let parts = and_parts (nat_lt t (length p.tunnels)) (nat_lt h (hops p t)) there in
      on-path t h s (ltb-true t (length p.tunnels) parts.0) (ltb-true h (hops p t) parts.1) (some_same_is (switch_of p t h) s home)

  pub home-low : (n s : ℕ) → n < item_count p → home_of p (item_at p n) ≡ Some s → s < length p.switches
  home-low n s low home = low-of (item_at p n) s (is_item-item_at p n low) home

  pub homes-at : (n : ℕ) → n < item_count p → home_at (homes_of p) n ≡ home_of p (item_at p n)
  homes-at n low = read-home (homes_of p) n ∙ list_below-at (item_count p) (λ k. home_of p (item_at p k)) n None low

  module _ (plan : Plan) where
    abbrev homes : List (Option ℕ)
    homes = asked_homes p plan

    pub homes-long : length homes ≡ item_count p
    homes-long = list_below-length (item_count p) (asked_home p plan)

    asked-at : (n : ℕ) → n < item_count p → home_at homes n ≡ asked_home p plan n
    asked-at n low = read-home homes n ∙ list_below-at (item_count p) (asked_home p plan) n None low

    -- an item about which a switch is asked
    pub record IsAskedAt (switch n : ℕ) : Type 0 where
      pub inside : n < item_count p
      pub some : 0 < operations p plan (item_at p n)
      pub home : home_of p (item_at p n) ≡ Some switch

    pub asked-by : (switch n : ℕ) → n < length homes → is_asked homes switch n ≡ true → IsAskedAt switch n
    asked-by switch n low is =
        let inside : n < item_count p = omega (arith, low, homes-long) in
        let parts = unless-none (operations p plan (item_at p n) == 0) (home_of p (item_at p n)) switch (sym (asked-at n inside) ∙ is-home switch (home_at homes n) is) in
        record {
          inside = inside;
          some = elim (cases_lt 0 (operations p plan (item_at p n))) [
            | inl more ↦ more
            | inr none ↦ absurd (false≢true (sym parts.0 ∙ eq-eqb (operations p plan (item_at p n)) 0 (omega (arith, none))))
          ];
          home = parts.1;
        }

    -- and the other way round
    pub asked-of : (switch n : ℕ) → IsAskedAt switch n → Contains (items_at homes switch) n
    asked-of switch n at =
        passing-has (length homes) (is_asked homes switch) n (omega (arith, at.inside, homes-long))
        (ap (is_switch switch) (asked-at n at.inside ∙ ap (λ (b : Bool). if b then None else home_of p (item_at p n)) (ne_eqb (operations p plan (item_at p n)) 0 (λ none. omega (arith, at.some, none))) ∙ at.home) ∙ eq-eqb switch switch refl)

    -- its home is one of the switches at which there is work
    pub working-at : (switch n : ℕ) → IsAskedAt switch n → Contains (working_homes p plan) switch
    working-at switch n at =
        passing-has (length p.switches) (is_working_home p plan) switch (home-low n switch at.inside at.home)
        (some-has (item_count p) (λ k. works_at p plan switch (item_at p k)) n at.inside
        (and_true (has_work p plan (item_at p n)) (is_switch switch (home_of p (item_at p n))) (lt-ltb 0 (operations p plan (item_at p n)) at.some) (ap (is_switch switch) at.home ∙ eq-eqb switch switch refl)))

    pub items-asked : (switch n : ℕ) → Contains (items_at homes switch) n → IsAskedAt switch n × (is_asked homes switch n ≡ true)
    items-asked switch n at =
        let low = passing_inside (length homes) (is_asked homes switch) (items_at homes switch) refl in
        let true-all = passing-true (length homes) (is_asked homes switch) in
        let is : is_asked homes switch n ≡ true = All-contains (λ m. is_asked homes switch m ≡ true) (items_at homes switch) n true-all at in
        (asked-by switch n (All-contains (λ m. m < length homes) (items_at homes switch) n low at) is, is)

    -- a switch that is asked about some item is one of them
    pub working-some : (switch : ℕ) → has_items homes switch ≡ true → Contains (working_homes p plan) switch
    working-some switch some = of (items_at homes switch) refl (ltb-true 0 (length (items_at homes switch)) some)
      where
        of : (items : List ℕ) → items ≡ items_at homes switch → 0 < length items → Contains (working_homes p plan) switch
        of [] are more = absurd (omega (arith, more))
        of (n ∷ items) are more = working-at switch n (items-asked switch n (subst (λ (ns : List ℕ). Contains ns n) are (0, omega arith, refl))).0

    -- ---- an item with an operation has a home

    some-home : (i : Item) → 0 < operations p plan i → (s : ℕ) × (home_of p i ≡ Some s)
    some-home (item.Flow f) some = elim (cases_lt 0 (flow_at p f).tunnels) [
      | inl more ↦ (switch_of p (tunnel_of p f 0) 0, ap (λ (b : Bool). if b then None else Some (switch_of p (tunnel_of p f 0) 0)) (ne_eqb (flow_at p f).tunnels 0 (λ none. omega (arith, more, none))))
      | inr none ↦ absurd (omega (arith, some, none_to_change p plan f (omega (arith, none))))
    ]
    some-home (item.Entry t h) some = (switch_of p t h, refl)

    pub at-some : (n : ℕ) → n < item_count p → 0 < operations p plan (item_at p n) → (s : ℕ) × IsAskedAt s n
    at-some n low some = let found = some-home (item_at p n) some in (found.0, record { inside = low; some = some; home = found.1 })
