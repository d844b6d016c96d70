-- A drain ends finished where the policy holds nothing back: a turn settles all that is in flight, and while anything is left a round begins more.
use Rattle.std.proofs.Common.{◌≡◌, ℕ, zero, suc, ◌+◌, ◌-◌, ◌<◌, ◌≤◌, true, false, ◌&&◌, ◌==◌, List, [], ◌∷◌, ◌++◌, length, get_or, map, filter, refl, sym, ap, ap₂, ◌∙◌, subst, inl, inr, arith, eqb-true, eq-eqb, ne_eqb, le-ltb, lt-ltb, length-append}
use Rattle.std.proofs.lemmas.Bool.{cases_Bool, cases_lt}
use Rattle.std.proofs.lemmas.List.{get_or_append_left, get_or_push, length-map, map-append}
use Rattle.std.proofs.lemmas.List.Elements.{All-head, filter-append}
use Rattle.std.specs.List.{All}
use Rattle.rollout_rules.specs.Sums.{sum_below}
use Rattle.rollout_rules.specs.Wan.{Plan, Problem}
use Rattle.rollout_rules.specs.Items.{item_at, item_count}
use Rattle.rollout_rules.specs.Operations.{operations}
use Rattle.rollout_rules.specs.History.{History, begins_in, begun, dones_in, flies, settled, with_entries}
use Rattle.rollout_rules.specs.Legal.{is_finished, is_legal, unsettled}
use Rattle.rollout_rules.specs.Release.{batch, dones, is_covered, next_op, release}
use Rattle.rollout_rules.specs.World.{in_flight, no_op}
use Rattle.rollout_rules.specs.declared.op.Op.{Op}
use Rattle.rollout_rules.specs.declared.op.OpView.{OpView}
use Rattle.rollout_rules.specs.declared.op.Entry.{Entry}
use Rattle.rollout_rules.specs.declared.op.Entry.TheVariants.{Begin, Done}
use Rattle.rollout_rules.proofs.Below.{sum_below-mono, sum_below-plus, sum_below-same}
use Rattle.rollout_laws.specs.Batches.{BeginsNext}
use Rattle.rollout_laws.specs.Waiting.{NothingFlies}
use Rattle.rollout_laws.proofs.Histories.{begun-with, front_is_legal, is_counted, settled-with, with_both}
use Rattle.rollout_laws.proofs.Rounds.{release_begins_next}
use Rattle.update_scheduler.specs.Rows.{bit, numbers, times}
use Rattle.update_scheduler.proofs.Batches.{begins-end, dones-begin}
use Rattle.update_scheduler.proofs.Rows.{inside, length-times, times-filtered}
use Rattle.sim_run.proofs.Schedules.{finished-is}

-- how many operations are in flight
abbrev pub flying : Problem → History → ℕ
flying p h = sum_below (item_count p) (λ n. bit (flies h n))

module _ (p : Problem) (h : History) where
  pub flying-counted : length (in_flight p h) ≡ flying p h
  flying-counted =
      length-map (filter (flies h) (numbers (item_count p))) (next_op h)
      ∙ length-times (item_count p) (filter (flies h) (numbers (item_count p)))
      (inside (item_count p) (filter (flies h) (numbers (item_count p))) (λ n le. times-filtered (flies h) (item_count p) n ∙ ap (λ b. bit (b && flies h n)) (le-ltb n (item_count p) le)))
      ∙ sum_below-same (item_count p) _ (λ n. bit (flies h n)) (λ n lt. times-filtered (flies h) (item_count p) n ∙ ap (λ b. bit (b && flies h n)) (lt-ltb n (item_count p) lt))

  -- the place of an operation in flight
  place-of : (k n : ℕ) → n < k → flies h n ≡ true → (i : ℕ) × (i < length (map (next_op h) (filter (flies h) (numbers k)))) × (get_or (map (next_op h) (filter (flies h) (numbers k))) i no_op ≡ next_op h n)
  place-of zero n lt flew = absurd (omega (arith, lt))
  place-of (suc k) n lt flew =
      let front = map (next_op h) (filter (flies h) (numbers k)) in
      let whole : map (next_op h) (filter (flies h) (numbers (suc k))) ≡ front ++ map (next_op h) (filter (flies h) (k ∷ [])) =
      ap (map (next_op h)) (filter-append (flies h) (numbers k) (k ∷ [])) ∙ map-append (next_op h) (filter (flies h) (numbers k)) (filter (flies h) (k ∷ [])) in
      subst (λ l. (i : ℕ) × (i < length l) × (get_or l i no_op ≡ next_op h n)) (sym whole)
      (elim (cases_lt n k) as (λ _. (i : ℕ) × (i < length (front ++ map (next_op h) (filter (flies h) (k ∷ [])))) × (get_or (front ++ map (next_op h) (filter (flies h) (k ∷ []))) i no_op ≡ next_op h n)) [
        | inl low ↦
            let was = place-of k n low flew in
            (was.0, omega (arith, was.1, length-append front (map (next_op h) (filter (flies h) (k ∷ [])))), get_or_append_left front (map (next_op h) (filter (flies h) (k ∷ []))) no_op was.0 was.1 ∙ was.2)
        | inr high ↦
            let here : k ≡ n = omega (arith, lt, high) in
            let flies_here : flies h k ≡ true = ap (flies h) here ∙ flew in
            rw flies_here (length front, omega (arith, length-append front (next_op h k ∷ [])), get_or_push front (next_op h k) no_op (length front) refl ∙ ap (next_op h) here)
      ])

  pub flying-place : (n : ℕ) → n < item_count p → flies h n ≡ true → (i : ℕ) × (i < length (in_flight p h)) × (get_or (in_flight p h) i no_op ≡ next_op h n)
  flying-place n lt flew = place-of (item_count p) n lt flew

  -- each of them is left to settle
  pub flying-unsettled : (plan : Plan) → is_legal p plan h ≡ true → flying p h ≤ unsettled p plan h
  flying-unsettled plan legal =
      sum_below-mono (item_count p) (λ n. bit (flies h n)) (λ n. operations p plan (item_at p n) - settled h n)
      (λ n lt. elim (cases_Bool (flies h n)) as (λ _. bit (flies h n) ≤ operations p plan (item_at p n) - settled h n) [
        | inl flying ↦
            let was : begun h n ≡ settled h n + 1 = eqb-true (begun h n) (settled h n + 1) flying in
            omega (arith, ap bit flying, was, (is_counted p plan h legal n).exist lt)
        | inr idle ↦ omega (arith, ap bit idle)
      ])

pub unsettled-few : (p : Problem) (plan : Plan) (h : History) → unsettled p plan h ≤ sum_below (item_count p) (λ n. operations p plan (item_at p n))
unsettled-few p plan h = sum_below-mono (item_count p) (λ n. operations p plan (item_at p n) - settled h n) (λ n. operations p plan (item_at p n)) (λ n lt. omega arith)

ends-times : (h : History) (ns : List ℕ) (n : ℕ) → dones_in (map (λ m. Done (next_op h m)) ns) n ≡ times n ns
ends-times h [] n = refl
ends-times h (m ∷ ns) n = omega (arith, ends-times h ns n)

-- ---- a round that hears an answer to each operation in flight
module _ (p : Problem) (plan : Plan) (policy : OpView → ℕ) (h : History) (legal : is_legal p plan h ≡ true) (answers : List Op) (all : (n : ℕ) → n < item_count p → flies h n ≡ true → is_covered h answers n ≡ true) where
  abbrev pub between : History
  between = with_entries h (dones p h answers)

  abbrev pub later : History
  later = with_entries h (batch p plan policy h answers)

  later-is : later ≡ with_entries between (release p plan policy between)
  later-is = sym (with_both h (dones p h answers) (release p plan policy between))

  covered-is : (n : ℕ) → n < item_count p → is_covered h answers n ≡ flies h n
  covered-is n lt = elim (cases_Bool (flies h n)) as (λ _. is_covered h answers n ≡ flies h n) [
    | inl flying ↦ all n lt flying ∙ sym flying
    | inr idle ↦ rw idle refl
  ]

  settled-between : (n : ℕ) → n < item_count p → settled between n ≡ settled h n + bit (flies h n)
  settled-between n lt =
      let ended : dones_in (dones p h answers) n ≡ bit (flies h n) =
      ends-times h (filter (is_covered h answers) (numbers (item_count p))) n ∙ times-filtered (is_covered h answers) (item_count p) n
      ∙ ap₂ (λ a b. bit (a && b)) (lt-ltb n (item_count p) lt) (covered-is n lt) in
      settled-with h (dones p h answers) n ∙ ap (λ k. settled h n + k) ended

  begun-between : (n : ℕ) → begun between n ≡ begun h n
  begun-between n = omega (arith, begun-with h (dones p h answers) n, dones-begin p h answers n)

  -- then nothing flies
  pub none-flies : NothingFlies p between
  none-flies n lt = elim (cases_Bool (flies h n)) as (λ _. flies between n ≡ false) [
    | inl flying ↦
        let was : begun h n ≡ settled h n + 1 = eqb-true (begun h n) (settled h n + 1) flying in
        let more : settled between n ≡ settled h n + 1 = settled-between n lt ∙ ap (λ b. settled h n + bit b) flying in
        ne_eqb (begun between n) (settled between n + 1) (λ e. omega (arith, e, begun-between n, was, more))
    | inr idle ↦
        let same : settled between n ≡ settled h n = settled-between n lt ∙ ap (λ b. settled h n + bit b) idle ∙ omega arith in
        ap₂ (λ a b. a == b + 1) (begun-between n) same ∙ idle
  ]

  settled-later : (n : ℕ) → settled later n ≡ settled between n
  settled-later n =
      ap (λ g. settled g n) later-is
      ∙ omega (arith, settled-with between (release p plan policy between) n, begins-end between (release p plan policy between) (release_begins_next p plan policy between) n)

  -- what was in flight is settled
  pub unsettled-less : unsettled p plan h ≡ unsettled p plan later + flying p h
  unsettled-less =
      sum_below-same (item_count p) (λ n. operations p plan (item_at p n) - settled h n) (λ n. (operations p plan (item_at p n) - settled later n) + bit (flies h n)) one
      ∙ sum_below-plus (item_count p) (λ n. operations p plan (item_at p n) - settled later n) (λ n. bit (flies h n))
    where
      one : (n : ℕ) → n < item_count p → operations p plan (item_at p n) - settled h n ≡ (operations p plan (item_at p n) - settled later n) + bit (flies h n)
      one n lt = elim (cases_Bool (flies h n)) as (λ _. operations p plan (item_at p n) - settled h n ≡ (operations p plan (item_at p n) - settled later n) + bit (flies h n)) [
        | inl flying ↦
            let was : begun h n ≡ settled h n + 1 = eqb-true (begun h n) (settled h n + 1) flying in
            let exist = (is_counted p plan h legal n).exist lt in
            let b : bit (flies h n) ≡ 1 = ap bit flying in
            omega (arith, was, exist, b, settled-later n, settled-between n lt)
        | inr idle ↦
            let b : bit (flies h n) ≡ 0 = ap bit idle in
            omega (arith, b, settled-later n, settled-between n lt)
      ]

  -- what is released flies
  module _ (follows : is_legal p plan later ≡ true) where
    pub legal-between : is_legal p plan between ≡ true
    legal-between = front_is_legal p plan between (release p plan policy between) (subst (λ g. is_legal p plan g ≡ true) later-is follows)

    pub finished-later : is_finished p plan between ≡ true → unsettled p plan later ≡ 0
    finished-later finished =
        sum_below-same (item_count p) (λ n. operations p plan (item_at p n) - settled later n) (λ n. operations p plan (item_at p n) - settled between n) (λ n lt. ap (λ k. operations p plan (item_at p n) - k) (settled-later n))
        ∙ eqb-true (unsettled p plan between) 0 (sym (finished-is p plan between legal-between) ∙ finished)

    begins-one : (es : List Entry) → 0 < length es → All (BeginsNext between) es → (op : Op) × (0 < begins_in es op.item)
    begins-one [] some next = absurd (omega (arith, some))
    begins-one (Begin op ∷ es) some next = let here : (op.item == op.item) ≡ true = eq-eqb op.item op.item refl in (op, rw here (omega arith))
    begins-one (Done op ∷ es) some next = absurd (All-head (BeginsNext between) (Done op) es next)

    sum-some : (k : ℕ) (f : ℕ → ℕ) (n : ℕ) → n < k → 0 < f n → 0 < sum_below k f
    sum-some zero f n lt some = absurd (omega (arith, lt))
    sum-some (suc k) f n lt some = elim (cases_lt n k) as (λ _. 0 < sum_below k f + f k) [
      | inl low ↦ omega (arith, sum-some k f n low some)
      | inr high ↦ let here : n ≡ k = omega (arith, lt, high) in omega (arith, subst (λ m. 0 < f m) here some)
    ]

    pub some-flies : 0 < length (release p plan policy between) → 0 < flying p later
    some-flies some =
        let one = begins-one (release p plan policy between) some (release_begins_next p plan policy between) in
        let n = one.0.item in
        let more : begun later n ≡ begun between n + begins_in (release p plan policy between) n = ap (λ g. begun g n) later-is ∙ begun-with between (release p plan policy between) n in
        let counted = is_counted p plan later follows n in
        let was = is_counted p plan h legal n in
        let low : n < item_count p = counted.within (omega (arith, more, one.1, begun-between n, was.settled_begun)) in
        let same = settled-later n in
        let at_most = (is_counted p plan between legal-between n).settled_begun in
        let flies_now : flies later n ≡ true = eq-eqb (begun later n) (settled later n + 1) (omega (arith, more, one.1, counted.one_flies, same, at_most)) in
        let b : 1 ≤ bit (flies later n) = omega (arith, ap bit flies_now) in
        sum-some (item_count p) (λ m. bit (flies later m)) n low (omega (arith, b))
