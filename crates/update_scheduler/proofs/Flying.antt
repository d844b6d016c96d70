-- What is in flight after entries: what began came in at the place of its item, and what is done went.
use Rattle.std.proofs.Common.{◌≡◌, ℕ, ◌+◌, ◌≤◌, true, false, ◌&&◌, ◌==◌, nat_lt, Bool, List, [], ◌∷◌, map, filter, refl, inl, inr, sym, ap, ap₂, ◌∙◌, subst, arith, eq-eqb, eqb-true, lt-ltb}
use Rattle.std.specs.List.{AllByRecursion}
use Rattle.std.proofs.lemmas.Bool.{cases_eq, cases_lt, cond_both, ne_eqb, eqb-false, and_parts, and_from}
use Rattle.rollout_rules.specs.Wan.{Problem, Plan}
use Rattle.rollout_rules.specs.Items.{item_count}
use Rattle.rollout_rules.specs.History.{History, with_entries, settled, begun, flies}
use Rattle.rollout_rules.specs.Legal.{is_legal, may_add, may_begin, may_end, may_follow}
use Rattle.rollout_rules.specs.Release.{next_op}
use Rattle.rollout_rules.specs.World.{in_flight}
use Rattle.rollout_rules.specs.declared.op.Op.{Op}
use Rattle.rollout_rules.specs.declared.op.Entry.{Entry}
use Rattle.rollout_rules.specs.declared.op.Entry.TheVariants.{Begin, Done}
use Rattle.rollout_laws.proofs.Histories.{with_none, with_both, begun-begin, begun-begin_other, begun-done, settled-begin, settled-done, settled-done_other, begins, ends, is_counted, is_legal-append}
use Rattle.update_scheduler.specs.Rows.{bit, times, Rises, numbers}
use Rattle.update_scheduler.specs.InFlight.{items_of, with_entry, with_each}
use Rattle.update_scheduler.proofs.Rows.{same-row, filtered-rise, times-filtered}
use Rattle.update_scheduler.proofs.Placing.{rises-in, all-in, times-in, rises-out, all-out, times-out}

-- ---- operations are known by their items where each is its item's next
abbrev IsNext : History → Op → Type 0
IsNext h op = op ≡ next_op h op.item

by-items : (h : History) (ops : List Op) → AllByRecursion (IsNext h) ops → ops ≡ map (next_op h) (items_of ops)
by-items h [] all = refl
by-items h (op ∷ ops) all = ap₂ (λ o os. o ∷ os) all.0 (by-items h ops all.1)

items-next : (h : History) (ns : List ℕ) → items_of (map (next_op h) ns) ≡ ns
items-next h [] = refl
items-next h (n ∷ ns) = ap (λ ms. n ∷ ms) (items-next h ns)

all-next : (h : History) (ns : List ℕ) → AllByRecursion (IsNext h) (map (next_op h) ns)
all-next h [] = tt
all-next h (n ∷ ns) = (refl, all-next h ns)

passes : (test : ℕ → Bool) (ns : List ℕ) → AllByRecursion (λ n. test n ≡ true) (filter test ns)
passes test [] = tt
passes test (n ∷ ns) = cond_both (test n) (n ∷ filter test ns) (filter test ns) (AllByRecursion (λ m. test m ≡ true)) (λ yes. (yes, passes test ns)) (λ _. passes test ns)

weaker : (P Q : Op → Type 0) (ops : List Op) → ((op : Op) → P op → Q op) → AllByRecursion P ops → AllByRecursion Q ops
weaker P Q [] so all = tt
weaker P Q (op ∷ ops) so all = (so op all.0, weaker P Q ops so all.1)

-- of what flies
abbrev IsNextFlying : History → Op → Type 0
IsNextFlying h op = flies h op.item ≡ true → IsNext h op

flying-next : (h : History) (ops : List Op) → AllByRecursion (IsNextFlying h) ops → AllByRecursion (λ n. flies h n ≡ true) (items_of ops) → AllByRecursion (IsNext h) ops
flying-next h [] nexts flying = tt
flying-next h (op ∷ ops) nexts flying = (nexts.0 flying.0, flying-next h ops nexts.1 flying.1)

module _ (p : Problem) where
  -- ---- what is in flight, and what else is that
  pub flown-up : (h : History) → Rises (items_of (in_flight p h))
  flown-up h = subst Rises (sym (items-next h (filter (flies h) (numbers (item_count p))))) (filtered-rise (flies h) (item_count p))

  flown-count : (h : History) (m : ℕ) → times m (items_of (in_flight p h)) ≡ bit (nat_lt m (item_count p) && flies h m)
  flown-count h m = ap (times m) (items-next h (filter (flies h) (numbers (item_count p)))) ∙ times-filtered (flies h) (item_count p) m

  flown-is : (h : History) (ops : List Op) → Rises (items_of ops) → ((m : ℕ) → times m (items_of ops) ≡ bit (nat_lt m (item_count p) && flies h m)) → AllByRecursion (IsNextFlying h) ops → ops ≡ in_flight p h
  flown-is h ops up count nexts =
      let row : items_of ops ≡ filter (flies h) (numbers (item_count p)) = same-row (items_of ops) (filter (flies h) (numbers (item_count p))) up (filtered-rise (flies h) (item_count p)) (λ m. count m ∙ sym (times-filtered (flies h) (item_count p) m)) in
      let flying : AllByRecursion (λ n. flies h n ≡ true) (items_of ops) = subst (AllByRecursion (λ n. flies h n ≡ true)) (sym row) (passes (flies h) (numbers (item_count p))) in
      by-items h ops (flying-next h ops nexts flying) ∙ ap (map (next_op h)) row

  -- ---- one entry
  module _ (plan : Plan) (h : History) (legal : is_legal p plan h ≡ true) (op : Op) where
    begin-flies : flies h op.item ≡ false → flies (with_entries h (Begin op ∷ [])) op.item ≡ true
    begin-flies idle =
        let c = is_counted p plan h legal op.item in
        eq-eqb (begun (with_entries h (Begin op ∷ [])) op.item) (settled (with_entries h (Begin op ∷ [])) op.item + 1)
        (omega (arith, begun-begin h op, settled-begin h op op.item, level (begun h op.item) (settled h op.item) c.settled_begun c.one_flies (eqb-false (begun h op.item) (settled h op.item + 1) idle)))
      where
        level : (x y : ℕ) → y ≤ x → x ≤ y + 1 → (x ≡ y + 1 → ⊥) → x ≡ y
        level x y low most other = elim (cases_lt x (y + 1)) as (λ k. x ≡ y) [ inl lt ↦ omega (arith, low, lt) | inr ge ↦ absurd (other (omega (arith, most, ge))) ]

    begin-same : (m : ℕ) → (op.item ≡ m → ⊥) → flies (with_entries h (Begin op ∷ [])) m ≡ flies h m
    begin-same m other = ap₂ (λ b s. b == s + 1) (begun-begin_other h op m other) (settled-begin h op m)

    done-idle : flies h op.item ≡ true → flies (with_entries h (Done op ∷ [])) op.item ≡ false
    done-idle flying =
        ne_eqb (begun (with_entries h (Done op ∷ [])) op.item) (settled (with_entries h (Done op ∷ [])) op.item + 1)
        (λ e. omega (arith, e, begun-done h op op.item, settled-done h op, eqb-true (begun h op.item) (settled h op.item + 1) flying))

    done-same : (m : ℕ) → (op.item ≡ m → ⊥) → flies (with_entries h (Done op ∷ [])) m ≡ flies h m
    done-same m other = ap₂ (λ b s. b == s + 1) (begun-done h op m) (settled-done_other h op m other)

    pub began : may_begin p plan h op ≡ true → with_entry (in_flight p h) (Begin op) ≡ in_flight p (with_entries h (Begin op ∷ []))
    began may =
        let next = (begins p plan h op may).next in
        let later = with_entries h (Begin op ∷ []) in
        flown-is later (with_entry (in_flight p h) (Begin op)) (rises-in op (in_flight p h) (flown-up h))
        (λ m. elim (cases_eq op.item m) as (λ c. times m (items_of (with_entry (in_flight p h) (Begin op))) ≡ bit (nat_lt m (item_count p) && flies (with_entries h (Begin op ∷ [])) m)) [
          | inl same ↦
              subst (λ k. times k (items_of (with_entry (in_flight p h) (Begin op))) ≡ bit (nat_lt k (item_count p) && flies (with_entries h (Begin op ∷ [])) k)) same
              (let inside = lt-ltb op.item (item_count p) next.within in
              let now : bit (nat_lt op.item (item_count p) && flies (with_entries h (Begin op ∷ [])) op.item) ≡ 1 = ap₂ (λ x y. bit (x && y)) inside (begin-flies next.idle) in
              let before : bit (nat_lt op.item (item_count p) && flies h op.item) ≡ 0 = ap₂ (λ x y. bit (x && y)) inside next.idle in
              omega (arith, now, before, times-in op.item op (in_flight p h), flown-count h op.item, ap bit (eq-eqb op.item op.item refl)))
          | inr other ↦ omega (arith, times-in m op (in_flight p h), flown-count h m, ap bit (ne_eqb op.item m other), ap (λ b. bit (nat_lt m (item_count p) && b)) (begin-same m other))
        ])
        (all-in (IsNextFlying later) op (in_flight p h) (weaker (IsNext h) (IsNextFlying later) (in_flight p h) (λ o is flying. is ∙ still o) (all-next h (filter (flies h) (numbers (item_count p)))))
        (λ flying. let same : op.number ≡ settled (with_entries h (Begin op ∷ [])) op.item + 1 = omega (arith, next.number, settled-begin h op op.item) in λ i. record { item = op.item; number = same i }))
      where
        still : (o : Op) → next_op h o.item ≡ next_op (with_entries h (Begin op ∷ [])) o.item
        still o = ap (λ k. record { item = o.item; number = k + 1 }) (sym (settled-begin h op o.item))

    pub went : may_end h op ≡ true → with_entry (in_flight p h) (Done op) ≡ in_flight p (with_entries h (Done op ∷ []))
    went may =
        let flew = (ends h op may).flying in
        let later = with_entries h (Done op ∷ []) in
        let inside = lt-ltb op.item (item_count p) ((is_counted p plan h legal op.item).within (omega (arith, eqb-true (begun h op.item) (settled h op.item + 1) flew))) in
        let before : bit (nat_lt op.item (item_count p) && flies h op.item) ≡ 1 = ap₂ (λ x y. bit (x && y)) inside flew in
        let one : times op.item (items_of (in_flight p h)) ≡ 1 = flown-count h op.item ∙ before in
        flown-is later (with_entry (in_flight p h) (Done op)) (rises-out op.item (in_flight p h) (flown-up h))
        (λ m. elim (cases_eq op.item m) as (λ c. times m (items_of (with_entry (in_flight p h) (Done op))) ≡ bit (nat_lt m (item_count p) && flies (with_entries h (Done op ∷ [])) m)) [
          | inl same ↦
              subst (λ k. times k (items_of (with_entry (in_flight p h) (Done op))) ≡ bit (nat_lt k (item_count p) && flies (with_entries h (Done op ∷ [])) k)) same
              (let now : bit (nat_lt op.item (item_count p) && flies (with_entries h (Done op ∷ [])) op.item) ≡ 0 = ap₂ (λ x y. bit (x && y)) inside (done-idle flew) in
              omega (arith, now, one, times-out op.item op.item (in_flight p h) (flown-up h) one, ap bit (eq-eqb op.item op.item refl)))
          | inr other ↦ omega (arith, times-out op.item m (in_flight p h) (flown-up h) one, flown-count h m, ap bit (ne_eqb op.item m other), ap (λ b. bit (nat_lt m (item_count p) && b)) (done-same m other))
        ])
        (all-out (IsNextFlying later) op.item (in_flight p h) (weaker (IsNext h) (IsNextFlying later) (in_flight p h)
        (λ o is flying. is ∙ still o (λ same. absurd (omega (arith, ap bit (sym flying ∙ ap (flies (with_entries h (Done op ∷ []))) (sym same) ∙ done-idle flew))))) (all-next h (filter (flies h) (numbers (item_count p))))))
      where
        still : (o : Op) → (op.item ≡ o.item → ⊥) → next_op h o.item ≡ next_op (with_entries h (Done op ∷ [])) o.item
        still o other = ap (λ k. record { item = o.item; number = k + 1 }) (sym (settled-done_other h op o.item other))

  moved : (plan : Plan) (h : History) (e : Entry) → is_legal p plan h ≡ true → may_add p plan h e ≡ true → with_entry (in_flight p h) e ≡ in_flight p (with_entries h (e ∷ []))
  moved plan h (Begin op) legal may = began plan h legal op may
  moved plan h (Done op) legal may = went plan h legal op may

  -- ---- entries one by one
  pub flown-each : (plan : Plan) (h : History) (es : List Entry) → is_legal p plan h ≡ true → may_follow p plan h es ≡ true → with_each (in_flight p h) es ≡ in_flight p (with_entries h es)
  flown-each plan h [] legal follows = ap (in_flight p) (sym (with_none h))
  flown-each plan h (e ∷ es) legal follows =
      let parts = and_parts (may_add p plan h e) (may_follow p plan (with_entries h (e ∷ [])) es) follows in
      let legal-next = is_legal-append p plan h (e ∷ []) legal (and_from (may_add p plan h e) true parts.0 refl) in
      ap (λ ops. with_each ops es) (moved plan h e legal parts.0) ∙ flown-each plan (with_entries h (e ∷ [])) es legal-next parts.1 ∙ ap (in_flight p) (with_both h (e ∷ []) es)
