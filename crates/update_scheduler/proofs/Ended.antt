-- What a round settles: the Dones one by one are those by item.
use Rattle.std.proofs.Common.{◌≡◌, ℕ, ◌+◌, ◌<◌, ◌≤◌, Bool, true, false, not, ◌&&◌, ◌||◌, ◌==◌, nat_le, nat_lt, if◌then◌else◌, List, [], ◌∷◌, ◌++◌, map, refl, inl, inr, sym, ap, ap₂, ◌∙◌, subst, arith, eq-eqb, eqb-true, lt-ltb, ltb-true}
use Rattle.std.specs.List.{list_any}
use Rattle.std.proofs.lemmas.Bool.{cases_Bool, cases_eq, ne_eqb, and_parts, and_from, ltb-false, le-leb, lt-leb}
use Rattle.std.proofs.lemmas.List.Folds.{list_any-append}
use Rattle.lists.proofs.Conditions.{and_second_false}
use Rattle.rollout_rules.specs.Wan.{Problem}
use Rattle.rollout_rules.specs.Items.{item_count}
use Rattle.rollout_rules.specs.History.{History, with_entries, settled, begun, flies}
use Rattle.rollout_rules.specs.Release.{next_op, is_covered, dones}
use Rattle.rollout_rules.specs.declared.op.Op.{Op}
use Rattle.rollout_rules.specs.declared.op.Entry.TheVariants.{Done}
use Rattle.rollout_laws.proofs.Histories.{begun-done, settled-done_other}
use Rattle.update_scheduler.specs.Rows.{bit, times, HasSame}
use Rattle.update_scheduler.specs.Endings.{covered_items, tells_more, with_told, ended, CanEnd}
use Rattle.update_scheduler.proofs.Rows.{times-append, times-filtered}
use Rattle.update_scheduler.proofs.Marking.{bit-most}

abbrev Once : List ℕ → Type 0
Once ns = (n : ℕ) → times n ns ≤ 1

-- what is behind an item that is there once isn't that item
apart-behind : (n m : ℕ) (ns : List ℕ) → Once (n ∷ ns) → 0 < times m ns → n ≡ m → ⊥
apart-behind n m ns once some is = omega (arith, once m, some, ap bit (eq-eqb n m is))

once-behind : (n : ℕ) (ns : List ℕ) → Once (n ∷ ns) → Once ns
once-behind n ns once m = omega (arith, once m)

some-behind : (n m : ℕ) (ns : List ℕ) → 0 < times m ns → 0 < times m (n ∷ ns)
some-behind n m ns some = omega (arith, some)

some-here : (n : ℕ) (ns : List ℕ) → 0 < times n (n ∷ ns)
some-here n ns = omega (arith, ap bit (eq-eqb n n refl))

module _ (h : History) where
  -- where as many are settled of each item as at first, the Dones are those of the history at first
  ended-from : (g : History) (ns : List ℕ) → Once ns → ((n : ℕ) → 0 < times n ns → settled g n ≡ settled h n) → ended g ns ≡ map (λ n. Done (next_op h n)) ns
  ended-from g [] once same = refl
  ended-from g (n ∷ ns) once same =
      let head : Done (next_op g n) ≡ Done (next_op h n) = ap (λ k. Done (record { item = n; number = k + 1 })) (same n (some-here n ns)) in
      let rest = ended-from (with_entries g (Done (next_op g n) ∷ [])) ns (once-behind n ns once) (λ m some. settled-done_other g (next_op g n) m (apart-behind n m ns once some) ∙ same m (some-behind n m ns some)) in
      ap₂ (λ e es. e ∷ es) head rest

  can-end-from : (g : History) (ns : List ℕ) → Once ns → ((n : ℕ) → 0 < times n ns → flies g n ≡ true) → CanEnd g ns
  can-end-from g [] once fly = tt
  can-end-from g (n ∷ ns) once fly = (
    fly n (some-here n ns),
    can-end-from (with_entries g (Done (next_op g n) ∷ [])) ns (once-behind n ns once) (λ m some.
        ap₂ (λ a b. a == b + 1) (begun-done g (next_op g n) m) (settled-done_other g (next_op g n) m (apart-behind n m ns once some)) ∙ fly m (some-behind n m ns some)),
  )

module _ (p : Problem) (h : History) (answers : List Op) where
  covered-times : (n : ℕ) → times n (covered_items p h answers) ≡ bit (nat_lt n (item_count p) && is_covered h answers n)
  covered-times = times-filtered (is_covered h answers) (item_count p)

  covered-once : Once (covered_items p h answers)
  covered-once n = omega (arith, covered-times n, bit-most (nat_lt n (item_count p) && is_covered h answers n))

  covered-flies : (n : ℕ) → 0 < times n (covered_items p h answers) → flies h n ≡ true
  covered-flies n some = (and_parts (flies h n) _ (and_parts (nat_lt n (item_count p)) (is_covered h answers n) (told (nat_lt n (item_count p) && is_covered h answers n) (omega (arith, some, covered-times n)))).1).0
    where
      told : (b : Bool) → 0 < bit b → b ≡ true
      told true lt = refl
      told false lt = absurd (omega (arith, lt))

  pub covered-ended : ended h (covered_items p h answers) ≡ dones p h answers
  covered-ended = ended-from h h (covered_items p h answers) covered-once (λ n some. refl)

  pub covered-can-end : CanEnd h (covered_items p h answers)
  covered-can-end = can-end-from h h (covered_items p h answers) covered-once covered-flies

-- ---- hearing
module _ (p : Problem) (h : History) (answers : List Op) (answer : Op) where
  abbrev covers : ℕ → Bool
  covers n = (answer.item == n) && nat_le (begun h n) answer.number

  covered-more : (n : ℕ) → is_covered h (answers ++ answer ∷ []) n ≡ (is_covered h answers n || (flies h n && covers n))
  covered-more n = ap (λ b. flies h n && b) (list_any-append (λ a. (a.item == n) && nat_le (begun h n) a.number) answers (answer ∷ [])) ∙ spread (flies h n) (list_any (λ a. (a.item == n) && nat_le (begun h n) a.number) answers) (covers n)
    where
      spread : (f x y : Bool) → (f && (x || (y || false))) ≡ ((f && x) || (f && y))
      spread true true y = refl
      spread true false true = refl
      spread true false false = refl
      spread false x y = refl

  -- an answer tells of an operation in flight where it covers it
  tells-covers : (settled h answer.item + 1 ≡ begun h answer.item) → nat_lt (settled h answer.item) answer.number ≡ covers answer.item
  tells-covers is = elim (cases_Bool (nat_lt (settled h answer.item) answer.number)) as (λ c. nat_lt (settled h answer.item) answer.number ≡ covers answer.item) [
    | inl low ↦ low ∙ sym (and_from (answer.item == answer.item) (nat_le (begun h answer.item) answer.number) (eq-eqb answer.item answer.item refl) (le-leb (begun h answer.item) answer.number (omega (arith, is, ltb-true _ _ low))))
    | inr high ↦ high ∙ sym (and_second_false (answer.item == answer.item) (nat_le (begun h answer.item) answer.number) (lt-leb (begun h answer.item) answer.number (omega (arith, is, ltb-false _ _ high))))
  ]

  open-covers : (flies h answer.item && nat_lt (settled h answer.item) answer.number) ≡ (flies h answer.item && covers answer.item)
  open-covers = either (flies h answer.item) refl
    where
      either : (f : Bool) → flies h answer.item ≡ f → (f && nat_lt (settled h answer.item) answer.number) ≡ (f && covers answer.item)
      either true e = tells-covers (sym (eqb-true (begun h answer.item) (settled h answer.item + 1) e))
      either false e = refl

  -- With one answer more the row has the items that are then covered.
  pub told-more : (row : List ℕ) → answer.item < item_count p → HasSame row (covered_items p h answers) → HasSame (with_told h row answer) (covered_items p h (answers ++ answer ∷ []))
  told-more row lt same n =
      let k = item_count p in
      let item = answer.item in
      let was : times n row ≡ bit (nat_lt n k && is_covered h answers n) = same n ∙ covered-times p h answers n in
      let is : times n (covered_items p h (answers ++ answer ∷ [])) ≡ bit (nat_lt n k && (is_covered h answers n || (flies h n && covers n))) = covered-times p h (answers ++ answer ∷ []) n ∙ ap (λ b. bit (nat_lt n k && b)) (covered-more n) in
      elim (cases_eq item n) as (λ c. times n (with_told h row answer) ≡ times n (covered_items p h (answers ++ answer ∷ []))) [
        | inl here ↦
            let inside : nat_lt item k ≡ true = lt-ltb item k lt in
            let at : times item row ≡ bit (is_covered h answers item) = same item ∙ covered-times p h answers item ∙ ap (λ b. bit (b && is_covered h answers item)) inside in
            let goal : times item (with_told h row answer) ≡ bit (is_covered h answers item || (flies h item && covers item)) = noted (is_covered h answers item) (flies h item && nat_lt (settled h item) answer.number) (flies h item && covers item) at open-covers in
            subst (λ m. times m (with_told h row answer) ≡ times m (covered_items p h (answers ++ answer ∷ []))) here
            (goal ∙ sym (covered-times p h (answers ++ answer ∷ []) item ∙ ap (λ b. bit (nat_lt item k && b)) (covered-more-at item) ∙ ap (λ b. bit (b && (is_covered h answers item || (flies h item && covers item)))) inside))
        | inr apart ↦
            let other : (item == n) ≡ false = ne_eqb item n apart in
            let unchanged : times n (with_told h row answer) ≡ times n row = kept (tells_more h row answer) other in
            let none : (is_covered h answers n || (flies h n && covers n)) ≡ is_covered h answers n = rw other (no-more (is_covered h answers n) (flies h n)) in
            unchanged ∙ was ∙ sym (is ∙ ap (λ b. bit (nat_lt n k && b)) none)
      ]
    where
      covered-more-at : (m : ℕ) → is_covered h (answers ++ answer ∷ []) m ≡ (is_covered h answers m || (flies h m && covers m))
      covered-more-at m = covered-more m

      kept : (b : Bool) → (answer.item == n) ≡ false → times n (if b then row ++ answer.item ∷ [] else row) ≡ times n row
      kept true e = times-append n row (answer.item ∷ []) ∙ omega (arith, ap bit e)
      kept false e = refl

      no-more : (b f : Bool) → (b || (f && (false && nat_le (begun h n) answer.number))) ≡ b
      no-more true f = refl
      no-more false true = refl
      no-more false false = refl

      noted : (was opens covers : Bool) → times answer.item row ≡ bit was → opens ≡ covers → times answer.item (if opens && not (nat_lt 0 (times answer.item row)) then row ++ answer.item ∷ [] else row) ≡ bit (was || covers)
      noted was false false at same = at ∙ ap bit (or-none was)
        where
          or-none : (b : Bool) → b ≡ (b || false)
          or-none true = refl
          or-none false = refl
      noted true true true at same = rw at at
      noted false true true at same =
          rw at (times-append answer.item row (answer.item ∷ []) ∙ omega (arith, at, ap bit (eq-eqb answer.item answer.item refl)))
      noted was true false at same = absurd (differ same)
        where
          differ : true ≡ false → ⊥
          differ q = cc
      noted was false true at same = absurd (differ same)
        where
          differ : false ≡ true → ⊥
          differ q = cc

-- nothing is covered where nothing was heard
pub none-covered : (p : Problem) (h : History) → HasSame [] (covered_items p h [])
none-covered p h n = sym (covered-times p h [] n ∙ ap bit (none (nat_lt n (item_count p)) (flies h n)))
  where
    none : (a f : Bool) → (a && (f && false)) ≡ false
    none true true = refl
    none true false = refl
    none false f = refl
