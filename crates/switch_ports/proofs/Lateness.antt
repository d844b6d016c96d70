-- Which switches are due, and that the others are left alone.
use Rattle.std.proofs.Common.{◌≡◌, ℕ, zero, suc, ◌+◌, ◌<◌, ◌≤◌, ◌==◌, Bool, true, false, List, [], ◌∷◌, ◌++◌, length, map, take, get_or, Option, nat_eq, nat_lt, refl, sym, ap, ◌∙◌, arith, append-nil, lt-ltb, if◌then◌else◌}
use Rattle.std.proofs.lemmas.Bool.{eqb-false, false≢true, le-ltb, ltb-false, ltb-true, ne_eqb, or_from}
use Rattle.std.proofs.lemmas.List.{take_more}
use Rattle.std.proofs.lemmas.Map.Keys.{IsDistinct-head, IsDistinct-tail}
use Rattle.std.specs.List.{AllByRecursion, IsDistinct, list_any}
use Rattle.port_session.specs.Sessions.{SessionView}
use Rattle.switch_ports.specs.Due.{AreApart, LeavesAlone, any_late, due_of, is_late, late_bit, late_count}

-- ---- one switch
abbrev bit : Bool → ℕ
bit late = if late then 1 else 0

few_of : (late : Bool) → bit late ≤ 1
few_of true = omega arith
few_of false = omega arith

below_of : (n : ℕ) (late : Bool) → nat_lt 0 n ≡ late → bit late ≤ n
below_of n true is = let some : 0 < n = ltb-true 0 n is in omega (arith, some)
below_of n false is = omega arith

pub bit_none : (n : ℕ) → n ≡ 0 → late_bit n ≡ 0
bit_none n none = ap bit (le-ltb 0 n (omega (arith, none)))

pub bit_some : (n : ℕ) → 0 < n → late_bit n ≡ 1
bit_some n some = ap bit (lt-ltb 0 n some)

pub bit_few : (n : ℕ) → late_bit n ≤ 1
bit_few n = few_of (nat_lt 0 n)

pub bit_below : (n : ℕ) → late_bit n ≤ n
bit_below n = below_of n (nat_lt 0 n) refl

-- where the bit isn't set, no answer is awaited
pub bit_clear : (n : ℕ) → late_bit n ≡ 0 → n ≡ 0
bit_clear zero none = refl
bit_clear (suc n) none = let one = bit_some (suc n) (omega arith) in absurd (omega (arith, none, one))

not_late : (n : ℕ) → nat_lt 0 n ≡ false → n ≡ 0
not_late n is = let few : n ≤ 0 = ltb-false 0 n is in omega (arith, few)

late_one : (n : ℕ) → nat_lt 0 n ≡ true → late_bit n ≡ 0 → ⊥
late_one n is none = let one : late_bit n ≡ 1 = ap bit is in omega (arith, one, none)

-- the same test with its numbers exchanged
turned : (w x : ℕ) → nat_eq w x ≡ false → (x == w) ≡ false
turned w x differs = ne_eqb x w (λ (same : x ≡ w). eqb-false w x differs (sym same))

-- a number is passed over, or put in front, whatever follows
chosen : (late : Bool) (w : ℕ) (xs ys : List ℕ) → (if late then xs ++ ys else w ∷ (xs ++ ys)) ≡ (if late then xs else w ∷ xs) ++ ys
chosen true w xs ys = refl
chosen false w xs ys = refl

unlisted_by : (w u : ℕ) (due : List ℕ) (late : Bool) → nat_eq w u ≡ false → list_any (λ x. x == w) due ≡ false → list_any (λ x. x == w) (if late then due else u ∷ due) ≡ false
unlisted_by w u due true other rest = rest
unlisted_by w u due false other rest = or_from (u == w) (list_any (λ x. x == w) due) (turned w u other) rest

-- ---- a row
module _ {P : Type 0} where
  abbrev switches : List (SessionView P) → List ℕ
  switches ts = map (λ t. t.switch) ts

  -- a number differs from all switches of a row
  abbrev Differs : ℕ → List (SessionView P) → Type 0
  Differs w ts = AllByRecursion (λ x. nat_eq w x ≡ false) (switches ts)

  pub due_append : (ts us : List (SessionView P)) → due_of (ts ++ us) ≡ due_of ts ++ due_of us
  due_append [] us = refl
  due_append (t ∷ ts) us = ap (λ (ws : List ℕ). if is_late t then ws else t.switch ∷ ws) (due_append ts us) ∙ chosen (is_late t) t.switch (due_of ts) (due_of us)

  -- one more of a row that is gone through
  pub due_more : (ts : List (SessionView P)) (i : ℕ) (t : SessionView P) → i < length ts → t ≡ get_or ts i t → due_of (take (i + 1) ts) ≡ due_of (take i ts) ++ due_of (t ∷ [])
  due_more ts i t inside is =
      ap due_of (take_more ts i t inside) ∙ due_append (take i ts) (get_or ts i t ∷ []) ∙ ap (λ (u : SessionView P). due_of (take i ts) ++ due_of (u ∷ [])) (sym is)

  -- a late switch is none more, and one that is due is one more
  pub due_none : (ws : List ℕ) (t : SessionView P) → is_late t ≡ true → ws ≡ ws ++ due_of (t ∷ [])
  due_none ws t is = sym (append-nil ws) ∙ ap (λ (late : Bool). ws ++ (if late then [] else t.switch ∷ [])) (sym is)

  pub due_one : (ws : List ℕ) (t : SessionView P) → is_late t ≡ false → ws ++ t.switch ∷ [] ≡ ws ++ due_of (t ∷ [])
  due_one ws t is = ap (λ (late : Bool). ws ++ (if late then [] else t.switch ∷ [])) (sym is)

  -- ---- no late switch is among the due ones
  apart_more : (w : ℕ) (due : List ℕ) (ts : List (SessionView P)) → Differs w ts → AreApart due ts → AreApart (w ∷ due) ts
  apart_more w due [] other apart = tt
  apart_more w due (t ∷ ts) other apart = (λ late. or_from (w == t.switch) (list_any (λ x. x == t.switch) due) other.0 (apart.0 late), apart_more w due ts other.1 apart.1)

  -- a number that differs from all switches of a row isn't among the due ones
  unlisted : (w : ℕ) (ts : List (SessionView P)) → Differs w ts → list_any (λ x. x == w) (due_of ts) ≡ false
  unlisted w [] other = refl
  unlisted w (t ∷ ts) other = unlisted_by w t.switch (due_of ts) (is_late t) other.0 (unlisted w ts other.1)

  apart_by : (t : SessionView P) (ts : List (SessionView P)) (late : Bool) → is_late t ≡ late → Differs t.switch ts → AreApart (due_of ts) ts → AreApart (if late then due_of ts else t.switch ∷ due_of ts) (t ∷ ts)
  apart_by t ts true is other rest = (λ owes. unlisted t.switch ts other, rest)
  apart_by t ts false is other rest = (λ owes. absurd (false≢true (sym is ∙ lt-ltb 0 t.stream.awaited owes)), apart_more t.switch (due_of ts) ts other rest)

  pub due_apart : (ts : List (SessionView P)) → IsDistinct nat_eq (switches ts) → AreApart (due_of ts) ts
  due_apart [] distinct = tt
  due_apart (t ∷ ts) distinct =
      apart_by t ts (is_late t) refl (IsDistinct-head nat_eq t.switch (switches ts) distinct) (due_apart ts (IsDistinct-tail nat_eq t.switch (switches ts) distinct))

  -- ---- where none is late, all are due
  few_by : (t : SessionView P) (ts : List (SessionView P)) (late : Bool) → length (due_of ts) ≤ length (switches ts) → length (if late then due_of ts else t.switch ∷ due_of ts) ≤ length (t.switch ∷ switches ts)
  few_by t ts true few = omega (arith, few)
  few_by t ts false few = omega (arith, few)

  due_few : (ts : List (SessionView P)) → length (due_of ts) ≤ length (switches ts)
  due_few [] = omega arith
  due_few (t ∷ ts) = few_by t ts (is_late t) (due_few ts)

  -- all switches are listed as due, and none is late
  pub record AllDue (ts : List (SessionView P)) : Type 0 where
    pub due : due_of ts ≡ map (λ t. t.switch) ts
    pub none : late_count ts ≡ 0

  all_by : (t : SessionView P) (ts : List (SessionView P)) (late : Bool) → is_late t ≡ late → length (t.switch ∷ switches ts) ≤ length (if late then due_of ts else t.switch ∷ due_of ts) → (length (switches ts) ≤ length (due_of ts) → AllDue ts) → AllDue (t ∷ ts)
  all_by t ts true is long further = let few = due_few ts in absurd (omega (arith, long, few))
  all_by t ts false is long further =
      let rest = further (omega (arith, long)) in
      let own = bit_none t.stream.awaited (not_late t.stream.awaited is) in
      let others = rest.none in
      record {
        due = ap (λ (late : Bool). if late then due_of ts else t.switch ∷ due_of ts) is ∙ ap (λ (ws : List ℕ). t.switch ∷ ws) rest.due;
        none = omega (arith, own, others);
      }

  of_length : (ts : List (SessionView P)) → length (switches ts) ≤ length (due_of ts) → AllDue ts
  of_length [] many = record { due = refl; none = refl }
  of_length (t ∷ ts) many = all_by t ts (is_late t) refl many (of_length ts)

  pub all_due : (ts : List (SessionView P)) → any_late ts ≡ false → AllDue ts
  all_due ts is = of_length ts (ltb-false (length (due_of ts)) (length (switches ts)) is)

  long_by : (t : SessionView P) (ts : List (SessionView P)) (late : Bool) → is_late t ≡ late → late_bit t.stream.awaited ≡ 0 → length (switches ts) ≤ length (due_of ts) → length (t.switch ∷ switches ts) ≤ length (if late then due_of ts else t.switch ∷ due_of ts)
  long_by t ts true is none rest = absurd (late_one t.stream.awaited is none)
  long_by t ts false is none rest = omega (arith, rest)

  long_all : (ts : List (SessionView P)) → late_count ts ≡ 0 → length (switches ts) ≤ length (due_of ts)
  long_all [] none = omega arith
  long_all (t ∷ ts) none = long_by t ts (is_late t) refl (omega (arith, none)) (long_all ts (omega (arith, none)))

  -- where no answer is awaited, none is late
  pub none_late : (ts : List (SessionView P)) → late_count ts ≡ 0 → any_late ts ≡ false
  none_late ts none = le-ltb (length (due_of ts)) (length (switches ts)) (long_all ts none)

  -- where there are no commands, late switches are left alone
  pub alone_none : (homes : List (Option ℕ)) (ts : List (SessionView P)) → LeavesAlone homes [] ts
  alone_none homes [] = tt
  alone_none homes (t ∷ ts) = (λ late. refl, alone_none homes ts)
