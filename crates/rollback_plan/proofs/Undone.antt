-- What is left of a rollout that is taken back operation by operation is what a list of the way there allows, so it is safe.
use Rattle.std.proofs.Common.{◌≡◌, ℕ, ◌+◌, ◌-◌, ◌<◌, ◌≤◌, ◌⊎◌, Bool, true, false, ◌&&◌, ◌||◌, ◌==◌, nat_le, nat_lt, if◌then◌else◌, List, [], ◌∷◌, ◌++◌, slice_index, inl, inr, refl, sym, ap, ◌∙◌, subst, arith, ltb-true, leb-true, le-leb, eqb-true, eq-eqb, ne_eqb}
use Rattle.std.proofs.lemmas.Bool.{and_parts, and_from, and_left, and_right, and_cases, both_ways, cases_Bool, cases_eq, cases_lt, eqb-false, lt-ltb, or_cases, or_left, or_right}
use Rattle.rollout_rules.specs.Wan.{Problem, Plan}
use Rattle.rollout_rules.specs.Network.{IsNetwork}
use Rattle.rollout_rules.specs.Items.{item_count}
use Rattle.rollout_rules.specs.History.{History, begins_in, begun, settled, started, with_entries}
use Rattle.rollout_rules.specs.Valid.{is_valid_plan}
use Rattle.rollout_rules.specs.Legal.{is_legal, may_add, may_begin, may_end, may_follow}
use Rattle.rollout_rules.specs.Safe.{IsSafe}
use Rattle.rollout_rules.specs.declared.op.Op.{Op}
use Rattle.rollout_rules.specs.declared.op.Entry.{Entry}
use Rattle.rollout_rules.specs.declared.op.Entry.TheVariants.{Begin, Done}
use Rattle.rollout_laws.specs.Good.{AreHeldWithin, places_held}
use Rattle.rollout_laws.proofs.Histories.{begins, begun-begin_other, begun-done, begun-with, ends, front_follows, is_counted, is_legal-append, legal_follows, legal_is_sound, settled-begin, settled-done, settled-done_other, settled-with, started_is_legal, with_both, with_none}
use Rattle.rollout_laws.proofs.Within.{held-safe}
use Rattle.rollback_plan.specs.Undoing.{GoesBack, IsOfTheWay, SomeGoesBack, are_back, goes_back, may_go_back, without}

-- ---- lists of entries

-- where all is back that entries begin, whatever is taken back of them might be
back-all : (low most : ℕ → ℕ) (es : List Entry) → are_back most es ≡ true → goes_back low most es ≡ true
back-all low most [] back = refl
back-all low most (Begin op ∷ es) back = back-all low most es (and_parts (nat_lt (most op.item) op.number) (are_back most es) back).1
back-all low most (Done op ∷ es) back = and_from (nat_le op.number (low op.item) || are_back most es) (goes_back low most es) (or_right (nat_le op.number (low op.item)) (are_back most es) back) (back-all low most es back)

-- fewer are left
module _ (least most fewer : ℕ → ℕ) (few : (n : ℕ) → fewer n ≤ most n) where
  fewer-back : (es : List Entry) → are_back most es ≡ true → are_back fewer es ≡ true
  fewer-back [] back = refl
  fewer-back (Begin op ∷ es) back =
      let both = and_parts (nat_lt (most op.item) op.number) (are_back most es) back in
      and_from (nat_lt (fewer op.item) op.number) (are_back fewer es) (lt-ltb (fewer op.item) op.number (omega (arith, few op.item, ltb-true (most op.item) op.number both.0))) (fewer-back es both.1)
  fewer-back (Done op ∷ es) back = fewer-back es back

  fewer-goes : (es : List Entry) → goes_back least most es ≡ true → goes_back least fewer es ≡ true
  fewer-goes [] goes = refl
  fewer-goes (Begin op ∷ es) goes = fewer-goes es goes
  fewer-goes (Done op ∷ es) goes =
      let both = and_parts (nat_le op.number (least op.item) || are_back most es) (goes_back least most es) goes in
      and_from (nat_le op.number (least op.item) || are_back fewer es) (goes_back least fewer es)
      (elim (or_cases (nat_le op.number (least op.item)) (are_back most es) both.0) as (λ _. (nat_le op.number (least op.item) || are_back fewer es) ≡ true) [
        | inl stays ↦ or_left (nat_le op.number (least op.item)) (are_back fewer es) stays
        | inr back ↦ or_right (nat_le op.number (least op.item)) (are_back fewer es) (fewer-back es back)
      ])
      (fewer-goes es both.1)

-- one more is taken back, the last one that is left of its item for certain
module _ (least most : ℕ → ℕ) (op : Op) (last : op.number ≡ least op.item) where
  without-own : (n : ℕ) → n ≡ op.item → without op least n ≡ op.number - 1
  without-own n e = ap (λ (b : Bool). if b then op.number - 1 else least n) (eq-eqb n op.item e)

  without-other : (n : ℕ) → (n ≡ op.item → ⊥) → without op least n ≡ least n
  without-other n apart = ap (λ (b : Bool). if b then op.number - 1 else least n) (ne_eqb n op.item apart)

  -- any other one that was left is left
  another-left : (other : Op) → ((other.item == op.item) && (other.number == op.number)) ≡ false → other.number ≤ least other.item → other.number ≤ without op least other.item
  another-left other apart few = elim (cases_eq other.item op.item) as (λ _. other.number ≤ without op least other.item) [
    | inl e ↦ elim (and_cases (other.item == op.item) (other.number == op.number) apart) as (λ _. other.number ≤ without op least other.item) [
      | inl not_item ↦ absurd (both_ways (other.item == op.item) not_item (eq-eqb other.item op.item e))
      | inr not_number ↦ omega (arith, without-own other.item e, few, ap least e, last, eqb-false other.number op.number not_number)
    ]
    | inr elsewhere ↦ omega (arith, without-other other.item elsewhere, few)
  ]

  takes-back : (es : List Entry) → goes_back least most es ≡ true → may_go_back most es op ≡ true → goes_back (without op least) most es ≡ true
  takes-back [] goes may = refl
  takes-back (Begin other ∷ es) goes may = takes-back es goes may
  takes-back (Done other ∷ es) goes may =
      let both = and_parts (nat_le other.number (least other.item) || are_back most es) (goes_back least most es) goes in
      elim (cases_Bool ((other.item == op.item) && (other.number == op.number))) as (λ _. goes_back (without op least) most (Done other ∷ es) ≡ true) [
        | inl own ↦
            let back : are_back most es ≡ true = sym (ap (λ (b : Bool). if b then are_back most es else may_go_back most es op) own) ∙ may in
            back-all (without op least) most (Done other ∷ es) back
        | inr apart ↦
            let later : may_go_back most es op ≡ true = sym (ap (λ (b : Bool). if b then are_back most es else may_go_back most es op) apart) ∙ may in
            and_from (nat_le other.number (without op least other.item) || are_back most es) (goes_back (without op least) most es)
            (elim (or_cases (nat_le other.number (least other.item)) (are_back most es) both.0) as (λ _. (nat_le other.number (without op least other.item) || are_back most es) ≡ true) [
              | inl stays ↦
                  or_left (nat_le other.number (without op least other.item)) (are_back most es)
                  (le-leb other.number (without op least other.item) (another-left other apart (leb-true other.number (least other.item) stays)))
              | inr back ↦ or_right (nat_le other.number (without op least other.item)) (are_back most es) back
            ])
            (takes-back es both.1 later)
      ]

-- ---- what is taken back so far

module _ (p : Problem) (h : History) (least most : ℕ → ℕ) (goes : GoesBack p h least most) where
  pub one-goes_back : (op : Op) → op.number ≡ least op.item → slice_index h.start op.item < op.number → may_go_back most h.entries op ≡ true → GoesBack p h (without op least) most
  one-goes_back op last past may = record {
    start = λ n lt. elim (cases_eq n op.item) as (λ _. slice_index h.start n ≤ without op least n) [
      | inl e ↦
          let here : slice_index h.start n ≡ slice_index h.start op.item = ap (λ (m : ℕ). slice_index h.start m) e in
          omega (arith, without-own least most op last n e, here, past)
      | inr apart ↦ omega (arith, without-other least most op last n apart, goes.start n lt)
    ];
    between = λ n lt. elim (cases_eq n op.item) as (λ _. without op least n ≤ most n) [
      | inl e ↦ omega (arith, without-own least most op last n e, last, ap least e, goes.between n lt)
      | inr apart ↦ omega (arith, without-other least most op last n apart, goes.between n lt)
    ];
    begun_most = goes.begun_most;
    each = takes-back least most op last h.entries goes.each may;
  }

  pub some-are_back : (fewer : ℕ → ℕ) → ((n : ℕ) → least n ≤ fewer n) → ((n : ℕ) → fewer n ≤ most n) → GoesBack p h least fewer
  some-are_back fewer enough few = record {
    start = goes.start;
    between = λ n lt. enough n;
    begun_most = λ n lt. omega (arith, few n, goes.begun_most n lt);
    each = fewer-goes least most fewer few h.entries goes.each;
  }

-- ---- along the way there

module _ (p : Problem) (plan : Plan) where
  then-legal : (g : History) (e : Entry) → is_legal p plan g ≡ true → may_add p plan g e ≡ true → is_legal p plan (with_entries g (e ∷ [])) ≡ true
  then-legal g e legal may = is_legal-append p plan g (e ∷ []) legal (and_from (may_add p plan g e) true may refl)

  -- at first nothing is taken back
  none-goes_back : (least most : ℕ → ℕ) (g : History) (es : List Entry) → may_follow p plan g es ≡ true → ((n : ℕ) → settled (with_entries g es) n ≤ least n) → goes_back least most es ≡ true
  none-goes_back least most g [] follows low = refl
  none-goes_back least most g (Begin op ∷ es) follows low =
      let both = and_parts (may_begin p plan g op) (may_follow p plan (with_entries g (Begin op ∷ [])) es) follows in
      none-goes_back least most (with_entries g (Begin op ∷ [])) es both.1 (λ n. subst (λ (k : History). settled k n ≤ least n) (sym (with_both g (Begin op ∷ []) es)) (low n))
  none-goes_back least most g (Done op ∷ es) follows low =
      let both = and_parts (may_end g op) (may_follow p plan (with_entries g (Done op ∷ [])) es) follows in
      let later : (n : ℕ) → settled (with_entries (with_entries g (Done op ∷ [])) es) n ≤ least n = λ n. subst (λ (k : History). settled k n ≤ least n) (sym (with_both g (Done op ∷ []) es)) (low n) in
      let number : op.number ≤ least op.item = omega (arith, (ends g op both.0).number, settled-done g op, settled-with (with_entries g (Done op ∷ [])) es op.item, later op.item) in
      and_from (nat_le op.number (least op.item) || are_back most es) (goes_back least most es) (or_left (nat_le op.number (least op.item)) (are_back most es) (le-leb op.number (least op.item) number))
      (none-goes_back least most (with_entries g (Done op ∷ [])) es both.1 later)

  pub all-left : (h : History) → is_legal p plan h ≡ true → GoesBack p h (settled h) (begun h)
  all-left h legal = record {
    start = λ n lt. omega (arith, settled-with (started h.start) h.entries n);
    between = λ n lt. (is_counted p plan h legal n).settled_begun;
    begun_most = λ n lt. omega arith;
    each = none-goes_back (settled h) (begun h) (started h.start) h.entries (legal_follows p plan h legal) (λ n. omega arith);
  }

  -- where all that entries begin is back, no more is left of an item than was begun before them
  back-most : (most : ℕ → ℕ) (g : History) (es : List Entry) → is_legal p plan g ≡ true → may_follow p plan g es ≡ true → are_back most es ≡ true → (n : ℕ) → 0 < begins_in es n → most n ≤ begun g n
  back-most most g [] legal follows back n some = absurd (omega arith)
  back-most most g (Begin op ∷ es) legal follows back n some =
      let may = and_parts (may_begin p plan g op) (may_follow p plan (with_entries g (Begin op ∷ [])) es) follows in
      let both = and_parts (nat_lt (most op.item) op.number) (are_back most es) back in
      elim (cases_eq op.item n) as (λ _. most n ≤ begun g n) [
        | inl e ↦
            let own : most op.item ≤ begun g op.item = omega (arith, ltb-true (most op.item) op.number both.0, (begins p plan g op may.0).next.number, (is_counted p plan g legal op.item).settled_begun) in
            subst (λ (m : ℕ). most m ≤ begun g m) e own
        | inr other ↦
            let none = ap {B = ℕ} (λ (b : Bool). if b then 1 else 0) (ne_eqb op.item n other) in
            let rest = back-most most (with_entries g (Begin op ∷ [])) es (then-legal g (Begin op) legal may.0) may.1 both.1 n (omega (arith, some, none)) in
            omega (arith, rest, begun-begin_other g op n other)
      ]
  back-most most g (Done op ∷ es) legal follows back n some =
      let may = and_parts (may_end g op) (may_follow p plan (with_entries g (Done op ∷ [])) es) follows in
      let rest = back-most most (with_entries g (Done op ∷ [])) es (then-legal g (Done op) legal may.0) may.1 back n some in
      omega (arith, rest, begun-done g op n)

module _ (p : Problem) (plan : Plan) (least most held : ℕ → ℕ) (low : (n : ℕ) → n < item_count p → least n ≤ held n) (high : (n : ℕ) → n < item_count p → held n ≤ most n) where
  abbrev SettledLow : History → Type 0
  SettledLow g = (n : ℕ) → n < item_count p → settled g n ≤ held n

  abbrev BegunHigh : History → Type 0
  BegunHigh g = (n : ℕ) → n < item_count p → held n ≤ begun g n

  -- a list from here that allows what is left
  record Allows (g : History) (es : List Entry) : Type 0 where
    front : List Entry
    rest : List Entry
    is : front ++ rest ≡ es
    within : AreHeldWithin p (with_entries g front) held

  allows-here : (g : History) (es : List Entry) → SettledLow g → BegunHigh g → Allows g es
  allows-here g es settled_low begun_high =
      let here : AreHeldWithin p g held = record { settled = settled_low; begun = begun_high } in
      record { front = []; rest = es; is = refl; within = subst (λ (k : History). AreHeldWithin p k held) (sym (with_none g)) here }

  allows-later : (g : History) (e : Entry) (es : List Entry) → Allows (with_entries g (e ∷ [])) es → Allows g (e ∷ es)
  allows-later g e es later = record {
    front = e ∷ later.front;
    rest = later.rest;
    is = ap (λ (xs : List Entry). e ∷ xs) later.is;
    within = subst (λ (k : History). AreHeldWithin p k held) (with_both g (e ∷ []) later.front) later.within;
  }

  -- the first one that isn't left ends it: whatever was begun after its Done is back
  first-gone : (g : History) (op : Op) (es : List Entry) → is_legal p plan g ≡ true → may_follow p plan g (Done op ∷ es) ≡ true → (nat_le op.number (least op.item) || are_back most es) ≡ true → held op.item < op.number
      → SettledLow g → BegunHigh (with_entries g (Done op ∷ es)) → Allows g (Done op ∷ es)
  first-gone g op es legal follows each gone settled_low begun_high =
      let may = and_parts (may_end g op) (may_follow p plan (with_entries g (Done op ∷ [])) es) follows in
      let flying : begun g op.item ≡ settled g op.item + 1 = eqb-true (begun g op.item) (settled g op.item + 1) (ends g op may.0).flying in
      let inside : op.item < item_count p = (is_counted p plan g legal op.item).within (omega (arith, flying)) in
      elim (or_cases (nat_le op.number (least op.item)) (are_back most es) each) as (λ _. Allows g (Done op ∷ es)) [
        | inl stays ↦ absurd (omega (arith, gone, leb-true op.number (least op.item) stays, low op.item inside))
        | inr back ↦ allows-here g (Done op ∷ es) settled_low (λ n lt. elim (cases_lt 0 (begins_in es n)) as (λ _. held n ≤ begun g n) [
          | inl some ↦
              let later = back-most p plan most (with_entries g (Done op ∷ [])) es (then-legal p plan g (Done op) legal may.0) may.1 back n some in
              omega (arith, high n lt, later, begun-done g op n)
          | inr none ↦ omega (arith, begun_high n lt, begun-with g (Done op ∷ es) n, none)
        ])
      ]

  some-allows : (g : History) (es : List Entry) → is_legal p plan g ≡ true → may_follow p plan g es ≡ true → goes_back least most es ≡ true → SettledLow g → BegunHigh (with_entries g es) → Allows g es
  some-allows g [] legal follows goes settled_low begun_high = allows-here g [] settled_low (λ n lt. omega (arith, begun_high n lt, begun-with g [] n))
  some-allows g (Begin op ∷ es) legal follows goes settled_low begun_high =
      let may = and_parts (may_begin p plan g op) (may_follow p plan (with_entries g (Begin op ∷ [])) es) follows in
      allows-later g (Begin op) es
      (some-allows (with_entries g (Begin op ∷ [])) es (then-legal p plan g (Begin op) legal may.0) may.1 goes
      (λ n lt. omega (arith, settled_low n lt, settled-begin g op n))
      (subst BegunHigh (sym (with_both g (Begin op ∷ []) es)) begun_high))
  some-allows g (Done op ∷ es) legal follows goes settled_low begun_high =
      let may = and_parts (may_end g op) (may_follow p plan (with_entries g (Done op ∷ [])) es) follows in
      let each = and_parts (nat_le op.number (least op.item) || are_back most es) (goes_back least most es) goes in
      elim (cases_lt (held op.item) op.number) as (λ _. Allows g (Done op ∷ es)) [
        | inl gone ↦ first-gone g op es legal follows each.0 gone settled_low begun_high
        | inr stays ↦
            allows-later g (Done op) es
            (some-allows (with_entries g (Done op ∷ [])) es (then-legal p plan g (Done op) legal may.0) may.1 each.1
            (λ n lt. elim (cases_eq op.item n) as (λ _. settled (with_entries g (Done op ∷ [])) n ≤ held n) [
              | inl e ↦ subst (λ (m : ℕ). settled (with_entries g (Done op ∷ [])) m ≤ held m) e (omega (arith, settled-done g op, (ends g op may.0).number, stays))
              | inr other ↦ omega (arith, settled-done_other g op n other, settled_low n lt)
            ])
            (subst BegunHigh (sym (with_both g (Done op ∷ []) es)) begun_high))
      ]

-- ---- what is left

module _ (p : Problem) (plan : Plan) (h : History) (least most held : ℕ → ℕ) (legal : is_legal p plan h ≡ true) (goes : GoesBack p h least most)
    (low : (n : ℕ) → n < item_count p → least n ≤ held n) (high : (n : ℕ) → n < item_count p → held n ≤ most n) where
  first-legal : is_legal p plan (started h.start) ≡ true
  first-legal = started_is_legal p plan h.start (legal_is_sound p plan h legal)

  pub left-is_of_the_way : IsOfTheWay p h held
  left-is_of_the_way =
      let found = some-allows p plan least most held low high (started h.start) h.entries first-legal (legal_follows p plan h legal) goes.each
      (λ n lt. omega (arith, goes.start n lt, low n lt))
      (λ n lt. omega (arith, high n lt, goes.begun_most n lt)) in
      record { front = found.front; rest = found.rest; is = found.is; within = found.within }

  -- and so it is safe, as each choice that a list of the way there allows
  pub left-is_safe : IsNetwork p → is_valid_plan p plan ≡ true → IsSafe p plan (places_held p held)
  left-is_safe net valid =
      let found = left-is_of_the_way in
      let follows : may_follow p plan (started h.start) found.front ≡ true =
      front_follows p plan (started h.start) found.front found.rest (subst (λ (xs : List Entry). may_follow p plan (started h.start) xs ≡ true) (sym found.is) (legal_follows p plan h legal)) in
      held-safe p plan (with_entries (started h.start) found.front) held net valid (is_legal-append p plan (started h.start) found.front first-legal follows) found.within

-- ---- one that may go back

module _ (p : Problem) (plan : Plan) (left : ℕ → ℕ) where
  -- no more is left than is settled
  abbrev IsLow : History → Type 0
  IsLow g = (n : ℕ) → left n ≤ settled g n

  -- then what is begun from there on is back
  low-back : (g : History) (es : List Entry) → is_legal p plan g ≡ true → may_follow p plan g es ≡ true → IsLow g → are_back left es ≡ true
  low-back g [] legal follows low = refl
  low-back g (Begin op ∷ es) legal follows low =
      let may = and_parts (may_begin p plan g op) (may_follow p plan (with_entries g (Begin op ∷ [])) es) follows in
      and_from (nat_lt (left op.item) op.number) (are_back left es) (lt-ltb (left op.item) op.number (omega (arith, low op.item, (begins p plan g op may.0).next.number)))
      (low-back (with_entries g (Begin op ∷ [])) es (then-legal p plan g (Begin op) legal may.0) may.1 (λ n. omega (arith, low n, settled-begin g op n)))
  low-back g (Done op ∷ es) legal follows low =
      let may = and_parts (may_end g op) (may_follow p plan (with_entries g (Done op ∷ [])) es) follows in
      low-back (with_entries g (Done op ∷ [])) es (then-legal p plan g (Done op) legal may.0) may.1 (λ n. omega (arith, low n, settled-with g (Done op ∷ []) n))

  -- one that is settled from there on, the last one that is left of its item, may go back
  record GoesNext (g : History) (es : List Entry) : Type 0 where
    op : Op
    last : op.number ≡ left op.item
    past : settled g op.item < op.number
    may : may_go_back left es op ≡ true

  next-behind : (g : History) (op : Op) (es : List Entry) → may_end g op ≡ true → GoesNext (with_entries g (Done op ∷ [])) es → GoesNext g (Done op ∷ es)
  next-behind g op es may next =
      let number = (ends g op may).number in
      let other = next.op in
      let apart : ((op.item == other.item) && (op.number == other.number)) ≡ false = elim (cases_eq op.item other.item) as (λ _. ((op.item == other.item) && (op.number == other.number)) ≡ false) [
        | inl e ↦
            let here : settled (with_entries g (Done op ∷ [])) op.item < other.number = subst (λ (m : ℕ). settled (with_entries g (Done op ∷ [])) m < other.number) (sym e) next.past in
            and_right (op.item == other.item) (op.number == other.number) (ne_eqb op.number other.number (λ same. omega (arith, same, here, settled-done g op, number)))
        | inr elsewhere ↦ and_left (op.item == other.item) (op.number == other.number) (ne_eqb op.item other.item elsewhere)
      ] in
      record {
        op = other;
        last = next.last;
        past = omega (arith, next.past, settled-with g (Done op ∷ []) other.item);
        may = ap (λ (b : Bool). if b then are_back left es else may_go_back left es other) apart ∙ next.may;
      }

  done-next : (g : History) (op : Op) (es : List Entry) → is_legal p plan g ≡ true → may_follow p plan g (Done op ∷ es) ≡ true → IsLow (with_entries g (Done op ∷ [])) → IsLow g ⊎ GoesNext g (Done op ∷ es)
  done-next g op es legal follows low =
      let may = and_parts (may_end g op) (may_follow p plan (with_entries g (Done op ∷ [])) es) follows in
      let number = (ends g op may.0).number in
      elim (cases_lt (settled g op.item) (left op.item)) as (λ _. IsLow g ⊎ GoesNext g (Done op ∷ es)) [
        | inl more ↦
            let own : ((op.item == op.item) && (op.number == op.number)) ≡ true = and_from (op.item == op.item) (op.number == op.number) (eq-eqb op.item op.item refl) (eq-eqb op.number op.number refl) in
            let back = low-back (with_entries g (Done op ∷ [])) es (then-legal p plan g (Done op) legal may.0) may.1 low in
            inr (record {
              op = op;
              last = omega (arith, more, low op.item, settled-done g op, number);
              past = omega (arith, number);
              may = ap (λ (b : Bool). if b then are_back left es else may_go_back left es op) own ∙ back;
            })
        | inr few ↦ inl (λ n. elim (cases_eq op.item n) as (λ _. left n ≤ settled g n) [
          | inl e ↦ subst (λ (m : ℕ). left m ≤ settled g m) e few
          | inr other ↦ omega (arith, low n, settled-done_other g op n other)
        ])
      ]

  low-or_next : (g : History) (es : List Entry) → is_legal p plan g ≡ true → may_follow p plan g es ≡ true → IsLow (with_entries g es) → IsLow g ⊎ GoesNext g es
  low-or_next g [] legal follows low = inl (subst IsLow (with_none g) low)
  low-or_next g (Begin op ∷ es) legal follows low =
      let may = and_parts (may_begin p plan g op) (may_follow p plan (with_entries g (Begin op ∷ [])) es) follows in
      elim (low-or_next (with_entries g (Begin op ∷ [])) es (then-legal p plan g (Begin op) legal may.0) may.1 (subst IsLow (sym (with_both g (Begin op ∷ []) es)) low)) as (λ _. IsLow g ⊎ GoesNext g (Begin op ∷ es)) [
        | inl before ↦ inl (λ n. omega (arith, before n, settled-begin g op n))
        | inr next ↦ inr (record { op = next.op; last = next.last; past = omega (arith, next.past, settled-begin g op next.op.item); may = next.may })
      ]
  low-or_next g (Done op ∷ es) legal follows low =
      let may = and_parts (may_end g op) (may_follow p plan (with_entries g (Done op ∷ [])) es) follows in
      elim (low-or_next (with_entries g (Done op ∷ [])) es (then-legal p plan g (Done op) legal may.0) may.1 (subst IsLow (sym (with_both g (Done op ∷ []) es)) low)) as (λ _. IsLow g ⊎ GoesNext g (Done op ∷ es)) [
        | inl before ↦ done-next g op es legal follows before
        | inr next ↦ inr (next-behind g op es may.0 next)
      ]

  pub one-may_go_back : (h : History) → is_legal p plan h ≡ true → IsLow h → (n : ℕ) → slice_index h.start n < left n → SomeGoesBack h left
  one-may_go_back h legal low n some =
      elim (low-or_next (started h.start) h.entries (started_is_legal p plan h.start (legal_is_sound p plan h legal)) (legal_follows p plan h legal) low) as (λ _. SomeGoesBack h left) [
        | inl none ↦ absurd (omega (arith, none n, some))
        | inr next ↦ record { op = next.op; last = next.last; past = omega (arith, next.past); may = next.may }
      ]
