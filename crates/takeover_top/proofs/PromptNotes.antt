-- What is noted of items that a switch was asked about which answers each question.
use Rattle.std.proofs.Common.{◌≡◌, ◌⊎◌, ℕ, zero, suc, ◌<◌, ◌≤◌, Bool, true, false, not, cond, List, [], ◌∷◌, ◌++◌, map, length, length-set, get_or, set, Option, Some, None, is_some, inl, inr, refl, sym, ap, ap₂, ◌∙◌, subst, arith, append_assoc, append-nil, length-append}
use Rattle.std.specs.Prelude.{⊤, IfSome}
use Rattle.std.proofs.lemmas.Bool.{cases_Bool, cases_eq, cases_lt, false≢true}
use Rattle.std.proofs.lemmas.List.{get_or-set_other, get_or-set_same, length-map, map-append}
use Rattle.std.proofs.lemmas.List.Elements.{All-head, All-tail}
use Rattle.std.proofs.lemmas.Option.{slice_get_past}
use Rattle.std.specs.List.{All, Contains}
use Rattle.lists.proofs.Rows.{none_of_length_0}
use Rattle.rollout_rules.specs.declared.held.Held.{Held}
use Rattle.wan_edge.specs.Frames.{AnswerFrame}
use Rattle.wan_edge.specs.Switches.{Holdings, pair_given}
use Rattle.wire_frames.proofs.OneSpelling.{same_parts}
use Rattle.controller_run.proofs.Elements.{inside-later}
use Rattle.held_service.specs.Noting.{Notes, held_in, is_untold, noted_at, untold, with_answer, with_answers}
use Rattle.held_service.specs.Talks.{AskUntold, Round, answers_of, asked_of}
use Rattle.held_service.proofs.Noted.{length-with}
use Rattle.takeover_top.proofs.PromptReplies.{reply}

read-note : (notes : Notes) (n : ℕ) → noted_at notes n ≡ get_or notes n None
read-note [] n = refl
read-note (x ∷ notes) zero = refl
read-note (x ∷ notes) (suc n) = read-note notes n

-- ---- one answer

module _ (notes : Notes) (a : AnswerFrame) (n : ℕ) where
  pub note-same : a.1.item ≡ n → n < length notes → noted_at (with_answer notes a) n ≡ Some (pair_given a)
  note-same same inside =
      read-note (with_answer notes a) n ∙ ap (λ (i : ℕ). get_or (set notes i (Some (pair_given a))) n None) same ∙ get_or-set_same notes n (Some (pair_given a)) None inside

  note-other : (a.1.item ≡ n → ⊥) → noted_at (with_answer notes a) n ≡ noted_at notes n
  note-other other = read-note (with_answer notes a) n ∙ get_or-set_other notes a.1.item n (Some (pair_given a)) None (λ same. other (sym same)) ∙ sym (read-note notes n)

  note-past : length notes ≤ n → noted_at (with_answer notes a) n ≡ None
  note-past past = ap held_in (slice_get_past (with_answer notes a) n (omega (arith, past, length-set notes a.1.item (Some (pair_given a)))))

  past-none : length notes ≤ n → noted_at notes n ≡ None
  past-none past = ap held_in (slice_get_past notes n past)

-- ---- what was told is told still

none-told : (o : Option Held) → o ≡ None → is_some o ≡ true → ⊥
none-told o none some = false≢true (sym (ap is_some none) ∙ some)

told-one : (notes : Notes) (a : AnswerFrame) (n : ℕ) → is_some (noted_at notes n) ≡ true → is_some (noted_at (with_answer notes a) n) ≡ true
told-one notes a n told = elim (cases_eq a.1.item n) [
  | inl same ↦ elim (cases_lt n (length notes)) [
    | inl inside ↦ ap is_some (note-same notes a n same inside)
    | inr past ↦ absurd (none-told (noted_at notes n) (past-none notes a n past) told)
  ]
  | inr other ↦ ap is_some (note-other notes a n other) ∙ told
]

pub told-still : (notes : Notes) (answers : List AnswerFrame) (n : ℕ) → is_some (noted_at notes n) ≡ true → is_some (noted_at (with_answers notes answers) n) ≡ true
told-still notes [] n told = told
told-still notes (a ∷ answers) n told = told-still (with_answer notes a) answers n (told-one notes a n told)

-- an item that was replied about is told
told-by : (holdings : Holdings) (notes : Notes) (asked : List ℕ) (n : ℕ) → Contains asked n → n < length notes → is_some (noted_at (with_answers notes (map (reply holdings) asked)) n) ≡ true
told-by holdings notes [] n at inside = absurd (omega (arith, at.1))
told-by holdings notes (m ∷ asked) n (zero, there, is) inside =
    told-still (with_answer notes (reply holdings m)) (map (reply holdings) asked) n (ap is_some (note-same notes (reply holdings m) n is inside))
told-by holdings notes (m ∷ asked) n (suc k, there, is) inside =
    told-by holdings (with_answer notes (reply holdings m)) asked n (k, omega (arith, there), is) (omega (arith, inside, length-with notes (reply holdings m ∷ [])))

-- ---- what isn't told

untold-none : (notes : Notes) (items : List ℕ) → ((n : ℕ) → Contains items n → is_some (noted_at notes n) ≡ true) → untold notes items ≡ []
untold-none notes [] all = refl
untold-none notes (n ∷ items) all =
    ap (λ (b : Bool). cond (not b) (n ∷ untold notes items) (untold notes items)) (all n (0, omega arith, refl)) ∙ untold-none notes items (λ m at. all m (inside-later n m items at))

untold-first : (notes : Notes) (m : ℕ) (items : List ℕ) (told : Bool) → is_some (noted_at notes m) ≡ told → untold notes (m ∷ items) ≡ cond (not told) (m ∷ untold notes items) (untold notes items)
untold-first notes m items told is = ap (λ (b : Bool). cond (not b) (m ∷ untold notes items) (untold notes items)) is

in-untold : (notes : Notes) (items : List ℕ) (n : ℕ) → Contains items n → is_some (noted_at notes n) ≡ false → Contains (untold notes items) n
in-untold notes [] n at none = absurd (omega (arith, at.1))
in-untold notes (m ∷ items) n (zero, there, is) none =
    subst (λ (xs : List ℕ). Contains xs n) (sym (untold-first notes m items false (ap (λ (k : ℕ). is_some (noted_at notes k)) is ∙ none))) (0, omega arith, is)
in-untold notes (m ∷ items) n (suc k, there, is) none =
    let later = in-untold notes items n (k, omega (arith, there), is) none in
    elim (cases_Bool (is_some (noted_at notes m))) [
      | inl told ↦ subst (λ (xs : List ℕ). Contains xs n) (sym (untold-first notes m items true told)) later
      | inr not_told ↦ subst (λ (xs : List ℕ). Contains xs n) (sym (untold-first notes m items false not_told)) (inside-later m n (untold notes items) later)
    ]

-- what is told of all of some items is told of each
pub each-told : (notes : Notes) (items : List ℕ) (n : ℕ) → untold notes items ≡ [] → Contains items n → is_some (noted_at notes n) ≡ true
each-told notes items n none at = elim (cases_Bool (is_some (noted_at notes n))) as (λ _. is_some (noted_at notes n) ≡ true) [
  | inl told ↦ told
  | inr not_told ↦ absurd (let found = subst (λ (xs : List ℕ). Contains xs n) none (in-untold notes items n at not_told) in omega (arith, found.1))
]

-- ---- rounds

-- the first of the rounds was answered as often as was asked
abbrev pub IsFull : List Round → Type 0
IsFull [] = ⊤
IsFull (r ∷ rounds) = length r.asked ≤ length r.answers

-- where all is told nothing more is asked
none-more : (items : List ℕ) (notes : Notes) (rounds : List Round) → untold notes items ≡ [] → AskUntold items notes rounds → (asked_of rounds ≡ []) × (answers_of rounds ≡ [])
none-more items notes [] none asks = (refl, refl)
none-more items notes (r ∷ rounds) none asks =
    let asked : r.asked ≡ [] = asks.0 ∙ none in
    let answers : r.answers ≡ [] = none_of_length_0 r.answers (omega (arith, asks.1, ap length asked)) in
    let rest = none-more items (with_answers notes r.answers) rounds (ap (λ (told : List AnswerFrame). untold (with_answers notes told) items) answers ∙ none) asks.2 in
    (ap₂ (λ (xs ys : List ℕ). xs ++ ys) asked rest.0, ap₂ (λ (xs ys : List AnswerFrame). xs ++ ys) answers rest.1)

module _ (holdings : Holdings) (items : List ℕ) (notes : Notes) (inside : (n : ℕ) → Contains items n → n < length notes) where
  all-told : untold (with_answers notes (map (reply holdings) (untold notes items))) items ≡ []
  all-told = untold-none (with_answers notes (map (reply holdings) (untold notes items))) items (λ n at. elim (cases_Bool (is_some (noted_at notes n))) [
    | inl told ↦ told-still notes (map (reply holdings) (untold notes items)) n told
    | inr not_told ↦ told-by holdings notes (untold notes items) n (in-untold notes items n at not_told) (inside n at)
  ])

  -- as many answers came as were asked for, and all is told after the first round
  pub whole-told : (rounds : List Round) → AskUntold items notes rounds → IsFull rounds → (later : List AnswerFrame) → map (reply holdings) (asked_of rounds) ≡ answers_of rounds ++ later
      → (length (asked_of rounds) ≤ length (answers_of rounds)) × (0 < length rounds → untold (with_answers notes (answers_of rounds)) items ≡ [])
  whole-told [] asks full later is = (omega arith, λ some. absurd (omega (arith, some)))
  whole-told (r ∷ rounds) asks full later is =
      let parts : map (reply holdings) r.asked ++ map (reply holdings) (asked_of rounds) ≡ r.answers ++ (answers_of rounds ++ later)
      = sym (map-append (reply holdings) r.asked (asked_of rounds)) ∙ is ∙ append_assoc r.answers (answers_of rounds) later in
      let first : map (reply holdings) r.asked ≡ r.answers
      = (same_parts (map (reply holdings) r.asked) r.answers (map (reply holdings) (asked_of rounds)) (answers_of rounds ++ later) (omega (arith, length-map r.asked (reply holdings), full, asks.1)) parts).0 in
      let told : untold (with_answers notes r.answers) items ≡ []
      = subst (λ (told : List AnswerFrame). untold (with_answers notes told) items ≡ []) (ap (map (reply holdings)) (sym asks.0) ∙ first) all-told in
      let none = none-more items (with_answers notes r.answers) rounds told asks.2 in (
        omega (arith, length-append r.asked (asked_of rounds), length-append r.answers (answers_of rounds), full, ap length none.0, ap length none.1),
        λ some. ap (λ (told : List AnswerFrame). untold (with_answers notes (r.answers ++ told)) items) none.1
            ∙ ap (λ (told : List AnswerFrame). untold (with_answers notes told) items) (append-nil r.answers) ∙ told,
      )

-- ---- what is noted is right

module _ (Right : ℕ → Held → Type 0) where
  abbrev pub AreRight : Notes → Type 0
  AreRight notes = (n : ℕ) → IfSome (noted_at notes n) (Right n)

  right-one : (notes : Notes) (a : AnswerFrame) → AreRight notes → Right a.1.item (pair_given a) → AreRight (with_answer notes a)
  right-one notes a right own n = elim (cases_eq a.1.item n) [
    | inl same ↦ elim (cases_lt n (length notes)) [
      | inl inside ↦ subst (λ (o : Option Held). IfSome o (Right n)) (sym (note-same notes a n same inside)) (subst (λ (i : ℕ). Right i (pair_given a)) same own)
      | inr past ↦ subst (λ (o : Option Held). IfSome o (Right n)) (sym (note-past notes a n past)) tt
    ]
    | inr other ↦ subst (λ (o : Option Held). IfSome o (Right n)) (sym (note-other notes a n other)) (right n)
  ]

  pub right-all : (notes : Notes) (answers : List AnswerFrame) → AreRight notes → All (λ a. Right a.1.item (pair_given a)) answers → AreRight (with_answers notes answers)
  right-all notes [] right own = right
  right-all notes (a ∷ answers) right own =
      right-all (with_answer notes a) answers (right-one notes a right (All-head (λ b. Right b.1.item (pair_given b)) a answers own)) (All-tail (λ b. Right b.1.item (pair_given b)) a answers own)
