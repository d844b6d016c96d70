-- What a gate's word says, crossing by crossing.
use Rattle.std.proofs.Common.{◌≡◌, ℕ, ◌==◌, nat_eq, append_assoc, Bool, true, false, not, List, [], ◌∷◌, ◌++◌, refl, sym, ap, ap₂, subst, ◌∙◌, arith, inl, length, ◌<◌, Option, None}
use Rattle.std.specs.Prelude.{◌||◌, ◌&&◌}
use Rattle.std.proofs.lemmas.List.{append-nil}
use Rattle.std.proofs.lemmas.Bool.Decides.{nat_tests}
use mathlib.Core.List.{IsPrefix}
use prog.Atomic.{either}
use Rattle.logbook.specs.Pages.{Cell, Nib, cell, keeps, no_nib, step, Moves, Goes}
use Rattle.lists.proofs.Conditions.{or_false_parts}
use Rattle.lossy_link.specs.declared.gate.crossing.Crossing.{Crossing}
use Rattle.lossy_link.specs.Gates.{Inside, IsGate, Crosses, after_crossing, after_crossings, after_word, are_both, half_word, have_met, inside_at, is_inside, meet_in, nobody, word_by, word_of}

after_last : (i : Inside) (cs : List Crossing) (c : Crossing) → after_crossings i (cs ++ c ∷ []) ≡ after_crossing (after_crossings i cs) c
after_last i [] c = refl
after_last i (d ∷ cs) c = after_last (after_crossing i d) cs c

or_assoc : (a b c : Bool) → (a || (b || c)) ≡ ((a || b) || c)
or_assoc true b c = refl
or_assoc false b c = refl

meet_last : (i : Inside) (cs : List Crossing) (c : Crossing) → meet_in i (cs ++ c ∷ []) ≡ (meet_in i cs || are_both (after_crossing (after_crossings i cs) c))
meet_last i [] c = refl
meet_last i (d ∷ cs) c = ap (λ (b : Bool). are_both i || b) (meet_last (after_crossing i d) cs c) ∙ or_assoc (are_both i) (meet_in (after_crossing i d) cs) (are_both (after_crossing (after_crossings (after_crossing i d) cs) c))

-- as long as they have not met, both are not inside
not_both : (i : Inside) (cs : List Crossing) → meet_in i cs ≡ false → are_both (after_crossings i cs) ≡ false
not_both i [] e = e
not_both i (c ∷ cs) e = not_both (after_crossing i c) cs (or_false_parts (are_both i) (meet_in (after_crossing i c) cs) e).1

-- by cases: who is inside, and who crosses
crosses_so : (met first second by enters : Bool) → (met ≡ false → (first && second) ≡ false)
    → (let i : Inside = record { first = first; second = second } in
    let c : Crossing = record { second = by; enters = enters } in
    word_by (met || are_both (after_crossing i c)) (after_crossing i c) ≡ after_word (word_by met i) c)
crosses_so true first second true true alone = refl
crosses_so true first second false true alone = refl
crosses_so true first second true false alone = refl
crosses_so true first second false false alone = refl
crosses_so false true true by enters alone = absurd (cc (alone refl))
crosses_so false true false true true alone = refl
crosses_so false true false true false alone = refl
crosses_so false true false false true alone = refl
crosses_so false true false false false alone = refl
crosses_so false false true true true alone = refl
crosses_so false false true true false alone = refl
crosses_so false false true false true alone = refl
crosses_so false false true false false alone = refl
crosses_so false false false true true alone = refl
crosses_so false false false true false alone = refl
crosses_so false false false false true alone = refl
crosses_so false false false false false alone = refl

pub word_last : (cs : List Crossing) (c : Crossing) → word_of (cs ++ c ∷ []) ≡ after_word (word_of cs) c
word_last cs c =
    ap₂ word_by (meet_last nobody cs c) (after_last nobody cs c)
    ∙ crosses_so (have_met cs) (inside_at cs).first (inside_at cs).second c.second c.enters (not_both nobody cs)

abbrev pub shown : List Crossing → List Crossing
shown cs = []

abbrev pub moved : List Crossing → List Crossing → ℕ → Type 0
moved before after answer = Unit {0}

cross_goes : (cs seen : List Crossing) (c : Crossing) (old new : ℕ) → after_word old c ≡ new → (b : Bool) → (word_of cs == old) ≡ b
    → Goes IsGate shown moved 0 (seen, (no_nib, None)) (λ n. either (n == old) new n) (Crosses (step 0 old new c) (seen, (no_nib, None))) ((word_of cs, true) ∷ (0, true) ∷ []) cs
cross_goes cs seen c old new goes true is =
    let here : word_of cs ≡ old = grind (arith, nat_tests) in
    let last : word_of (cs ++ c ∷ []) ≡ new = word_last cs c ∙ ap (λ (n : ℕ). after_word n c) here ∙ goes in (
      keeps,
      c ∷ [],
      None,
      tt,
      rw is (ap (λ (n : ℕ). (n, true) ∷ (0, true) ∷ []) (sym last)),
      inl (refl, refl),
      rw is last,
    )
cross_goes cs seen c old new goes false is =
    let same : word_of (cs ++ []) ≡ word_of cs = ap word_of (append-nil cs) in (
      keeps,
      [],
      None,
      tt,
      rw is (ap (λ (n : ℕ). (n, true) ∷ (0, true) ∷ []) (sym same)),
      inl (refl, refl),
      rw is same,
    )

-- whatever the crossings are, the half crosses where the word is the one expected
pub cross_moves : (seen : List Crossing) (c : Crossing) (old new : ℕ) → after_word old c ≡ new
    → Moves IsGate shown moved 0 (seen, (no_nib, None)) (λ n. either (n == old) new n) (Crosses (step 0 old new c) (seen, (no_nib, None)))
cross_moves seen c old new goes cells cs is_gate pre away =
    let P : List Cell → Type 0 = λ c'. (0 < length c') × ((cell c' 0).1 ≡ true) × Goes IsGate shown moved 0 (seen, (no_nib, None)) (λ n. either (n == old) new n) (Crosses (step 0 old new c) (seen, (no_nib, None))) c' cs in
    subst P (sym is_gate) (omega arith, refl, cross_goes cs seen c old new goes (word_of cs == old) refl)

pub cross_moves_as : (seen : List Crossing) (c ask : Crossing) (key old new : ℕ) (pen : Nib) (state : Option ℕ) → key ≡ 0 → pen ≡ no_nib → state ≡ None → after_word old c ≡ new
    → Moves IsGate shown moved key (seen, (pen, state)) (λ n. either (n == old) new n) (Crosses (step key old new ask) (seen, (pen, state)))
cross_moves_as seen c ask key old new pen state key_is pen_is state_is goes = rw (key_is, pen_is, state_is) (cross_moves seen c old new goes)

-- by cases: whom the word finds inside
alone_so : (met first second by : Bool) → (met ≡ false → (first && second) ≡ false)
    → (let i : Inside = record { first = first; second = second } in
    nat_eq (word_by met i) 3 ≡ false → nat_eq (word_by met i) (half_word (not by)) ≡ false → is_inside (not by) i ≡ false)
alone_so true first second by apart shut other = absurd (cc shut)
alone_so false true true by apart shut other = absurd (cc (apart refl))
alone_so false true false true apart shut other = absurd (cc other)
alone_so false true false false apart shut other = refl
alone_so false false true true apart shut other = refl
alone_so false false true false apart shut other = absurd (cc other)
alone_so false false false true apart shut other = refl
alone_so false false false false apart shut other = refl

pub unequal : (m n : ℕ) → (m ≡ n → ⊥) → nat_eq m n ≡ false
unequal m n other = grind (arith, nat_tests)

-- where the word is neither that of an open gate nor that of the other half, the other is not inside
pub alone : (cs : List Crossing) (second : Bool) (word : ℕ) → word_of cs ≡ word → (word ≡ half_word (not second) → ⊥) → nat_eq word 3 ≡ false → is_inside (not second) (inside_at cs) ≡ false
alone cs second word word_is other shut =
    alone_so (have_met cs) (inside_at cs).first (inside_at cs).second second (not_both nobody cs)
    (ap (λ (n : ℕ). nat_eq n 3) word_is ∙ shut) (ap (λ (n : ℕ). nat_eq n (half_word (not second))) word_is ∙ unequal word (half_word (not second)) other)

pub on_and_on : (xs ys zs : List Crossing) → IsPrefix xs ys → IsPrefix ys zs → IsPrefix xs zs
on_and_on xs ys zs p q = (p.0 ++ q.0, sym (append_assoc xs p.0 q.0) ∙ (ap (λ (w : List Crossing). w ++ q.0) p.1 ∙ q.1))

pub none_on : (xs : List Crossing) → IsPrefix xs xs
none_on xs = ([], append-nil xs)
