-- Marks of the items in a row.
use Rattle.std.proofs.Common.{◌≡◌, ℕ, ◌+◌, ◌<◌, ◌≤◌, Bool, true, false, ◌==◌, nat_lt, List, [], ◌∷◌, ◌++◌, length, drop, get_or, set, replicate, All, refl, inl, inr, sym, ap, ◌∙◌, arith, eq-eqb, get_or-set_same, get_or-set_other}
use Rattle.std.proofs.Math.ListN.{length-set}
use Rattle.std.proofs.lemmas.Bool.{cases_lt, cases_eq, ne_eqb}
use Rattle.std.proofs.lemmas.List.{get_or_past, get_or-replicate, length-replicate, drop_more, drop_all}
use Rattle.std.proofs.lemmas.List.Elements.{All-from_recursion}
use Rattle.update_scheduler.specs.Rows.{bit, times, HasSame, AreMarks}
use Rattle.update_scheduler.proofs.Rows.{times-append, inside, fewer}

pub bit-most : (b : Bool) → bit b ≤ 1
bit-most true = omega arith
bit-most false = omega arith

-- whether an item is in the row
pub marked-has : (b : Bool) (k : ℕ) → k ≡ bit b → b ≡ nat_lt 0 k
marked-has true k is = ap (nat_lt 0) (sym is)
marked-has false k is = ap (nat_lt 0) (sym is)

pub no-marks : (n room : ℕ) → n ≤ room → AreMarks (replicate n false) [] room
no-marks n room le = record {
  each = λ k. sym (ap bit (elim (cases_lt k n) as (λ c. get_or (replicate n false) k false ≡ false) [
    | inl lt ↦ get_or-replicate n k false false lt
    | inr past ↦ get_or_past (replicate n false) k false (omega (arith, length-replicate n false))
  ]));
  enough = omega (arith, length-replicate n false);
}

module _ (marks : List Bool) (row : List ℕ) (room : ℕ) (are : AreMarks marks row room) where
  once : (n : ℕ) → times n row ≤ 1
  once n = omega (arith, are.each n, bit-most (get_or marks n false))

  pub all-inside : All (λ n. n < length marks) row
  all-inside = All-from_recursion (λ n. n < length marks) row (inside (length marks) row (λ n le. are.each n ∙ ap bit (get_or_past marks n false le)))

  module _ (item : ℕ) (lt : item < length marks) (new : times item row ≡ 0) where
    pub add-room : length row < room
    add-room = omega (arith, are.enough, fewer (length marks) item row (inside (length marks) row (λ n le. are.each n ∙ ap bit (get_or_past marks n false le))) once lt new)

    pub add-marks : AreMarks (set marks item true) (row ++ item ∷ []) room
    add-marks = record {
      each = λ n. times-append n row (item ∷ []) ∙ (elim (cases_eq item n) as (λ c. times n row + (bit (item == n) + 0) ≡ bit (get_or (set marks item true) n false)) [
        | inl is ↦
            let here : bit (item == n) ≡ 1 = ap bit (eq-eqb item n is) in
            let mark : get_or (set marks item true) n false ≡ true = ap (λ k. get_or (set marks item true) k false) (sym is) ∙ get_or-set_same marks item true false lt in
            let none : times n row ≡ 0 = ap (λ k. times k row) (sym is) ∙ new in
            omega (arith, here, none, ap bit mark)
        | inr apart ↦
            let there : bit (item == n) ≡ 0 = ap bit (ne_eqb item n apart) in
            omega (arith, there, are.each n, ap bit (get_or-set_other marks item n true false (λ e. apart (sym e))))
      ]);
      enough = omega (arith, are.enough, length-set marks item true);
    }

-- the same marks serve a row with the same items
pub same-marks : (marks : List Bool) (row new : List ℕ) (room : ℕ) → AreMarks marks row room → HasSame new row → AreMarks marks new room
same-marks marks row new room are same = record { each = λ n. same n ∙ are.each n; enough = are.enough }

-- ---- taking the marks away: what is left of the row has them
abbrev pub AreLeft : List Bool → List ℕ → ℕ → Type 0
AreLeft marks row k = (n : ℕ) → times n (drop k row) ≡ bit (get_or marks n false)

left-here : (marks : List Bool) (row : List ℕ) (k d : ℕ) → k < length row → AreLeft marks row k → (n : ℕ) → bit (get_or row k d == n) + times n (drop (k + 1) row) ≡ bit (get_or marks n false)
left-here marks row k d lt left n = sym (ap (times n) (drop_more row k d lt)) ∙ left n

pub left-inside : (marks : List Bool) (row : List ℕ) (k d : ℕ) → k < length row → AreLeft marks row k → get_or row k d < length marks
left-inside marks row k d lt left = elim (cases_lt (get_or row k d) (length marks)) as (λ c. get_or row k d < length marks) [
  | inl low ↦ low
  | inr past ↦
      let n = get_or row k d in
      absurd (omega (arith, left-here marks row k d lt left n, ap bit (eq-eqb n n refl), ap bit (get_or_past marks n false past)))
]

pub left-more : (marks : List Bool) (row : List ℕ) (k d : ℕ) → k < length row → AreLeft marks row k → AreLeft (set marks (get_or row k d) false) row (k + 1)
left-more marks row k d lt left n =
    let item = get_or row k d in
    elim (cases_eq item n) as (λ c. times n (drop (k + 1) row) ≡ bit (get_or (set marks item false) n false)) [
      | inl is ↦
          let gone : get_or (set marks item false) n false ≡ false = ap (λ j. get_or (set marks item false) j false) (sym is) ∙ get_or-set_same marks item false false (left-inside marks row k d lt left) in
          omega (arith, left-here marks row k d lt left n, ap bit (eq-eqb item n is), bit-most (get_or marks n false), ap bit gone)
      | inr apart ↦ omega (arith, left-here marks row k d lt left n, ap bit (ne_eqb item n apart), ap bit (get_or-set_other marks item n false false (λ e. apart (sym e))))
    ]

pub none-left : (marks : List Bool) (row : List ℕ) (k : ℕ) → length row ≤ k → AreLeft marks row k → (n : ℕ) → get_or marks n false ≡ false
none-left marks row k past left n = unmarked (get_or marks n false) (sym (left n) ∙ ap (times n) (drop_all k row past))
  where
    unmarked : (b : Bool) → bit b ≡ 0 → b ≡ false
    unmarked true e = absurd (omega (arith, e))
    unmarked false e = refl

pub cleared : (marks old : List Bool) (row : List ℕ) (room : ℕ) → ((n : ℕ) → get_or marks n false ≡ false) → length marks ≡ length old → AreMarks old row room → AreMarks marks [] room
cleared marks old row room none same are = record { each = λ n. sym (ap bit (none n)); enough = omega (arith, same, are.enough) }
