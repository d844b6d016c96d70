-- Dictionaries of a linear program and the exchanges between them, by Bland's rule of the least index.
-- The numbers of a program are its unknowns and then one slack a row: the bound less the row times the unknowns.
use Rattle.std.specs.Prelude.{◌≡◌, ℕ, zero, suc, ◌+◌, ◌-◌, Bool, true, false, ◌&&◌, ◌==◌, nat_lt, List, [], ◌∷◌, ◌++◌, map, length, take, slice_get, slice_set, position, All, Option, Some, None, if◌then◌else◌}
use Rattle.std.specs.Option.{option_and_then}
use Rattle.fraction_lp.specs.declared.term.Term.{Term}
use Rattle.fraction_lp.specs.declared.answer.LpAnswer.{LpAnswer}
use Rattle.fraction_lp.specs.declared.answer.LpAnswer.TheVariants.{Point, Infeasible, Overflow, Spent, Memory}
use Rattle.fraction_lp.specs.Ratio.{Ratio, zero_ratio, one_ratio, negated, is_zero, is_below_zero, is_above_zero, plus, times, over}

-- a row: its coefficients, and what they times the unknowns may be at most
pub record Row : Type 0 where
  pub coefficients : List Ratio
  pub bound : Ratio

-- a program: how many unknowns, and the rows, each of which times the unknowns is at most its bound
pub record Program : Type 0 where
  pub unknowns : ℕ
  pub rows : List Row

-- each row has a coefficient for each unknown
abbrev pub HasWholeRows : ℕ → List Row → Type 0
HasWholeRows unknowns rows = All (λ row. length row.coefficients ≡ unknowns) rows

abbrev pub IsWhole : Program → Type 0
IsWhole p = HasWholeRows p.unknowns p.rows

-- what a basic number is: a constant and a coefficient times each number that isn't basic, in the order of
-- the numbers; a number without a term has coefficient 0
pub record Line : Type 0 where
  pub constant : Ratio
  pub terms : List Term

-- by number: the line of each basic number
abbrev pub Dictionary : Type 0
Dictionary = List (Option Line)

-- ---- numbers that may not fit

abbrev pub with_first : {A : Type 0} → Option A → Option (List A) → Option (List A)
with_first None xs = None
with_first (Some x) None = None
with_first (Some x) (Some xs) = Some (x ∷ xs)

abbrev pub term_of : ℕ → Option Ratio → Option Term
term_of k None = None
term_of k (Some x) = Some (record { number = k; coefficient = x })

-- a term in front, where its coefficient is not 0
abbrev pub with_term : ℕ → Option Ratio → Option (List Term) → Option (List Term)
with_term k None terms = None
with_term k (Some x) None = None
with_term k (Some x) (Some terms) = Some (if is_zero x then terms else record { number = k; coefficient = x } ∷ terms)

abbrev pub line_of : Option Ratio → Option (List Term) → Option Line
line_of None terms = None
line_of (Some x) None = None
line_of (Some x) (Some terms) = Some (record { constant = x; terms = terms })

abbrev pub both_lists : {A : Type 0} → Option (List A) → Option (List A) → Option (List A)
both_lists None ys = None
both_lists (Some xs) None = None
both_lists (Some xs) (Some ys) = Some (xs ++ ys)

-- ---- the first dictionary: every slack is basic

-- a row's coefficients negated, from a number on, without those that are 0
abbrev pub negated_terms : ℕ → List Ratio → List Term
negated_terms k [] = []
negated_terms k (x ∷ xs) =
    if is_zero x
    then negated_terms (k + 1) xs
    else record { number = k; coefficient = negated x } ∷ negated_terms (k + 1) xs

-- so many coefficients from a number on, of which these are the terms negated; one without a term is 0
abbrev pub coefficients_of : ℕ → ℕ → List Term → List Ratio
coefficients_of k zero ts = []
coefficients_of k (suc n) [] = zero_ratio ∷ coefficients_of (k + 1) n []
coefficients_of k (suc n) (t ∷ ts) =
    if t.number == k
    then negated t.coefficient ∷ coefficients_of (k + 1) n ts
    else zero_ratio ∷ coefficients_of (k + 1) n (t ∷ ts)

abbrev pub slack_line : Row → Option Line
slack_line row = Some (record { constant = row.bound; terms = negated_terms 0 row.coefficients })

abbrev pub no_lines : ℕ → Dictionary
no_lines zero = []
no_lines (suc n) = no_lines n ++ None ∷ []

abbrev pub first_dictionary : Program → Dictionary
first_dictionary p = no_lines p.unknowns ++ map slack_line p.rows

-- ---- Bland's rule

abbrev pub is_lacking : Option Line → Bool
is_lacking None = false
is_lacking (Some line) = is_below_zero line.constant

-- the first basic number with a negative constant
abbrev pub leaving : Dictionary → Option ℕ
leaving d = position is_lacking d

-- the first number with a positive coefficient in a line, as its term
abbrev pub entering : List Term → Option Term
entering [] = None
entering (t ∷ ts) = if is_above_zero t.coefficient then Some t else entering ts

-- ---- an exchange

-- a number's coefficient in a line, where it has a term
abbrev pub coefficient_at : ℕ → List Term → Option Ratio
coefficient_at k [] = None
coefficient_at k (t ∷ ts) = if t.number == k then Some t.coefficient else coefficient_at k ts

abbrev pub without : ℕ → List Term → List Term
without k [] = []
without k (t ∷ ts) = if t.number == k then ts else t ∷ without k ts

-- the terms before a number, and those from it on
abbrev pub below : ℕ → List Term → List Term
below k [] = []
below k (t ∷ ts) = if nat_lt t.number k then t ∷ below k ts else []

abbrev pub from : ℕ → List Term → List Term
from k [] = []
from k (t ∷ ts) = if nat_lt t.number k then from k ts else t ∷ ts

-- a term in its place
abbrev pub insert_term : Term → List Term → List Term
insert_term u ts = below u.number ts ++ u ∷ from u.number ts

-- each coefficient negated and put over p
abbrev pub over_each : Ratio → List Term → Option (List Term)
over_each p [] = Some []
over_each p (t ∷ ts) = with_first (term_of t.number (over (negated t.coefficient) p)) (over_each p ts)

-- the line of b solved for the number c that has coefficient p in it
abbrev pub solved_for : ℕ → ℕ → Ratio → Line → Option Line
solved_for b c p line =
    line_of (over (negated line.constant) p)
    (over_each p (insert_term (record { number = b; coefficient = negated one_ratio }) (without c line.terms)))

-- t times each term
abbrev pub times_each : Ratio → List Term → Option (List Term)
times_each t [] = Some []
times_each t (u ∷ us) = with_term u.number (times t u.coefficient) (times_each t us)

abbrev pub plus_times : Ratio → Ratio → Ratio → Option Ratio
plus_times x t y = option_and_then (plus x) (times t y)

-- a term to which t times the first of others is added where it has the same number; what is made of the rest is known
abbrev pub add_first : Ratio → Term → (List Term → Option (List Term)) → List Term → Option (List Term)
add_first t x behind [] = with_first (Some x) (behind [])
add_first t x behind (u ∷ us) =
    if u.number == x.number
    then with_term x.number (plus_times x.coefficient t u.coefficient) (behind us)
    else with_first (Some x) (behind (u ∷ us))

-- terms to which t times each of others is added, by number
abbrev pub add_times : Ratio → List Term → List Term → Option (List Term)
add_times t [] us = times_each t us
add_times t (x ∷ xs) us = both_lists (times_each t (below x.number us)) (add_first t x (add_times t xs) (from x.number us))

-- a line with c's line put in for c, which has coefficient t in it
abbrev pub put_in : Line → ℕ → Line → Ratio → Option Line
put_in solved c line t =
    line_of (plus_times line.constant t solved.constant) (add_times t (without c line.terms) solved.terms)

-- the same, where c may have no term
abbrev pub put_in_where : Line → ℕ → Line → Option Ratio → Option Line
put_in_where solved c line None = Some line
put_in_where solved c line (Some t) = put_in solved c line t

abbrev pub slot_of : Option Line → Option (Option Line)
slot_of None = None
slot_of (Some line) = Some (Some line)

-- c's line put in for c in every line
abbrev pub put_in_each : Line → ℕ → Dictionary → Option Dictionary
put_in_each solved c [] = Some []
put_in_each solved c (None ∷ d) = with_first (Some None) (put_in_each solved c d)
put_in_each solved c (Some line ∷ d) =
    with_first (slot_of (put_in_where solved c line (coefficient_at c line.terms))) (put_in_each solved c d)

abbrev pub with_line : ℕ → Line → Option Dictionary → Option Dictionary
with_line c line None = None
with_line c line (Some d) = Some (slice_set d c (Some line))

abbrev pub with_solved : ℕ → ℕ → Dictionary → Option Line → Option Dictionary
with_solved b c d None = None
with_solved b c d (Some solved) = with_line c solved (put_in_each solved c (slice_set d b None))

-- ---- an exchange

abbrev pub empty_line : Line
empty_line = record { constant = zero_ratio; terms = [] }

abbrev pub line_in : Option (Option Line) → Line
line_in None = empty_line
line_in (Some None) = empty_line
line_in (Some (Some line)) = line

-- the line of a basic number
abbrev pub line_at : ℕ → Dictionary → Line
line_at b d = line_in (slice_get d b)

-- b and the number of a term of its line exchanged
abbrev pub exchanged : ℕ → Term → Dictionary → Option Dictionary
exchanged b t d = with_solved b t.number d (solved_for b t.number t.coefficient (line_at b d))

-- ---- the end

-- how many exchanges are made at most
abbrev pub most_exchanges : ℕ
most_exchanges = 1000

abbrev pub constant_of : Option Line → Ratio
constant_of None = zero_ratio
constant_of (Some line) = line.constant

-- a basic unknown has its constant, any other is 0
abbrev pub point_of : Program → Dictionary → List Ratio
point_of p d = map constant_of (take p.unknowns d)

abbrev pub negated_or_zero : Option Ratio → Ratio
negated_or_zero None = zero_ratio
negated_or_zero (Some x) = negated x

-- the multiplier of the row whose slack has a number: 1 for b, and else its coefficient in b's line negated
abbrev pub multiplier : ℕ → List Term → ℕ → Ratio
multiplier b terms k = if k == b then one_ratio else negated_or_zero (coefficient_at k terms)

-- the multipliers of so many rows, whose slacks begin at a number
abbrev pub multipliers : ℕ → List Term → ℕ → ℕ → List Ratio
multipliers b terms k zero = []
multipliers b terms k (suc n) = multipliers b terms k n ++ multiplier b terms (k + n) ∷ []

-- what comes once b is chosen: no number can take its place, or an exchange
abbrev pub after_entering : Program → Dictionary → ℕ → (ℕ → Term → LpAnswer) → Option Term → LpAnswer
after_entering p d b next None = Infeasible (multipliers b (line_at b d).terms p.unknowns (length p.rows))
after_entering p d b next (Some t) = next b t

abbrev pub after_leaving : Program → Dictionary → (ℕ → Term → LpAnswer) → Option ℕ → LpAnswer
after_leaving p d next None = Point (point_of p d)
after_leaving p d next (Some b) = after_entering p d b next (entering (line_at b d).terms)

abbrev pub after_exchange : ℕ → (Dictionary → LpAnswer) → Option Dictionary → LpAnswer
after_exchange made next None = Overflow made
after_exchange made next (Some d) = next d

-- the end of the method from a dictionary on, with so many exchanges left and so many made
unfoldable pub end_from : Program → ℕ → ℕ → Dictionary → LpAnswer
end_from p zero made d = after_leaving p d (λ b t. Spent made) (leaving d)
end_from p (suc left) made d =
    after_leaving p d (λ b t. after_exchange made (end_from p left (made + 1)) (exchanged b t d)) (leaving d)

unfoldable pub end_of : Program → LpAnswer
end_of p = end_from p most_exchanges 0 (first_dictionary p)

-- an answer that is the end, or says that memory is short
abbrev pub IsEndUnlessMemory : LpAnswer → LpAnswer → Type 0
IsEndUnlessMemory (Point xs) end = end ≡ Point xs
IsEndUnlessMemory (Infeasible ys) end = end ≡ Infeasible ys
IsEndUnlessMemory (Overflow made) end = end ≡ Overflow made
IsEndUnlessMemory (Spent made) end = end ≡ Spent made
IsEndUnlessMemory Memory end = Unit {0}
