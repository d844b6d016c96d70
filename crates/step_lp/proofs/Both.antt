-- The program's rows hold at a point exactly where its units are moves, and each feasible point has units.
use Rattle.std.proofs.Common.{◌≡◌, ℕ, ◌+◌, ◌-◌, ◌*◌, ◌/◌, ◌<◌, Bool, true, false, ℤ, pos, negsuc, nat_abs, List, [], ◌++◌, length, get_or, if◌then◌else◌, subst, ap, sym, refl, arith}
use Rattle.std.specs.Prelude.{All}
use Rattle.std.specs.Int.{◌∣◌}
use Rattle.std.proofs.Math.Nat.{div-mul_cancel}
use Rattle.std.proofs.lemmas.List.Elements.{All-append, All-map}
use borrow.Author.Differences.{up, down}
use Rattle.lists.proofs.Elements.{All-left, All-right}
use Rattle.rollout_rules.specs.Sums.{list_below}
use Rattle.rollout_rules.specs.Wan.{Problem}
use Rattle.rollout_rules.specs.Network.{IsNetwork}
use Rattle.fraction_lp.specs.Ratio.{Ratio, ratio, zero_ratio}
use Rattle.fraction_lp.specs.Program.{IsNotNegative, RowHolds, IsFeasible}
use Rattle.fraction_lp.proofs.Arithmetic.{is_itself, ratio_means, told_alike}
use Rattle.fraction_lp.proofs.Signs.{not_below_parts}
use Rattle.step_lp.specs.declared.limit.Limit.{Limit}
use Rattle.step_lp.specs.declared.limit.Limit.TheVariants.{Top, Link, Least, Most}
use Rattle.step_lp.specs.Program.{joined_below, used_at, used_count, rate_blocks, blocks, row_of, tops_of, tops_at, top_limits, link_limits, totals_of, total_limits, limits, move_program}
use Rattle.step_lp.specs.Moves.{place_of, number_in, AreMoves, HasUnits, IsMove}
use Rattle.step_lp.specs.Points.{common_bottom, units_of}
use Rattle.step_lp.proofs.Lists.{All-none, All-unmapped, All-joined_below, All-joined_below-at, All-list_below, All-list_below-at}
use Rattle.step_lp.proofs.Speaking.{All-two}
use Rattle.step_lp.proofs.Multiples.{common_bottom-pos, common_bottom-each}
use Rattle.step_lp.proofs.Standing.{number-inside}
use Rattle.step_lp.proofs.Families.{InUnits, row_in_units, row_from_units, top_holds, holds_top, link_holds, holds_link, most_holds, holds_most, least_holds, holds_least}

-- ---- limits one by one

abbrev AllInUnits : Problem → ℕ → ℕ → (ℕ → ℕ → ℕ) → List Limit → Type 0
AllInUnits p q scale n ls = All (InUnits p q scale n) ls

all_moves : (p : Problem) (q scale : ℕ) (n : ℕ → ℕ → ℕ) → IsNetwork p → AllInUnits p q scale n (limits p q) → AreMoves p q scale n
all_moves p q scale n net all = record {
  before = λ s t low lt used. top_holds p q scale s s t n low (omega arith) lt (tops s t low lt used 0 (Top 0 0 0) (omega arith));
  behind = λ s t low lt used. top_holds p q scale s (s + 1) t n low (omega arith) lt (tops s t low lt used 1 (Top 0 0 0) (omega arith));
  links = λ s l low lt. link_holds p q scale s l n low (All-list_below-at (InUnits p q scale n) (length p.links) (Link s) (All-joined_below-at (InUnits p q scale n) q (λ s. list_below (length p.links) (Link s)) second s low) l lt);
  least = λ a f some low lt. least_holds p q scale a f n net some low lt (totals a f some low lt 0 (Top 0 0 0) (omega arith));
  most = λ a f some low lt. most_holds p q scale a f n net some low lt (totals a f some low lt 1 (Top 0 0 0) (omega arith));
}
  where
    first : All (InUnits p q scale n) (top_limits p q)
    first = All-left (InUnits p q scale n) (top_limits p q) (link_limits p q ++ total_limits p q) all

    second : All (InUnits p q scale n) (link_limits p q)
    second = All-left (InUnits p q scale n) (link_limits p q) (total_limits p q) (All-right (InUnits p q scale n) (top_limits p q) (link_limits p q ++ total_limits p q) all)

    third : All (InUnits p q scale n) (total_limits p q)
    third = All-right (InUnits p q scale n) (link_limits p q) (total_limits p q) (All-right (InUnits p q scale n) (top_limits p q) (link_limits p q ++ total_limits p q) all)

    tops : (s t : ℕ) → s < q → t < length p.tunnels → used_at p t ≡ true → All (InUnits p q scale n) (tops_of s t)
    tops s t low lt used =
        subst (λ (b : Bool). All (InUnits p q scale n) (if b then tops_of s t else [])) used
        (All-joined_below-at (InUnits p q scale n) (length p.tunnels) (tops_at p s) (All-joined_below-at (InUnits p q scale n) q (λ s. joined_below (length p.tunnels) (tops_at p s)) first s low) t lt)

    totals : (a f : ℕ) → 0 < a → a < q → f < length p.flows → All (InUnits p q scale n) (totals_of a f)
    totals a f some low lt =
        let back : (a - 1) + 1 ≡ a = omega arith in
        subst (λ (k : ℕ). All (InUnits p q scale n) (totals_of k f)) back
        (All-joined_below-at (InUnits p q scale n) (length p.flows) (totals_of ((a - 1) + 1))
        (All-joined_below-at (InUnits p q scale n) (rate_blocks q) (λ b. joined_below (length p.flows) (totals_of (b + 1))) third (a - 1) (omega arith)) f lt)

moves_all : (p : Problem) (q scale : ℕ) (n : ℕ → ℕ → ℕ) → IsNetwork p → AreMoves p q scale n → AllInUnits p q scale n (limits p q)
moves_all p q scale n net moves =
    All-append (InUnits p q scale n) (top_limits p q) (link_limits p q ++ total_limits p q)
    (All-joined_below (InUnits p q scale n) q (λ s. joined_below (length p.tunnels) (tops_at p s)) (λ s low.
    All-joined_below (InUnits p q scale n) (length p.tunnels) (tops_at p s) (λ t lt. tops s t low lt (used_at p t) refl)))
    (All-append (InUnits p q scale n) (link_limits p q) (total_limits p q)
    (All-joined_below (InUnits p q scale n) q (λ s. list_below (length p.links) (Link s)) (λ s low.
    All-list_below (InUnits p q scale n) (length p.links) (Link s) (λ l lt. holds_link p q scale s l n low (moves.links s l low lt))))
    (All-joined_below (InUnits p q scale n) (rate_blocks q) (λ b. joined_below (length p.flows) (totals_of (b + 1))) (λ b low.
    All-joined_below (InUnits p q scale n) (length p.flows) (totals_of (b + 1)) (λ f lt. totals (b + 1) f (omega arith) (omega arith) lt))))
  where
    tops : (s t : ℕ) → s < q → t < length p.tunnels → (b : Bool) → used_at p t ≡ b → All (InUnits p q scale n) (if b then tops_of s t else [])
    tops s t low lt true used =
        All-two (InUnits p q scale n) (Top s s t) (Top s (s + 1) t) (holds_top p q scale s s t n low (omega arith) lt (moves.before s t low lt used))
        (holds_top p q scale s (s + 1) t n low (omega arith) lt (moves.behind s t low lt used))
    tops s t low lt false used = All-none (InUnits p q scale n)

    totals : (a f : ℕ) → 0 < a → a < q → f < length p.flows → All (InUnits p q scale n) (totals_of a f)
    totals a f some low lt =
        All-two (InUnits p q scale n) (Least a f) (Most a f) (holds_least p q scale a f n net some low lt (moves.least a f some low lt))
        (holds_most p q scale a f n net some low lt (moves.most a f some low lt))

pub rows_are_moves : (p : Problem) (q scale : ℕ) (n : ℕ → ℕ → ℕ) (xs : List Ratio) → IsNetwork p → HasUnits p q scale n xs →
    All (RowHolds xs) (move_program p q).rows → AreMoves p q scale n
rows_are_moves p q scale n xs net units h =
    all_moves p q scale n net (λ k d lt. row_in_units p q scale n xs (get_or (limits p q) k d) units (All-unmapped (RowHolds xs) (row_of p q) (limits p q) h k d lt))

pub moves_are_rows : (p : Problem) (q scale : ℕ) (n : ℕ → ℕ → ℕ) (xs : List Ratio) → IsNetwork p → HasUnits p q scale n xs →
    AreMoves p q scale n → All (RowHolds xs) (move_program p q).rows
moves_are_rows p q scale n xs net units moves =
    All-map (RowHolds xs) (row_of p q) (limits p q)
    (λ k d lt. row_from_units p q scale n xs (get_or (limits p q) k d) units (moves_all p q scale n net moves k d lt))

-- ---- each point that is not negative has units

pub told_whole : (x : Ratio) (scale : ℕ) → IsNotNegative x → x.bottom ∣ scale → 0 < scale → x ≡ ratio (pos (units_of scale x)) scale
told_whole x scale h over p = by_sign x.top refl h
  where
    by_sign : (z : ℤ) → x.top ≡ z → IsNotNegative x → x ≡ ratio (pos (units_of scale x)) scale
    by_sign (pos a) e h =
        told_alike x (ratio (pos (units_of scale x)) scale) (up x.top) (down x.top) x.bottom (units_of scale x) 0 scale
        (is_itself x) (ratio_means (pos (units_of scale x)) scale p)
        (same (up x.top) (down x.top) a (nat_abs x.top) x.bottom (scale / x.bottom) scale (ap up e) (ap down e) (ap nat_abs e) (div-mul_cancel x.bottom over))
      where
        same : (u d a m b c s : ℕ) → u ≡ a → d ≡ 0 → m ≡ a → c * b ≡ s → u * s + 0 * b ≡ m * c * b + d * s
        same u d a m b c s x y z w = rw (sym w) (omega (arith, ap (λ k. k * (c * b)) x, ap (λ k. k * (c * b)) y, ap (λ k. k * (c * b)) z))
    by_sign (negsuc a) e h = absurd (omega (arith, not_below_parts x h, ap up e, ap down e))

abbrev pub units_at : Problem → ℕ → List Ratio → ℕ → ℕ → ℕ
units_at p scale xs b t = if used_at p t then units_of scale (number_in p xs b t) else 0

pub feasible_has_units : (p : Problem) (q : ℕ) (xs : List Ratio) → IsFeasible (move_program p q) xs →
    HasUnits p q (common_bottom 1 xs) (units_at p (common_bottom 1 xs) xs) xs
feasible_has_units p q xs feasible = record {
  some = common_bottom-pos 1 xs (omega arith);
  one_each = feasible.one_each;
  each = each;
  idle = λ b t unused. rw unused refl;
}
  where
    scale : ℕ
    scale = common_bottom 1 xs

    each : (b t : ℕ) → b < blocks q → t < length p.tunnels → used_at p t ≡ true → number_in p xs b t ≡ ratio (pos (units_at p (common_bottom 1 xs) xs b t)) (common_bottom 1 xs)
    each b t low lt used =
        let inside : b * used_count p + place_of p t < length xs = number-inside p (blocks q) b t (length xs) low lt used feasible.one_each in
        rw used (told_whole (number_in p xs b t) (common_bottom 1 xs) (feasible.not_negative (b * used_count p + place_of p t) zero_ratio inside)
        (common_bottom-each 1 xs (b * used_count p + place_of p t) zero_ratio inside) (common_bottom-pos 1 xs (omega arith)))

pub feasible_is_move : (p : Problem) (q : ℕ) (xs : List Ratio) → IsNetwork p → IsFeasible (move_program p q) xs → IsMove p q xs
feasible_is_move p q xs net feasible = record {
  not_negative = feasible.not_negative;
  scale = common_bottom 1 xs;
  numbers = units_at p (common_bottom 1 xs) xs;
  units = feasible_has_units p q xs feasible;
  moves = rows_are_moves p q (common_bottom 1 xs) (units_at p (common_bottom 1 xs) xs) xs net (feasible_has_units p q xs feasible) feasible.rows_hold;
}

pub move_is_feasible : (p : Problem) (q : ℕ) (xs : List Ratio) → IsNetwork p → IsMove p q xs → IsFeasible (move_program p q) xs
move_is_feasible p q xs net move = record {
  one_each = move.units.one_each;
  not_negative = move.not_negative;
  rows_hold = moves_are_rows p q move.scale move.numbers xs net move.units move.moves;
}
