-- Counts of a history, entry by entry.
use Rattle.std.proofs.Common.{◌≡◌, ℕ, ◌+◌, ◌<◌, ◌≤◌, Bool, true, false, ◌==◌, if◌then◌else◌, List, [], ◌∷◌, ◌++◌, length, take, drop, get_or, refl, subst, sym, ap, ◌∙◌, arith}
use Rattle.std.proofs.lemmas.List.{take_more, length-take-le, get_or_default}
use Rattle.rollout_rules.specs.History.{History, with_entries, begins_in, dones_in, settled, begun}
use Rattle.rollout_rules.specs.declared.op.Op.{Op}
use Rattle.rollout_rules.specs.declared.op.Entry.{Entry}
use Rattle.rollout_rules.specs.declared.op.Entry.TheVariants.{Begin, Done}
use Rattle.rollout_laws.proofs.Histories.{begun-with, settled-with}
use Rattle.rollout_report.specs.Peaks.{front}
use Rattle.rollout_report.specs.Counts.{Counted, entry_at, IsShort, AreCounts}

-- what is written back over a whole list is the list
pub whole : (xs ys : List ℕ) (n : ℕ) → length xs ≡ n → take n (xs ++ drop (length xs) ys) ≡ xs
whole xs ys n all = subst (λ m. take m (xs ++ drop (length xs) ys) ≡ xs) all (take-front xs (drop (length xs) ys))
  where
    take-front : (front rest : List ℕ) → take (length front) (front ++ rest) ≡ front
    take-front [] rest = refl
    take-front (x ∷ front) rest = ap (λ l. x ∷ l) (take-front front rest)

one_most : (b : Bool) (x : ℕ) → (if b then 1 else 0) + x ≤ 1 + x
one_most true x = omega arith
one_most false x = omega arith

dones_in-most : (es : List Entry) (n : ℕ) → dones_in es n ≤ length es
dones_in-most [] n = omega arith
dones_in-most (Begin op ∷ es) n = omega (arith, dones_in-most es n)
dones_in-most (Done op ∷ es) n = omega (arith, dones_in-most es n, one_most (op.item == n) (dones_in es n))

begins_in-most : (es : List Entry) (n : ℕ) → begins_in es n ≤ length es
begins_in-most [] n = omega arith
begins_in-most (Begin op ∷ es) n = omega (arith, begins_in-most es n, one_most (op.item == n) (begins_in es n))
begins_in-most (Done op ∷ es) n = omega (arith, begins_in-most es n)

-- a count that may grow by one
module _ (h : History) (k n : ℕ) (short : IsShort h) (lt : k < length h.entries) where
  pub settled-room : settled (front h k) n + 1 < 18446744073709551616
  settled-room = omega (arith, short.fits n, dones_in-most (take k h.entries) n, length-take-le k h.entries (omega arith))

  pub begun-room : begun (front h k) n + 1 < 18446744073709551616
  begun-room = omega (arith, short.fits n, begins_in-most (take k h.entries) n, length-take-le k h.entries (omega arith))

-- one entry more
front-more : (h : History) (k : ℕ) (e : Entry) → k < length h.entries → get_or h.entries k e ≡ e → front h (k + 1) ≡ with_entries (front h k) (e ∷ [])
front-more h k e lt at =
    let more : take (k + 1) h.entries ≡ take k h.entries ++ e ∷ [] = take_more h.entries k e lt ∙ ap (λ x. take k h.entries ++ x ∷ []) at in
    λ i. record { start = h.start; entries = more i }

module _ (h : History) (k n : ℕ) (e : Entry) (lt : k < length h.entries) (at : get_or h.entries k e ≡ e) where
  pub settled-more : settled (front h (k + 1)) n ≡ settled (front h k) n + dones_in (e ∷ []) n
  settled-more = ap (λ g. settled g n) (front-more h k e lt at) ∙ settled-with (front h k) (e ∷ []) n

  pub begun-more : begun (front h (k + 1)) n ≡ begun (front h k) n + begins_in (e ∷ []) n
  begun-more = ap (λ g. begun g n) (front-more h k e lt at) ∙ begun-with (front h k) (e ∷ []) n

-- the entry at a place, whatever stands after the last one
pub entry_at-is : (h : List Entry) (k : ℕ) (e : Entry) → k < length h → entry_at h k ≡ e → get_or h k e ≡ e
entry_at-is h k e lt at = get_or_default h k e _ lt ∙ at

pub count-begin : (h : History) (k : ℕ) (op : Op) (c d : Counted) → k < length h.entries → entry_at h.entries k ≡ Begin op → AreCounts (front h k) c → d.settled ≡ c.settled → length d.begun ≡ length c.begun
    → ((n : ℕ) → n < length c.begun → get_or d.begun n 0 ≡ (if op.item == n then 1 else 0) + get_or c.begun n 0) → AreCounts (front h (k + 1)) d
count-begin h k op c d lt is are kept same more =
    let at = entry_at-is h.entries k (Begin op) lt is in
    record {
      settled = λ n low. ap (λ l. get_or l n 0) kept ∙ are.settled n (omega (arith, ap length kept, low)) ∙ sym (settled-more h k n (Begin op) lt at ∙ omega arith);
      begun = λ n low. more n (omega (arith, same)) ∙ omega (arith, are.begun n (omega (arith, same)), begun-more h k n (Begin op) lt at);
    }

pub count-done : (h : History) (k : ℕ) (op : Op) (c d : Counted) → k < length h.entries → entry_at h.entries k ≡ Done op → AreCounts (front h k) c → d.begun ≡ c.begun → length d.settled ≡ length c.settled
    → ((n : ℕ) → n < length c.settled → get_or d.settled n 0 ≡ (if op.item == n then 1 else 0) + get_or c.settled n 0) → AreCounts (front h (k + 1)) d
count-done h k op c d lt is are kept same more =
    let at = entry_at-is h.entries k (Done op) lt is in
    record {
      settled = λ n low. more n (omega (arith, same)) ∙ omega (arith, are.settled n (omega (arith, same)), settled-more h k n (Done op) lt at);
      begun = λ n low. ap (λ l. get_or l n 0) kept ∙ are.begun n (omega (arith, ap length kept, low)) ∙ sym (begun-more h k n (Done op) lt at ∙ omega arith);
    }
