-- The first of the greatest, and the fuller of two.
use Rattle.std.proofs.Common.{◌≡◌, ℕ, zero, suc, ◌+◌, ◌*◌, ◌^◌, ◌<◌, ◌≤◌, Bool, true, false, ◌==◌, length, nat_lt, Option, Some, if◌then◌else◌, refl, sym, ap, ap₂, ◌∙◌, inl, inr, lt-ltb, arith}
use Rattle.std.proofs.lemmas.Bool.{cases_Bool}
use Rattle.rollout_rules.specs.Wan.{Problem, Plan, last_stage}
use Rattle.rollout_rules.specs.Items.{the_link}
use Rattle.rollout_laws.proofs.Validity.{plan-is_valid}
use Rattle.dependency_graph.proofs.RoomCells.{capacity-few}
use Rattle.plan_texts.specs.Loads.{later_if_greater, greatest_at, link_total, fullest_step, greatest_total, fuller_of, fuller, room_of}
use Rattle.plan_texts.specs.Rows.{IsChecked}

later-most : (b : Bool) (m n : ℕ) → m ≤ n → (if b then n else m) ≤ n + 1
later-most true m n le = omega arith
later-most false m n le = omega arith

pub greatest-most : (f : ℕ → ℕ) (n : ℕ) → greatest_at f n ≤ n
greatest-most f zero = omega arith
greatest-most f (suc n) = omega (arith, later-most (nat_lt (f (greatest_at f n)) (f n)) (greatest_at f n) n (greatest-most f n))

pub greatest-same : (n : ℕ) (f g : ℕ → ℕ) → ((s : ℕ) → s < n → f s ≡ g s) → greatest_at f n ≡ greatest_at g n
greatest-same zero f g same = refl
greatest-same (suc n) f g same =
    let before : greatest_at f n ≡ greatest_at g n = greatest-same n f g (λ s lt. same s (omega arith)) in
    let most : greatest_at g n ≤ n = greatest-most g n in
    ap (λ m. if nat_lt (f m) (f n) then n else m) before
    ∙ ap₂ (λ x y. if nat_lt x y then n else greatest_at g n) (same (greatest_at g n) (omega (arith, most))) (same n (omega arith))

pub some-link : (room total : ℕ → ℕ) (best l more : ℕ) → (room l == 0) ≡ false → more ≡ fuller_of room total best l → Some more ≡ fuller room total (Some best) l
some-link room total best l more has is = rw has (ap Some is)

-- the test of the fuller one, at these numbers
fuller-test : (room total : ℕ → ℕ) (best l a b c d : ℕ) (r t : Bool) → a ≡ total best → b ≡ room l → c ≡ total l → d ≡ room best → r ≡ nat_lt (a * b) (c * d) → r ≡ t → nat_lt (total best * room l) (total l * room best) ≡ t
fuller-test room total best l a b c d r t ea eb ec ed is test =
    sym (ap₂ nat_lt (ap₂ (λ x y. x * y) ea eb) (ap₂ (λ x y. x * y) ec ed)) ∙ sym is ∙ test

pub fuller-yes : (room total : ℕ → ℕ) (best l a b c d : ℕ) (r : Bool) → a ≡ total best → b ≡ room l → c ≡ total l → d ≡ room best → r ≡ nat_lt (a * b) (c * d) → r ≡ true → l ≡ fuller_of room total best l
fuller-yes room total best l a b c d r ea eb ec ed is less =
    ap (λ t. if t then l else best) (sym (fuller-test room total best l a b c d r true ea eb ec ed is less))

pub fuller-no : (room total : ℕ → ℕ) (best l a b c d : ℕ) (r : Bool) → a ≡ total best → b ≡ room l → c ≡ total l → d ≡ room best → r ≡ nat_lt (a * b) (c * d) → r ≡ false → best ≡ fuller_of room total best l
fuller-no room total best l a b c d r ea eb ec ed is not_less =
    ap (λ t. if t then l else best) (sym (fuller-test room total best l a b c d r false ea eb ec ed is not_less))

module _ (p : Problem) (plan : Plan) (checked : IsChecked p plan) (l : ℕ) (low : l < length p.links) where
  pub room-few : room_of p plan l < 2 ^ 60
  room-few = capacity-few p plan checked.network checked.valid (the_link l) (lt-ltb l (length p.links) low)

  pub total-few : greatest_total p plan l < 2 ^ 60
  total-few =
      omega (arith, (plan-is_valid p plan checked.valid).step (fullest_step p plan l) (greatest-most (link_total p plan l) (last_stage plan)) (the_link l) (lt-ltb l (length p.links) low), room-few)
