-- What is known of a policy's answers at a view.
use Rattle.std.proofs.Common.{◌≡◌, ℕ, ◌<◌, ◌≤◌, ◌^◌, Bool, true, false, nat_lt, if◌then◌else◌, inl, inr, refl, arith, lt-ltb, ltb-true}
use Rattle.std.proofs.lemmas.Bool.{and_from, and_parts, cases_Bool}
use Rattle.std.specs.Coded.{le_prop}
use mathlib.Core.Logic.{∥∥₁_elim}
use Rattle.rollout_rules.specs.declared.op.OpView.{OpView}
use Rattle.order_policy.specs.Answers.{is_view, IsAnswer, AreAnswers, answer_if, rank_by}

-- the numbers of a view are below 2^32
pub record AreSmall (view : OpView) : Type 0 where
  pub item : view.item < 2 ^ 32
  pub number : view.number < 2 ^ 32
  pub stage : view.stage < 2 ^ 32
  pub left : view.left < 2 ^ 32
  pub chain : view.chain < 2 ^ 32

pub small-is_view : (view : OpView) → AreSmall view → is_view view ≡ true
small-is_view view small =
    and_from _ (nat_lt view.chain (2 ^ 32)) (and_from _ (nat_lt view.left (2 ^ 32)) (and_from _ (nat_lt view.stage (2 ^ 32)) (and_from (nat_lt view.item (2 ^ 32)) (nat_lt view.number (2 ^ 32))
    (lt-ltb view.item (2 ^ 32) small.item) (lt-ltb view.number (2 ^ 32) small.number)) (lt-ltb view.stage (2 ^ 32) small.stage)) (lt-ltb view.left (2 ^ 32) small.left)) (lt-ltb view.chain (2 ^ 32) small.chain)

pub is_view-small : (view : OpView) → is_view view ≡ true → AreSmall view
is_view-small view e =
    let four = and_parts _ (nat_lt view.chain (2 ^ 32)) e in
    let three = and_parts _ (nat_lt view.left (2 ^ 32)) four.0 in
    let two = and_parts _ (nat_lt view.stage (2 ^ 32)) three.0 in
    let one = and_parts (nat_lt view.item (2 ^ 32)) (nat_lt view.number (2 ^ 32)) two.0 in
    record {
      item = ltb-true view.item (2 ^ 32) one.0;
      number = ltb-true view.number (2 ^ 32) one.1;
      stage = ltb-true view.stage (2 ^ 32) two.1;
      left = ltb-true view.left (2 ^ 32) three.1;
      chain = ltb-true view.chain (2 ^ 32) four.1;
    }

module _ {P : ℕ → Type 0} where
  -- what holds of each answer holds of the one that is taken
  taken : (test : Bool) (answers : test ≡ true → (answer : ℕ) × P answer) → test ≡ true → P (answer_if test answers)
  taken true answers here = (answers refl).1
  taken false answers here = absurd (none here)
    where
      none : false ≡ true → ⊥
      none e = cc

  none_taken : (test : Bool) (answers : test ≡ true → (answer : ℕ) × P answer) → test ≡ false → answer_if test answers ≡ 0
  none_taken true answers not' = absurd (none not')
    where
      none : true ≡ false → ⊥
      none e = cc
  none_taken false answers not' = refl

module _ {most : ℕ} {gives : OpView → ℕ → Type 0} (answers : AreAnswers most gives) (view : OpView) (small : is_view view ≡ true) where
  pub rank_by-is : IsAnswer most (gives view) (rank_by answers view)
  rank_by-is = taken {P = IsAnswer most (gives view)} (is_view view) (answers view) small

-- a closure that answers by a function has the answers of that function
pub answers_by : {gives : OpView → ℕ → Type 0} (most : ℕ) (rank : OpView → ℕ) → ((view : OpView) → AreSmall view → rank view ≤ most) → ((view : OpView) → ∥ gives view (rank view) ∥₁)
    → ((view : OpView) (other : ℕ) → gives view other → other ≡ rank view) → AreAnswers most gives
answers_by most rank bound given alone view small = (rank view, (bound view (is_view-small view small), given view, alone view))

-- answers that are at most one number are at most each greater one
pub wider : {gives : OpView → ℕ → Type 0} (most more : ℕ) → most ≤ more → AreAnswers most gives → AreAnswers more gives
wider most more le answers view small =
    let one = answers view small in (one.0, (omega (arith, le, one.1.0), one.1.1, one.1.2))

-- and answers that are taken from those stay below the smaller one
pub stays_below : {given gives : OpView → ℕ → Type 0} (most more : ℕ) → AreAnswers most given → (answers : AreAnswers more gives)
    → ((view : OpView) (rank : ℕ) → is_view view ≡ true → given view rank → rank ≡ rank_by answers view) → (view : OpView) → rank_by answers view ≤ most
stays_below most more bounded answers same view = elim (cases_Bool (is_view view)) as (λ c. rank_by answers view ≤ most) [
  | inl small ↦ let one = bounded view small in ∥∥₁_elim one.1.1 le_prop (λ given. omega (arith, same view one.0 small given, one.1.0))
  | inr large ↦ omega (arith, none_taken (is_view view) (answers view) large)
]

-- what a test chooses stays below a bound of both
pub chosen-most : (test : Bool) (x y most : ℕ) → x ≤ most → y ≤ most → (if test then x else y) ≤ most
chosen-most true x y most p q = p
chosen-most false x y most p q = q
