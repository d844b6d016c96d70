-- What a policy's closure answers, as a function of the view.
use Rattle.std.specs.Prelude.{◌≡◌, ℕ, ◌≤◌, ◌^◌, Bool, true, false, ◌&&◌, nat_lt}
use Rattle.std.specs.Coded.{Π_prop, le_prop, Coded-set, coded_ℕ}
use mathlib.Core.Path.{refl}
use mathlib.Core.HLevel.{×₃_prop, Σ_prop_path}
use mathlib.Core.Logic.{∥∥₁_elim, ∥∥₁_prop}
use Rattle.rollout_rules.specs.declared.op.OpView.{OpView}

-- whether the numbers of a view are below 2^32, as each that a closure is asked about are
abbrev pub is_view : OpView → Bool
is_view view = nat_lt view.item (2 ^ 32) && nat_lt view.number (2 ^ 32) && nat_lt view.stage (2 ^ 32) && nat_lt view.left (2 ^ 32) && nat_lt view.chain (2 ^ 32)

-- the greatest rank of an operation that isn't held back
abbrev pub last_rank : ℕ
last_rank = 4294967295

-- a number that may be given, at most `most`, and none other may be
abbrev pub IsAnswer : ℕ → (ℕ → Type 0) → ℕ → Type 0
IsAnswer most gives answer = (answer ≤ most) × ∥ gives answer ∥₁ × ((other : ℕ) → gives other → other ≡ answer)

-- Each view has one answer.
abbrev pub AreAnswers : ℕ → (OpView → ℕ → Type 0) → Type 0
AreAnswers most gives = (view : OpView) → is_view view ≡ true → (answer : ℕ) × IsAnswer most (gives view) answer

-- the answer where there is one, and else 0
abbrev pub answer_if : {P : ℕ → Type 0} (test : Bool) → (test ≡ true → (answer : ℕ) × P answer) → ℕ
answer_if true answers = (answers refl).0
answer_if false answers = 0

-- the answers as a function, by which operations are ranked
abbrev pub rank_by : {most : ℕ} {gives : OpView → ℕ → Type 0} → AreAnswers most gives → OpView → ℕ
rank_by answers view = answer_if (is_view view) (answers view)

IsAnswer-prop : (most : ℕ) (gives : ℕ → Type 0) (answer : ℕ) → IsProp (IsAnswer most gives answer)
IsAnswer-prop most gives answer = ×₃_prop le_prop ∥∥₁_prop (Π_prop (λ other. Π_prop (λ _. Coded-set coded_ℕ other answer)))

one-answer : (most : ℕ) (gives : ℕ → Type 0) → IsProp ((answer : ℕ) × IsAnswer most gives answer)
one-answer most gives a b = Σ_prop_path (IsAnswer-prop most gives) (∥∥₁_elim a.1.1 (Coded-set coded_ℕ a.0 b.0) (λ given. b.1.2 a.0 given))

-- so a policy's answers are one fact
pub AreAnswers-prop : {most : ℕ} {gives : OpView → ℕ → Type 0} → IsProp (AreAnswers most gives)
AreAnswers-prop {most} {gives} = Π_prop (λ view. Π_prop (λ _. one-answer most (gives view)))
