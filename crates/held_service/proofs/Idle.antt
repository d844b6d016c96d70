-- That no question changes what is held, and so neither does a talk.
use Rattle.std.proofs.Common.{◌≡◌, ℕ, zero, suc, ◌+◌, ◌<◌, ◌^◌, ◌==◌, ◌&&◌, ◌||◌, Bool, true, false, nat_lt, if◌then◌else◌, List, [], ◌∷◌, ◌++◌, take, Option, Some, None, refl, sym, ap, ap₂, ◌∙◌, subst, inl, inr, arith}
use Rattle.std.proofs.Math.Path.{fun_ext}
use Rattle.std.proofs.lemmas.Bool.{OnTrue_at, OnTrue_from, false≢true, ne_eqb, true≢false}
use Rattle.std.proofs.lemmas.List.Elements.{All-cons, All-head, All-nil, All-tail}
use Rattle.std.specs.List.{All, Contains}
use Rattle.std.specs.Option.{option_map}
use Rattle.std.specs.Prelude.{IfSome}
use Rattle.rollout_rules.specs.Agent.{Holding, held_after, is_next_command, pair_of}
use Rattle.rollout_rules.specs.declared.held.Held.{Held}
use Rattle.rollout_rules.proofs.Pairs.{held_after-probe}
use Rattle.wan_edge.specs.Frames.{CommandFrame, IsCommand}
use Rattle.wan_edge.specs.Ports.{AppendsFront, GoesOn, MovesByRule, PortTrace}
use Rattle.wan_edge.specs.Streams.{KeepsTelling}
use Rattle.wan_edge.specs.Switches.{Holdings, after_command, after_commands, answer_of, answer_to}
use Rattle.switch_laws.proofs.Offered.{one_offered}
use Rattle.held_service.specs.Questions.{question, question_bytes, questions}
use Rattle.held_service.specs.Talks.{LeavesHeld}

same-if : {A : Type 0} (b : Bool) (x y : A) → x ≡ y → (if b then x else y) ≡ y
same-if true x y same = same
same-if false x y same = refl

pub after-question : (holdings : Holdings) (migration item : ℕ) → after_command holdings (question migration item) ≡ holdings
after-question holdings migration item =
    fun_ext (λ n. same-if (n == item) (held_after (holdings n) (pair_of migration 0) (0 ∷ [])) (holdings n) (held_after-probe (holdings n) migration (0 ∷ [])))

pub after-questions : (holdings : Holdings) (migration : ℕ) (items : List ℕ) → after_commands holdings (questions migration items) ≡ holdings
after-questions holdings migration [] = refl
after-questions holdings migration (n ∷ items) =
    ap (λ (h : Holdings). after_commands h (questions migration items)) (after-question holdings migration n) ∙ after-questions holdings migration items

pub answers-held : (holdings : Holdings) (migration item : ℕ) → answer_to holdings (question migration item) ≡ answer_of item (holdings item).held
answers-held holdings migration item = ap (λ (h : Holdings). answer_of item (h item).held) (after-question holdings migration item)

-- ---- commands among those that went out

abbrev IsQuestion : ℕ → CommandFrame → Type 0
IsQuestion migration c = (n : ℕ) × (c ≡ question migration n)

is-question : (migration : ℕ) (asked : List ℕ) (c : CommandFrame) → Contains (questions migration asked) c → IsQuestion migration c
is-question migration [] c at = absurd (omega (arith, at.1))
is-question migration (n ∷ asked) c (zero, inside, is) = (n, sym is)
is-question migration (n ∷ asked) c (suc k, inside, is) = is-question migration asked c (k, omega (arith, inside), is)

after-each : (holdings : Holdings) (migration : ℕ) (commands : List CommandFrame) → All (IsQuestion migration) commands → after_commands holdings commands ≡ holdings
after-each holdings migration [] each = refl
after-each holdings migration (c ∷ commands) each =
    let first = All-head (IsQuestion migration) c commands each in
    ap (λ (h : Holdings). after_commands h commands) (ap (after_command holdings) first.1 ∙ after-question holdings migration first.0)
    ∙ after-each holdings migration commands (All-tail (IsQuestion migration) c commands each)

-- whichever of them come, in whatever order and how often
pub after-any : (holdings : Holdings) (migration : ℕ) (items : List ℕ) (came : List CommandFrame) → All (Contains (questions migration items)) came → after_commands holdings came ≡ holdings
after-any holdings migration items came each = after-each holdings migration came (λ k d inside. is-question migration items _ (each k d inside))

pub all-small : (n : ℕ) → n < 2 ^ 64 → All (λ rate. rate < 2 ^ 64) (n ∷ [])
all-small n small = All-cons (λ rate. rate < 2 ^ 64) n [] small (All-nil (λ rate. rate < 2 ^ 64))

pub question-fits : (migration item : ℕ) → migration < 2 ^ 32 → item < 2 ^ 32 → IsCommand (question migration item)
question-fits migration item fits small = record {
  migration = fits;
  item = small;
  number = omega arith;
  scale = omega arith;
  some = omega arith;
  few = omega arith;
  rates = all-small 0 (omega arith);
}

module _ (migration : ℕ) (fits : migration < 2 ^ 32) where
  pub questions-fit : (asked : List ℕ) → All (λ n. n < 2 ^ 32) asked → All IsCommand (questions migration asked)
  questions-fit [] small = All-nil IsCommand
  questions-fit (n ∷ asked) small =
      All-cons IsCommand (question migration n) (questions migration asked) (question-fits migration n fits (All-head (λ m. m < 2 ^ 32) n asked small))
      (questions-fit asked (All-tail (λ m. m < 2 ^ 32) n asked small))

-- commands that come among a front of questions change nothing
moved-none : (migration : ℕ) (asked : List ℕ) (count : ℕ) (before now : Holdings) → All IsCommand (questions migration asked) → MovesByRule (take count (question_bytes migration asked)) before now → now ≡ before
moved-none migration asked count before now fit moves =
    moves.moved
    ∙ after-each before migration moves.delivered (λ k d inside. is-question migration asked _ (one_offered [] (questions migration asked) count _ (All-nil IsCommand) fit (moves.each_offered k d inside)))

held-same : (offered : Option (List ℕ)) (bytes : List ℕ) (a b : Option Holdings) → offered ≡ Some bytes → KeepsTelling a b
    → IfSome offered (λ bs. IfSome a (λ earlier. IfSome b (λ later. MovesByRule bs earlier later))) → ((earlier later : Holdings) → MovesByRule bytes earlier later → later ≡ earlier) → b ≡ a
held-same offered bytes None None is told moves same = refl
held-same offered bytes None (Some later) is told moves same = absurd (true≢false told)
held-same offered bytes (Some earlier) None is told moves same = absurd (false≢true told)
held-same offered bytes (Some earlier) (Some later) is told moves same =
    ap Some (same earlier later (subst (λ (o : Option (List ℕ)). IfSome o (λ bs. MovesByRule bs earlier later)) is moves))

-- An honest switch that was sent a front of questions alone holds what it held.
pub still : (before now : PortTrace) (migration : ℕ) → migration < 2 ^ 32 → (asked : List ℕ) → All (λ n. n < 2 ^ 32) asked → AppendsFront before.offered (question_bytes migration asked) now.offered → GoesOn before now → LeavesHeld before now
still before now migration fits asked small sent on =
    OnTrue_from before.honest _ (λ honest none. elim (OnTrue_at honest on.by_rule) [
      | inl same ↦ ap (λ (p : PortTrace). p.held) same
      | inr step ↦ held-same now.offered (take sent.count (question_bytes migration asked)) before.held now.held
          (sent.appended ∙ ap (λ (o : Option (List ℕ)). option_map (λ written. written ++ take sent.count (question_bytes migration asked)) o) none) on.told step.moves
          (λ earlier later moves. moved-none migration asked sent.count earlier later (questions-fit migration fits asked small) moves)
    ])
