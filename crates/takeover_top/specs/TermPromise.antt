-- The promises of a `run` by its term.
use Rattle.std.specs.Prelude.{◌≡◌, ⊤, ℕ, List, drop, String, Option, Some, None, Result, IfErr, IfOk}
use Rattle.std.specs.declared.alloc.Global.{Global}
use Rattle.rollout_rules.specs.declared.op.OpView.{OpView}
use Rattle.text_commands.specs.CommandEnds.{ending_of_unread}
use Rattle.text_commands.specs.declared.arguments.Unread.{Unread}
use Rattle.swanroll_top.specs.Promise.{EndsUnread, Promise}
use Rattle.swanroll_top.specs.Views.{Outside, Views}
use Rattle.swanroll_top.specs.Words.{asked_by}
use Rattle.takeover_top.specs.TermWords.{WithoutTerm, run_term_by}

-- The call does what the arguments ask for without the pair that names the term, and all else as it stands there. The fleet is of that term: by its type nothing goes out over its ports without it.
pub record RunsAtTerm {S K D F P G : Type 0} (views : Views S K D F P G) (of_term : F → ℕ) (policies : List (List ℕ × (OpView → ℕ))) (arguments : List (String Global))
    (before : Outside S K D F) (status : ℕ) (after : Outside S K D F) : Type 0 where
  pub term : run_term_by (drop 1 arguments) ≡ Some (of_term before.fleet)
  pub rest : List (String Global)
  pub without : WithoutTerm arguments rest
  pub does : Promise views (asked_by policies (drop 1 rest)) before status after

pub record AtTermPromise {A S K D F P G : Type 0} (views : Views S K D F P G) (of_term : F → ℕ) (policies : List (List ℕ × (OpView → ℕ))) (arguments : Result A Unread) (list : A → List (String Global))
    (before : Outside S K D F) (status : ℕ) (after : Outside S K D F) : Type 0 where
  pub read : IfOk arguments (λ all. RunsAtTerm views of_term policies (list all) before status after)
  pub unread : IfErr arguments (λ why. EndsUnread views (ending_of_unread why) before status after)

-- Which words are done without a term: those of a `run` without the pair that names term 0, or else those that stand there. So they do where a `run` names a term
-- twice, without a value, or by none of a number: no command takes such words.
abbrev pub IsPlainRest : Option ℕ → List (String Global) → List (String Global) → Type 0
IsPlainRest None arguments rest = rest ≡ arguments
IsPlainRest (Some term) arguments rest = (term ≡ 0) × WithoutTerm arguments rest

pub record RunsPlain {S K D F P G : Type 0} (views : Views S K D F P G) (policies : List (List ℕ × (OpView → ℕ))) (arguments : List (String Global))
    (before : Outside S K D F) (status : ℕ) (after : Outside S K D F) : Type 0 where
  pub rest : List (String Global)
  pub plain : IsPlainRest (run_term_by (drop 1 arguments)) arguments rest
  pub does : Promise views (asked_by policies (drop 1 rest)) before status after

pub record PlainPromise {A S K D F P G : Type 0} (views : Views S K D F P G) (policies : List (List ℕ × (OpView → ℕ))) (arguments : Result A Unread) (list : A → List (String Global))
    (before : Outside S K D F) (status : ℕ) (after : Outside S K D F) : Type 0 where
  pub read : IfOk arguments (λ all. RunsPlain views policies (list all) before status after)
  pub unread : IfErr arguments (λ why. EndsUnread views (ending_of_unread why) before status after)
