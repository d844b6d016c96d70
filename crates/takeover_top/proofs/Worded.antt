-- What words that ask for a takeover come to.
use Rattle.std.proofs.Common.{◌≡◌, ℕ, Option, Some, sym, subst}
use Rattle.swanroll_top.specs.Views.{Outside, Views}
use Rattle.takeover_top.specs.TakeoverPromise.{ByWords, TakeoverPromise}
use Rattle.takeover_top.specs.TakingWords.{Taking}

module _ {S K D F P G : Type 0} (views : Views S K D F P G) (of_term : F → ℕ) (before : Outside S K D F) (status : ℕ) (after : Outside S K D F) where
  -- they name this takeover
  pub of-taking : (words : Option Taking) (taking : Taking) → Some taking ≡ words → TakeoverPromise views of_term taking before status after → ByWords views of_term words before status after
  of-taking words taking named promise = subst (λ (a : Option Taking). ByWords views of_term a before status after) named promise
