use Rattle.std.proofs.Common.{◌≡◌, drop}
use Rattle.rollout_book.specs.Aliens.{first_alien}
use Rattle.rollout_book.proofs.aliens.first_alien.Given as goal

-- the first among those that are left is the first of all
abbrev pub invariant-loop-answer : goal.invariant-loop-answer
invariant-loop-answer l = first_alien l.graph (drop l.answer-index l.answers) ≡ first_alien l.graph l.answers
