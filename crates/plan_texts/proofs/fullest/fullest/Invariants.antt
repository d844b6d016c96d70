use Rattle.std.proofs.Common.{◌≡◌, ◌<◌, length, IfSome}
use Rattle.plan_texts.specs.Loads.{fullest, room_of, greatest_total}
use Rattle.plan_texts.proofs.fullest.fullest.Given as goal

-- the fullest of the links before this one
abbrev pub invariant-loop-link : goal.invariant-loop-link
invariant-loop-link l = record {
  is : l.found ≡ fullest (room_of l.problem l.plan) (greatest_total l.problem l.plan) l.link;
  inside : IfSome l.found (λ best. best < length l.problem.links);
}
