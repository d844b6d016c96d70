use Rattle.std.proofs.Common.{◌≡◌, vec_capacity}
use Rattle.order_policy.specs.Answers.{rank_by}
use Rattle.update_scheduler.proofs.Offered.{IsOffered}
use Rattle.update_scheduler.proofs.offers.offer_each.Given as goal

abbrev pub invariant-loop-k : goal.invariant-loop-k
invariant-loop-k g l = IsOffered l.graph (rank_by l.policy.answers) l.row l.k l.candidates.items
    × (vec_capacity l.candidates ≡ vec_capacity l.initial.candidates)
