-- The numbers of a plan have 64 bits, stage by stage.
use Rattle.std.proofs.Common.{◌≡◌, ◌⊎◌, inl, inr, ℕ, ◌+◌, ◌<◌, ◌≤◌, List, length, get_or, subst, arith}
use Rattle.std.proofs.lemmas.Bool.{cases_lt}
use Rattle.std.proofs.lemmas.List.{get_or_read}
use Rattle.rollout_rules.specs.Wan.{Stage, no_stage}
use Rattle.problem_json.specs.Writing.{AreWords, AreStagesOfWords}

pub one_stage_more : (stages : List Stage) (k : ℕ) (x : Stage) → k < length stages → x ≡ get_or stages k x → AreStagesOfWords k stages → AreWords x.rates → AreStagesOfWords (k + 1) stages
one_stage_more stages k x lt is so words s less = from (cases_lt s k)
  where
    from : (s < k) ⊎ (k ≤ s) → AreWords (get_or stages s no_stage).rates
    from (inl before) = so s before
    from (inr behind) =
        let same : k ≡ s = omega arith in
        subst (λ n. AreWords (get_or stages n no_stage).rates) same (subst (λ (y : Stage). AreWords y.rates) (get_or_read stages k x lt is no_stage) words)
