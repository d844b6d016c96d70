-- What is taken at the ends of a step, and at most while it lasts.
use Rattle.std.proofs.Common.{◌≡◌, ℕ, ◌≤◌, true, sym, subst}
use Rattle.rollout_rules.specs.Wan.{Problem, Plan, rate_at, mark_at, last_stage, next_stage}
use Rattle.rollout_rules.specs.Items.{Resource, the_link, the_table, is_resource, sum_items, use_at, step_maximum}
use Rattle.rollout_rules.specs.Network.{IsNetwork}
use Rattle.rollout_rules.specs.Valid.{is_valid_plan, step_total}
use Rattle.rollout_rules.proofs.OverItems.{sum_items-mono}
use Rattle.rollout_rules.proofs.Totals.{sum_items-load, sum_items-entries_at}
use Rattle.rollout_laws.proofs.Contents.{step-begins, step-ends}
use Rattle.rollout_laws.proofs.Validity.{plan-is_valid}
use Rattle.plan_texts.specs.Loads.{stage_total, IsBetween}

stage-uses : (p : Problem) (plan : Plan) (s : ℕ) (r : Resource) → IsNetwork p → stage_total p plan s r ≡ sum_items p (λ i. use_at p plan s i r)
stage-uses p plan s (the_link l) net = sym (sum_items-load p (rate_at plan s) (λ t h. mark_at plan s t) l net)
stage-uses p plan s (the_table w) net = sym (sum_items-entries_at p (rate_at plan s) (λ t h. mark_at plan s t) w)

pub between : (p : Problem) (plan : Plan) → IsNetwork p → is_valid_plan p plan ≡ true → (s : ℕ) (r : Resource) → s ≤ last_stage plan → is_resource p r ≡ true → IsBetween p plan s r
between p plan net valid s r low here = record {
  begins = subst (λ (n : ℕ). n ≤ step_total p plan s r) (sym (stage-uses p plan s r net))
      (sum_items-mono p (λ i. use_at p plan s i r) (λ i. step_maximum p plan s i r) (λ i is. step-begins p plan i r s));
  ends = subst (λ (n : ℕ). n ≤ step_total p plan s r) (sym (stage-uses p plan (next_stage plan s) r net))
      (sum_items-mono p (λ i. use_at p plan (next_stage plan s) i r) (λ i. step_maximum p plan s i r) (λ i is. step-ends p plan i r s));
  fits = (plan-is_valid p plan valid).step s low r here;
}
