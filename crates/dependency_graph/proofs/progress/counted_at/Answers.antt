use Rattle.std.proofs.Common.{◌∙◌, length, slice_index, sym, ap, arith}
use Rattle.rollout_rules.specs.Items.{item_at}
use Rattle.rollout_rules.specs.Operations.{stand_after}
use Rattle.rollout_laws.proofs.Standing.{stand-most}
use Rattle.dependency_graph.proofs.Growing.{item_count-few}
use Rattle.dependency_graph.proofs.progress.counted_at.Goals as goal

pub new-requires-clause-few : goal.new-requires-clause-few
new-requires-clause-few c = omega (arith, c.in_ok-stages.ensures.count, item_count-few c.args.plan.now.problem c.checked_plan_is_valid.ensures.network)

pub new-requires-clause-within : goal.new-requires-clause-within
new-requires-clause-within c = λ k lt.
    let r = c.args.plan.now in
    omega (arith, c.in_ok-stages.ensures.each k (omega (arith, lt, c.in_ok-stages.ensures.count)), stand-most r.problem r.plan (item_at r.problem k) (slice_index c.args.start.now k), c.last_stage.ensures.value)

pub returns-clause-progress : goal.returns-clause-progress
returns-clause-progress c =
    let r = c.args.plan.now in
    let stood = c.in_ok-stands.ensures in
    let settled = c.in_ok-settled.ensures in
    record {
      network = c.checked_plan_is_valid.ensures.network;
      settled = ap length settled ∙ c.requires.numbers;
      begun = ap length c.in_ok-begun.ensures ∙ c.requires.numbers;
      stands = record {
        count = ap (λ s. length s.stages) stood ∙ c.in_ok-stages.ensures.count;
        each = λ k lt.
            ap (λ s. slice_index s.stages k) stood ∙ c.in_ok-stages.ensures.each k lt ∙ ap (λ l. stand_after r.problem r.plan (item_at r.problem k) (slice_index l k)) (sym settled);
      };
      last = ap (λ s. s.last) stood ∙ c.last_stage.ensures.value;
    }
