-- What is written for a plan within the limits is read as that plan.
use Rattle.std.proofs.Common.{◌≡◌, ℕ, ◌+◌, ◌<◌, false, [], length, map, take, get_or, slice_index, Ok, sym, ap, ◌∙◌, arith}
use Rattle.std.proofs.lemmas.List.{take_more, take_all, length-map}
use Rattle.rollout_rules.specs.Wan.{Plan, Stage, no_stage, stage_at}
use Rattle.rollout_rules.specs.declared.limits.TheConstants.{MOST_TUNNELS, MOST_STAGES, LARGEST_SCALE, LARGEST_PLAN_RATE}
use Rattle.serde_json.specs.Data.{boolean}
use Rattle.serde_json.specs.View.{items_of}
use Rattle.problem_json.specs.GrammarResults.{add_each}
use Rattle.problem_json.specs.GrammarValues.{member_in, list_of, number_of}
use Rattle.problem_json.specs.GrammarPlans.{with_one_mark, marks_of, with_one_rate, rates_of, stage_of, with_one_stage, plan_of}
use Rattle.problem_json.specs.WithinLimits.{IsStageWithin, IsPlanWithin}
use Rattle.problem_json.specs.Writing.{number_data, stage_data, plan_data}
use Rattle.problem_json.proofs.Adding.{goes_on, add_each-below, map-below}
use Rattle.problem_json.proofs.ReadValues.{number_in-number, list_in-list}

module _ (s : ℕ) (stage : Stage) (is : IsStageWithin stage) where
  one_mark_more : (k : ℕ) → k < length stage.installed → with_one_mark s (boolean (get_or stage.installed k false)) (take k stage.installed) ≡ Ok (take (k + 1) stage.installed)
  unfolding with_one_mark
  one_mark_more k lt = ap Ok (sym (take_more stage.installed k false lt))

  marks_are_read : marks_of s (stage_data stage) ≡ Ok stage.installed
  unfolding marks_of list_of member_in
  marks_are_read =
      let marks = map boolean stage.installed in
      goes_on _ (items_of marks) _ (list_in-list _ MOST_TUNNELS marks (omega (arith, is.marks, length-map stage.installed boolean)))
      ∙ ap (λ ds. add_each (with_one_mark s) (items_of ds) []) (map-below boolean stage.installed false)
      ∙ add_each-below (with_one_mark s) (λ k. boolean (get_or stage.installed k false)) (λ k. take k stage.installed) (length stage.installed) one_mark_more
      ∙ ap Ok (take_all (length stage.installed) stage.installed (omega arith))

  one_rate_more : (k : ℕ) → k < length stage.rates → with_one_rate s (number_data (slice_index stage.rates k)) (take k stage.rates) ≡ Ok (take (k + 1) stage.rates)
  unfolding with_one_rate
  one_rate_more k lt =
      goes_on _ (slice_index stage.rates k) _ (number_in-number _ LARGEST_PLAN_RATE (slice_index stage.rates k) (is.each k lt))
      ∙ ap Ok (sym (take_more stage.rates k 0 lt))

  rates_are_read : rates_of s (stage_data stage) ≡ Ok stage.rates
  unfolding rates_of list_of member_in
  rates_are_read =
      let rates = map number_data stage.rates in
      goes_on _ (items_of rates) _ (list_in-list _ MOST_TUNNELS rates (omega (arith, is.rates, length-map stage.rates number_data)))
      ∙ ap (λ ds. add_each (with_one_rate s) (items_of ds) []) (map-below number_data stage.rates 0)
      ∙ add_each-below (with_one_rate s) (λ k. number_data (slice_index stage.rates k)) (λ k. take k stage.rates) (length stage.rates) one_rate_more
      ∙ ap Ok (take_all (length stage.rates) stage.rates (omega arith))

  stage_is_read : stage_of s (stage_data stage) ≡ Ok stage
  unfolding stage_of
  stage_is_read = goes_on _ stage.installed _ marks_are_read ∙ goes_on _ stage.rates _ rates_are_read

-- the first k stages of a plan
abbrev staged : Plan → ℕ → Plan
staged plan k = record plan { stages = take k plan.stages }

module _ (plan : Plan) (is : IsPlanWithin plan) where
  one_stage_more : (k : ℕ) → k < length plan.stages → with_one_stage (stage_data (stage_at plan k)) (staged plan k) ≡ Ok (staged plan (k + 1))
  unfolding with_one_stage
  one_stage_more k lt =
      goes_on _ (stage_at plan k) _ (stage_is_read _ (stage_at plan k) (is.each k lt))
      ∙ ap (λ ss. Ok (record plan { stages = ss })) (sym (take_more plan.stages k no_stage lt))

  pub plan_is_read : plan_of (plan_data plan) ≡ Ok plan
  unfolding plan_of number_of list_of member_in
  plan_is_read =
      let stages = map stage_data plan.stages in
      goes_on _ plan.scale _ (number_in-number _ LARGEST_SCALE plan.scale is.scale)
      ∙ goes_on _ (items_of stages) _ (list_in-list _ MOST_STAGES stages (omega (arith, is.count, length-map plan.stages stage_data)))
      ∙ ap (λ ds. add_each with_one_stage (items_of ds) (staged plan 0)) (map-below stage_data plan.stages no_stage)
      ∙ add_each-below with_one_stage (λ k. stage_data (stage_at plan k)) (staged plan) (length plan.stages) one_stage_more
      ∙ ap (λ ss. Ok (record plan { stages = ss })) (take_all (length plan.stages) plan.stages (omega arith))
