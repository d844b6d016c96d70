-- The command of an operation begun has a frame.
use Rattle.std.proofs.Common.{◌≡◌, ℕ, ◌+◌, ◌*◌, ◌^◌, ◌<◌, ◌≤◌, max, min, Bool, true, false, not, ◌&&◌, if◌then◌else◌, nat_le, List, [], length, inl, inr, sym, ap, subst, arith, leb-true, ltb-true}
use Rattle.std.proofs.lemmas.Bool.{and_parts, cases_lt}
use Rattle.std.proofs.lemmas.List.Elements.{All-cons, All-from_get_or, All-nil}
use Rattle.std.proofs.lemmas.Nat.{mul-le}
use Rattle.std.specs.List.{All, Contains}
use Rattle.lists.proofs.Conditions.{one_at_most}
use Rattle.rollout_rules.specs.declared.limits.TheConstants.{LARGEST_RATE, LARGEST_SCALE, MOST_STAGES}
use Rattle.rollout_rules.specs.Sums.{all_below, list_below, same_numbers}
use Rattle.rollout_rules.specs.Wan.{Plan, Problem, Rollout, flow_at, hops, last_stage, mark_at, new_rate, old_rate, rate_at, tunnel_at, tunnel_of}
use Rattle.rollout_rules.specs.Network.{IsNetwork}
use Rattle.rollout_rules.specs.Items.{content, is_item, item_at, item_count}
use Rattle.rollout_rules.specs.Operations.{changes_behind, operations, stand_after}
use Rattle.rollout_rules.specs.Valid.{begins_at_old, carries_what_flows, ends_at_new, fits_each_step, flow_total, has_shape, is_valid_plan, keeps_total_at, keeps_totals, new_total, old_total}
use Rattle.rollout_rules.specs.History.{History}
use Rattle.rollout_rules.specs.Legal.{is_legal}
use Rattle.rollout_rules.specs.declared.item.Item.{Item}
use Rattle.rollout_rules.specs.declared.item.Item.TheVariants as item
use Rattle.rollout_rules.specs.declared.op.Op.{Op}
use Rattle.rollout_rules.specs.declared.op.Entry.TheVariants.{Begin}
use Rattle.rollout_rules.proofs.Below.{all_below-at, sum_below-at, sum_below-zero, sum_below-most}
use Rattle.rollout_rules.proofs.Numbers.{is_item-item_at}
use Rattle.rollout_rules.proofs.Tunnels.{tunnel_of-below}
use Rattle.rollout_rules.proofs.Rows.{list_below-length, list_below-at}
use Rattle.rollout_rules.proofs.Rates.{rate_within}
use Rattle.rollout_laws.proofs.Histories.{is_counted}
use Rattle.rollout_laws.proofs.Standing.{stand-most}
use Rattle.rollout_laws.proofs.Validity.{plan-is_valid}
use Rattle.wan_edge.specs.Frames.{Command, IsCommand}
use Rattle.rollout_book.specs.Commands.{command_of}
use Rattle.switch_laws.specs.Runs.{IsBegunCommand}
use Rattle.switch_laws.proofs.Begun.{begun_within}

bit_fits : (b : Bool) → (if b then 1 else 0) < 2 ^ 64
bit_fits true = omega arith
bit_fits false = omega arith

-- a content that a command can bring
record IsBrought (rates : List ℕ) : Type 0 where
  some : 0 < length rates
  few : length rates ≤ 16
  each : All (λ rate. rate < 2 ^ 64) rates

-- a flow without tunnels never changes
pub none_to_change : (p : Problem) (plan : Plan) (f : ℕ) → (flow_at p f).tunnels ≡ 0 → operations p plan (item.Flow f) ≡ 0
none_to_change p plan f none =
    sum_below-zero (last_stage plan) (λ s. if changes_behind p plan (item.Flow f) s then 1 else 0)
    (λ s lt. ap (λ (n : ℕ). if not (same_numbers (list_below n (λ j. rate_at plan s (tunnel_of p f j))) (list_below n (λ j. rate_at plan (s + 1) (tunnel_of p f j)))) then 1 else 0) none)

module _ (p : Problem) (plan : Plan) (net : IsNetwork p) (valid : is_valid_plan p plan ≡ true) where
  shape : has_shape p plan ≡ true
  shape =
      let a = and_parts (has_shape p plan && begins_at_old p plan && ends_at_new p plan && fits_each_step p plan && carries_what_flows p plan) (keeps_totals p plan) valid in
      let b = and_parts (has_shape p plan && begins_at_old p plan && ends_at_new p plan && fits_each_step p plan) (carries_what_flows p plan) a.0 in
      let c = and_parts (has_shape p plan && begins_at_old p plan && ends_at_new p plan) (fits_each_step p plan) b.0 in
      let d = and_parts (has_shape p plan && begins_at_old p plan) (ends_at_new p plan) c.0 in
      (and_parts (has_shape p plan) (begins_at_old p plan) d.0).0

  totals : keeps_totals p plan ≡ true
  totals = (and_parts (has_shape p plan && begins_at_old p plan && ends_at_new p plan && fits_each_step p plan && carries_what_flows p plan) (keeps_totals p plan) valid).1

  scale_within : plan.scale ≤ LARGEST_SCALE
  scale_within =
      let a = and_parts (nat_le 1 plan.scale && nat_le plan.scale LARGEST_SCALE && nat_le 1 (length plan.stages) && nat_le (length plan.stages) MOST_STAGES) _ shape in
      let b = and_parts (nat_le 1 plan.scale && nat_le plan.scale LARGEST_SCALE && nat_le 1 (length plan.stages)) (nat_le (length plan.stages) MOST_STAGES) a.0 in
      let c = and_parts (nat_le 1 plan.scale && nat_le plan.scale LARGEST_SCALE) (nat_le 1 (length plan.stages)) b.0 in
      leb-true plan.scale LARGEST_SCALE (and_parts (nat_le 1 plan.scale) (nat_le plan.scale LARGEST_SCALE) c.0).1

  stages_within : length plan.stages ≤ MOST_STAGES
  stages_within =
      let a = and_parts (nat_le 1 plan.scale && nat_le plan.scale LARGEST_SCALE && nat_le 1 (length plan.stages) && nat_le (length plan.stages) MOST_STAGES) _ shape in
      leb-true (length plan.stages) MOST_STAGES (and_parts (nat_le 1 plan.scale && nat_le plan.scale LARGEST_SCALE && nat_le 1 (length plan.stages)) (nat_le (length plan.stages) MOST_STAGES) a.0).1

  -- a flow's total of rates that are within the limit
  total_within : (f : ℕ) → f < length p.flows → (rate : ℕ → ℕ) → ((t : ℕ) → t < length p.tunnels → rate t ≤ LARGEST_RATE) → plan.scale * flow_total p rate f ≤ 65536 * (16 * 1000000000)
  total_within f inside rate each =
      let sum = sum_below-most (flow_at p f).tunnels LARGEST_RATE (λ j. rate (tunnel_of p f j)) (λ j few. each (tunnel_of p f j) (tunnel_of-below p f j net inside few)) in
      let most = mul-le (flow_at p f).tunnels LARGEST_RATE 16 1000000000 (omega (arith, net.flows.few f inside)) (omega arith) in
      mul-le plan.scale (flow_total p rate f) 65536 (16 * 1000000000) (omega (arith, scale_within)) (omega (arith, sum, most))

  rate_fits : (s f j : ℕ) → s ≤ last_stage plan → f < length p.flows → j < (flow_at p f).tunnels → rate_at plan s (tunnel_of p f j) < 2 ^ 64
  rate_fits s f j most inside few =
      let stages = (plan-is_valid p plan valid).stages in
      let keeps = all_below-at (length p.flows) (keeps_total_at p plan s) (all_below-at (length plan.stages) (λ u. all_below (length p.flows) (keeps_total_at p plan u)) totals s (omega (arith, stages, most))) f inside in
      let total = flow_total p (rate_at plan s) f in
      let most_total = max (old_total p plan f) (new_total p plan f) in
      let high : total ≤ most_total = leb-true total most_total (and_parts (nat_le (min (old_total p plan f) (new_total p plan f)) total) (nat_le total most_total) keeps).1 in
      let old : old_total p plan f ≤ 65536 * (16 * 1000000000) = total_within f inside (λ t. old_rate (tunnel_at p t)) (λ t lt. rate_within (tunnel_at p t).old (net.tunnels t lt).old) in
      let new : new_total p plan f ≤ 65536 * (16 * 1000000000) = total_within f inside (λ t. new_rate (tunnel_at p t)) (λ t lt. rate_within (tunnel_at p t).new (net.tunnels t lt).new) in
      let one = sum_below-at (flow_at p f).tunnels (λ k. rate_at plan s (tunnel_of p f k)) j few in
      omega (arith, high, old, new, one)

  some_tunnel : (f : ℕ) → 0 < operations p plan (item.Flow f) → 0 < (flow_at p f).tunnels
  some_tunnel f some = elim (cases_lt 0 (flow_at p f).tunnels) as (λ c. 0 < (flow_at p f).tunnels) [
    | inl more ↦ more
    | inr none ↦ absurd (omega (arith, some, none_to_change p plan f (omega arith)))
  ]

  brought : (i : Item) → is_item p i ≡ true → 0 < operations p plan i → (s : ℕ) → s ≤ last_stage plan → IsBrought (content p plan i s)
  brought (item.Flow f) here some s most =
      let rates : ℕ → ℕ = λ j. rate_at plan s (tunnel_of p f j) in
      let inside = is_flow f here in
      let long = list_below-length (flow_at p f).tunnels rates in
      record {
        some = omega (arith, long, some_tunnel f some);
        few = omega (arith, long, net.flows.few f inside);
        each = All-from_get_or (λ rate. rate < 2 ^ 64) (list_below (flow_at p f).tunnels rates) 0 (λ k lt.
            subst (λ (rate : ℕ). rate < 2 ^ 64) (sym (list_below-at (flow_at p f).tunnels rates k 0 (omega (arith, long, lt)))) (rate_fits s f k most inside (omega (arith, long, lt))));
      }
    where
      is_flow : (g : ℕ) → is_item p (item.Flow g) ≡ true → g < length p.flows
      is_flow g is = ltb-true g (length p.flows) is
  brought (item.Entry t g) here some s most = record {
    some = omega arith;
    few = omega arith;
    each = All-cons (λ rate. rate < 2 ^ 64) (if mark_at plan s t then 1 else 0) [] (bit_fits (mark_at plan s t)) (All-nil (λ rate. rate < 2 ^ 64));
  }

  few_items : item_count p < 2 ^ 32
  few_items =
      let entries = sum_below-most (length p.tunnels) 17 (hops p) (λ t lt. omega (arith, (net.tunnels t lt).path.most)) in
      omega (arith, entries, net.few, net.flows.count)

  few_operations : (i : Item) → operations p plan i < 2 ^ 32
  few_operations i =
      let changes = sum_below-most (last_stage plan) 1 (λ s. if changes_behind p plan i s then 1 else 0) (λ s lt. one_at_most (changes_behind p plan i s)) in
      omega (arith, changes, stages_within)

module _ (r : Rollout) (migration : ℕ) (h : History) (net : IsNetwork r.problem) (valid : is_valid_plan r.problem r.plan ≡ true) (legal : is_legal r.problem r.plan h ≡ true) (small : migration < 2 ^ 32) where
  begun_fits : (op : Op) → Contains h.entries (Begin op) → IsCommand (migration, command_of r op)
  begun_fits op there =
      let begun_op = begun_within r.problem r.plan h legal op there in
      let counted = is_counted r.problem r.plan h legal op.item in
      let inside = counted.within (omega (arith, begun_op.above, begun_op.within)) in
      let exist = counted.exist inside in
      let i = item_at r.problem op.item in
      let rates = brought r.problem r.plan net valid i (is_item-item_at r.problem op.item inside) (omega (arith, begun_op.above, begun_op.within, exist)) (stand_after r.problem r.plan i op.number) (stand-most r.problem r.plan i op.number) in
      record {
        migration = small;
        item = omega (arith, inside, few_items r.problem r.plan net valid);
        number = omega (arith, begun_op.within, exist, few_operations r.problem r.plan net valid i);
        scale = omega (arith, scale_within r.problem r.plan net valid);
        some = rates.some;
        few = rates.few;
        rates = rates.each;
      }

  pub has_frame : (c : Command) → IsBegunCommand r h c → IsCommand (migration, c)
  has_frame c begun_command =
      subst (λ (d : Command). IsCommand (migration, d)) (sym begun_command.is) (begun_fits begun_command.op begun_command.there)
