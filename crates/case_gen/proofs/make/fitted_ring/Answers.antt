use Rattle.std.proofs.Common.{ℕ, ◌<◌, ◌≤◌, List, length, slice_index, sym, subst, ◌∙◌}
use Rattle.std.proofs.lemmas.Result.{IfOk-weaker}
use Rattle.rollout_rules.specs.declared.limits.TheConstants.{LARGEST_CAPACITY, LARGEST_TABLE}
use Rattle.case_gen.proofs.Made.{bare_plain, bare_small, capacities_fit, is_fitted, tables_fit, trips_again}
use Rattle.case_gen.proofs.make.fitted_ring.Goals as goal

pub needs_of-requires : goal.needs_of-requires
needs_of-requires c = record {
  least = c.requires.least_k;
  most = c.requires.most_k;
  rates = bare_small c.args.switches c.requires.least c.requires.most c.args.trips.now c.requires.trips c.in_ok-bare.bare c.in_ok-bare.ensures;
  plain = bare_plain c.args.switches c.requires.least c.requires.most c.args.trips.now c.requires.trips c.in_ok-bare.bare c.in_ok-bare.ensures;
}

pub network-requires : goal.network-requires
network-requires c = record {
  tables = tables_fit c.args.switches c.requires.least c.requires.most c.args.trips.now c.requires.trips c.in_ok-bare.bare c.in_ok-bare.ensures c.as_slice.result.now (c.as_slice.ensures.value ∙ c.in-Ok.ensures.tables)
      (subst (λ (ts : List ℕ). (w : ℕ) → w < length ts → slice_index ts w ≤ LARGEST_TABLE) (sym c.as_slice.ensures.value) c.in-Ok.ensures.tables_fit);
  capacities = capacities_fit c.args.switches c.requires.least c.requires.most c.args.trips.now c.requires.trips c.in_ok-bare.bare c.in_ok-bare.ensures c.as_slice.result.now (c.as_slice.ensures.value ∙ c.in-Ok.ensures.tables)
      c.args.k c.as_slice-in-Ok.result.now (c.as_slice-in-Ok.ensures ∙ c.in-Ok.ensures.capacities)
      (subst (λ (cs : List ℕ). (l : ℕ) → l < length cs → slice_index cs l ≤ LARGEST_CAPACITY) (sym c.as_slice-in-Ok.ensures) c.in-Ok.ensures.capacities_fit);
  trips = trips_again c.args.switches c.requires.least c.requires.most c.args.trips.now c.requires.trips c.in_ok-bare.bare c.in_ok-bare.ensures c.as_slice.result.now (c.as_slice.ensures.value ∙ c.in-Ok.ensures.tables);
}

pub returns-in-Ok : goal.returns-in-Ok
returns-in-Ok c =
    IfOk-weaker c.network.result _ _
    (is_fitted c.args.switches c.requires.least c.requires.most c.args.trips.now c.requires.trips c.in_ok-bare.bare c.in_ok-bare.ensures c.as_slice.result.now (c.as_slice.ensures.value ∙ c.in-Ok.ensures.tables)
    c.args.k c.as_slice-in-Ok.result.now (c.as_slice-in-Ok.ensures ∙ c.in-Ok.ensures.capacities))
    c.network.ensures
