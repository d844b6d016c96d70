use Rattle.std.proofs.Common.{rules, ◌≡◌, ◌*◌, replicate, ◌∙◌}
use Rattle.std.proofs.lemmas.Result.{IfOk-weaker}
use Rattle.case_gen.proofs.Made.{is_bare, no_capacities, no_tables, trips_first}
use Rattle.case_gen.proofs.make.bare_ring.Goals as goal

pub network-requires : goal.network-requires
network-requires c =
    let none : c.in_ok-tables.tables.items ≡ replicate c.args.switches 0 = search rules in
    let nothing : c.in_ok-capacities.capacities.items ≡ replicate (2 * c.args.switches) 0 = search rules in
    record {
      tables = no_tables c.args.switches c.requires.least c.requires.most c.args.trips.now c.requires.trips c.as_slice.result.now c.as_slice-2.result.now (c.as_slice.ensures.value ∙ none) (c.as_slice-2.ensures.value ∙ nothing);
      capacities = no_capacities c.args.switches c.requires.least c.requires.most c.args.trips.now c.requires.trips c.as_slice.result.now c.as_slice-2.result.now (c.as_slice.ensures.value ∙ none) (c.as_slice-2.ensures.value ∙ nothing);
      trips = trips_first c.args.switches c.requires.least c.requires.most c.args.trips.now c.requires.trips c.as_slice.result.now c.as_slice-2.result.now (c.as_slice.ensures.value ∙ none) (c.as_slice-2.ensures.value ∙ nothing);
    }

pub returns : goal.returns
returns c =
    let none : c.in_ok-tables.tables.items ≡ replicate c.args.switches 0 = search rules in
    let nothing : c.in_ok-capacities.capacities.items ≡ replicate (2 * c.args.switches) 0 = search rules in
    IfOk-weaker c.network.result _ _
    (is_bare c.args.switches c.requires.least c.requires.most c.args.trips.now c.requires.trips c.as_slice.result.now c.as_slice-2.result.now (c.as_slice.ensures.value ∙ none) (c.as_slice-2.ensures.value ∙ nothing))
    c.network.ensures
