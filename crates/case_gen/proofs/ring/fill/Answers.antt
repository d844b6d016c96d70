use Rattle.case_gen.proofs.Whole.{all_switches, is_network, is_ring, no_flows_yet, no_links_yet, no_tunnels_yet}
use Rattle.case_gen.proofs.ring.fill.Goals as goal

pub add_links-requires : goal.add_links-requires
add_links-requires c = record {
  bare = no_links_yet c.args.tables.now c.args.capacities.now c.args.trips.now c.add_switches.new.problem c.in_ok-add_switches.ensures;
  count = all_switches c.args.tables.now c.args.capacities.now c.args.trips.now c.add_switches.new.problem c.in_ok-add_switches.ensures;
  least = c.requires.tables.least;
  most = c.requires.tables.most;
  capacities = c.requires.capacities;
}

pub add_flows-requires : goal.add_flows-requires
add_flows-requires c = record {
  ring = is_ring c.args.tables.now c.args.capacities.now c.args.trips.now c.add_switches.new.problem c.in_ok-add_switches.ensures c.add_links.new.problem c.in_ok-add_links.ensures c.requires.tables;
  no_flows = no_flows_yet c.args.tables.now c.args.capacities.now c.args.trips.now c.add_switches.new.problem c.in_ok-add_switches.ensures c.add_links.new.problem c.in_ok-add_links.ensures;
  no_tunnels = no_tunnels_yet c.args.tables.now c.args.capacities.now c.args.trips.now c.add_switches.new.problem c.in_ok-add_switches.ensures c.add_links.new.problem c.in_ok-add_links.ensures;
  trips = c.requires.trips;
}

pub returns : goal.returns
returns c =
    is_network c.args.tables.now c.args.capacities.now c.args.trips.now c.add_switches.new.problem c.in_ok-add_switches.ensures c.add_links.new.problem c.in_ok-add_links.ensures c.add_flows.new.problem c.in_ok-add_flows.ensures
