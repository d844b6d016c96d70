-- Small fleets, of which the worked examples speak.
use Rattle.std.proofs.Common.{◌≡◌, ℕ, Bool, true, false, [], ◌==◌, if◌then◌else◌, Option, Some, None, refl, sym, ap, ◌∙◌, subst, inl, inr, arith}
use Rattle.std.proofs.lemmas.Bool.{false≢true}
use Rattle.rollout_rules.specs.Worked.{fresh}
use Rattle.rollout_rules.specs.Legal.{unsettled}
use Rattle.wan_edge.specs.Ports.{NothingToCome, PortTrace}
use Rattle.wan_edge.specs.Streams.{Rose}
use Rattle.port_session.specs.Sessions.{first_session}
use Rattle.switch_ports.specs.Views.{view}
use Rattle.shared_book.specs.Homes.{homes_of}
use Rattle.switch_laws.specs.Runs.{StartsAsFound}
use Rattle.switch_laws.specs.Worked.{two_flows}
use Rattle.switch_laws.proofs.SmallRuns.{unused_starts}
use Rattle.completion_laws.specs.Worked.{begun_one}
use Rattle.completion_laws.proofs.Examples.{silent-waits, unused-ready}
use Rattle.swanroll_top.specs.Ready.{CountsNoFault, IsReadyFor}
use Rattle.text_commands.specs.Worked.{by_item}
use Rattle.swanroll_top.specs.Worked.{answered_once, failed_once, fleet_with, in_rounds, itself, never_used, none_begins, unanswered, waiting_at_first}

-- whatever the homes of items are
never-used-starts : StartsAsFound two_flows 4 (homes_of two_flows.problem) (fresh []) (view itself (first_session 0 never_used))
never-used-starts = record {
  honest = refl;
  none_kept = refl;
  heard = unused_starts.heard;
  offered = unused_starts.offered;
  held = λ n inside home. inr (record { earlier = omega arith; none = omega arith });
}

pub never-used-ready : IsReadyFor itself (in_rounds 4) by_item (waiting_at_first never_used) two_flows (fresh [])
never-used-ready = record {
  ports = λ switch. (if switch == 0 then Some never_used else None);
  told = refl;
  each = (
    record {
      port = never_used;
      waits = refl;
      ready = record {
        starts = never-used-starts;
        prompt = refl;
        offered = refl;
        heard = refl;
        held = refl;
        in_order = unused-ready.in_order;
        no_more = unused-ready.no_more;
        none_owed = refl;
      };
    },
    tt,
  );
  enough = let four : unsettled two_flows.problem two_flows.plan (fresh []) ≡ 4 = refl in omega (arith, four);
  free = λ view. refl;
}

pub three-few : IsReadyFor itself (in_rounds 3) by_item (waiting_at_first never_used) two_flows (fresh []) → ⊥
three-few ready = let four : unsettled two_flows.problem two_flows.plan (fresh []) ≡ 4 = refl in omega (arith, four, ready.enough)

pub held-not : IsReadyFor itself (in_rounds 4) none_begins (waiting_at_first never_used) two_flows (fresh []) → ⊥
held-not ready = false≢true (sym (ready.free (record { item = 0; number = 1; stage = 0; left = 1; chain = 1 })))

pub untold-not : IsReadyFor itself (in_rounds 4) by_item None two_flows (fresh []) → ⊥
untold-not ready = absurd (cc (ready.told))

abbrev pub at_first : Option (ℕ → Option PortTrace) → Option PortTrace
at_first None = None
at_first (Some waiting) = waiting 0

pub unanswered-not : IsReadyFor itself (in_rounds 4) by_item (waiting_at_first unanswered) two_flows begun_one → ⊥
unanswered-not ready =
    let first = ready.each.0 in
    let waits : Some unanswered ≡ Some first.port = ap at_first ready.told ∙ first.waits in
    let same : first.port ≡ unanswered = sym (cc waits) in
    silent-waits (subst (λ (port : PortTrace). NothingToCome port.start port.offered port.heard) same first.ready.no_more)

-- ---- counts of faults
-- what stands where a test holds
where-any : (test : Bool) (port other : PortTrace) → (if test then Some port else None) ≡ Some other → port ≡ other
where-any true port other is = cc is
where-any false port other is = absurd (cc is)

pub counts-none : CountsNoFault itself 0 0 (fleet_with None) (fleet_with (Some answered_once))
counts-none = record {
  disk = λ rose. none rose;
  fleet = λ rose. none rose;
  ports = λ switch first back waits kept rose.
      none (subst (λ (faults : ℕ). Rose faults 0) (sym (ap (λ (port : PortTrace). port.faults) (where-any (switch == 0) never_used first waits))) (subst (λ (faults : ℕ). Rose first.faults faults) (sym (ap (λ (port : PortTrace). port.faults) (where-any (switch == 0) answered_once back kept))) rose));
}
  where
    none : Rose 0 0 → ⊥
    none (inl less) = omega (arith, less)
    none (inr most) = omega (arith, most)

pub counts-port : CountsNoFault itself 0 0 (fleet_with None) (fleet_with (Some failed_once)) → ⊥
counts-port counts = counts.ports 0 never_used failed_once refl refl (inl (omega arith))

pub counts-disk : CountsNoFault itself 0 1 (fleet_with None) (fleet_with (Some answered_once)) → ⊥
counts-disk counts = counts.disk (inl (omega arith))
