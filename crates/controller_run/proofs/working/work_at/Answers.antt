use Rattle.std.proofs.Common.{ℕ, Bool, List, ◌∷◌, inl, inr, length, nat_lt, map, refl, sym, subst, ap₂}
use Rattle.turn_lock.specs.Passes.{seat_of_pass, seats_of, seen_of}
use Rattle.wan_edge.specs.Frames.{Command}
use Rattle.switch_ports.specs.Due.{AreApart, LeavesAlone, any_late, due_of}
use Rattle.switch_ports.proofs.Lateness.{alone_none}
use Rattle.controller_run.specs.Finding.{Caller}
use Rattle.controller_run.proofs.LeftAlone.{lists-alone}
use Rattle.controller_run.proofs.Works.{caller, carried, ended, idle-offers, later, lists-none, lists-some, on-offered, spent, wants, work-found}
use Rattle.controller_run.proofs.working.work_at.Goals as goal

-- ---- the calls
pub carry_out-requires-clause-alone : goal.carry_out-requires-clause-alone
carry_out-requires-clause-alone g c =
    let found = c.find_work-pass in
    let ports = c.args.ports.now in
    let homes = c.args.terms.homes.now in
    let late = nat_lt (length c.args.due.now) (length c.switches.result.now) in
    let same_late = ap₂ (λ (ds ws : List ℕ). nat_lt (length ds) (length ws)) c.requires.due c.switches.ensures in
    let w : Caller = caller g.M.Marker.opening (seats_of c.args.pass.pass) (seat_of_pass c.args.pass.pass) (due_of ports) (any_late ports) in
    let work = work-found g.M.Marker.opening (seats_of c.args.pass.pass) (seat_of_pass c.args.pass.pass) c.args.due.now (due_of ports) c.requires.due late (any_late ports) same_late c.args.left
    (seen_of c.args.pass.pass) (seen_of found.result.0.pass) found.new.commands found.result.1 found.ensures.found c.in-Work.field-0 c.in-Work.is in
    lists-alone homes w c.in-Work.field-0 (seen_of c.args.pass.pass) (seen_of found.result.0.pass) found.new.commands ports c.requires.home (subst (λ (ws : List ℕ). AreApart ws ports) c.requires.due c.requires.apart) work.1

pub hear_late-requires-clause-alone : goal.hear_late-requires-clause-alone
hear_late-requires-clause-alone g c =
    let found = c.find_work-pass in
    let ports = c.args.ports.now in
    let homes = c.args.terms.homes.now in
    let late = nat_lt (length c.args.due.now) (length c.switches.result.now) in
    let same_late = ap₂ (λ (ds ws : List ℕ). nat_lt (length ds) (length ws)) c.requires.due c.switches.ensures in
    let none = later g.M.Marker.opening (seats_of c.args.pass.pass) (seat_of_pass c.args.pass.pass) c.args.due.now (due_of ports) c.requires.due late (any_late ports) same_late c.args.left
    (seen_of c.args.pass.pass) (seen_of found.result.0.pass) found.new.commands found.result.1 found.ensures.found c.in-Later.is in
    subst (λ (cs : List Command). LeavesAlone homes cs ports) (sym none.0) (alone_none homes ports)

pub hear_late-requires-clause-none : goal.hear_late-requires-clause-none
hear_late-requires-clause-none g c =
    let found = c.find_work-pass in
    let ports = c.args.ports.now in
    let late = nat_lt (length c.args.due.now) (length c.switches.result.now) in
    let same_late = ap₂ (λ (ds ws : List ℕ). nat_lt (length ds) (length ws)) c.requires.due c.switches.ensures in
    (later g.M.Marker.opening (seats_of c.args.pass.pass) (seat_of_pass c.args.pass.pass) c.args.due.now (due_of ports) c.requires.due late (any_late ports) same_late c.args.left
    (seen_of c.args.pass.pass) (seen_of found.result.0.pass) found.new.commands found.result.1 found.ensures.found c.in-Later.is).0

pub hear_late-requires-clause-late : goal.hear_late-requires-clause-late
hear_late-requires-clause-late g c =
    let found = c.find_work-pass in
    let ports = c.args.ports.now in
    let late = nat_lt (length c.args.due.now) (length c.switches.result.now) in
    let same_late = ap₂ (λ (ds ws : List ℕ). nat_lt (length ds) (length ws)) c.requires.due c.switches.ensures in
    (later g.M.Marker.opening (seats_of c.args.pass.pass) (seat_of_pass c.args.pass.pass) c.args.due.now (due_of ports) c.requires.due late (any_late ports) same_late c.args.left
    (seen_of c.args.pass.pass) (seen_of found.result.0.pass) found.new.commands found.result.1 found.ensures.found c.in-Later.is).1

-- ---- a round in which commands were listed
pub returns-in-Work-clause-some_left : goal.returns-in-Work-clause-some_left
returns-in-Work-clause-some_left g c =
    let found = c.find_work-pass in
    let ports = c.args.ports.now in
    let late = nat_lt (length c.args.due.now) (length c.switches.result.now) in
    let same_late = ap₂ (λ (ds ws : List ℕ). nat_lt (length ds) (length ws)) c.requires.due c.switches.ensures in
    let work = work-found g.M.Marker.opening (seats_of c.args.pass.pass) (seat_of_pass c.args.pass.pass) c.args.due.now (due_of ports) c.requires.due late (any_late ports) same_late c.args.left
    (seen_of c.args.pass.pass) (seen_of found.result.0.pass) found.new.commands found.result.1 found.ensures.found c.in-Work.field-0 c.in-Work.is in
    on-offered c.carry_out.result.1 _ work.0

pub returns-in-Work-clause-worked : goal.returns-in-Work-clause-worked
returns-in-Work-clause-worked g c =
    let found = c.find_work-pass in
    let same = found.ensures.pass in
    let ports = c.args.ports.now in
    let late = nat_lt (length c.args.due.now) (length c.switches.result.now) in
    let same_late = ap₂ (λ (ds ws : List ℕ). nat_lt (length ds) (length ws)) c.requires.due c.switches.ensures in
    inr (record {
      commands = found.new.commands;
      log = seen_of found.result.0.pass;
      found = inl (lists-some g.M.Marker.opening (seats_of c.args.pass.pass) (seat_of_pass c.args.pass.pass) c.args.due.now (due_of ports) c.requires.due late (any_late ports) same_late c.args.left
          (seen_of c.args.pass.pass) (seen_of found.result.0.pass) found.new.commands found.result.1 found.ensures.found c.in-Work.field-0 c.in-Work.is);
      alone = lists-alone c.args.terms.homes.now (caller g.M.Marker.opening (seats_of c.args.pass.pass) (seat_of_pass c.args.pass.pass) (due_of ports) (any_late ports)) c.in-Work.field-0 (seen_of c.args.pass.pass) (seen_of found.result.0.pass) found.new.commands ports
          c.requires.home (subst (λ (ws : List ℕ). AreApart ws ports) c.requires.due c.requires.apart)
          (work-found g.M.Marker.opening (seats_of c.args.pass.pass) (seat_of_pass c.args.pass.pass) c.args.due.now (due_of ports) c.requires.due late (any_late ports) same_late c.args.left
          (seen_of c.args.pass.pass) (seen_of found.result.0.pass) found.new.commands found.result.1 found.ensures.found c.in-Work.field-0 c.in-Work.is).1;
      exchanged = carried g.T.Port.told g.M.Marker.opening (seats_of c.args.pass.pass) (seats_of found.result.0.pass) (seat_of_pass c.args.pass.pass) (seat_of_pass found.result.0.pass) c.args.terms.migration c.args.terms.homes.now
          found.new.commands found.new.commands (record { seen = seen_of found.result.0.pass; ports = ports }) c.carry_out.result.1 (record { seen = seen_of c.carry_out.result.0.pass; ports = c.carry_out.new.ports })
          (ap₂ (λ (s : ℕ) (js : List ℕ). s ∷ js) same.seat same.joined) same.seat refl c.carry_out.ensures.carried_out;
    })

-- ---- a round in which late switches were heard alone
pub returns-in-Later-clause-some_left : goal.returns-in-Later-clause-some_left
returns-in-Later-clause-some_left g c =
    let found = c.find_work-pass in
    let ports = c.args.ports.now in
    let late = nat_lt (length c.args.due.now) (length c.switches.result.now) in
    let same_late = ap₂ (λ (ds ws : List ℕ). nat_lt (length ds) (length ws)) c.requires.due c.switches.ensures in
    let none = later g.M.Marker.opening (seats_of c.args.pass.pass) (seat_of_pass c.args.pass.pass) c.args.due.now (due_of ports) c.requires.due late (any_late ports) same_late c.args.left
    (seen_of c.args.pass.pass) (seen_of found.result.0.pass) found.new.commands found.result.1 found.ensures.found c.in-Later.is in
    idle-offers g.T.Port.told g.M.Marker.opening (seats_of found.result.0.pass) (seat_of_pass found.result.0.pass) c.args.terms.migration c.args.terms.homes.now found.new.commands none.0
    (record { seen = seen_of found.result.0.pass; ports = c.args.ports.now }) c.hear_late.result.1 (record { seen = seen_of c.hear_late.result.0.pass; ports = c.hear_late.new.ports }) _ c.hear_late.ensures.carried_out

pub returns-in-Later-clause-worked : goal.returns-in-Later-clause-worked
returns-in-Later-clause-worked g c =
    let found = c.find_work-pass in
    let same = found.ensures.pass in
    let ports = c.args.ports.now in
    let late = nat_lt (length c.args.due.now) (length c.switches.result.now) in
    let same_late = ap₂ (λ (ds ws : List ℕ). nat_lt (length ds) (length ws)) c.requires.due c.switches.ensures in
    let none = later g.M.Marker.opening (seats_of c.args.pass.pass) (seat_of_pass c.args.pass.pass) c.args.due.now (due_of ports) c.requires.due late (any_late ports) same_late c.args.left
    (seen_of c.args.pass.pass) (seen_of found.result.0.pass) found.new.commands found.result.1 found.ensures.found c.in-Later.is in
    inr (record {
      commands = found.new.commands;
      log = seen_of found.result.0.pass;
      found = inr (lists-none g.M.Marker.opening (seats_of c.args.pass.pass) (seat_of_pass c.args.pass.pass) c.args.due.now (due_of ports) c.requires.due late (any_late ports) same_late c.args.left
          (seen_of c.args.pass.pass) (seen_of found.result.0.pass) found.new.commands found.result.1 found.ensures.found c.in-Later.is);
      alone = subst (λ (cs : List Command). LeavesAlone c.args.terms.homes.now cs ports) (sym none.0) (alone_none c.args.terms.homes.now ports);
      exchanged = carried g.T.Port.told g.M.Marker.opening (seats_of c.args.pass.pass) (seats_of found.result.0.pass) (seat_of_pass c.args.pass.pass) (seat_of_pass found.result.0.pass) c.args.terms.migration c.args.terms.homes.now
          found.new.commands found.new.commands (record { seen = seen_of found.result.0.pass; ports = ports }) c.hear_late.result.1 (record { seen = seen_of c.hear_late.result.0.pass; ports = c.hear_late.new.ports })
          (ap₂ (λ (s : ℕ) (js : List ℕ). s ∷ js) same.seat same.joined) same.seat refl c.hear_late.ensures.carried_out;
    })

-- ---- a round in which nothing went out
pub returns-in-Spent-clause-worked : goal.returns-in-Spent-clause-worked
returns-in-Spent-clause-worked g c =
    let found = c.find_work-pass in
    let ports = c.args.ports.now in
    let late = nat_lt (length c.args.due.now) (length c.switches.result.now) in
    let same_late = ap₂ (λ (ds ws : List ℕ). nat_lt (length ds) (length ws)) c.requires.due c.switches.ensures in
    let is_spent = spent g.M.Marker.opening (seats_of c.args.pass.pass) (seat_of_pass c.args.pass.pass) c.args.due.now (due_of ports) c.requires.due late (any_late ports) same_late c.args.left
    (seen_of c.args.pass.pass) (seen_of found.result.0.pass) found.new.commands found.result.1 found.ensures.found c.in-Spent.op c.in-Spent.is in
    inl (refl, (is_spent.0, refl, is_spent.1, is_spent.2))

pub returns-in-Ended-clause-worked : goal.returns-in-Ended-clause-worked
returns-in-Ended-clause-worked g c =
    let found = c.find_work-pass in
    let ports = c.args.ports.now in
    let late = nat_lt (length c.args.due.now) (length c.switches.result.now) in
    let same_late = ap₂ (λ (ds ws : List ℕ). nat_lt (length ds) (length ws)) c.requires.due c.switches.ensures in
    inl (
      refl,
      (
        found.new.commands,
        ended g.M.Marker.opening (seats_of c.args.pass.pass) (seat_of_pass c.args.pass.pass) c.args.due.now (due_of ports) c.requires.due late (any_late ports) same_late c.args.left
            (seen_of c.args.pass.pass) (seen_of found.result.0.pass) found.new.commands found.result.1 found.ensures.found c.in-Ended.end c.in-Ended.is,
      ),
    )

pub returns-in-Memory-clause-worked : goal.returns-in-Memory-clause-worked
returns-in-Memory-clause-worked g c =
    let found = c.find_work-pass in
    let ports = c.args.ports.now in
    let late = nat_lt (length c.args.due.now) (length c.switches.result.now) in
    let same_late = ap₂ (λ (ds ws : List ℕ). nat_lt (length ds) (length ws)) c.requires.due c.switches.ensures in
    inl (
      refl,
      (
        found.new.commands,
        wants g.M.Marker.opening (seats_of c.args.pass.pass) (seat_of_pass c.args.pass.pass) c.args.due.now (due_of ports) c.requires.due late (any_late ports) same_late c.args.left
            (seen_of c.args.pass.pass) (seen_of found.result.0.pass) found.new.commands found.result.1 found.ensures.found c.in-Memory.is,
      ),
    )
