use Rattle.std.proofs.Common.{ℕ, List, ◌∷◌, length, nat_eq, subst, sym, ap, ◌∙◌, arith}
use Rattle.std.specs.List.{IsDistinct}
use Rattle.rollout_rules.specs.Wan.{Problem}
use Rattle.switch_ports.specs.Berths.{ports_of}
use Rattle.switch_ports.specs.Homes.{is_working_home, working_homes}
use Rattle.switch_ports.specs.Opening.{Opens, StopsAt}
use Rattle.switch_ports.proofs.Given.{apart_by, opened_lent, stops_at}
use Rattle.switch_ports.proofs.Numbers.{distinct_front, passing_distinct, passing_inside}
use Rattle.switch_ports.proofs.opening.open_ports.Goals as goal

pub open_each-opened-requires-clause-inside : goal.open_each-opened-requires-clause-inside
open_each-opened-requires-clause-inside g c k d lt =
    let p = c.args.plan.now.problem in
    omega (
      arith,
      passing_inside (length p.switches) (is_working_home p c.args.plan.now.plan) c.as_slice-2.result.now (c.as_slice-2.ensures ∙ c.in_ok-homes.ensures) k d lt,
      ap (λ (q : Problem). length q.switches) c.problem.ensures,
    )

pub open_each-opened-requires-clause-once : goal.open_each-opened-requires-clause-once
open_each-opened-requires-clause-once g c =
    let p = c.args.plan.now.problem in
    subst (IsDistinct nat_eq) (sym (c.as_slice-2.ensures ∙ c.in_ok-homes.ensures)) (passing_distinct (length p.switches) (is_working_home p c.args.plan.now.plan))

pub returns-in-Ok-clause-opened : goal.returns-in-Ok-clause-opened
returns-in-Ok-clause-opened g c =
    let before = ports_of (g.F.Fleet.told c.args.fleet.now) in
    let now = ports_of (g.F.Fleet.told c.open_each-opened.new.fleet) in
    let berths = c.open_each-opened.new.berths.items in
    let p = c.args.plan.now.problem in
    subst (λ (hs : List ℕ). Opens g.F.Port.Port.told p hs before berths now) (c.as_slice-2.ensures ∙ c.in_ok-homes.ensures)
    (subst (λ (q : Problem). Opens g.F.Port.Port.told q c.as_slice-2.result.now before berths now) c.problem.ensures c.in-Ok.ensures.opened)

pub returns-in-Ok-clause-apart : goal.returns-in-Ok-clause-apart
returns-in-Ok-clause-apart g c =
    let p = c.args.plan.now.problem in
    apart_by c.open_each-opened.new.berths.items
    (subst (IsDistinct nat_eq) (sym (c.in-Ok.ensures.opened.switches ∙ c.as_slice-2.ensures ∙ c.in_ok-homes.ensures)) (passing_distinct (length p.switches) (is_working_home p c.args.plan.now.plan)))

pub keep_ports-requires-clause-apart : goal.keep_ports-requires-clause-apart
keep_ports-requires-clause-apart g c =
    let p = c.args.plan.now.problem in
    let until = c.in-Err.ensures.until in
    apart_by c.open_each-opened.new.berths.items
    (subst (IsDistinct nat_eq) (sym until.opens.switches) (distinct_front until.earlier (c.in-Err.switch ∷ until.later)
    (subst (IsDistinct nat_eq) (sym (c.as_slice-2.ensures ∙ c.in_ok-homes.ensures) ∙ until.among) (passing_distinct (length p.switches) (is_working_home p c.args.plan.now.plan)))))

pub keep_ports-requires-clause-lent : goal.keep_ports-requires-clause-lent
keep_ports-requires-clause-lent g c =
    let until = c.in-Err.ensures.until in
    opened_lent g.F.Port.Port.told c.problem.result.now until.earlier (ports_of (g.F.Fleet.told c.args.fleet.now)) (ports_of (g.F.Fleet.told c.open_each-opened.new.fleet))
    c.open_each-opened.new.berths.items until.opens

pub returns-clause-refused : goal.returns-clause-refused
returns-clause-refused g c =
    let homes = working_homes c.args.plan.now.problem c.args.plan.now.plan in
    let before = ports_of (g.F.Fleet.told c.args.fleet.now) in
    let now = ports_of (g.F.Fleet.told c.open_each-opened.new.fleet) in
    let after = ports_of (g.F.Fleet.told c.keep_ports.new.fleet) in
    subst (λ (q : Problem). StopsAt g.F.Port.Port.told q homes c.in-Err.switch before after) c.problem.ensures
    (stops_at g.F.Port.Port.told c.problem.result.now c.as_slice-2.result.now homes c.in-Err.switch before now after c.open_each-opened.new.berths.items
    (c.as_slice-2.ensures ∙ c.in_ok-homes.ensures) c.in-Err.ensures.until c.keep_ports.ensures.ports)
