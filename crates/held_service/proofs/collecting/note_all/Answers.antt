use Rattle.std.proofs.Common.{List, ℕ, Option, length, sym, ap, ◌∙◌}
use Rattle.rollout_rules.specs.Items.{item_count}
use Rattle.rollout_rules.specs.Wan.{Rollout}
use Rattle.rollout_rules.proofs.Rows.{list_below-length}
use Rattle.switch_ports.specs.Berths.{ports_of}
use Rattle.held_service.specs.Noting.{no_notes}
use Rattle.held_service.specs.Questions.{asked_home}
use Rattle.held_service.proofs.Visited.{all-in, fails-also, stops-in, tells-long}
use Rattle.held_service.proofs.collecting.note_all.Goals as goal

pub ask_each-requires-clause-count : goal.ask_each-requires-clause-count
ask_each-requires-clause-count g c =
    let r = c.args.plan.now in
    c.item_count-count.ensures ∙ ap (λ (o : Rollout). item_count o.problem) c.requires.index ∙ sym (list_below-length (item_count r.problem) (asked_home r.problem r.plan)) ∙ ap (λ (hs : List (Option ℕ)). length hs) (sym c.requires.homes)

pub ask_each-requires-clause-none : goal.ask_each-requires-clause-none
ask_each-requires-clause-none g c =
    let r = c.args.plan.now in
    c.requires.none ∙ ap no_notes (sym (list_below-length (item_count r.problem) (asked_home r.problem r.plan)) ∙ ap (λ (hs : List (Option ℕ)). length hs) (sym c.requires.homes))

pub returns-in-Ok-clause-ok : goal.returns-in-Ok-clause-ok
returns-in-Ok-clause-ok g c =
    let r = c.args.plan.now in
    let before = ports_of (g.F.Fleet.told c.args.fleet.now) in
    let now = ports_of (g.F.Fleet.told c.ask_each.new.fleet) in
    all-in g.F.Port.Port.told c.problem.result.now r.problem r.plan c.args.homes.now c.args.migration c.args.rounds before now c.ask_each.new.notes c.problem.ensures c.requires.homes c.in-Ok.ensures.asks

pub returns-in-Ok-clause-rows : goal.returns-in-Ok-clause-rows
returns-in-Ok-clause-rows g c =
    let r = c.args.plan.now in
    tells-long g.F.Port.Port.told c.problem.result.now c.args.homes.now c.args.migration c.args.rounds (length c.problem.result.now.switches) _ _ c.ask_each.new.notes c.in-Ok.ensures.asks
    ∙ ap (λ (hs : List (Option ℕ)). length hs) c.requires.homes ∙ list_below-length (item_count r.problem) (asked_home r.problem r.plan)

pub returns-in-Err-clause-err : goal.returns-in-Err-clause-err
returns-in-Err-clause-err g c =
    let r = c.args.plan.now in
    let before = ports_of (g.F.Fleet.told c.args.fleet.now) in
    let now = ports_of (g.F.Fleet.told c.ask_each.new.fleet) in
    stops-in g.F.Port.Port.told c.problem.result.now r.problem r.plan c.args.homes.now c.args.migration c.args.rounds c.in-Err.why before now c.problem.ensures c.requires.homes c.in-Err.ensures.asks

pub returns-in-Err-clause-cause : goal.returns-in-Err-clause-cause
returns-in-Err-clause-cause g c = λ w is. c.in-Err.ensures.cause w (fails-also c.in-Err.why w is)
