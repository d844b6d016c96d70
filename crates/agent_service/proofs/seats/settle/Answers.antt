use Rattle.std.proofs.Common.{◌∙◌, Option, length, sym, ap, arith}
use Rattle.std.proofs.lemmas.List.{length_push}
use Rattle.switch_agent.specs.ReadStates.{ReadSoFar}
use Rattle.agent_service.specs.Services.{back_behind, count_behind, guests_behind, talks_behind}
use Rattle.agent_service.proofs.seats.settle.Goals as goal

pub returns-in-Some-clause-seated : goal.returns-in-Some-clause-seated
returns-in-Some-clause-seated g c = c.push_reserved.ensures.items ∙ ap (λ (t : Option ReadSoFar). guests_behind c.args.seated.now.items c.args.guest t) (sym c.in-Some.is)

pub returns-in-Some-clause-talks : goal.returns-in-Some-clause-talks
returns-in-Some-clause-talks g c = c.push_reserved-in-Some.ensures.items ∙ ap (λ (t : Option ReadSoFar). talks_behind c.args.talks.now.items t) (sym c.in-Some.is)

pub returns-in-Some-clause-back : goal.returns-in-Some-clause-back
returns-in-Some-clause-back g c = ap (λ (t : Option ReadSoFar). back_behind (g.F.Fleet.told c.args.fleet.now).served c.args.guest t) (sym c.in-Some.is)

pub returns-in-Some-clause-counted : goal.returns-in-Some-clause-counted
returns-in-Some-clause-counted g c = c.with_commands.ensures ∙ ap (λ (t : Option ReadSoFar). count_behind c.args.service c.args.heard.served t) (sym c.in-Some.is)

pub returns-in-Some-clause-visiting : goal.returns-in-Some-clause-visiting
returns-in-Some-clause-visiting g c = omega (arith, ap length c.push_reserved.ensures.items, length_push c.args.seated.now.items c.args.guest)

pub returns-in-None-clause-seated : goal.returns-in-None-clause-seated
returns-in-None-clause-seated g c = ap (λ (t : Option ReadSoFar). guests_behind c.args.seated.now.items c.args.guest t) (sym c.in-None.is)

pub returns-in-None-clause-talks : goal.returns-in-None-clause-talks
returns-in-None-clause-talks g c = ap (λ (t : Option ReadSoFar). talks_behind c.args.talks.now.items t) (sym c.in-None.is)

pub returns-in-None-clause-back : goal.returns-in-None-clause-back
returns-in-None-clause-back g c = c.keep_guest.ensures.back ∙ ap (λ (t : Option ReadSoFar). back_behind (g.F.Fleet.told c.args.fleet.now).served c.args.guest t) (sym c.in-None.is)

pub returns-in-None-clause-counted : goal.returns-in-None-clause-counted
returns-in-None-clause-counted g c = c.with_guest.ensures ∙ ap (λ (t : Option ReadSoFar). count_behind c.args.service c.args.heard.served t) (sym c.in-None.is)

pub returns-in-None-clause-visiting : goal.returns-in-None-clause-visiting
returns-in-None-clause-visiting g c = omega (arith, c.keep_guest.ensures.place)
