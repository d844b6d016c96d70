use Rattle.std.proofs.Common.{ℕ, sym, subst}
use Rattle.turn_lock.specs.Passes.{seat_of_pass, seats_of, seen_of}
use Rattle.shared_book.specs.Lasting.{CountsAsHeard}
use Rattle.controller_run.proofs.Works.{late-settled}
use Rattle.controller_run.proofs.hearing.hear_late.Goals as goal

pub settle_late-requires-clause-told : goal.settle_late-requires-clause-told
settle_late-requires-clause-told g c = subst (λ (m : ℕ). CountsAsHeard g.T.Port.told m g.M.Marker.heard) (sym c.in-Ok.ensures.migration) c.requires.told

pub returns-in-Ok-clause-carried_out : goal.returns-in-Ok-clause-carried_out
returns-in-Ok-clause-carried_out g c =
    late-settled g.T.Port.told g.M.Marker.opening (seats_of c.args.pass.pass) (seat_of_pass c.args.pass.pass) c.args.terms.migration c.args.terms.homes.now c.args.commands c.requires.none
    (record { seen = seen_of c.args.pass.pass; ports = c.args.ports.now }) c.exchange.new.ports c.in-Ok.heard.answers c.settle_late.result.1 (seen_of c.settle_late.result.0.pass) c.requires.late c.in-Ok.ensures.ok c.settle_late.ensures.settled
