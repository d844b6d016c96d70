use Rattle.std.proofs.Common.{◌∙◌, Some, None, sym, ap}
use Rattle.std.proofs.lemmas.Bool.{eq-eqb, ne_eqb}
use Rattle.switch_agent.specs.Serving.{heard_on}
use Rattle.switch_agent.specs.ReadStates.{ReadSoFar}
use Rattle.switch_agent.specs.declared.guest_read.GuestRead.{GuestRead}
use Rattle.switch_agent.proofs.guest_read.GuestRead.on.Goals as goal

pub returns-then-room-eq0 : goal.returns-then-room-eq0
returns-then-room-eq0 c = sym (ap (heard_on c.args.commands c.args.reader.kept c.args.room) (eq-eqb c.args.room 0 c.if-room-eq0.true))

pub returns : goal.returns
returns c =
    ap (λ (t : ReadSoFar). let heard : GuestRead = record { served = record { commands = c.args.commands; fault = None }; talk = Some t } in heard) c.of.ensures
    ∙ sym (ap (heard_on c.args.commands c.args.reader.kept c.args.room) (ne_eqb c.args.room 0 c.if-room-eq0.false))
