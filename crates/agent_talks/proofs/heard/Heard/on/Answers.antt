use Rattle.std.proofs.Common.{◌∙◌, Some, None, sym, ap}
use Rattle.std.proofs.lemmas.Bool.{eq-eqb, ne_eqb}
use Rattle.agent_talks.specs.Serving.{heard_on}
use Rattle.switch_agent.specs.ReadStates.{ReadSoFar}
use Rattle.agent_talks.specs.declared.heard.Heard.{Heard}
use Rattle.fenced_wire.specs.Reading.{all_kept}
use Rattle.agent_talks.proofs.heard.Heard.on.Goals as goal

pub returns-then-room-eq0 : goal.returns-then-room-eq0
returns-then-room-eq0 c = sym (ap (heard_on c.args.commands (all_kept c.args.reader) c.args.room) (eq-eqb c.args.room 0 c.if-room-eq0.true))

pub returns : goal.returns
returns c =
    ap (λ (t : ReadSoFar). let heard : Heard = record { served = record { commands = c.args.commands; fault = None }; talk = Some t } in heard) c.of.ensures
    ∙ sym (ap (heard_on c.args.commands (all_kept c.args.reader) c.args.room) (ne_eqb c.args.room 0 c.if-room-eq0.false))
