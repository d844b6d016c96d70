use Rattle.std.proofs.Common.{◌∙◌, List, ℕ, ap, subst, sym}
use Rattle.switch_agent.specs.Items.{holding}
use Rattle.wan_edge.specs.Frames.{CommandFrame}
use Rattle.wan_edge.specs.Ports.{MovesByRule}
use Rattle.lossy_link.specs.Incoming.{offered_of}
use Rattle.lossy_link.specs.Scripted.{AreSent}
use Rattle.lossy_link.specs.Traffic.{traffic_of}
use Rattle.lossy_link.specs.WayBack.{Back}
use Rattle.lossy_link.proofs.Behind.{more_behind, one_behind, one_more, out_behind, out_same}
use Rattle.lossy_link.proofs.Sending.{moves_by, sent_on}
use Rattle.lossy_link.proofs.script_port.send_each.Goals as goal

pub loop-command-preserved : goal.loop-command-preserved
loop-command-preserved c =
    let i = c.loop-command.invariant in
    let before = c.loop-command.incoming in
    let now = c.next.new.self in
    let command : CommandFrame = c.in-Some.command in
    let first = traffic_of c.args.line.now in
    let then_t = traffic_of c.loop-command.line in
    record {
      behind = λ earlier has. one_behind before now command c.in-Some.ensures.given earlier (AreSent first then_t) (AreSent first (traffic_of c.send.new.self)) (sent_on first then_t (traffic_of c.send.new.self) command c.in_ok-send.ensures.ok) (i.behind earlier has);
      moves = λ earlier has.
          moves_by before now command c.in-Some.ensures.given (offered_of c.args.incoming.now) (c.in-Some.ensures.given.same ∙ i.same) earlier (more_behind (AreSent first then_t) earlier before.taken (i.behind earlier has))
          (holding c.args.line.now.items) (holding c.loop-command.line.items) (holding c.send.new.self.items) c.send.ensures.moves.0 c.send.ensures.moves.1 (i.moves earlier has);
      same = c.in-Some.ensures.given.same ∙ i.same;
      unheard = ap (λ (b : Back). b.heard) c.send.ensures.back ∙ i.unheard;
      honest = c.send.ensures.honest;
    }

pub returns-in_err-send-clause-has : goal.returns-in_err-send-clause-has
returns-in_err-send-clause-has c earlier has =
    let i = c.loop-command.invariant in
    one_more c.loop-command.incoming c.next.new.self c.in-Some.command c.in-Some.ensures.given earlier (more_behind (AreSent (traffic_of c.args.line.now) (traffic_of c.loop-command.line)) earlier c.loop-command.incoming.taken (i.behind earlier has))

pub returns-in_err-send-clause-moves : goal.returns-in_err-send-clause-moves
returns-in_err-send-clause-moves c earlier has =
    let i = c.loop-command.invariant in
    let before = c.loop-command.incoming in
    let now = c.next.new.self in
    let same = c.in-Some.ensures.given.same ∙ i.same in
    subst (λ (xs : List ℕ). MovesByRule xs (holding c.args.line.now.items) (holding c.send.new.self.items)) (sym same)
    (moves_by before now c.in-Some.command c.in-Some.ensures.given (offered_of c.args.incoming.now) same earlier (more_behind (AreSent (traffic_of c.args.line.now) (traffic_of c.loop-command.line)) earlier before.taken (i.behind earlier has))
    (holding c.args.line.now.items) (holding c.loop-command.line.items) (holding c.send.new.self.items) c.send.ensures.moves.0 c.send.ensures.moves.1 (i.moves earlier has))

pub returns-clause-sent : goal.returns-clause-sent
returns-clause-sent c earlier has =
    out_behind (AreSent (traffic_of c.args.line.now) (traffic_of c.loop-command.line)) earlier c.loop-command.incoming c.next.new.self c.in_default.ensures.none (c.loop-command.invariant.behind earlier has)

pub returns-clause-has : goal.returns-clause-has
returns-clause-has c earlier has =
    more_behind (AreSent (traffic_of c.args.line.now) (traffic_of c.loop-command.line)) earlier c.next.new.self.taken
    (out_behind (AreSent (traffic_of c.args.line.now) (traffic_of c.loop-command.line)) earlier c.loop-command.incoming c.next.new.self c.in_default.ensures.none (c.loop-command.invariant.behind earlier has))

pub returns-clause-moves : goal.returns-clause-moves
returns-clause-moves c earlier has =
    let i = c.loop-command.invariant in
    subst (λ (xs : List ℕ). MovesByRule xs (holding c.args.line.now.items) (holding c.loop-command.line.items)) (sym (out_same c.loop-command.incoming c.next.new.self c.in_default.ensures.none ∙ i.same)) (i.moves earlier has)
