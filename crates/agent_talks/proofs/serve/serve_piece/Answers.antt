use Rattle.std.proofs.Common.{◌≡◌, ◌∙◌, ◌+◌, ◌-◌, ◌++◌, List, ℕ, length, take, drop, Option, Some, None, subst, arith}
use Rattle.std.specs.Prelude.{IfSome}
use Rattle.wan_edge.proofs.Chains.{sink_steps}
use Rattle.agent_talks.specs.Serving.{CarriesOut}
use Rattle.switch_agent.specs.Serving.{IsOwnFault}
use Rattle.switch_agent.specs.declared.serve_fault.ServeFault.{ServeFault}
use Rattle.fenced_wire.specs.Reading.{all_kept}
use Rattle.switch_agent.proofs.Chains.{behind_on, bytes_all, bytes_on, rest_on}
use Rattle.agent_talks.proofs.Chains.{carried_with_more, carry_on}
use Rattle.agent_talks.proofs.serve.serve_piece.Goals as goal

pub returns-in-Some-clause-carried : goal.returns-in-Some-clause-carried
returns-in-Some-clause-carried g c =
    let n = c.serve_next-n.result.0 in
    let count = c.serve_next-n.result.1.commands in
    let piece = c.args.piece.now in
    let rest = c.loop-rest.rest.now in
    let kept = (all_kept c.loop-rest.reader) in
    let before = (all_kept c.args.reader.now) in
    let i = c.loop-rest.invariant in
    let next = subst (λ (f : Option ServeFault). CarriesOut c.loop-rest.agent c.serve_next-n.new.agent (kept ++ take n rest) (record { commands = count; fault = f }) (λ xs. xs ≡ (all_kept c.serve_next-n.new.reader)) (g.G.Sink.told c.loop-rest.guest).written (g.G.Sink.told c.serve_next-n.new.guest).written) c.in-Some.is c.serve_next-n.ensures.carried in
    let own : IsOwnFault c.in-Some.fault = subst (λ (f : Option ServeFault). IfSome f IsOwnFault) c.in-Some.is c.serve_next-n.ensures.own in
    let on = carry_on c.args.agent.now c.loop-rest.agent c.serve_next-n.new.agent (before ++ take (length piece - length rest) piece) kept (take n rest) c.loop-rest.commands count (Some c.in-Some.fault) (λ xs. xs ≡ (all_kept c.serve_next-n.new.reader)) _ _ _ i.carried next in
    let all = carried_with_more c.args.agent.now c.serve_next-n.new.agent _ (drop n rest) (c.loop-rest.commands + count) c.in-Some.fault (λ xs. xs ≡ (all_kept c.serve_next-n.new.reader)) (λ xs. xs ≡ (all_kept c.serve_next-n.new.reader)) _ _ own on in
    subst (λ (bytes : List ℕ). CarriesOut c.args.agent.now c.serve_next-n.new.agent bytes (record { commands = c.loop-rest.commands + count; fault = Some c.in-Some.fault }) (λ xs. xs ≡ (all_kept c.serve_next-n.new.reader)) (g.G.Sink.told c.args.guest.now).written (g.G.Sink.told c.serve_next-n.new.guest).written)
    (bytes_all piece rest i.behind i.within n c.serve_next-n.ensures.taken.1 before) all

pub loop-rest-preserved : goal.loop-rest-preserved
loop-rest-preserved g c =
    let n = c.serve_next-n.result.0 in
    let count = c.serve_next-n.result.1.commands in
    let piece = c.args.piece.now in
    let rest = c.loop-rest.rest.now in
    let kept = (all_kept c.loop-rest.reader) in
    let before = (all_kept c.args.reader.now) in
    let i = c.loop-rest.invariant in
    let fits = c.serve_next-n.ensures.taken.1 in
    let some = c.serve_next-n.ensures.taken.0 in
    let shorter = rest_on piece rest i.behind i.within n fits in
    let next = subst (λ (f : Option ServeFault). CarriesOut c.loop-rest.agent c.serve_next-n.new.agent (kept ++ take n rest) (record { commands = count; fault = f }) (λ xs. xs ≡ (all_kept c.serve_next-n.new.reader)) (g.G.Sink.told c.loop-rest.guest).written (g.G.Sink.told c.serve_next-n.new.guest).written) c.in_default.is c.serve_next-n.ensures.carried in
    let on = carry_on c.args.agent.now c.loop-rest.agent c.serve_next-n.new.agent (before ++ take (length piece - length rest) piece) kept (take n rest) c.loop-rest.commands count None (λ xs. xs ≡ (all_kept c.serve_next-n.new.reader)) _ _ _ i.carried next in
    record {
      behind = behind_on piece rest i.behind i.within n fits;
      within = omega (arith, shorter);
      carried = subst (λ (bytes : List ℕ). CarriesOut c.args.agent.now c.serve_next-n.new.agent bytes (record { commands = c.loop-rest.commands + count; fault = None }) (λ xs. xs ≡ (all_kept c.serve_next-n.new.reader)) (g.G.Sink.told c.args.guest.now).written (g.G.Sink.told c.serve_next-n.new.guest).written)
          (bytes_on piece rest i.behind i.within n fits before) on;
      few = omega (arith, shorter, c.serve_next-n.ensures.few, i.few);
      live = c.serve_next-n.ensures.live c.in_default.is;
      cut = c.serve_next-n.ensures.cut c.in_default.is;
      writes = sink_steps _ _ _ i.writes c.serve_next-n.ensures.writes;
      unread = c.serve_next-n.ensures.unread ∙ i.unread;
    }
