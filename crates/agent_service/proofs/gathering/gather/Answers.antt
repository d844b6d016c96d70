use Rattle.std.proofs.Common.{◌≡◌, ◌+◌, ◌-◌, ◌++◌, List, ℕ, length, take, drop, Option, Some, None, subst, arith}
use Rattle.std.specs.Prelude.{IfSome}
use Rattle.fenced_agent.specs.Agents.{fenced_holding}
use Rattle.agent_talks.specs.Serving.{CarriesOut}
use Rattle.switch_agent.specs.Serving.{IsOwnFault}
use Rattle.switch_agent.specs.declared.serve_fault.ServeFault.{ServeFault}
use Rattle.switch_agent.proofs.Chains.{behind_on, bytes_all, bytes_on, rest_on}
use Rattle.agent_talks.proofs.Chains.{carried_with_more, carry_on}
use Rattle.fenced_wire.specs.Reading.{all_kept}
use Rattle.agent_service.proofs.Batching.{Stores-chain}
use Rattle.agent_service.proofs.gathering.gather.Goals as goal

pub returns-in-Some-clause-carried : goal.returns-in-Some-clause-carried
returns-in-Some-clause-carried c =
    let n = c.in_ok-next.next.0 in
    let count = c.in_ok-next.next.1.commands in
    let piece = c.args.piece.now in
    let rest = c.loop-rest.rest.now in
    let kept = (all_kept c.loop-rest.reader) in
    let before = (all_kept c.args.reader.now) in
    let i = c.loop-rest.invariant in
    let next = subst (λ (f : Option ServeFault). CarriesOut c.loop-rest.agent c.gather_next.new.agent (kept ++ take n rest) (record { commands = count; fault = f }) (λ xs. xs ≡ all_kept c.gather_next.new.reader) (Some c.loop-rest.gathered.answers.items) (Some c.gather_next.new.gathered.answers.items)) c.in-Some.is c.in_ok-next.ensures.carried in
    let own : IsOwnFault c.in-Some.fault = subst (λ (f : Option ServeFault). IfSome f IsOwnFault) c.in-Some.is c.in_ok-next.ensures.own in
    let on = carry_on c.args.agent.now c.loop-rest.agent c.gather_next.new.agent (before ++ take (length piece - length rest) piece) kept (take n rest) c.loop-rest.commands count (Some c.in-Some.fault) (λ xs. xs ≡ all_kept c.gather_next.new.reader) _ _ _ i.carried next in
    let all = carried_with_more c.args.agent.now c.gather_next.new.agent _ (drop n rest) (c.loop-rest.commands + count) c.in-Some.fault (λ xs. xs ≡ all_kept c.gather_next.new.reader) (λ xs. xs ≡ all_kept c.gather_next.new.reader) _ _ own on in
    subst (λ (bytes : List ℕ). CarriesOut c.args.agent.now c.gather_next.new.agent bytes (record { commands = c.loop-rest.commands + count; fault = Some c.in-Some.fault }) (λ xs. xs ≡ all_kept c.gather_next.new.reader) (Some c.args.gathered.now.answers.items) (Some c.gather_next.new.gathered.answers.items))
    (bytes_all piece rest i.behind i.within n c.in_ok-next.ensures.taken.1 before) all

pub loop-rest-preserved : goal.loop-rest-preserved
loop-rest-preserved c =
    let n = c.in_ok-next.next.0 in
    let count = c.in_ok-next.next.1.commands in
    let piece = c.args.piece.now in
    let rest = c.loop-rest.rest.now in
    let kept = (all_kept c.loop-rest.reader) in
    let before = (all_kept c.args.reader.now) in
    let i = c.loop-rest.invariant in
    let fits = c.in_ok-next.ensures.taken.1 in
    let some = c.in_ok-next.ensures.taken.0 in
    let shorter = rest_on piece rest i.behind i.within n fits in
    let next = subst (λ (f : Option ServeFault). CarriesOut c.loop-rest.agent c.gather_next.new.agent (kept ++ take n rest) (record { commands = count; fault = f }) (λ xs. xs ≡ all_kept c.gather_next.new.reader) (Some c.loop-rest.gathered.answers.items) (Some c.gather_next.new.gathered.answers.items)) c.in_default.is c.in_ok-next.ensures.carried in
    let on = carry_on c.args.agent.now c.loop-rest.agent c.gather_next.new.agent (before ++ take (length piece - length rest) piece) kept (take n rest) c.loop-rest.commands count None (λ xs. xs ≡ all_kept c.gather_next.new.reader) _ _ _ i.carried next in
    record {
      behind = behind_on piece rest i.behind i.within n fits;
      within = omega (arith, shorter);
      carried = subst (λ (bytes : List ℕ). CarriesOut c.args.agent.now c.gather_next.new.agent bytes (record { commands = c.loop-rest.commands + count; fault = None }) (λ xs. xs ≡ all_kept c.gather_next.new.reader) (Some c.args.gathered.now.answers.items) (Some c.gather_next.new.gathered.answers.items))
          (bytes_on piece rest i.behind i.within n fits before) on;
      few = omega (arith, shorter, c.in_ok-next.ensures.few, i.few);
      live = c.in_ok-next.ensures.live c.in_default.is;
      cut = c.in_ok-next.ensures.cut c.in_default.is;
      stored = Stores-chain (fenced_holding c.args.agent.now) (fenced_holding c.loop-rest.agent) (fenced_holding c.gather_next.new.agent) _ _ _ i.stored c.in_ok-next.ensures.stored;
    }

pub returns-in-Some-clause-stored : goal.returns-in-Some-clause-stored
returns-in-Some-clause-stored c = Stores-chain (fenced_holding c.args.agent.now) (fenced_holding c.loop-rest.agent) (fenced_holding c.gather_next.new.agent) _ _ _ c.loop-rest.invariant.stored c.in_ok-next.ensures.stored
