use Rattle.std.proofs.Common.{◌-◌, ◌≤◌, [], length, take, List, ℕ, subst, arith}
use Rattle.fenced_agent.specs.Agents.{fenced_holding}
use Rattle.switch_agent.proofs.Chains.{behind_on, bytes_on, rest_on}
use Rattle.agent_state.specs.Opened.{Restores}
use Rattle.agent_state.proofs.Walked.{Restores-more}
use Rattle.agent_state.proofs.walking.restore_all.Goals as goal

pub loop-rest-preserved : goal.loop-rest-preserved
loop-rest-preserved c =
    let bytes = c.args.bytes.now in
    let rest = c.loop-rest.rest.now in
    let i = c.loop-rest.invariant in
    let first = c.in-Some.ensures in
    let found = c.in-Some.found in
    let taken = found.0 in
    let fits : taken ≤ length rest = omega (arith, first.within) in
    let on = Restores-more (fenced_holding c.args.agent.now) (fenced_holding c.loop-rest.agent) (fenced_holding c.restore_found.new.agent) (take (length bytes - length rest) bytes) (take taken rest)
    (found.1, found.2) i.so_far first.fits first.is c.in_ok-restore_found.ensures in
    record {
      behind = behind_on bytes rest i.behind i.within taken fits;
      within = omega (arith, rest_on bytes rest i.behind i.within taken fits, i.within);
      so_far = subst (λ (l : List ℕ). Restores (fenced_holding c.args.agent.now) (fenced_holding c.restore_found.new.agent) l) (bytes_on bytes rest i.behind i.within taken fits []) on;
    }
