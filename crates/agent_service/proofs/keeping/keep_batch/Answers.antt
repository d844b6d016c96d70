use Rattle.std.proofs.Common.{◌≡◌, inl, length, rules, subst, sym}
use Rattle.fenced_agent.specs.Agents.{fenced_holding}
use Rattle.agent_state.specs.Stored.{IsBeforeOrAfter, IsKept}
use Rattle.agent_state.proofs.KeptFiles.{kept_reads}
use Rattle.disk_model.proofs.Passages.{still_run}
use Rattle.agent_service.specs.Keeping.{IsOnDisk}
use Rattle.agent_service.proofs.KeptRows.{none_stored}
use Rattle.agent_service.proofs.keeping.keep_batch.Goals as goal

pub returns-then-is_empty-clause-any_moment : goal.returns-then-is_empty-clause-any_moment
returns-then-is_empty-clause-any_moment g c = λ before kept stores.
    still_run g.D.Disk.told (IsKept c.args.place before) (λ image. IsBeforeOrAfter before (fenced_holding c.args.agent.now)) (g.D.Disk.told c.args.disk.now).bytes c.args.disk.now (g.met.D.Disk.only_now c.args.disk.now) kept
    (λ image is. inl (kept_reads c.args.place before image is))

pub returns-then-is_empty-clause-done : goal.returns-then-is_empty-clause-done
returns-then-is_empty-clause-done g c = λ before kept stores.
    let none : length c.args.batch.now ≡ 0 = search rules in
    subst (IsOnDisk (g.D.Disk.told c.args.disk.now) c.args.place) (sym (none_stored before (fenced_holding c.args.agent.now) c.args.batch.now stores none)) kept

pub returns-in_err-now-clause-any_moment : goal.returns-in_err-now-clause-any_moment
returns-in_err-now-clause-any_moment g c = λ before kept stores.
    c.append.ensures.any_moment before stores.stored kept stores.is stores.leads

pub returns-clause-any_moment : goal.returns-clause-any_moment
returns-clause-any_moment g c = λ before kept stores.
    c.append.ensures.any_moment before stores.stored kept stores.is stores.leads

pub returns-clause-done : goal.returns-clause-done
returns-clause-done g c = λ before kept stores.
    c.in_ok-now.ensures.done before stores.stored kept stores.is stores.leads
