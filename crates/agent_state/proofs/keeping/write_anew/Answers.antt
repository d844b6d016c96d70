use Rattle.std.proofs.Common.{◌≡◌, ◌∙◌, ◌+◌, ℕ, ap, not, length, refl, rules, subst, sym}
use Rattle.fenced_agent.specs.Agents.{fenced_holding}
use Rattle.agent_state.specs.Stored.{IsBatch, IsKept, IsReadAs, last_batch}
use Rattle.agent_state.specs.declared.place.Place.{Place}
use Rattle.agent_state.proofs.KeptFiles.{anew_run, kept_reads, renewed}
use Rattle.disk_model.proofs.Passages.{still_run}
use Rattle.agent_state.proofs.keeping.write_anew.Goals as goal

pub returns-in_err-batch-clause-any_moment : goal.returns-in_err-batch-clause-any_moment
returns-in_err-batch-clause-any_moment g c = λ holds.
    still_run g.D.Disk.told (IsKept c.args.place (fenced_holding c.args.agent.now)) (λ image. λ b. IsReadAs b (fenced_holding c.args.agent.now)) (g.D.Disk.told c.args.disk.now).bytes c.args.disk.now (g.met.D.Disk.only_now c.args.disk.now) holds (λ image is. kept_reads c.args.place (fenced_holding c.args.agent.now) image is)

pub returns-in_err-part-clause-any_moment : goal.returns-in_err-part-clause-any_moment
returns-in_err-part-clause-any_moment g c = λ holds.
    still_run g.D.Disk.told (IsKept c.args.place (fenced_holding c.args.agent.now)) (λ image. λ b. IsReadAs b (fenced_holding c.args.agent.now)) (g.D.Disk.told c.args.disk.now).bytes c.args.disk.now (g.met.D.Disk.only_now c.args.disk.now) holds (λ image is. kept_reads c.args.place (fenced_holding c.args.agent.now) image is)

pub returns-in_err-to-clause-any_moment : goal.returns-in_err-to-clause-any_moment
returns-in_err-to-clause-any_moment g c = λ holds.
    still_run g.D.Disk.told (IsKept c.args.place (fenced_holding c.args.agent.now)) (λ image. λ b. IsReadAs b (fenced_holding c.args.agent.now)) (g.D.Disk.told c.args.disk.now).bytes c.args.disk.now (g.met.D.Disk.only_now c.args.disk.now) holds (λ image is. kept_reads c.args.place (fenced_holding c.args.agent.now) image is)

pub returns-in_err-renew-clause-any_moment : goal.returns-in_err-renew-clause-any_moment
returns-in_err-renew-clause-any_moment g c = λ holds.
    anew_run g.D.Disk.told (g.D.Disk.told c.args.disk.now).bytes (g.D.Disk.told c.args.disk.now).may_leave c.args.disk.now c.renew.new.disk c.args.place c.args.agent.now c.as_slice.result.now c.as_slice-2.result.now holds
    (subst (IsBatch (last_batch c.args.agent.now)) (sym c.as_slice.ensures.value) c.in_ok-batch.ensures.bytes) c.last_bytes.ensures.apart c.in_ok-part.ensures.few (c.as_slice-2.ensures.value ∙ c.in_ok-part.ensures.is) c.renew.ensures.any_moment

pub returns-clause-any_moment : goal.returns-clause-any_moment
returns-clause-any_moment g c = λ holds.
    anew_run g.D.Disk.told (g.D.Disk.told c.args.disk.now).bytes (g.D.Disk.told c.args.disk.now).may_leave c.args.disk.now c.renew.new.disk c.args.place c.args.agent.now c.as_slice.result.now c.as_slice-2.result.now holds
    (subst (IsBatch (last_batch c.args.agent.now)) (sym c.as_slice.ensures.value) c.in_ok-batch.ensures.bytes) c.last_bytes.ensures.apart c.in_ok-part.ensures.few (c.as_slice-2.ensures.value ∙ c.in_ok-part.ensures.is) c.renew.ensures.any_moment

-- what the call needs of the room aside, by the part's own length
pub renew-requires : goal.renew-requires
renew-requires g c = record { aside = search rules; small = c.in_ok-to.ensures.near }

pub returns-clause-done : goal.returns-clause-done
returns-clause-done g c = λ holds.
    let to = c.in_ok-to.to in
    let long : c.len-2.result ≡ length c.as_slice.result.now = search rules in
    let next : Place = record { second = not c.args.place.second; start = to; gate = to + 5 + c.len-2.result; fresh = c.len-3.result } in
    renewed (g.D.Disk.told c.args.disk.now).bytes (g.D.Disk.told c.renew.new.disk).bytes (g.D.Disk.told c.args.disk.now).may_leave (g.D.Disk.told c.renew.new.disk).may_leave
    c.args.place next c.args.agent.now to c.as_slice.result.now c.as_slice-2.result.now refl (ap (λ (n : ℕ). to + 5 + n) long) holds
    (subst (IsBatch (last_batch c.args.agent.now)) (sym c.as_slice.ensures.value) c.in_ok-batch.ensures.bytes) c.last_bytes.ensures.apart c.in_ok-part.ensures.few (c.as_slice-2.ensures.value ∙ c.in_ok-part.ensures.is)
    c.renew.ensures.told c.in_ok-renew.ensures.done
