use Rattle.std.proofs.Common.{◌≡◌, ◌∙◌, ◌+◌, inl, ℕ, ap, length, refl, rules}
use Rattle.agent_state.specs.Stored.{IsBeforeOrAfter, IsKept}
use Rattle.agent_state.proofs.KeptFiles.{add_run, added, kept_reads}
use Rattle.disk_model.proofs.Passages.{still_run}
use Rattle.agent_state.proofs.keeping.add.Goals as goal

pub returns-in_err-near-clause-any_moment : goal.returns-in_err-near-clause-any_moment
returns-in_err-near-clause-any_moment g c = λ before now stored holds are leads.
    still_run g.D.Disk.told (IsKept c.args.place before) (λ image. IsBeforeOrAfter before now) (g.D.Disk.told c.args.disk.now).bytes c.args.disk.now (g.met.D.Disk.only_now c.args.disk.now) holds (λ image is. inl (kept_reads c.args.place before image is))

pub returns-in_err-body-clause-any_moment : goal.returns-in_err-body-clause-any_moment
returns-in_err-body-clause-any_moment g c = λ before now stored holds are leads.
    still_run g.D.Disk.told (IsKept c.args.place before) (λ image. IsBeforeOrAfter before now) (g.D.Disk.told c.args.disk.now).bytes c.args.disk.now (g.met.D.Disk.only_now c.args.disk.now) holds (λ image is. inl (kept_reads c.args.place before image is))

pub returns-in_err-commit-clause-any_moment : goal.returns-in_err-commit-clause-any_moment
returns-in_err-commit-clause-any_moment g c = λ before now stored holds are leads.
    add_run g.D.Disk.told (g.D.Disk.told c.args.disk.now).bytes (g.D.Disk.told c.args.disk.now).may_leave c.args.disk.now c.commit.new.disk c.args.place before now stored c.args.batch.now c.as_slice.result.now holds are leads
    (record { few = c.in_ok-body.ensures.few; is = c.as_slice.ensures.value ∙ c.in_ok-body.ensures.is }) c.commit.ensures.any_moment

pub returns-clause-any_moment : goal.returns-clause-any_moment
returns-clause-any_moment g c = λ before now stored holds are leads.
    add_run g.D.Disk.told (g.D.Disk.told c.args.disk.now).bytes (g.D.Disk.told c.args.disk.now).may_leave c.args.disk.now c.commit.new.disk c.args.place before now stored c.args.batch.now c.as_slice.result.now holds are leads
    (record { few = c.in_ok-body.ensures.few; is = c.as_slice.ensures.value ∙ c.in_ok-body.ensures.is }) c.commit.ensures.any_moment

pub returns-clause-done : goal.returns-clause-done
returns-clause-done g c = λ before now stored holds are leads.
    let long : c.len.result ≡ length c.as_slice.result.now = search rules in
    added (g.D.Disk.told c.args.disk.now).bytes (g.D.Disk.told c.commit.new.disk).bytes (g.D.Disk.told c.args.disk.now).may_leave (g.D.Disk.told c.commit.new.disk).may_leave
    c.args.place (record c.args.place { gate = c.args.place.gate + c.len.result }) before now stored c.args.batch.now c.as_slice.result.now refl (ap (λ (n : ℕ). c.args.place.gate + n) long) holds are leads
    (record { few = c.in_ok-body.ensures.few; is = c.as_slice.ensures.value ∙ c.in_ok-body.ensures.is }) c.commit.ensures.told c.in_ok-commit.ensures.done
