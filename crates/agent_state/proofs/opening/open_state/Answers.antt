use Rattle.std.proofs.Common.{refl, sym, subst}
use Rattle.std.proofs.lemmas.Result.{err_from_is_err_and}
use Rattle.fenced_agent.specs.Agents.{FencedHoldings, fenced_holding}
use Rattle.disk_model.specs.Crashes.{Holds}
use Rattle.agent_state.specs.Disks.{fault_of_read}
use Rattle.agent_state.specs.Opened.{IsBlank, IsFound}
use Rattle.agent_state.specs.Stored.{IsKept, IsReadAs}
use Rattle.agent_state.proofs.Openings.{found_read, holds_read, nothing_read, quiet_run, read_told, then_alike}
use Rattle.agent_state.proofs.Quiet.{of_read}
use Rattle.agent_state.proofs.Refusals.{causes_at_disk, causes_refused}
use Rattle.agent_state.proofs.opening.open_state.Goals as goal

pub returns-in_err-image-clause-any_moment : goal.returns-in_err-image-clause-any_moment
returns-in_err-image-clause-any_moment g c = quiet_run g.D.Disk.told (g.D.Disk.told c.args.disk.now).bytes c.args.disk.now c.read_synced.new.disk c.read_synced.ensures.quiet

pub returns-in_err-image-clause-cause : goal.returns-in_err-image-clause-cause
returns-in_err-image-clause-cause g c =
    let p = err_from_is_err_and c.from_residual.result c.from_residual.ensures.1 in
    rw (p.1, p.2) (causes_at_disk (fault_of_read c.in_err-image.field-0.0) _ _ (of_read c.in_err-image.field-0.0 _ _ c.in_err-image.ensures.cause))

pub returns-in_err-image-clause-refused : goal.returns-in_err-image-clause-refused
returns-in_err-image-clause-refused g c =
    let p = err_from_is_err_and c.from_residual.result c.from_residual.ensures.1 in
    rw (p.1, p.2) (causes_refused (fault_of_read c.in_err-image.field-0.0) (g.D.Disk.told c.args.disk.now).bytes _ _ (of_read c.in_err-image.field-0.0 _ _ c.in_err-image.ensures.cause))

pub returns-in_err-found-clause-any_moment : goal.returns-in_err-found-clause-any_moment
returns-in_err-found-clause-any_moment g c = quiet_run g.D.Disk.told (g.D.Disk.told c.args.disk.now).bytes c.args.disk.now c.read_synced.new.disk c.read_synced.ensures.quiet

-- the image is blank
pub make-requires : goal.make-requires
make-requires g c =
    holds_read IsBlank (g.D.Disk.told c.args.disk.now).bytes (g.D.Disk.told c.read_synced.new.disk).bytes (g.D.Disk.told c.read_synced.new.disk).may_leave c.in_ok-image.image c.read_synced.ensures.quiet.same c.in_ok-image.ensures.read c.in_ok-image.ensures.durable
    (subst IsBlank c.as_slice-bytes.ensures (c.is_short.ensures.short c.if-is_short.true))

pub returns-in_err-made-clause-any_moment : goal.returns-in_err-made-clause-any_moment
returns-in_err-made-clause-any_moment g c =
    then_alike g.D.Disk.told (g.D.Disk.told c.args.disk.now).bytes (g.D.Disk.told c.read_synced.new.disk).bytes c.args.disk.now c.read_synced.new.disk c.make.new.disk c.read_synced.ensures.quiet refl refl c.make.ensures.any_moment

pub returns-then-is_short-clause-any_moment : goal.returns-then-is_short-clause-any_moment
returns-then-is_short-clause-any_moment g c =
    then_alike g.D.Disk.told (g.D.Disk.told c.args.disk.now).bytes (g.D.Disk.told c.read_synced.new.disk).bytes c.args.disk.now c.read_synced.new.disk c.make.new.disk c.read_synced.ensures.quiet refl refl c.make.ensures.any_moment

pub returns-then-is_short-clause-found : goal.returns-then-is_short-clause-found
returns-then-is_short-clause-found g c =
    read_told (λ image. IsReadAs image (fenced_holding c.args.agent.now)) (g.D.Disk.told c.args.disk.now).bytes c.in_ok-image.image c.in_ok-image.ensures.read
    (nothing_read c.in_ok-image.image (fenced_holding c.args.agent.now) (subst IsBlank c.as_slice-bytes.ensures (c.is_short.ensures.short c.if-is_short.true)) c.requires)

pub returns-then-is_short-clause-done : goal.returns-then-is_short-clause-done
returns-then-is_short-clause-done g c =
    subst (λ (h : FencedHoldings). Holds (IsKept c.in_ok-made.made h) (g.D.Disk.told c.make.new.disk).bytes (g.D.Disk.told c.make.new.disk).may_leave) (sym c.requires) c.in_ok-made.ensures.done

-- the image was read
pub returns-in_err-close_cut-clause-any_moment : goal.returns-in_err-close_cut-clause-any_moment
returns-in_err-close_cut-clause-any_moment g c =
    let held = fenced_holding c.read_state.new.agent in
    let found = holds_read (IsFound c.in_ok-found.found.0 c.in_ok-found.found.1 held) (g.D.Disk.told c.args.disk.now).bytes (g.D.Disk.told c.read_synced.new.disk).bytes (g.D.Disk.told c.read_synced.new.disk).may_leave c.in_ok-image.image
    c.read_synced.ensures.quiet.same c.in_ok-image.ensures.read c.in_ok-image.ensures.durable (subst (IsFound c.in_ok-found.found.0 c.in_ok-found.found.1 held) c.as_slice-bytes.ensures c.in_ok-found.ensures.found) in
    then_alike g.D.Disk.told (g.D.Disk.told c.args.disk.now).bytes (g.D.Disk.told c.read_synced.new.disk).bytes c.args.disk.now c.read_synced.new.disk c.close_cut.new.disk c.read_synced.ensures.quiet refl refl (c.close_cut.ensures.any_moment held found)

pub returns-clause-any_moment : goal.returns-clause-any_moment
returns-clause-any_moment g c =
    let held = fenced_holding c.read_state.new.agent in
    let found = holds_read (IsFound c.in_ok-found.found.0 c.in_ok-found.found.1 held) (g.D.Disk.told c.args.disk.now).bytes (g.D.Disk.told c.read_synced.new.disk).bytes (g.D.Disk.told c.read_synced.new.disk).may_leave c.in_ok-image.image
    c.read_synced.ensures.quiet.same c.in_ok-image.ensures.read c.in_ok-image.ensures.durable (subst (IsFound c.in_ok-found.found.0 c.in_ok-found.found.1 held) c.as_slice-bytes.ensures c.in_ok-found.ensures.found) in
    then_alike g.D.Disk.told (g.D.Disk.told c.args.disk.now).bytes (g.D.Disk.told c.read_synced.new.disk).bytes c.args.disk.now c.read_synced.new.disk c.close_cut.new.disk c.read_synced.ensures.quiet refl refl (c.close_cut.ensures.any_moment held found)

pub returns-clause-found : goal.returns-clause-found
returns-clause-found g c =
    read_told (λ image. IsReadAs image (fenced_holding c.read_state.new.agent)) (g.D.Disk.told c.args.disk.now).bytes c.in_ok-image.image c.in_ok-image.ensures.read
    (found_read c.in_ok-found.found.0 c.in_ok-found.found.1 (fenced_holding c.read_state.new.agent) c.in_ok-image.image (subst (IsFound c.in_ok-found.found.0 c.in_ok-found.found.1 (fenced_holding c.read_state.new.agent)) c.as_slice-bytes.ensures c.in_ok-found.ensures.found))

pub returns-clause-done : goal.returns-clause-done
returns-clause-done g c =
    let held = fenced_holding c.read_state.new.agent in
    let found = holds_read (IsFound c.in_ok-found.found.0 c.in_ok-found.found.1 held) (g.D.Disk.told c.args.disk.now).bytes (g.D.Disk.told c.read_synced.new.disk).bytes (g.D.Disk.told c.read_synced.new.disk).may_leave c.in_ok-image.image
    c.read_synced.ensures.quiet.same c.in_ok-image.ensures.read c.in_ok-image.ensures.durable (subst (IsFound c.in_ok-found.found.0 c.in_ok-found.found.1 held) c.as_slice-bytes.ensures c.in_ok-found.ensures.found) in
    c.in_ok-close_cut.ensures.done held found
