use Rattle.std.proofs.Common.{ℕ, List, [], ◌∷◌, ◌∙◌}
use Rattle.agent_state.specs.States.{IsEither}
use Rattle.disk_model.proofs.Passages.{chained_run}
use Rattle.agent_state.proofs.renewing.renew.Goals as goal

pub returns-in_err-lay-clause-any_moment : goal.returns-in_err-lay-clause-any_moment
returns-in_err-lay-clause-any_moment g c = λ kept batch holds few is. c.lay.ensures.any_moment kept batch holds

pub returns-in_err-name-clause-any_moment : goal.returns-in_err-name-clause-any_moment
returns-in_err-name-clause-any_moment g c = λ kept batch holds few is.
    let either = λ (image : List ℕ). IsEither kept (batch ∷ []) in
    chained_run g.D.Disk.told either either either (g.D.Disk.told c.args.disk.now).bytes (g.D.Disk.told c.lay.new.disk).bytes c.args.disk.now c.lay.new.disk c.name.new.disk c.lay.ensures.told
    (λ image b e. e) (λ image m b was e. e) (g.met.D.Disk.shows_one c.lay.new.disk) (g.met.D.Disk.counts_now c.lay.new.disk)
    (c.lay.ensures.any_moment kept batch holds) (c.name.ensures.any_moment kept batch (c.in_ok-lay.ensures.done kept batch holds few is))

pub returns-in_err-switch-clause-any_moment : goal.returns-in_err-switch-clause-any_moment
returns-in_err-switch-clause-any_moment g c = λ kept batch holds few is.
    let either = λ (image : List ℕ). IsEither kept (batch ∷ []) in
    let laid = c.in_ok-lay.ensures.done kept batch holds few is in
    let two = chained_run g.D.Disk.told either either either (g.D.Disk.told c.args.disk.now).bytes (g.D.Disk.told c.lay.new.disk).bytes c.args.disk.now c.lay.new.disk c.name.new.disk c.lay.ensures.told
    (λ image b e. e) (λ image m b was e. e) (g.met.D.Disk.shows_one c.lay.new.disk) (g.met.D.Disk.counts_now c.lay.new.disk)
    (c.lay.ensures.any_moment kept batch holds) (c.name.ensures.any_moment kept batch laid) in
    chained_run g.D.Disk.told either either either (g.D.Disk.told c.args.disk.now).bytes (g.D.Disk.told c.name.new.disk).bytes c.args.disk.now c.name.new.disk c.switch.new.disk (c.name.ensures.told ∙ c.lay.ensures.told)
    (λ image b e. e) (λ image m b was e. e) (g.met.D.Disk.shows_one c.name.new.disk) (g.met.D.Disk.counts_now c.name.new.disk)
    two (c.switch.ensures.any_moment kept c.args.to batch (c.in_ok-name.ensures.done kept batch laid))

pub returns-clause-any_moment : goal.returns-clause-any_moment
returns-clause-any_moment g c = λ kept batch holds few is.
    let either = λ (image : List ℕ). IsEither kept (batch ∷ []) in
    let laid = c.in_ok-lay.ensures.done kept batch holds few is in
    let two = chained_run g.D.Disk.told either either either (g.D.Disk.told c.args.disk.now).bytes (g.D.Disk.told c.lay.new.disk).bytes c.args.disk.now c.lay.new.disk c.name.new.disk c.lay.ensures.told
    (λ image b e. e) (λ image m b was e. e) (g.met.D.Disk.shows_one c.lay.new.disk) (g.met.D.Disk.counts_now c.lay.new.disk)
    (c.lay.ensures.any_moment kept batch holds) (c.name.ensures.any_moment kept batch laid) in
    chained_run g.D.Disk.told either either either (g.D.Disk.told c.args.disk.now).bytes (g.D.Disk.told c.name.new.disk).bytes c.args.disk.now c.name.new.disk c.switch.new.disk (c.name.ensures.told ∙ c.lay.ensures.told)
    (λ image b e. e) (λ image m b was e. e) (g.met.D.Disk.shows_one c.name.new.disk) (g.met.D.Disk.counts_now c.name.new.disk)
    two (c.switch.ensures.any_moment kept c.args.to batch (c.in_ok-name.ensures.done kept batch laid))

pub returns-clause-done : goal.returns-clause-done
returns-clause-done g c = λ kept batch holds few is.
    c.in_ok-switch.ensures.done kept c.args.to batch (c.in_ok-name.ensures.done kept batch (c.in_ok-lay.ensures.done kept batch holds few is))
