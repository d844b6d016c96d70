use Rattle.std.proofs.Common.{inr, ℕ, List}
use Rattle.fenced_agent.specs.Agents.{fenced_holding}
use Rattle.agent_state.specs.Stored.{IsBeforeOrAfter, IsReadAs}
use Rattle.disk_model.proofs.Passages.{chained_run}
use Rattle.agent_state.proofs.keeping.append.Goals as goal

pub returns-in_err-next-clause-any_moment : goal.returns-in_err-next-clause-any_moment
returns-in_err-next-clause-any_moment g c = λ before stored holds are leads. c.add.ensures.any_moment before (fenced_holding c.args.agent.now) stored holds are leads

pub returns-then-not-has_grown-clause-any_moment : goal.returns-then-not-has_grown-clause-any_moment
returns-then-not-has_grown-clause-any_moment g c = λ before stored holds are leads. c.add.ensures.any_moment before (fenced_holding c.args.agent.now) stored holds are leads

pub returns-then-not-has_grown-clause-done : goal.returns-then-not-has_grown-clause-done
returns-then-not-has_grown-clause-done g c = λ before stored holds are leads. c.in_ok-next.ensures.done before (fenced_holding c.args.agent.now) stored holds are leads

pub returns-in_err-anew-clause-any_moment : goal.returns-in_err-anew-clause-any_moment
returns-in_err-anew-clause-any_moment g c = λ before stored holds are leads.
    let now = fenced_holding c.args.agent.now in
    let either = λ (image : List ℕ). IsBeforeOrAfter before now in
    chained_run g.D.Disk.told either (λ (image b : List ℕ). IsReadAs b now) either (g.D.Disk.told c.args.disk.now).bytes (g.D.Disk.told c.add.new.disk).bytes c.args.disk.now c.add.new.disk c.write_anew.new.disk c.add.ensures.told
    (λ image b e. e) (λ image m b was is. inr is) (g.met.D.Disk.shows_one c.add.new.disk) (g.met.D.Disk.counts_now c.add.new.disk)
    (c.add.ensures.any_moment before now stored holds are leads) (c.write_anew.ensures.any_moment (c.in_ok-next.ensures.done before now stored holds are leads))

pub returns-clause-any_moment : goal.returns-clause-any_moment
returns-clause-any_moment g c = λ before stored holds are leads.
    let now = fenced_holding c.args.agent.now in
    let either = λ (image : List ℕ). IsBeforeOrAfter before now in
    chained_run g.D.Disk.told either (λ (image b : List ℕ). IsReadAs b now) either (g.D.Disk.told c.args.disk.now).bytes (g.D.Disk.told c.add.new.disk).bytes c.args.disk.now c.add.new.disk c.write_anew.new.disk c.add.ensures.told
    (λ image b e. e) (λ image m b was is. inr is) (g.met.D.Disk.shows_one c.add.new.disk) (g.met.D.Disk.counts_now c.add.new.disk)
    (c.add.ensures.any_moment before now stored holds are leads) (c.write_anew.ensures.any_moment (c.in_ok-next.ensures.done before now stored holds are leads))

pub returns-clause-done : goal.returns-clause-done
returns-clause-done g c = λ before stored holds are leads.
    c.in_ok-anew.ensures.done (c.in_ok-next.ensures.done before (fenced_holding c.args.agent.now) stored holds are leads)
