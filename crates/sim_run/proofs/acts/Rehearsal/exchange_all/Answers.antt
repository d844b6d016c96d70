use Rattle.std.proofs.Common.{◌≡◌, ℕ, ◌<◌, ◌≤◌, [], length, sym, ap, ◌∙◌, arith}
use Rattle.rollout_rules.specs.World.{in_flight}
use Rattle.sim_run.specs.Rehearsing.{Rehearsing}
use Rattle.sim_run.proofs.Exchanges.{exchanges-on, may_exchange}
use Rattle.sim_run.proofs.acts.Rehearsal.exchange_all.Goals as goal

abbrev flying : Rehearsing → ℕ
flying s = length (in_flight s.rollout.problem s.state.world.durable)

pub exchange-requires : goal.exchange-requires
exchange-requires g c =
    let idle : c.args.self.now.state.world.writing ≡ [] = ap (λ (s : Rehearsing). s.state.world.writing) (sym c.self.view_is) in
    let count : length c.flying-count.result.now ≡ flying c.args.self.now = ap length c.flying-count.ensures.value ∙ ap flying c.self.view_is in
    let lt : c.loop-place.place < flying c.args.self.now = omega (arith, count, c.loop-place-test.true) in
    let may = may_exchange c.args.self.now c.loop-place.self c.loop-place.place c.loop-place.invariant c.requires.up idle lt in
    record { live = ap (λ (s : Rehearsing). s.live) c.loop-place.invariant ∙ c.requires.live; up = may.up; flying = may.flying }

pub loop-place-preserved : goal.loop-place-preserved
loop-place-preserved g c =
    let idle : c.args.self.now.state.world.writing ≡ [] = ap (λ (s : Rehearsing). s.state.world.writing) (sym c.self.view_is) in
    let count : length c.flying-count.result.now ≡ flying c.args.self.now = ap length c.flying-count.ensures.value ∙ ap flying c.self.view_is in
    let le : c.loop-place.place ≤ flying c.args.self.now = omega (arith, count, c.loop-place-test.true) in
    c.in_ok-exchange.ensures ∙ exchanges-on c.args.self.now c.loop-place.self c.loop-place.place c.loop-place.invariant c.requires.up idle le
