use Rattle.std.proofs.Common.{◌≡◌, ◌+◌, ◌-◌, ◌++◌, ◌∷◌, [], length, ap, sym, subst, ◌∙◌, Result, Ok, Err, OnOk, arith}
use Rattle.rollout_rules.specs.Sums.{list_below}
use Rattle.rollout_rules.specs.Wan.{last_stage}
use Rattle.rollout_rules.specs.Release.{chain}
use Rattle.rollout_rules.specs.declared.item.Item.TheVariants as item
use Rattle.dependency_graph.specs.Chains.{AreAhead}
use Rattle.dependency_graph.specs.declared.longest.Ahead.{Ahead}
use Rattle.dependency_graph.proofs.StageRows.{push-below}
use Rattle.dependency_graph.proofs.chains.add_stage.Goals as goal

-- what follows of three facts of an outcome holds of it
on-all : {T E A B C P : Type 0} (r : Result T E) → (A → B → C → P) → OnOk r A → OnOk r B → OnOk r C → OnOk r P
on-all (Ok x) follows a b c = follows a b c
on-all (Err e) follows a b c = tt

pub returns-in-Ok : goal.returns-in-Ok
returns-in-Ok c =
    let p = c.args.plan.now.problem in
    let plan = c.args.plan.now.plan in
    let s = c.last_stage.result - 1 - c.args.turn in
    let at : s ≡ last_stage plan - 1 - c.args.turn = ap (λ n. n - 1 - c.args.turn) c.last_stage.ensures.value in
    let next : s ≡ last_stage plan - (c.args.turn + 1) = omega (arith, c.last_stage.ensures.value, c.requires.turn) in
    let flows = c.in_ok-flows.ensures in
    let tunnels = c.in-Ok.ensures in
    let ahead : AreAhead p plan s c.in_ok-flows.flows.own c.in-Ok.tunnels.own c.in-Ok.tunnels.departures c.in-Ok.tunnels.arrivals = record { flows = flows.own; own = tunnels.own; departures = tunnels.departures; arrivals = tunnels.arrivals } in
    on-all c.put.result
    (λ (added : c.put.new.self.flows ≡ c.args.rows.now.flows ++ (c.in_ok-flows.flows.chains ∷ [])) (put : c.put.new.self.tunnels ≡ c.args.rows.now.tunnels ++ (c.in-Ok.tunnels.chains ∷ [])) (now : c.put.new.self.ahead ≡ record { flows = c.in_ok-flows.flows.own; own = c.in-Ok.tunnels.own; departures = c.in-Ok.tunnels.departures; arrivals = c.in-Ok.tunnels.arrivals }). record {
      flows = push-below c.args.turn (λ k. list_below (length p.flows) (λ f. chain p plan (item.Flow f) (last_stage plan - 1 - k))) _ _ _ c.requires.rows.flows added
          (flows.chains ∙ ap (λ v. list_below (length p.flows) (λ f. chain p plan (item.Flow f) v)) at);
      tunnels = push-below c.args.turn (λ k. list_below (length p.tunnels) (λ t. chain p plan (item.Entry t 0) (last_stage plan - 1 - k))) _ _ _ c.requires.rows.tunnels put
          (tunnels.chains ∙ ap (λ v. list_below (length p.tunnels) (λ t. chain p plan (item.Entry t 0) v)) at);
      ahead = subst (λ (a : Ahead). AreAhead p plan (last_stage plan - (c.args.turn + 1)) a.flows a.own a.departures a.arrivals) (sym now)
          (subst (λ v. AreAhead p plan v c.in_ok-flows.flows.own c.in-Ok.tunnels.own c.in-Ok.tunnels.departures c.in-Ok.tunnels.arrivals) next ahead);
    })
    c.put.ensures.flows c.put.ensures.tunnels c.put.ensures.ahead
