use Rattle.std.proofs.Common.{◌++◌, ◌+◌, ◌-◌, ◌∙◌, drop, sym, ap}
use Rattle.rollout_rules.specs.Building.{links_along}
use Rattle.wan_model.proofs.Routes.{along_step, along_end, joined_before}
use Rattle.wan_model.proofs.problem.Problem.links_along.Goals as goal

pub unreachable-requires : goal.unreachable-requires
unreachable-requires c = joined_before c.args.self.now c.args.path.now c.loop-hop.hop c.requires c.loop-hop.auto.hop c.loop-hop-test.true (sym c.find_link.ensures.number ∙ c.in_default.is)

pub loop-hop-preserved : goal.loop-hop-preserved
loop-hop-preserved c =
    ap (λ along. along ++ links_along c.args.self.now (drop (c.loop-hop.hop + 1 - 1) c.args.path.now)) c.in_ok-push.ensures.ok
    ∙ along_step c.args.self.now c.args.path.now c.loop-hop.links _ c.loop-hop.hop c.in-Some.link c.loop-hop.auto.hop c.loop-hop-test.true c.in-Some.ensures.number c.loop-hop.invariant

pub returns : goal.returns
returns c = along_end c.args.self.now c.args.path.now c.loop-hop.links _ c.loop-hop.hop c.loop-hop.auto.hop c.loop-hop-test.false c.loop-hop.invariant
