use Rattle.std.proofs.Common.{◌≡◌, List, length, ap, ◌∙◌}
use Rattle.rollout_rules.specs.Wan.{Link, Problem}
use Rattle.case_gen.specs.Rings.{links_below}
use Rattle.case_gen.proofs.Fresh.{may_link, link_added}
use Rattle.case_gen.proofs.ring.add_links.Goals as goal

pub loop-number-init : goal.loop-number-init
unfolding links_below
loop-number-init c = ap (λ (rows : List Link). record c.args.problem.now { links = rows }) c.requires.bare

pub add_link-requires : goal.add_link-requires
add_link-requires c =
    let all : length c.loop-number.problem.switches ≡ c.args.switches = ap (λ (p : Problem). length p.switches) c.loop-number.invariant ∙ c.requires.count in
    may_link c.args.switches c.args.capacities.now c.requires.least c.requires.most c.requires.capacities c.loop-number.number c.loop-number-test.true c.loop-number.problem all (ap (λ (p : Problem). p.links) c.loop-number.invariant)

pub loop-number-preserved : goal.loop-number-preserved
loop-number-preserved c =
    link_added c.args.switches c.args.capacities.now c.loop-number.number c.args.problem.now c.loop-number.problem _ c.loop-number.invariant c.in_ok-add_link.ensures.ok
