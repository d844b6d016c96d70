use Rattle.std.proofs.Common.{length, ap, ◌∙◌, arith}
use Rattle.fewest_plan.specs.Marked.{marked_in}
use Rattle.fewest_plan.proofs.marked.count_crossed.Goals as goal

pub returns-clause-value : goal.returns-clause-value
returns-clause-value c = c.marked_in.ensures.value ∙ ap (marked_in c.args.marks.now) c.links_of.ensures.list

pub returns-clause-most : goal.returns-clause-most
returns-clause-most c =
    let path = (c.links_of.ensures.network.tunnels c.args.t c.requires.tunnel).path in
    omega (arith, c.marked_in.ensures.most, ap length c.links_of.ensures.list, path.between, path.most)
