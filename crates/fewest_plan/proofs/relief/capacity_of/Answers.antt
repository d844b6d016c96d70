use Rattle.std.proofs.Common.{◌≡◌, ◌∙◌, length, slice_index_or, refl, ap, arith}
use Rattle.std.proofs.lemmas.List.{get_or_read_under}
use Rattle.rollout_rules.specs.Wan.{Link, no_link, link_at}
use Rattle.fewest_plan.proofs.relief.capacity_of.Goals as goal

pub returns-clause-most : goal.returns-clause-most
returns-clause-most c =
    let p = c.args.problem.now in
    let l = c.args.l in
    let row : c.index-rows-l.result ≡ link_at p l =
    get_or_read_under p.links l (length p.links) c.index-rows-l.result no_link (c.index-rows-l.is ∙ ap (λ ls. slice_index_or ls l c.index-rows-l.result) c.links-rows.ensures.list) c.requires refl in
    let is = ap (λ (k : Link). k.capacity) (c.row.view_is ∙ row) in
    omega (arith, is, c.links-rows.ensures.network.links.capacities l c.requires)
