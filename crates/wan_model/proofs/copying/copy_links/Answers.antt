use Rattle.std.proofs.Common.{◌≡◌, ◌<◌, ◌≤◌, ◌∙◌, length, slice_index_or, refl, ap, arith}
use Rattle.std.proofs.lemmas.List.{get_or_read_under}
use Rattle.rollout_rules.specs.Wan.{Link, no_link, link_at}
use Rattle.wan_model.specs.Fronts.{linked}
use Rattle.wan_model.proofs.Copied.{link-may, link-next}
use Rattle.wan_model.proofs.copying.copy_links.Goals as goal

pub add_link-requires : goal.add_link-requires
add_link-requires c =
    let p = c.args.problem.now in
    let l = c.loop-number.number in
    let lt : l < length p.links = omega (arith, ap length c.links-number-end.ensures.list) in
    let row : c.index-links-number.result ≡ link_at p l =
    get_or_read_under p.links l (length p.links) c.index-links-number.result no_link (c.index-links-number.is ∙ ap (λ ls. slice_index_or ls l c.index-links-number.result) c.links.ensures.list) lt refl in
    let is = c.link.view_is ∙ row in
    link-may p c.links.ensures.network _ l _ _ _ lt c.loop-number.invariant (ap (λ (k : Link). k.from) is) (ap (λ (k : Link). k.to) is) (ap (λ (k : Link). k.capacity) is)

pub returns : goal.returns
returns c =
    let p = c.args.problem.now in
    let all : c.loop-number.number ≡ length p.links = omega (arith, ap length c.links-number-end.ensures.list) in
    c.loop-number.invariant ∙ ap (linked p) all
