use Rattle.std.proofs.Common.{◌≡◌, ◌<◌, ◌∙◌, length, slice_index_or, refl, ap, arith}
use Rattle.std.proofs.lemmas.List.{get_or_read_under}
use Rattle.rollout_rules.specs.Wan.{Link, no_link, link_at}
use Rattle.wan_model.specs.Fronts.{linked}
use Rattle.retarget_plan.specs.Left.{with_capacities}
use Rattle.retarget_plan.proofs.Copied.{sized-link-may, sized-link-next}
use Rattle.retarget_plan.proofs.copying.copy_links.Goals as goal

pub add_link-requires : goal.add_link-requires
add_link-requires c =
    let p = c.args.problem.now in
    let l = c.loop-number.number in
    let lt : l < length p.links = omega (arith, ap length c.links-number-end.ensures.list) in
    let row : c.index-links-number.result ≡ link_at p l =
    get_or_read_under p.links l (length p.links) c.index-links-number.result no_link (c.index-links-number.is ∙ ap (λ ls. slice_index_or ls l c.index-links-number.result) c.links.ensures.list) lt refl in
    let is = c.link.view_is ∙ row in
    sized-link-may p c.args.capacities.now c.links.ensures.network c.requires.capacities l lt _ _ _ _ c.loop-number.invariant (ap (λ (k : Link). k.from) is) (ap (λ (k : Link). k.to) is) refl

pub loop-number-preserved : goal.loop-number-preserved
loop-number-preserved c =
    let p = c.args.problem.now in
    let l = c.loop-number.number in
    let lt : l < length p.links = omega (arith, ap length c.links-number-end.ensures.list) in
    let row : c.index-links-number.result ≡ link_at p l =
    get_or_read_under p.links l (length p.links) c.index-links-number.result no_link (c.index-links-number.is ∙ ap (λ ls. slice_index_or ls l c.index-links-number.result) c.links.ensures.list) lt refl in
    let is = c.link.view_is ∙ row in
    sized-link-next p c.args.capacities.now c.links.ensures.network c.requires.capacities l lt _ _ _ _ _ c.loop-number.invariant (ap (λ (k : Link). k.from) is) (ap (λ (k : Link). k.to) is) refl c.in_ok-add_link.ensures.ok

pub returns : goal.returns
returns c =
    let p = c.args.problem.now in
    let all : c.loop-number.number ≡ length p.links = omega (arith, ap length c.links-number-end.ensures.list) in
    c.loop-number.invariant ∙ ap (linked (with_capacities p c.args.capacities.now)) all
