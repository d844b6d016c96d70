use Rattle.std.proofs.Common.{◌≡◌, ◌<◌, ◌≤◌, length, map, get_or, refl, sym, subst, ap, ◌∙◌, arith}
use Rattle.std.proofs.lemmas.List.{get_or_read_under, length-map}
use Rattle.rollout_rules.specs.Wan.{Link, link_at, no_link}
use Rattle.serde_json.specs.Written.{compact_text}
use Rattle.problem_json.specs.Writing.{link_data, list_data}
use Rattle.wan_text.specs.Named.{quoted_name}
use Rattle.problem_json.proofs.Rows.{begins, ends, goes_on, of_element}
use Rattle.problem_json.proofs.writing.problem.push_links.Goals as goal

pub loop-number-init : goal.loop-number-init
loop-number-init g c = begins g.P.Pieces.pushes g.met.P.Pieces.pushed_further (map (link_data c.args.problem.now) c.args.problem.now.links) c.push_str.ensures

pub push_link-requires-clause-begins : goal.push_link-requires-clause-begins
push_link-requires-clause-begins g c =
    let p = c.args.problem.now in
    let k = c.loop-number.number in
    let x = c.link-item.result in
    let all = c.links-link-items.ensures.list in
    let inside : k < length p.links = subst (λ ls. k < length ls) all c.loop-number-test.true in
    let row : x ≡ link_at p k = get_or_read_under p.links k (length p.links) x no_link (c.link-item.is ∙ ap (λ ls. get_or ls k x) all) inside refl in
    let many : length c.args.names.now ≡ length p.switches = ap length c.requires ∙ length-map p.switches quoted_name in
    subst (λ n. x.from < n) (sym many) (subst (λ (l : Link). l.from < length p.switches) (sym row) (c.links-link-items.ensures.network.links.from k inside))

pub push_link-requires-clause-ends : goal.push_link-requires-clause-ends
push_link-requires-clause-ends g c =
    let p = c.args.problem.now in
    let k = c.loop-number.number in
    let x = c.link-item.result in
    let all = c.links-link-items.ensures.list in
    let inside : k < length p.links = subst (λ ls. k < length ls) all c.loop-number-test.true in
    let row : x ≡ link_at p k = get_or_read_under p.links k (length p.links) x no_link (c.link-item.is ∙ ap (λ ls. get_or ls k x) all) inside refl in
    let many : length c.args.names.now ≡ length p.switches = ap length c.requires ∙ length-map p.switches quoted_name in
    subst (λ n. x.to < n) (sym many) (subst (λ (l : Link). l.to < length p.switches) (sym row) (c.links-link-items.ensures.network.links.to k inside))

pub loop-number-preserved : goal.loop-number-preserved
loop-number-preserved g c =
    let p = c.args.problem.now in
    let k = c.loop-number.number in
    let x = c.link-item.result in
    let all = c.links-link-items.ensures.list in
    let inside : k < length p.links = subst (λ ls. k < length ls) all c.loop-number-test.true in
    let is : x ≡ get_or p.links k x = c.link-item.is ∙ ap (λ ls. get_or ls k x) all in
    goes_on g.P.Pieces.pushes g.met.P.Pieces.pushed_further _ (map (link_data p) p.links) k (link_data p x) (of_element (link_data p) p.links k x inside is) c.loop-number.invariant c.push_comma.ensures (c.push_link.ensures p c.requires)

pub returns : goal.returns
returns g c =
    let p = c.args.problem.now in
    let ds = map (link_data p) p.links in
    let all = ap length c.links-link-items.ensures.list in
    ends g.P.Pieces.pushes (compact_text (list_data ds)) ds c.loop-number.number (omega (arith, all, length-map p.links (link_data p), c.loop-number-test.false)) c.loop-number.invariant c.push_str-2.ensures
