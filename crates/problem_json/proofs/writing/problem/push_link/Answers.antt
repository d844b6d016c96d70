use Rattle.std.proofs.Common.{◌≡◌, ◌<◌, decimal, length, subst, sym, ap, ◌∙◌}
use Rattle.text_writer.proofs.Pushing.{at_value}
use Rattle.json.specs.Print.{escape_byte}
use Rattle.rollout_rules.specs.Wan.{Link}
use Rattle.serde_json.specs.Written.{compact_text}
use Rattle.problem_json.specs.Writing.{name_data}
use Rattle.problem_json.proofs.Rows.{by_seven, quoted_at}
use Rattle.problem_json.proofs.writing.problem.push_link.Goals as goal

pub returns : goal.returns
unfolding escape_byte
returns g c p is =
    let l = c.args.link.now in
    let names = c.args.names.now in
    let from : c.link.inside.from ≡ l.from = ap (λ (x : Link). x.from) c.link.view_is in
    let to : c.link.inside.to ≡ l.to = ap (λ (x : Link). x.to) c.link.view_is in
    let first : c.as_str.result.now ≡ compact_text (name_data p l.from) =
    c.as_str.ensures ∙ quoted_at names p c.link.inside.from c.index-names-link.result is (subst (λ w. w < length names) (sym from) c.requires.begins) c.index-names-link.is ∙ ap (λ w. compact_text (name_data p w)) from in
    let last : c.as_str-2.result.now ≡ compact_text (name_data p l.to) =
    c.as_str-2.ensures ∙ quoted_at names p c.link.inside.to c.index-names-link-2.result is (subst (λ w. w < length names) (sym to) c.requires.ends) c.index-names-link-2.is ∙ ap (λ w. compact_text (name_data p w)) to in
    by_seven g.P.Pieces.pushes g.met.P.Pieces.pushed_further
    c.push_str.ensures (at_value g.P.Pieces.pushes decimal (ap (λ (x : Link). x.capacity) c.link.view_is) c.push_number.ensures)
    c.push_str-2.ensures (at_value g.P.Pieces.pushes (λ t. t) first c.push_str-3.ensures)
    c.push_str-4.ensures (at_value g.P.Pieces.pushes (λ t. t) last c.push_str-5.ensures)
    c.push_str-6.ensures
