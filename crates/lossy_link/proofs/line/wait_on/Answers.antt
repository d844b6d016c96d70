use Rattle.std.proofs.Common.{◌≡◌, ◌∙◌, ap, length, map, arith, rules}
use Rattle.std.specs.List.{filter}
use Rattle.std.proofs.lemmas.Fn.{filter_same}
use Rattle.lossy_link.specs.Traffic.{is_late, less_late}
use Rattle.lossy_link.proofs.Traffics.{written_over}
use Rattle.lossy_link.proofs.line.wait_on.Goals as goal

pub returns : goal.returns
returns c =
    let kept : c.retain.new.self.items ≡ filter is_late c.args.row.now.items = filter_same _ is_late _ (λ x b f' k. search rules) _ _ c.retain.ensures.filtered in
    let long : length c.wait_less.new.row ≡ length c.retain.new.self.items = c.wait_less.auto.row ∙ ap length c.deref_mut.ensures.value in
    written_over c.retain.new.self.items c.wait_less.new.row c.retain.new.self.len long (omega (arith, c.retain.new.self.ok.0))
    ∙ c.wait_less.ensures ∙ ap (map less_late) (c.deref_mut.ensures.value ∙ kept)
