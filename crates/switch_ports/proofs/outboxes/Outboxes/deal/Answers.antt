use Rattle.std.proofs.Common.{◌≡◌, [], ◌∷◌, ◌++◌, ℕ, List, length, map, take, nat_eq, ap, ap₂, ◌∙◌, sym, subst, arith}
use Rattle.std.proofs.lemmas.List.{take_more}
use Rattle.std.specs.List.{IsDistinct}
use Rattle.wan_edge.specs.Frames.{Command}
use Rattle.switch_ports.specs.Outboxes.{home_at, own, place_of, with_put}
use Rattle.switch_ports.proofs.OutboxDealing.{all_empty, put_is_dealt}
use Rattle.switch_ports.proofs.outboxes.Outboxes.deal.Goals as goal

pub loop-command-init : goal.loop-command-init
loop-command-init c = record {
  switches = ap (λ d. d.switches) c.self.view_is;
  dealt = c.clear_each.ensures ∙ all_empty c.self.inside.outboxes.items c.self.inside.switches.keys c.self.invariant.0 ∙ ap (λ d. map {B = List Command} (λ w. []) d.switches) c.self.view_is;
}

pub loop-command-preserved : goal.loop-command-preserved
loop-command-preserved c =
    let switches = c.args.self.now.switches in
    let earlier = take c.loop-command.command-index c.args.commands.now in
    let distinct : IsDistinct nat_eq switches = subst (IsDistinct nat_eq) (ap (λ d. d.switches) c.self.view_is) c.self.invariant.1 in
    let put = ap₂ (λ outboxes place. with_put outboxes place c.command-item.result) c.loop-command.invariant.dealt (ap₂ place_of c.loop-command.invariant.switches (c.home_at.ensures ∙ ap (λ d. home_at c.args.homes.now d.item) c.command.view_is)) in
    let taken = sym (take_more c.args.commands.now c.loop-command.command-index c.command-item.result c.loop-command-test.true) in
    record {
      switches = c.in_ok-put.ensures.switches ∙ c.loop-command.invariant.switches;
      dealt = c.in_ok-put.ensures.ok ∙ put ∙ put_is_dealt c.args.homes.now earlier c.command-item.result switches distinct
          ∙ ap (λ cs. map (λ w. own c.args.homes.now w cs) switches) (ap (λ x. earlier ++ x ∷ []) c.command-item.is ∙ taken);
    }
