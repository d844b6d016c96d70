use Rattle.std.proofs.Common.{◌≡◌, ℕ, List, [], length, reverse, ap, ap₂, ◌∙◌}
use Rattle.std.proofs.lemmas.List.{reverse-reverse}
use Rattle.switch_ports.specs.declared.ports.Berth.{Berth}
use Rattle.switch_ports.specs.Hands.{hand_count, hands}
use Rattle.switch_ports.proofs.Turns.{fresh_so, hands_long}
use Rattle.switch_ports.proofs.dealing.deal.Goals as goal

pub deal_each-requires-clause-fresh : goal.deal_each-requires-clause-fresh
deal_each-requires-clause-fresh g c = fresh_so c.hand_count-count.result c.in-Ok.dealt.items c.in-Ok.ensures

pub returns-in-Ok-deal_each-clause-ok : goal.returns-in-Ok-deal_each-clause-ok
returns-in-Ok-deal_each-clause-ok g c =
    let count : length c.in-Ok.dealt.items ≡ hand_count c.args.workers (length c.args.berths.items) =
    ap length c.in-Ok.ensures ∙ hands_long c.hand_count-count.result [] ∙ c.hand_count-count.ensures ∙ ap (hand_count c.args.workers) (c.len.ensures ∙ c.args.berths.ok.0) in
    let same : reverse c.reverse.new.self.items ≡ c.args.berths.items = ap reverse c.reverse.ensures.items ∙ reverse-reverse c.args.berths.items in
    c.in-Ok-deal_each.ensures.ok ∙ ap₂ (λ (n : ℕ) (bs : List (Berth _)). hands n bs) count same
