use Rattle.std.proofs.Common.{◌≡◌, [], ◌∷◌, ◌++◌, ◌+◌, ℕ, List, length, nat_eq, sym, ap, ap₂, ◌∙◌}
use Rattle.std.proofs.lemmas.Bool.{cond-false}
use Rattle.std.proofs.lemmas.List.{length_push}
use Rattle.std.specs.List.{list_any}
use Rattle.wan_edge.specs.Frames.{Command}
use Rattle.switch_ports.specs.Outboxes.{Dealing}
use Rattle.switch_ports.proofs.outboxes.Outboxes.add.Goals as goal

abbrev dealing : List ℕ → List (List Command) → Dealing
dealing ws ls = record { switches = ws; outboxes = ls }

pub invariant_of-self-2 : goal.invariant_of-self-2
invariant_of-self-2 c =
    let keys = c.in_ok-insert.ensures.keys ∙ cond-false _ _ _ (ap (λ d. list_any (nat_eq c.args.switch) d.switches) c.self.view_is ∙ c.requires.new) in
    let outboxes = c.push_reserved.ensures.items ∙ ap (λ xs. xs ++ c.new.result ∷ []) c.in_ok-reserve.ensures.items in
    (ap length outboxes ∙ length_push c.self.inside.outboxes.items c.new.result ∙ ap (λ n. n + 1) c.self.invariant.0 ∙ sym (length_push c.self.inside.switches.keys c.args.switch) ∙ sym (ap length keys), c.insert.ensures.unique)

pub returns-clause-ok : goal.returns-clause-ok
returns-clause-ok c =
    let keys = c.in_ok-insert.ensures.keys ∙ cond-false _ _ _ (ap (λ d. list_any (nat_eq c.args.switch) d.switches) c.self.view_is ∙ c.requires.new) ∙ ap (λ d. d.switches ++ c.args.switch ∷ []) c.self.view_is in
    let outboxes = c.push_reserved.ensures.items ∙ ap₂ (λ xs x. xs ++ x ∷ []) (c.in_ok-reserve.ensures.items ∙ ap (λ d. d.outboxes) c.self.view_is) c.new.ensures in
    ap₂ dealing keys outboxes
