use Rattle.std.proofs.Common.{◌≡◌, ◌==◌, drop}
use Rattle.std.specs.List.{list_any}
use Rattle.rollout_book.proofs.commands.is_among.Given as goal

-- whether it is among those that are left is whether it is among all
abbrev pub invariant-loop-switch : goal.invariant-loop-switch
invariant-loop-switch l = list_any (λ w. w == l.home) (drop l.switch-index l.switches) ≡ list_any (λ w. w == l.home) l.switches
