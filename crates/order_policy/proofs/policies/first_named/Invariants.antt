use Rattle.std.proofs.Common.{◌≡◌, find, drop, bytes_eq}
use Rattle.order_policy.proofs.policies.first_named.Given as goal

abbrev pub invariant-loop-named : goal.invariant-loop-named
invariant-loop-named g l = find (λ named. bytes_eq named.0 l.name) l.all ≡ find (λ named. bytes_eq named.0 l.name) (drop l.named-index l.all)
