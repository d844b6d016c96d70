use Rattle.std.proofs.Common.{◌≤◌, ◌-◌, ◌∙◌, List, Some, ℕ, ap, arith, drop, take}
use Rattle.std.proofs.lemmas.List.{length-take}
use Rattle.lossy_link.proofs.Noises.{noise_given, noise_left}
use Rattle.lossy_link.proofs.noise_port.NoisePortPort.hear.Goals as goal

within : (c : goal.Else-n-eq0) → c.give_front-n.result ≤ c.self.inside.noise - c.self.inside.heard
within c = omega (arith, c.give_front-n.ensures.count, length-take (c.self.inside.noise - c.self.inside.heard) (drop c.self.inside.heard c.as_slice.result.now))

pub returns-else-n-eq0-clause-left : goal.returns-else-n-eq0-clause-left
returns-else-n-eq0-clause-left c =
    noise_left c.self.inside.bytes c.self.inside.noise c.self.inside.heard c.give_front-n.result c.self.inside.counters c.args.self.now c.self.view_is (within c) c.if-n-eq0.false

pub returns-else-n-eq0-clause-given : goal.returns-else-n-eq0-clause-given
returns-else-n-eq0-clause-given c =
    ap (λ (xs : List ℕ). Some xs) (noise_given c.self.inside.bytes c.self.inside.noise c.self.inside.heard c.give_front-n.result c.self.inside.counters c.args.self.now c.self.view_is (within c) c.give_front-n.new.into
    (c.give_front-n.ensures.given ∙ ap (λ (xs : List ℕ). take c.give_front-n.result (take (c.self.inside.noise - c.self.inside.heard) (drop c.self.inside.heard xs))) c.as_slice.ensures))
