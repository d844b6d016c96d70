use Rattle.std.proofs.Common.{ℕ, ◌<◌, get_or}
use Rattle.wan_edge.specs.Frames.{Answer}
use Rattle.switch_ports.specs.Hearing.{IsOwn}
use Rattle.switch_ports.proofs.exchange.alien_item.Given as goal

abbrev pub invariant-loop-answer : goal.invariant-loop-answer
invariant-loop-answer l = (k : ℕ) (d : Answer) → k < l.answer-index → IsOwn l.homes l.switch (get_or l.answers k d)
