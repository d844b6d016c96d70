use Rattle.std.proofs.Common.{◌≡◌, ◌≤◌, ◌+◌, ◌++◌, IsPermutation, length, map}
use Rattle.std.specs.Prelude.{nat_eq, vec_len, vec_capacity}
use Rattle.std.specs.List.{IsDistinct}
use Rattle.switch_ports.specs.Hands.{first_sessions}
use Rattle.controller_run.specs.Shifts.{AreFresh}
use Rattle.controller_run.proofs.caller_ports.CallerPorts.take_over.Given as goal

-- all ports are the same ones, those that are left among them
abbrev pub invariant-loop-berth : goal.invariant-loop-berth
invariant-loop-berth g l = record {
  fresh : AreFresh l.self.ports;
  left : AreFresh l.ports;
  same : IsPermutation (l.fn.self.ports ++ (first_sessions l.fn.self.spare.items ++ l.fn.ports)) (l.self.ports ++ (first_sessions l.self.spare.items ++ l.ports));
  apart : IsDistinct nat_eq (map (λ t. t.switch) (l.self.ports ++ l.ports));
  room : vec_len l.self.spare + length l.ports ≤ vec_capacity l.self.spare;
  same_room : vec_capacity l.self.spare ≡ vec_capacity l.fn.self.spare;
}

abbrev pub decreases-loop-berth : goal.decreases-loop-berth
decreases-loop-berth g l = length l.ports
