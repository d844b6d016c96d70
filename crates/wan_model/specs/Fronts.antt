-- Fronts of a network, as it is built row by row: all of the lists before one, and the first rows of that one.
use Rattle.std.specs.Prelude.{ℕ, ◌+◌, [], ◌∷◌, ◌++◌, take}
use Rattle.rollout_rules.specs.Sums.{sum_below}
use Rattle.rollout_rules.specs.Wan.{Problem, flow_at}

-- the first k switches of a network
abbrev pub switched : Problem → ℕ → Problem
switched p k = record { format = p.format; switches = take k p.switches; links = []; flows = []; tunnels = [] }

-- its switches, and its first k links
abbrev pub linked : Problem → ℕ → Problem
linked p k = record { format = p.format; switches = p.switches; links = take k p.links; flows = []; tunnels = [] }

-- these, and its first f flows with their tunnels
abbrev pub flowed : Problem → ℕ → Problem
flowed p f = record p { flows = take f p.flows; tunnels = take (sum_below f (λ g. (flow_at p g).tunnels)) p.tunnels }

-- the flows before f with their tunnels, and flow f with its first j
abbrev pub begun : Problem → ℕ → ℕ → Problem
begun p f j = record p { flows = take f p.flows ++ record (flow_at p f) { tunnels = j } ∷ []; tunnels = take ((flow_at p f).first + j) p.tunnels }
