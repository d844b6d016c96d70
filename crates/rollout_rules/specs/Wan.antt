-- A wide-area network with the old and the new split of its flows over tunnels, and a plan between them.
use Rattle.std.specs.Prelude.{ℕ, ◌+◌, ◌-◌, min, Bool, false, List, [], length, Option, None, slice_index, slice_index_or, unwrap_or, ◌==◌}
use Rattle.std.specs.List.{list_any}

-- a switch, and how many entries its forwarding table holds
pub record Switch : Type 0 where
  pub name : List ℕ
  pub table : ℕ

-- a directed link between two switches, by their numbers
pub record Link : Type 0 where
  pub from : ℕ
  pub to : ℕ
  pub capacity : ℕ

-- a flow, whose tunnels stand in a row from the first on
pub record Flow : Type 0 where
  pub name : List ℕ
  pub first : ℕ
  pub tunnels : ℕ

-- a tunnel: the switches on its path, the links between them, how many entries it takes in the table of each of these
-- switches, and its old and new rate, where it is installed
pub record Tunnel : Type 0 where
  pub flow : ℕ
  pub path : List ℕ
  pub links : List ℕ
  pub width : ℕ
  pub old : Option ℕ
  pub new : Option ℕ

-- In format 1 every tunnel has the width 1; in format 2 each one has a width of its own.
pub record Problem : Type 0 where
  pub format : ℕ
  pub switches : List Switch
  pub links : List Link
  pub flows : List Flow
  pub tunnels : List Tunnel

-- a stage of a plan: a rate per tunnel in units of 1/scale, and whether the tunnel is installed
pub record Stage : Type 0 where
  pub rates : List ℕ
  pub installed : List Bool

pub record Plan : Type 0 where
  pub scale : ℕ
  pub stages : List Stage

-- a problem with a plan for it
pub record Rollout : Type 0 where
  pub problem : Problem
  pub plan : Plan

abbrev pub no_switch : Switch
no_switch = record { name = []; table = 0 }

abbrev pub no_link : Link
no_link = record { from = 0; to = 0; capacity = 0 }

abbrev pub no_flow : Flow
no_flow = record { name = []; first = 0; tunnels = 0 }

abbrev pub no_tunnel : Tunnel
no_tunnel = record { flow = 0; path = []; links = []; width = 1; old = None; new = None }

abbrev pub no_stage : Stage
no_stage = record { rates = []; installed = [] }

-- the rows of a problem by their numbers; an empty row past the end
abbrev pub switch_at : Problem → ℕ → Switch
switch_at p w = slice_index_or p.switches w no_switch

abbrev pub link_at : Problem → ℕ → Link
link_at p l = slice_index_or p.links l no_link

abbrev pub flow_at : Problem → ℕ → Flow
flow_at p f = slice_index_or p.flows f no_flow

abbrev pub tunnel_at : Problem → ℕ → Tunnel
tunnel_at p t = slice_index_or p.tunnels t no_tunnel

-- the number of flow f's j-th tunnel
abbrev pub tunnel_of : Problem → ℕ → ℕ → ℕ
tunnel_of p f j = (flow_at p f).first + j

-- a rate that is not installed counts as 0
abbrev pub old_rate : Tunnel → ℕ
old_rate t = unwrap_or t.old 0

abbrev pub new_rate : Tunnel → ℕ
new_rate t = unwrap_or t.new 0

-- how many switches stand on the path of tunnel t, and which is the h-th
abbrev pub hops : Problem → ℕ → ℕ
hops p t = length (tunnel_at p t).path

abbrev pub switch_of : Problem → ℕ → ℕ → ℕ
switch_of p t h = slice_index (tunnel_at p t).path h

-- how many entries tunnel t takes in each table on its path
abbrev pub width_of : Problem → ℕ → ℕ
width_of p t = (tunnel_at p t).width

-- whether link l is on the path of tunnel t
abbrev pub crosses : Problem → ℕ → ℕ → Bool
crosses p t l = list_any (λ k. k == l) (tunnel_at p t).links

-- the stage with a number, and what it has for tunnel t
abbrev pub stage_at : Plan → ℕ → Stage
stage_at plan s = slice_index_or plan.stages s no_stage

abbrev pub rate_at : Plan → ℕ → ℕ → ℕ
rate_at plan s t = slice_index (stage_at plan s).rates t

abbrev pub mark_at : Plan → ℕ → ℕ → Bool
mark_at plan s t = slice_index_or (stage_at plan s).installed t false

abbrev pub last_stage : Plan → ℕ
last_stage plan = length plan.stages - 1

-- the stage behind, or the last itself
abbrev pub next_stage : Plan → ℕ → ℕ
next_stage plan s = min (s + 1) (last_stage plan)
