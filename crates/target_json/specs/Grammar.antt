-- Which bytes have a target for a problem, and which it is; of others, what the first fault is.
use Rattle.std.specs.Prelude.{ℕ, List, [], ◌∷◌, ◌++◌, length, replicate, slice_set, not, is_some, nat_le, Option, Some, None, ok_or, if◌then◌else◌, Result, Ok, Err}
use Rattle.std.specs.Str.{is_utf8}
use Rattle.serde_json.specs.Data.{Data, Items}
use Rattle.serde_json.specs.Events.{items_len}
use Rattle.serde_json.specs.Find.{get, as_null, as_number, as_str, as_array, as_object, as_u64}
use Rattle.serde_json.specs.Read.{read}
use Rattle.rollout_rules.specs.declared.limits.TheConstants.{LARGEST_CAPACITY, LARGEST_RATE}
use Rattle.rollout_rules.specs.Building.{find_switch, find_link}
use Rattle.rollout_rules.specs.Sums.{same_numbers}
use Rattle.rollout_rules.specs.Wan.{Problem, flow_at}
use Rattle.wan_model.specs.Rates.{rate_in}
use Rattle.retarget_plan.specs.Targets.{Targeted}
use Rattle.target_json.specs.Results.{◌>>=◌, held, add_from}
use Rattle.target_json.specs.Keys.{key_text}
use Rattle.target_json.specs.Places.{place_of, place_at, place_in}
use Rattle.target_json.specs.declared.key.TargetKey.{TargetKey}
use Rattle.target_json.specs.declared.key.TargetKey.TheVariants as key
use Rattle.target_json.specs.declared.place.TargetPlace.{TargetPlace}
use Rattle.target_json.specs.declared.place.TargetPart.{TargetPart}
use Rattle.target_json.specs.declared.place.TargetPart.TheVariants as part
use Rattle.target_json.specs.declared.fault.TargetFault.{TargetFault}
use Rattle.target_json.specs.declared.fault.TargetFault.TheVariants.{NotJson, At}
use Rattle.target_json.specs.declared.fault.Wrong.TheVariants.{Missing, Kind, NotWhole, Above, Below, OtherFlow, UnknownSwitch, NoSuchLink, LinkTwice}

-- ---- values

-- an object's value at a key
unfoldable pub member_in : TargetPlace → TargetKey → Data → Result Data TargetFault
member_in object asked d = do
  _ ← held (is_some (as_object d)) (At object Kind)
  ok_or (get (key_text asked) d) (At object (Missing asked))

-- a list of so many elements at most
unfoldable pub list_in : TargetPlace → ℕ → Data → Result Items TargetFault
list_in place most d = do
  items ← ok_or (as_array d) (At place Kind)
  _ ← held (nat_le (items_len items) most) (At place (Above (items_len items) most))
  Ok items

-- a list of just so many
unfoldable pub row_in : TargetPlace → ℕ → Data → Result Items TargetFault
row_in place count d = do
  items ← list_in place count d
  _ ← held (nat_le count (items_len items)) (At place (Below (items_len items) count))
  Ok items

unfoldable pub text_in : TargetPlace → Data → Result (List ℕ) TargetFault
text_in place d = ok_or (as_str d) (At place Kind)

-- a number that is whole; one with a point or an exponent isn't
unfoldable pub whole_in : TargetPlace → Data → Result ℕ TargetFault
whole_in place d = do
  n ← ok_or (as_number d) (At place Kind)
  ok_or (as_u64 n) (At place NotWhole)

-- a whole number that is at most so large
unfoldable pub number_in : TargetPlace → ℕ → Data → Result ℕ TargetFault
number_in place most d = do
  n ← whole_in place d
  _ ← held (nat_le n most) (At place (Above n most))
  Ok n

-- a rate; null where the tunnel isn't to be installed
unfoldable pub rate_at : TargetPlace → Data → Result (Option ℕ) TargetFault
rate_at place d = if is_some (as_null d) then Ok None else (number_in place LARGEST_RATE d >>= λ n. Ok (Some n))

-- ---- rates

-- the rate of the flow's tunnel of this number, after those before it
unfoldable pub with_one_rate : ℕ → ℕ → Data → List (Option ℕ) → Result (List (Option ℕ)) TargetFault
with_one_rate flow j d rates = do
  rate ← rate_at (place_in part.Rate flow j) d
  Ok (rates ++ rate ∷ [])

-- the flow of this number by its name
unfoldable pub named_in : Problem → ℕ → Data → Result (List ℕ) TargetFault
named_in p flow d = do
  at ← member_in (place_at part.Flow flow) key.Name d
  name ← text_in (place_at part.FlowName flow) at
  _ ← held (same_numbers name (flow_at p flow).name) (At (place_at part.FlowName flow) OtherFlow)
  Ok name

-- with as many rates as it has tunnels
unfoldable pub with_one_flow : Problem → ℕ → Data → List (Option ℕ) → Result (List (Option ℕ)) TargetFault
with_one_flow p flow d rates = do
  _ ← named_in p flow d
  at ← member_in (place_at part.Flow flow) key.New d
  new ← row_in (place_at part.Rates flow) (flow_at p flow).tunnels at
  add_from (with_one_rate flow) 0 new rates

-- one flow after the other, all that the problem has
unfoldable pub rates_in : Problem → Data → Result (List (Option ℕ)) TargetFault
rates_in p d = do
  at ← member_in (place_of part.Target) key.Flows d
  flows ← row_in (place_of part.Flows) (length p.flows) at
  add_from (with_one_flow p) 0 flows []

-- ---- capacities

-- the switch at an end of a link
unfoldable pub end_of : TargetKey → TargetPart → Problem → ℕ → Data → Result ℕ TargetFault
end_of asked what p n d = do
  at ← member_in (place_at part.Link n) asked d
  name ← text_in (place_at what n) at
  ok_or (find_switch p name) (At (place_at what n) UnknownSwitch)

-- the link between two switches
unfoldable pub link_in : Problem → ℕ → Data → Result ℕ TargetFault
link_in p n d = do
  from ← end_of key.From part.LinkFrom p n d
  to ← end_of key.To part.LinkTo p n d
  ok_or (find_link p from to) (At (place_at part.Link n) NoSuchLink)

-- its capacity, where none was given to it before
unfoldable pub with_one_capacity : Problem → ℕ → Data → List (Option ℕ) → Result (List (Option ℕ)) TargetFault
with_one_capacity p n d given = do
  link ← link_in p n d
  _ ← held (not (is_some (rate_in given link))) (At (place_at part.Link n) LinkTwice)
  at ← member_in (place_at part.Link n) key.Capacity d
  capacity ← number_in (place_at part.LinkCapacity n) LARGEST_CAPACITY at
  Ok (slice_set given link (Some capacity))

-- none is given where there is no such list
unfoldable pub capacities_at : Problem → Option Data → Result (List (Option ℕ)) TargetFault
capacities_at p None = Ok (replicate (length p.links) None)
capacities_at p (Some d) = list_in (place_of part.Capacities) (length p.links) d >>= λ links. add_from (with_one_capacity p) 0 links (replicate (length p.links) None)

unfoldable pub capacities_in : Problem → Data → Result (List (Option ℕ)) TargetFault
capacities_in p d = capacities_at p (get (key_text key.Capacities) d)

-- ---- all of it

unfoldable pub target_at : Problem → Data → Result Targeted TargetFault
target_at p d = do
  new ← rates_in p d
  capacities ← capacities_in p d
  Ok (record { new = new; capacities = capacities })

unfoldable pub target_of : Problem → Data → Result Targeted TargetFault
target_of p d = member_in (place_of part.Top) key.Target d >>= target_at p

unfoldable pub data_in : List ℕ → Result Data TargetFault
data_in bytes = if is_utf8 bytes then ok_or (read bytes) NotJson else Err NotJson

-- the target that stands beside a problem in one document
unfoldable pub target_in : Problem → List ℕ → Result Targeted TargetFault
target_in p bytes = data_in bytes >>= target_of p
