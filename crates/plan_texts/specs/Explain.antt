-- The text that explains a plan: its items by number, with what each one is, and its operations, with what each one brings and needs.
use Rattle.std.specs.Prelude.{ℕ, ◌+◌, ◌-◌, List, [], ◌++◌, codes, decimal, slice_index, Option, Some, None, ◌==◌, if◌then◌else◌}
use Rattle.std.specs.List.{flat_map}
use Rattle.rollout_rules.specs.Sums.{sum_below, list_below}
use Rattle.rollout_rules.specs.Wan.{Problem, Plan, flow_at, tunnel_at, hops, switch_of, last_stage}
use Rattle.rollout_rules.specs.Items.{item_count, item_at, number_of, home_of, content}
use Rattle.rollout_rules.specs.Operations.{operations, stand_after}
use Rattle.rollout_rules.specs.Release.{chain}
use Rattle.rollout_rules.specs.declared.item.Item.{Item}
use Rattle.rollout_rules.specs.declared.item.Item.TheVariants as item
use Rattle.wan_text.specs.Names.{name_text, switch_text}
use Rattle.plan_texts.specs.Needs.{Need, needs_of}

-- ---- an item

-- the switch that it belongs to
abbrev pub home_text : Problem → Option ℕ → List ℕ
home_text p None = codes "none"
home_text p (Some w) = switch_text p w

-- the switches on the path of tunnel t, with `>` between
abbrev pub gap_before : ℕ → List ℕ
gap_before h = if h == 0 then [] else codes ">"

abbrev pub hop_text : Problem → ℕ → ℕ → List ℕ
hop_text p t h = gap_before h ++ switch_text p (switch_of p t h)

abbrev pub path_text : Problem → ℕ → List ℕ
path_text p t = flat_map (hop_text p t) (list_below (hops p t) (λ h. h))

-- the place of a tunnel among those of its flow, and both
abbrev pub place_in_flow : Problem → ℕ → ℕ
place_in_flow p t = t - (flow_at p (tunnel_at p t).flow).first

abbrev pub flow_text : Problem → ℕ → List ℕ
flow_text p f = codes "flow " ++ name_text (flow_at p f).name

abbrev pub place_text : ℕ → List ℕ
place_text place = codes " tunnel " ++ decimal place ++ codes " "

abbrev pub tunnel_text : Problem → ℕ → List ℕ
tunnel_text p t = flow_text p (tunnel_at p t).flow ++ place_text (place_in_flow p t) ++ path_text p t

-- a flow's split over its tunnels, or the entry of a tunnel in the table of a switch
abbrev pub item_text : Problem → Item → List ℕ
item_text p (item.Flow f) = flow_text p f ++ codes " at " ++ home_text p (home_of p (item.Flow f))
item_text p (item.Entry t h) = codes "entry at " ++ home_text p (home_of p (item.Entry t h)) ++ codes " of " ++ tunnel_text p t

abbrev pub count_text : ℕ → List ℕ
count_text count = codes ", operations " ++ decimal count ++ codes "\n"

abbrev pub number_text : ℕ → List ℕ
number_text n = codes "item " ++ decimal n ++ codes ": "

abbrev pub item_line : Problem → ℕ → Item → ℕ → List ℕ
item_line p n i count = number_text n ++ item_text p i ++ count_text count

-- ---- an operation

abbrev pub rate_text : ℕ → List ℕ
rate_text rate = codes " " ++ decimal rate

abbrev pub contents_text : List ℕ → List ℕ
contents_text rates = flat_map rate_text rates

-- an entry's content is 1 where it is there, and 0 where not
abbrev pub entry_text : ℕ → List ℕ
entry_text content = if content == 0 then codes "remove" else codes "install"

-- what an item holds before an operation, and after it: a flow's rates, or that an entry comes or goes
abbrev pub change_text : Item → List ℕ → List ℕ → List ℕ
change_text (item.Flow f) before after = codes "rates" ++ contents_text before ++ codes " to" ++ contents_text after
change_text (item.Entry t h) before after = entry_text (slice_index after 0)

-- an item, by its number, that has to stand at a stage; at stage 0 every item stands from the start
abbrev pub at_stage_text : ℕ → ℕ → List ℕ
at_stage_text n s = codes ", needs item " ++ decimal n ++ codes " at stage " ++ decimal s

abbrev pub stood_text : ℕ → ℕ → List ℕ
stood_text n s = if s == 0 then [] else at_stage_text n s

abbrev pub need_text : Problem → Need → List ℕ
need_text p need = stood_text (number_of p need.other) need.stage

abbrev pub needs_text : Problem → List Need → List ℕ
needs_text p needs = flat_map (need_text p) needs

abbrev pub chain_text : ℕ → List ℕ
chain_text c = codes ", chain " ++ decimal c

-- the item with number n, its operation with number j, which takes it to stage s
abbrev pub op_text : ℕ → ℕ → ℕ → List ℕ
op_text n j s = codes "item " ++ decimal n ++ codes " operation " ++ decimal j ++ codes ": to stage " ++ decimal s ++ codes ", "

-- the line of an operation: its item, by number too, its own number, the stage to which it leads, the item's content before and after it,
-- the longest chain that begins with it, and its needs
abbrev pub line_of : Problem → ℕ → Item → ℕ → ℕ → List ℕ → List ℕ → ℕ → List Need → List ℕ
line_of p n i j s before after longest needs = op_text n j s ++ change_text i before after ++ chain_text longest ++ needs_text p needs ++ codes "\n"

-- that of an item's operation that comes once j are settled, and takes the item from stage s to s + 1
abbrev pub step_line : Problem → Plan → ℕ → Item → ℕ → ℕ → List ℕ
step_line p plan n i j s = line_of p n i (j + 1) (s + 1) (content p plan i s) (content p plan i (s + 1)) (chain p plan i s) (needs_of p plan i s)

-- which it does from where the item stands
abbrev pub op_line : Problem → Plan → ℕ → Item → ℕ → List ℕ
op_line p plan n i j = step_line p plan n i j (stand_after p plan i j)

-- ---- all of them

-- the line of an item, and one for each of its operations
abbrev pub op_lines : Problem → Plan → ℕ → Item → ℕ → List ℕ
op_lines p plan n i count = flat_map (op_line p plan n i) (list_below count (λ j. j))

abbrev pub all_of_item : Problem → Plan → ℕ → Item → List ℕ
all_of_item p plan n i = item_line p n i (operations p plan i) ++ op_lines p plan n i (operations p plan i)

abbrev pub item_lines : Problem → Plan → ℕ → List ℕ
item_lines p plan n = all_of_item p plan n (item_at p n)

-- how many operations there are
abbrev pub op_count : Problem → Plan → ℕ
op_count p plan = sum_below (item_count p) (λ n. operations p plan (item_at p n))

abbrev pub counts_line : ℕ → ℕ → ℕ → ℕ → List ℕ
counts_line items ops stages scale =
    codes "items " ++ decimal items ++ codes ", operations " ++ decimal ops ++ codes ", stages " ++ decimal stages ++ codes ", scale " ++ decimal scale ++ codes "\n"

-- the lines of the first so many items
abbrev pub lines_of_items : Problem → Plan → ℕ → List ℕ
lines_of_items p plan count = flat_map (item_lines p plan) (list_below count (λ n. n))

unfoldable pub explain_text : Problem → Plan → List ℕ
explain_text p plan =
    counts_line (item_count p) (op_count p plan) (last_stage plan) plan.scale ++ lines_of_items p plan (item_count p)
