-- The text of a network and of a plan is read as their data.
use Rattle.std.proofs.Common.{◌≡◌, ℕ, zero, suc, ◌^◌, ◌<◌, ◌≤◌, List, [], ◌∷◌, ◌++◌, map, length, get_or, Bool, true, false, Option, Some, None, option_map, option_and_then, ◌==◌, if◌then◌else◌, codes, refl, sym, ap, subst, append-nil, ◌∙◌, arith}
use Rattle.std.specs.Prelude.{⊤}
use Rattle.json.specs.Json as json
use Rattle.json.specs.Tree as tree
use Rattle.json.specs.Tree.{HasNumbers, ItemsHaveNumbers, MembersHaveNumbers}
use Rattle.json.proofs.Printed.Decimals.{IsNumber-decimal}
use Rattle.json.specs.Token.{Token}
use Rattle.json.specs.Lex.{tokens}
use Rattle.json.proofs.Printed.Tokens.{tokens-print}
use Rattle.json.proofs.Printed.Trees.{value-json_tokens, ArePrintable-json_tokens}
use Rattle.rollout_rules.specs.Sums.{list_below}
use Rattle.rollout_rules.specs.Wan.{Problem, Plan, Stage, no_switch, no_link, no_stage, switch_at, link_at, tunnel_at, flow_at, tunnel_of}
use Rattle.rollout_rules.specs.Network.{IsNetwork, IsRate}
use Rattle.rollout_rules.proofs.Below.{sum_below-up}
use Rattle.rollout_rules.proofs.Tunnels.{tunnels_of}
use Rattle.serde_json.specs.Data.{Data, Items, Members, null, boolean, number, string, array, object, no_items, item, no_members, member, put, depth, items_depth, members_depth}
use Rattle.serde_json.specs.Read.{read, max_depth, of_json, of_items, of_members}
use Rattle.serde_json.specs.View.{items_of}
use Rattle.serde_json.specs.Written.{compact_text, outline, items_outline, members_outline}
use Rattle.serde_json.proofs.Numbers.{number_of-decimal}
use Rattle.serde_json.proofs.Texts.{print-outline}
use Rattle.problem_json.specs.Writing.{number_data, rate_data, list_data, name_data, switch_data, link_data, tunnel_data, flow_data, problem_data, stage_data, plan_data, document_data, AreWords, IsPlanOfWords}
use Rattle.problem_json.proofs.Adding.{map-below}
use Rattle.fraction_lp.specs.Ratio.{zero_ratio}
use Rattle.fraction_lp.specs.declared.proof.Proof.{Proof}
use Rattle.fraction_lp.specs.declared.proof.Proof.TheVariants as said
use Rattle.problem_json.specs.declared.claim.Claim.{Claim}
use Rattle.problem_json.specs.WithinClaims.{IsClaimWithin, IsProofWithin}
use Rattle.problem_json.specs.WritingLeast.{fraction_text, fraction_data, claim_data, claimed_data}
use Rattle.rollout_rules.specs.declared.event.Act.{Act}
use Rattle.rollout_rules.specs.declared.event.Act.TheVariants as act
use Rattle.problem_json.specs.WritingScripts.{act_data, scripted_data, AreActsWithin, IsActWithin}
use Rattle.problem_json.proofs.Plain.{of_problem as problem_is_plain, of_plan as plan_is_plain, document_is_plain, claimed_is_plain, scripted_is_plain}

-- a value whose numbers have 64 bits, and whose objects have their keys in order
record IsReadable (d : Data) : Type 0 where
  pub numbers : HasNumbers (outline d)
  pub same : of_json (outline d) ≡ Some d

abbrev AreReadable : List Data → Type 0
AreReadable [] = ⊤
AreReadable (d ∷ ds) = IsReadable d × AreReadable ds

-- ---- the text of such a value is read as the value

mutual
  depth-outline : (d : Data) → tree.depth (outline d) ≡ depth d
  depth-outline null = refl
  depth-outline (boolean b) = refl
  depth-outline (number n) = refl
  depth-outline (string s) = refl
  depth-outline (array ds) = ap suc (items_depth-outline ds)
  depth-outline (object ms) = ap suc (members_depth-outline ms)

  items_depth-outline : (ds : Items) → tree.items_depth (items_outline ds) ≡ items_depth ds
  items_depth-outline no_items = refl
  items_depth-outline (item d ds) = rw (depth-outline d, items_depth-outline ds) refl

  members_depth-outline : (ms : Members) → tree.members_depth (members_outline ms) ≡ members_depth ms
  members_depth-outline no_members = refl
  members_depth-outline (member k d ms) = rw (depth-outline d, members_depth-outline ms) refl

abbrev whole : Option (json.Json × List Token) → Option Data
whole found = option_and_then of_json (option_and_then (λ p. json.if_last p.0 p.1) found)

text_reads : (d : Data) → IsReadable d → depth d ≤ max_depth → read (compact_text d) ≡ Some d
text_reads d is shallow =
    let ts = tree.json_tokens (outline d) in
    let same : tokens (compact_text d) ≡ ts = ap tokens (sym (print-outline d)) ∙ tokens-print ts (ArePrintable-json_tokens (outline d) is.numbers) in
    ap whole (ap (json.value max_depth) (same ∙ sym (append-nil ts)) ∙ value-json_tokens (outline d) max_depth [] (omega (arith, depth-outline d))) ∙ is.same

-- ---- lists

list_numbers : (ds : List Data) → AreReadable ds → ItemsHaveNumbers (items_outline (items_of ds))
list_numbers [] are = tt
list_numbers (d ∷ ds) are = (are.0.numbers, list_numbers ds are.1)

list_same : (ds : List Data) → AreReadable ds → of_items (items_outline (items_of ds)) ≡ Some (items_of ds)
list_same [] are = refl
list_same (d ∷ ds) are =
    ap (option_and_then (λ e. option_map (item e) (of_items (items_outline (items_of ds))))) are.0.same
    ∙ ap (option_map (item d)) (list_same ds are.1)

list_reads : (ds : List Data) → AreReadable ds → IsReadable (list_data ds)
list_reads ds are = record { numbers = list_numbers ds are; same = ap (option_map array) (list_same ds are) }

one_behind : (ds : List Data) (d : Data) → AreReadable ds → IsReadable d → AreReadable (ds ++ d ∷ [])
one_behind [] d are is = (is, tt)
one_behind (e ∷ ds) d are is = (are.0, one_behind ds d are.1 is)

below_reads : (n : ℕ) (f : ℕ → Data) → ((k : ℕ) → k < n → IsReadable (f k)) → AreReadable (list_below n f)
below_reads zero f each = tt
below_reads (suc n) f each = one_behind (list_below n f) (f n) (below_reads n f (λ k lt. each k (omega arith))) (each n (omega arith))

of_below : (n : ℕ) (f : ℕ → Data) → ((k : ℕ) → k < n → IsReadable (f k)) → IsReadable (list_data (list_below n f))
of_below n f each = list_reads (list_below n f) (below_reads n f each)

of_map : {X : Type 0} (f : X → Data) (xs : List X) (d : X) → ((k : ℕ) → k < length xs → IsReadable (f (get_or xs k d))) → IsReadable (list_data (map f xs))
of_map f xs d each = subst (λ ds. IsReadable (list_data ds)) (sym (map-below f xs d)) (of_below (length xs) (λ k. f (get_or xs k d)) each)

-- ---- numbers and names

of_number : (n : ℕ) → n < 2 ^ 64 → IsReadable (number_data n)
of_number n fits = record { numbers = IsNumber-decimal n fits; same = ap (option_map number) (number_of-decimal n fits) }

of_string : (s : List ℕ) → IsReadable (string s)
of_string s = record { numbers = tt; same = refl }

of_rate : (r : Option ℕ) → IsRate r → IsReadable (rate_data r)
of_rate None is = record { numbers = tt; same = refl }
of_rate (Some n) is = of_number n (omega (arith, is))

-- ---- objects, whose members go in one after another

abbrev AreReadableMembers : Members → Type 0
AreReadableMembers no_members = ⊤
AreReadableMembers (member k d ms) = IsReadable d × AreReadableMembers ms

abbrev all_put : Members → Members → Members
all_put no_members found = found
all_put (member k d ms) found = all_put ms (put k d found)

members_numbers : (ms : Members) → AreReadableMembers ms → MembersHaveNumbers (members_outline ms)
members_numbers no_members are = tt
members_numbers (member k d ms) are = (are.0.numbers, members_numbers ms are.1)

members_same : (ms found : Members) → AreReadableMembers ms → of_members (members_outline ms) found ≡ Some (all_put ms found)
members_same no_members found are = refl
members_same (member k d ms) found are = ap (option_and_then (λ e. of_members (members_outline ms) (put k e found))) are.0.same ∙ members_same ms (put k d found) are.1

of_object : (ms : Members) → AreReadableMembers ms → all_put ms no_members ≡ ms → IsReadable (object ms)
of_object ms are in_order = record { numbers = members_numbers ms are; same = ap (option_map object) (members_same ms no_members are ∙ ap Some in_order) }

-- ---- a network

of_switch : (p : Problem) → IsNetwork p → (w : ℕ) → w < length p.switches → IsReadable (switch_data (switch_at p w))
of_switch p net w lt = of_object _ (of_string (switch_at p w).name, (of_number (switch_at p w).table (omega (arith, net.switches.tables w lt)), tt)) refl

of_link : (p : Problem) → IsNetwork p → (l : ℕ) → l < length p.links → IsReadable (link_data p (link_at p l))
of_link p net l lt =
    let row = link_at p l in
    of_object _ (of_number row.capacity (omega (arith, net.links.capacities l lt)), (of_string (switch_at p row.from).name, (of_string (switch_at p row.to).name, tt))) refl

with_width : (plain : Bool) (width : ℕ) (new old path : Data) → width < 2 ^ 64 → IsReadable new → IsReadable old → IsReadable path
    → IsReadable (object (member (codes "new") new (member (codes "old") old (member (codes "path") path (if plain then no_members else member (codes "width") (number_data width) no_members)))))
with_width true width new old path fits is_new is_old is_path = of_object _ (is_new, (is_old, (is_path, tt))) refl
with_width false width new old path fits is_new is_old is_path = of_object _ (is_new, (is_old, (is_path, (of_number width fits, tt)))) refl

of_tunnel : (p : Problem) → IsNetwork p → (t : ℕ) → t < length p.tunnels → IsReadable (tunnel_data p t)
of_tunnel p net t lt =
    let row = tunnel_at p t in
    let is = net.tunnels t lt in
    let path = of_map (name_data p) row.path 0 (λ k h. of_string (switch_at p (get_or row.path k 0)).name) in
    with_width (p.format == 1) row.width (rate_data row.new) (rate_data row.old) (list_data (map (name_data p) row.path)) (omega (arith, is.width.most)) (of_rate row.new is.new) (of_rate row.old is.old) path

of_flow : (p : Problem) → IsNetwork p → (f : ℕ) → f < length p.flows → IsReadable (flow_data p f)
of_flow p net f lt =
    let row = flow_at p f in
    let up = sum_below-up (suc f) (length p.flows) (tunnels_of p) lt in
    let tunnels = of_below row.tunnels (λ j. tunnel_data p (tunnel_of p f j)) (λ j less. of_tunnel p net (tunnel_of p f j) (omega (arith, net.flows.in_order f lt, net.flows.all, up))) in
    of_object _ (of_string row.name, (tunnels, tt)) refl

with_format : (plain : Bool) (format : ℕ) (flows links switches : Data) → format < 2 ^ 64 → IsReadable flows → IsReadable links → IsReadable switches
    → (let behind = member (codes "links") links (member (codes "switches") switches no_members) in
    IsReadable (object (member (codes "flows") flows (if plain then behind else member (codes "format") (number_data format) behind))))
with_format true format flows links switches fits is_flows is_links is_switches = of_object _ (is_flows, (is_links, (is_switches, tt))) refl
with_format false format flows links switches fits is_flows is_links is_switches = of_object _ (is_flows, (of_number format fits, (is_links, (is_switches, tt)))) refl

of_problem : (p : Problem) → IsNetwork p → IsReadable (problem_data p)
of_problem p net =
    let flows = of_below (length p.flows) (flow_data p) (of_flow p net) in
    let links = of_map (link_data p) p.links no_link (of_link p net) in
    let switches = of_map switch_data p.switches no_switch (of_switch p net) in
    with_format (p.format == 1) p.format (list_data (list_below (length p.flows) (flow_data p))) (list_data (map (link_data p) p.links)) (list_data (map switch_data p.switches))
    (omega (arith, net.format.high)) flows links switches

-- ---- a plan

of_stage : (s : Stage) → AreWords s.rates → IsReadable (stage_data s)
of_stage s words =
    let installed = of_map boolean s.installed false (λ k lt. record { numbers = tt; same = refl }) in
    let rates = of_map number_data s.rates 0 (λ k lt. of_number (get_or s.rates k 0) (words k)) in
    of_object _ (installed, (rates, tt)) refl

of_plan : (plan : Plan) → IsPlanOfWords plan → IsReadable (plan_data plan)
of_plan plan words =
    let stages = of_map stage_data plan.stages no_stage (λ k lt. of_stage (get_or plan.stages k no_stage) (words.rates k lt)) in
    of_object _ (of_number plan.scale words.scale, (stages, tt)) refl

of_document : (p : Problem) (plan : Plan) → IsNetwork p → IsPlanOfWords plan → IsReadable (document_data p plan)
unfolding document_data
of_document p plan net words = of_object _ (of_plan plan words, (of_problem p net, tt)) refl

-- ---- what is said of fewer rate steps

of_claim : (steps : ℕ) (proof : Proof) → steps < 2 ^ 64 → IsProofWithin proof → IsReadable (claim_data steps proof)
of_claim steps said.Plain few is = of_object _ (of_number steps few, tt) refl
of_claim steps (said.Link l) few is = of_object _ (of_number l (omega (arith, is)), (of_number steps few, tt)) refl
of_claim steps (said.Rows ys) few is =
    let rows = of_map fraction_data ys zero_ratio (λ k lt. of_string (fraction_text (get_or ys k zero_ratio))) in
    of_object _ (rows, (of_number steps few, tt)) refl

of_claimed : (p : Problem) (plan : Plan) (claim : Claim) → IsNetwork p → IsPlanOfWords plan → IsClaimWithin claim → IsReadable (claimed_data p plan claim)
unfolding claimed_data
of_claimed p plan claim net words is =
    of_object _ (of_claim claim.steps claim.proof (omega (arith, is.steps)) is.proof, (of_plan plan words, (of_problem p net, tt))) refl

-- ---- a script

of_plain : (name : List ℕ) → IsReadable (list_data (string name ∷ []))
of_plain name = list_reads (string name ∷ []) (of_string name, tt)

of_numbered : (name : List ℕ) (n : ℕ) → n < 2 ^ 64 → IsReadable (list_data (string name ∷ number_data n ∷ []))
of_numbered name n fits = list_reads (string name ∷ number_data n ∷ []) (of_string name, (of_number n fits, tt))

of_pair : (name batch : List ℕ) → IsReadable (list_data (string name ∷ string batch ∷ []))
of_pair name batch = list_reads (string name ∷ string batch ∷ []) (of_string name, (of_string batch, tt))

of_act : (a : Act) → IsActWithin a → IsReadable (act_data a)
of_act act.Round is = of_plain (codes "round")
of_act (act.Send n) is = of_numbered (codes "send") n (omega (arith, is))
of_act (act.Deliver n) is = of_numbered (codes "deliver") n (omega (arith, is))
of_act (act.Hand n) is = of_numbered (codes "hand") n (omega (arith, is))
of_act act.All is = of_plain (codes "all")
of_act act.CrashLost is = of_pair (codes "crash") (codes "lost")
of_act act.CrashKept is = of_pair (codes "crash") (codes "kept")
of_act act.Stop is = of_plain (codes "stop")
of_act act.Start is = of_plain (codes "start")

of_scripted : (p : Problem) (plan : Plan) (script : List Act) → IsNetwork p → IsPlanOfWords plan → AreActsWithin (length script) script → IsReadable (scripted_data p plan script)
unfolding scripted_data
of_scripted p plan script net words within =
    let acts = of_map act_data script act.Round (λ k lt. of_act (get_or script k act.Round) (within k lt)) in
    of_object _ (of_plan plan words, (of_problem p net, (acts, tt))) refl

-- ---- the texts

pub problem_text_reads : (p : Problem) → IsNetwork p → read (compact_text (problem_data p)) ≡ Some (problem_data p)
problem_text_reads p net = text_reads (problem_data p) (of_problem p net) (omega (arith, (problem_is_plain p).shallow))

pub plan_text_reads : (plan : Plan) → IsPlanOfWords plan → read (compact_text (plan_data plan)) ≡ Some (plan_data plan)
plan_text_reads plan words = text_reads (plan_data plan) (of_plan plan words) (omega (arith, (plan_is_plain plan).shallow))

pub document_text_reads : (p : Problem) (plan : Plan) → IsNetwork p → IsPlanOfWords plan → read (compact_text (document_data p plan)) ≡ Some (document_data p plan)
document_text_reads p plan net words = text_reads (document_data p plan) (of_document p plan net words) (omega (arith, (document_is_plain p plan).shallow))

pub claimed_text_reads : (p : Problem) (plan : Plan) (claim : Claim) → IsNetwork p → IsPlanOfWords plan → IsClaimWithin claim → read (compact_text (claimed_data p plan claim)) ≡ Some (claimed_data p plan claim)
claimed_text_reads p plan claim net words is =
    text_reads (claimed_data p plan claim) (of_claimed p plan claim net words is) (omega (arith, (claimed_is_plain p plan claim).shallow))

pub scripted_text_reads : (p : Problem) (plan : Plan) (script : List Act) → IsNetwork p → IsPlanOfWords plan → AreActsWithin (length script) script → read (compact_text (scripted_data p plan script)) ≡ Some (scripted_data p plan script)
scripted_text_reads p plan script net words within =
    text_reads (scripted_data p plan script) (of_scripted p plan script net words within) (omega (arith, (scripted_is_plain p plan script).shallow))
