-- A document has whole numbers alone, and its lists and objects do not nest deep.
use Rattle.std.proofs.Common.{◌≡◌, ℕ, zero, suc, ◌≤◌, List, [], ◌∷◌, ◌++◌, map, length, Bool, true, false, Option, Some, None, ◌==◌, if◌then◌else◌, codes, refl, arith}
use Rattle.std.proofs.lemmas.Bool.{or_from, or_parts}
use Rattle.rollout_rules.specs.Sums.{list_below}
use Rattle.rollout_rules.specs.Wan.{Problem, Plan, Stage, tunnel_at, flow_at, tunnel_of}
use Rattle.serde_json.specs.Data.{Data, Members, no_members, member, boolean, depth, items_depth, members_depth}
use Rattle.serde_json.specs.View.{items_of}
use Rattle.serde_json.specs.Written.{has_float, items_have_float, members_have_float}
use Rattle.fraction_lp.specs.declared.proof.Proof.{Proof}
use Rattle.fraction_lp.specs.declared.proof.Proof.TheVariants as said
use Rattle.rollout_rules.specs.declared.event.Act.{Act}
use Rattle.rollout_rules.specs.declared.event.Act.TheVariants as act
use Rattle.problem_json.specs.WritingScripts.{act_data, scripted_data}
use Rattle.problem_json.specs.declared.claim.Claim.{Claim}
use Rattle.problem_json.specs.WritingLeast.{fraction_data, claim_data, claimed_data}
use Rattle.problem_json.specs.Writing.{number_data, rate_data, width_member, format_before, list_data, name_data, switch_data, link_data, tunnel_data, flow_data, problem_data, stage_data, plan_data, document_data}

-- a value without floats in which at most n lists and objects stand inside one another
pub record IsPlain (n : ℕ) (d : Data) : Type 0 where
  pub whole : has_float d ≡ false
  pub shallow : depth d ≤ n

record ArePlain (n : ℕ) (ds : List Data) : Type 0 where
  pub whole : items_have_float (items_of ds) ≡ false
  pub shallow : items_depth (items_of ds) ≤ n

one_before : (n : ℕ) (d : Data) (ds : List Data) → IsPlain n d → ArePlain n ds → ArePlain n (d ∷ ds)
one_before n d ds one all = record { whole = or_from (has_float d) (items_have_float (items_of ds)) one.whole all.whole; shallow = omega arith }

one_behind : (n : ℕ) (ds : List Data) (d : Data) → ArePlain n ds → IsPlain n d → ArePlain n (ds ++ d ∷ [])
one_behind n [] d all one = one_before n d [] one all
one_behind n (x ∷ ds) d all one =
    let both = or_parts (has_float x) (items_have_float (items_of ds)) all.whole in
    let rest : ArePlain n ds = record { whole = both.1; shallow = omega arith } in
    let first : IsPlain n x = record { whole = both.0; shallow = omega arith } in
    one_before n x (ds ++ d ∷ []) first (one_behind n ds d rest one)

of_map : {A : Type 0} (n : ℕ) (f : A → Data) → ((a : A) → IsPlain n (f a)) → (xs : List A) → ArePlain n (map f xs)
of_map n f each [] = record { whole = refl; shallow = omega arith }
of_map n f each (x ∷ xs) = one_before n (f x) (map f xs) (each x) (of_map n f each xs)

of_below : (n : ℕ) (f : ℕ → Data) → ((k : ℕ) → IsPlain n (f k)) → (m : ℕ) → ArePlain n (list_below m f)
of_below n f each zero = record { whole = refl; shallow = omega arith }
of_below n f each (suc m) = one_behind n (list_below m f) (f m) (of_below n f each m) (each m)

of_rate : (r : Option ℕ) → IsPlain 0 (rate_data r)
of_rate None = record { whole = refl; shallow = omega arith }
of_rate (Some n) = record { whole = refl; shallow = omega arith }

-- the members of an object, alike
record ArePlainMembers (n : ℕ) (ms : Members) : Type 0 where
  pub whole : members_have_float ms ≡ false
  pub shallow : members_depth ms ≤ n

of_width : (format width : ℕ) → ArePlainMembers 0 (width_member format width)
of_width format width = on (format == 1)
  where
    on : (plain : Bool) → ArePlainMembers 0 (if plain then no_members else member (codes "width") (number_data width) no_members)
    on true = record { whole = refl; shallow = omega arith }
    on false = record { whole = refl; shallow = omega arith }

of_format : (n format : ℕ) (behind : Members) → ArePlainMembers n behind → ArePlainMembers n (format_before format behind)
of_format n format behind are = on (format == 1)
  where
    on : (plain : Bool) → ArePlainMembers n (if plain then behind else member (codes "format") (number_data format) behind)
    on true = are
    on false = record { whole = are.whole; shallow = omega (arith, are.shallow) }

pub of_tunnel : (p : Problem) (t : ℕ) → IsPlain 2 (tunnel_data p t)
of_tunnel p t =
    let new = of_rate (tunnel_at p t).new in
    let old = of_rate (tunnel_at p t).old in
    let path = of_map 0 (name_data p) (λ w. record { whole = refl; shallow = omega arith }) (tunnel_at p t).path in
    let width = of_width p.format (tunnel_at p t).width in
    record { whole = or_from _ _ new.whole (or_from _ _ old.whole (or_from _ _ path.whole width.whole)); shallow = omega arith }

of_flow : (p : Problem) (f : ℕ) → IsPlain 4 (flow_data p f)
of_flow p f =
    let tunnels = of_below 2 (λ j. tunnel_data p (tunnel_of p f j)) (λ j. of_tunnel p (tunnel_of p f j)) (flow_at p f).tunnels in
    record { whole = or_from _ _ tunnels.whole refl; shallow = omega arith }

pub of_problem : (p : Problem) → IsPlain 6 (problem_data p)
of_problem p =
    let flows = of_below 4 (flow_data p) (of_flow p) (length p.flows) in
    let links = of_map 1 (link_data p) (λ l. record { whole = refl; shallow = omega arith }) p.links in
    let switches = of_map 1 switch_data (λ s. record { whole = refl; shallow = omega arith }) p.switches in
    let behind = member (codes "links") (list_data (map (link_data p) p.links)) (member (codes "switches") (list_data (map switch_data p.switches)) no_members) in
    let are : ArePlainMembers 2 behind = record { whole = or_from _ _ links.whole (or_from _ _ switches.whole refl); shallow = omega arith } in
    let rest = of_format 2 p.format behind are in
    record { whole = or_from _ _ flows.whole rest.whole; shallow = omega arith }

of_stage : (s : Stage) → IsPlain 2 (stage_data s)
of_stage s =
    let installed = of_map 0 boolean (λ b. record { whole = refl; shallow = omega arith }) s.installed in
    let rates = of_map 0 number_data (λ n. record { whole = refl; shallow = omega arith }) s.rates in
    record { whole = or_from _ _ installed.whole (or_from _ _ rates.whole refl); shallow = omega arith }

pub of_plan : (plan : Plan) → IsPlain 4 (plan_data plan)
of_plan plan =
    let stages = of_map 2 stage_data of_stage plan.stages in
    record { whole = or_from _ _ stages.whole refl; shallow = omega arith }

pub document_is_plain : (p : Problem) (plan : Plan) → IsPlain 7 (document_data p plan)
unfolding document_data
document_is_plain p plan =
    let steps = of_plan plan in
    let problem = of_problem p in
    record { whole = or_from _ _ steps.whole (or_from _ _ problem.whole refl); shallow = omega arith }

of_claim : (steps : ℕ) (proof : Proof) → IsPlain 2 (claim_data steps proof)
of_claim steps said.Plain = record { whole = refl; shallow = omega arith }
of_claim steps (said.Link l) = record { whole = refl; shallow = omega arith }
of_claim steps (said.Rows ys) =
    let rows = of_map 0 fraction_data (λ x. record { whole = refl; shallow = omega arith }) ys in
    record { whole = or_from _ _ rows.whole refl; shallow = omega arith }

pub claimed_is_plain : (p : Problem) (plan : Plan) (claim : Claim) → IsPlain 7 (claimed_data p plan claim)
unfolding claimed_data
claimed_is_plain p plan claim =
    let claimed = of_claim claim.steps claim.proof in
    let steps = of_plan plan in
    let problem = of_problem p in
    record { whole = or_from _ _ claimed.whole (or_from _ _ steps.whole (or_from _ _ problem.whole refl)); shallow = omega arith }

of_act : (a : Act) → IsPlain 1 (act_data a)
of_act act.Round = record { whole = refl; shallow = omega arith }
of_act (act.Send n) = record { whole = refl; shallow = omega arith }
of_act (act.Deliver n) = record { whole = refl; shallow = omega arith }
of_act (act.Hand n) = record { whole = refl; shallow = omega arith }
of_act act.All = record { whole = refl; shallow = omega arith }
of_act act.CrashLost = record { whole = refl; shallow = omega arith }
of_act act.CrashKept = record { whole = refl; shallow = omega arith }
of_act act.Stop = record { whole = refl; shallow = omega arith }
of_act act.Start = record { whole = refl; shallow = omega arith }

pub scripted_is_plain : (p : Problem) (plan : Plan) (script : List Act) → IsPlain 7 (scripted_data p plan script)
unfolding scripted_data
scripted_is_plain p plan script =
    let steps = of_plan plan in
    let problem = of_problem p in
    let acts = of_map 1 act_data of_act script in
    record { whole = or_from _ _ steps.whole (or_from _ _ problem.whole (or_from _ _ acts.whole refl)); shallow = omega arith }
