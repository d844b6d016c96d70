-- What an item takes at one end of a step beyond the other end.
use Rattle.std.proofs.Common.{◌≡◌, ℕ, ◌+◌, ◌-◌, ◌^◌, ◌<◌, ◌≤◌, Bool, true, false, not, ◌&&◌, ◌||◌, ◌==◌, if◌then◌else◌, length, slice_index, refl, sym, ap, ◌∙◌, arith, eq-eqb, lt-ltb}
use Rattle.lists.proofs.Conditions.{and_both}
use Rattle.rollout_rules.specs.Sums.{sum_below}
use Rattle.rollout_rules.specs.Wan.{Problem, Plan, Rollout, flow_at, tunnel_of, switch_of, width_of, crosses, rate_at, mark_at, last_stage, next_stage}
use Rattle.rollout_rules.specs.Network.{IsNetwork}
use Rattle.rollout_rules.specs.Items.{Resource, the_link, the_table, takes, use_at, greater_rate, either_mark, step_maximum}
use Rattle.rollout_rules.specs.Valid.{is_valid_plan}
use Rattle.rollout_rules.specs.declared.item.Item.{Item}
use Rattle.rollout_rules.specs.declared.item.Item.TheVariants as item
use Rattle.rollout_rules.proofs.Below.{sum_below-same, sum_below-plus}
use Rattle.rollout_laws.proofs.Contents.{IsWithin, takes-mono}
use Rattle.rollout_laws.proofs.Shares.{next_stage-before}
use Rattle.dependency_graph.specs.Cells.{resource_at, rises, falls}
use Rattle.dependency_graph.specs.Touched.{ItemRow, IsLinkOf, tunnels_at, beyond, appears, gain}
use Rattle.dependency_graph.proofs.RoomCells.{link-at, table-at, at-resource, use-few}

-- ---- both parts of a step's maximum
if-plus : (b : Bool) (x y z : ℕ) → x + y ≡ z → (if b then x else 0) + (if b then y else 0) ≡ (if b then z else 0)
if-plus true x y z e = e
if-plus false x y z e = refl

width-plus : (width : ℕ) (here a b : Bool) → (if here && (b && not a) then width else 0) + (if here && a then width else 0) ≡ (if here && (a || b) then width else 0)
width-plus width true true true = omega arith
width-plus width true true false = omega arith
width-plus width true false true = omega arith
width-plus width true false false = refl
width-plus width false a b = refl

or-exchanged : (a b : Bool) → (a || b) ≡ (b || a)
or-exchanged true true = refl
or-exchanged true false = refl
or-exchanged false true = refl
or-exchanged false false = refl

module _ (p : Problem) (plan : Plan) where
  pub gain-both : (from to : ℕ) (top : ℕ → ℕ) (either : ℕ → Bool) → ((t : ℕ) → beyond plan from to t + rate_at plan from t ≡ top t) → ((t : ℕ) → (mark_at plan from t || mark_at plan to t) ≡ either t)
      → (i : Item) (u : Resource) → gain p plan from to i u + use_at p plan from i u ≡ takes p top (λ t h. either t) i u
  gain-both from to top either rates marks (item.Flow f) (the_link l) =
      sym (sum_below-plus (flow_at p f).tunnels (λ j. if crosses p (tunnel_of p f j) l then beyond plan from to (tunnel_of p f j) else 0) (λ j. if crosses p (tunnel_of p f j) l then rate_at plan from (tunnel_of p f j) else 0))
      ∙ sum_below-same (flow_at p f).tunnels (λ j. (if crosses p (tunnel_of p f j) l then beyond plan from to (tunnel_of p f j) else 0) + (if crosses p (tunnel_of p f j) l then rate_at plan from (tunnel_of p f j) else 0))
      (λ j. if crosses p (tunnel_of p f j) l then top (tunnel_of p f j) else 0)
      (λ j lt. if-plus (crosses p (tunnel_of p f j) l) (beyond plan from to (tunnel_of p f j)) (rate_at plan from (tunnel_of p f j)) (top (tunnel_of p f j)) (rates (tunnel_of p f j)))
  gain-both from to top either rates marks (item.Flow f) (the_table w) = refl
  gain-both from to top either rates marks (item.Entry t h) (the_link l) = refl
  gain-both from to top either rates marks (item.Entry t h) (the_table w) =
      width-plus (width_of p t) (switch_of p t h == w) (mark_at plan from t) (mark_at plan to t)
      ∙ ap (λ b. if (switch_of p t h == w) && b then width_of p t else 0) (marks t)

  gain-begins : (x : ℕ) (i : Item) (u : Resource) → gain p plan x (next_stage plan x) i u + use_at p plan x i u ≡ step_maximum p plan x i u
  gain-begins x i u = gain-both x (next_stage plan x) (greater_rate plan x) (either_mark plan x) (λ t. omega arith) (λ t. refl) i u

  gain-ends : (x : ℕ) (i : Item) (u : Resource) → gain p plan (next_stage plan x) x i u + use_at p plan (next_stage plan x) i u ≡ step_maximum p plan x i u
  gain-ends x i u = gain-both (next_stage plan x) x (greater_rate plan x) (either_mark plan x) (λ t. omega arith) (λ t. or-exchanged (mark_at plan (next_stage plan x) t) (mark_at plan x t)) i u

  -- it is at most what is taken there
  gain-within : (from to : ℕ) (i : Item) (u : Resource) → gain p plan from to i u ≤ use_at p plan to i u
  gain-within from to i u = takes-mono p (beyond plan from to) (rate_at plan to) (λ t h. appears plan from to t) (λ t h. mark_at plan to t) i u (within i)
    where
      within : (i : Item) → IsWithin p (beyond plan from to) (λ t h. appears plan from to t) (rate_at plan to) (λ t h. mark_at plan to t) i
      within (item.Flow f) = λ j lt. omega arith
      within (item.Entry t h) = λ there. (and_both (mark_at plan to t) (not (mark_at plan from t)) there).0

pub rises-gain : (r : Rollout) (i : Item) (x q : ℕ) → rises r i x q ≡ gain r.problem r.plan x (next_stage r.plan x) i (resource_at r.problem q)
rises-gain r i x q = omega (arith, gain-begins r.problem r.plan x i (resource_at r.problem q))

pub falls-gain : (r : Rollout) (i : Item) (x q : ℕ) → x < last_stage r.plan → falls r i x q ≡ gain r.problem r.plan (next_stage r.plan x) x i (resource_at r.problem q)
falls-gain r i x q lt = omega (arith, gain-ends r.problem r.plan x i (resource_at r.problem q), ap (λ n. use_at r.problem r.plan n i (resource_at r.problem q)) (next_stage-before r.plan x lt))

-- ---- by an item's row
-- of a link it is a sum over the tunnels that cross it
pub gain-link : (p : Problem) (plan : Plan) (from to f k : ℕ) (row : ItemRow) → IsLinkOf p f k row
    → gain p plan from to (item.Flow f) (resource_at p (slice_index row.resources k)) ≡ sum_below (length (tunnels_at row k)) (λ j. beyond plan from to (slice_index (tunnels_at row k) j))
gain-link p plan from to f k row so = ap (gain p plan from to (item.Flow f)) (link-at p (slice_index row.resources k) so.link) ∙ sym (so.crossing.sums (beyond plan from to))

pub gain-few : (p : Problem) (plan : Plan) (from to f k : ℕ) (row : ItemRow) → IsNetwork p → is_valid_plan p plan ≡ true → f < length p.flows → to ≤ last_stage plan → IsLinkOf p f k row
    → sum_below (length (tunnels_at row k)) (λ j. beyond plan from to (slice_index (tunnels_at row k) j)) < 2 ^ 64
gain-few p plan from to f k row net valid lt last so =
    let u = resource_at p (slice_index row.resources k) in
    let few = use-few p plan net valid (item.Flow f) (lt-ltb f (length p.flows) lt) u (at-resource p (slice_index row.resources k) (omega (arith, so.link))) to last in
    omega (arith, gain-link p plan from to f k row so, gain-within p plan from to (item.Flow f) u, few)

-- and of its own table an entry takes the width where it appears
pub gain-table : (p : Problem) (plan : Plan) (from to t h q : ℕ) → q ≡ length p.links + switch_of p t h → gain p plan from to (item.Entry t h) (resource_at p q) ≡ (if appears plan from to t then width_of p t else 0)
gain-table p plan from to t h q is =
    let own : q - length p.links ≡ switch_of p t h = omega (arith, is) in
    ap (gain p plan from to (item.Entry t h)) (table-at p q (omega (arith, is)) ∙ ap the_table own)
    ∙ ap (λ b. if b && appears plan from to t then width_of p t else 0) (eq-eqb (switch_of p t h) (switch_of p t h) refl)
