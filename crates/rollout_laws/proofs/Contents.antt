-- What an item takes goes by its content alone, and is larger where rates and marks are.
use Rattle.std.proofs.Common.{◌≡◌, ℕ, ◌<◌, ◌≤◌, Bool, true, false, ◌&&◌, if◌then◌else◌, get_or, sym, refl, ap, ◌∙◌, arith, ◌==◌}
use Rattle.std.proofs.lemmas.Bool.{or_left, or_right}
use Rattle.lists.proofs.Conditions.{if_mono}
use Rattle.rollout_rules.specs.Wan.{Problem, Plan, flow_at, tunnel_of, switch_of, width_of, crosses, rate_at, mark_at, next_stage}
use Rattle.rollout_rules.specs.Items.{Resource, the_link, the_table, takes, content, use_at, greater_rate, either_mark, step_maximum}
use Rattle.rollout_rules.specs.declared.item.Item.{Item}
use Rattle.rollout_rules.specs.declared.item.Item.TheVariants as item
use Rattle.rollout_rules.proofs.Below.{sum_below-mono}
use Rattle.rollout_rules.proofs.Rows.{list_below-at}

-- on an item, the first rates and marks are at most the second
abbrev pub IsWithin : Problem → (ℕ → ℕ) → (ℕ → ℕ → Bool) → (ℕ → ℕ) → (ℕ → ℕ → Bool) → Item → Type 0
IsWithin p rate there rate' there' (item.Flow f) = (j : ℕ) → j < (flow_at p f).tunnels → rate (tunnel_of p f j) ≤ rate' (tunnel_of p f j)
IsWithin p rate there rate' there' (item.Entry t h) = there t h ≡ true → there' t h ≡ true

there-mono : (a b : Bool) (width : ℕ) → (a ≡ true → b ≡ true) → (if a then width else 0) ≤ (if b then width else 0)
there-mono true b width up = rw (up refl) (omega arith)
there-mono false b width up = omega arith

and-mono : (w a b : Bool) → (a ≡ true → b ≡ true) → (w && a) ≡ true → (w && b) ≡ true
and-mono true a b up e = up e
and-mono false a b up e = e

pub takes-mono : (p : Problem) (rate rate' : ℕ → ℕ) (there there' : ℕ → ℕ → Bool) (i : Item) (r : Resource) → IsWithin p rate there rate' there' i → takes p rate there i r ≤ takes p rate' there' i r
takes-mono p rate rate' there there' (item.Flow f) (the_link l) h = sum_below-mono (flow_at p f).tunnels _ _ (λ j lt. if_mono (crosses p (tunnel_of p f j) l) (rate (tunnel_of p f j)) (rate' (tunnel_of p f j)) (h j lt))
takes-mono p rate rate' there there' (item.Flow f) (the_table w) h = omega arith
takes-mono p rate rate' there there' (item.Entry t g) (the_link l) h = omega arith
takes-mono p rate rate' there there' (item.Entry t g) (the_table w) h =
    there-mono (switch_of p t g == w && there t g) (switch_of p t g == w && there' t g) (width_of p t) (and-mono (switch_of p t g == w) (there t g) (there' t g) h)

-- what an item's content says: the rates of a flow's tunnels, or an entry's mark
abbrev one_if : Bool → ℕ
one_if a = if a then 1 else 0

mark-from : (a b : Bool) → one_if a ≡ one_if b → a ≡ b
mark-from true true e = refl
mark-from true false e = cc
mark-from false true e = cc
mark-from false false e = refl

pub content-rate : (p : Problem) (plan : Plan) (f a b : ℕ) → content p plan (item.Flow f) a ≡ content p plan (item.Flow f) b → (j : ℕ) → j < (flow_at p f).tunnels → rate_at plan a (tunnel_of p f j) ≡ rate_at plan b (tunnel_of p f j)
content-rate p plan f a b e j lt =
    sym (list_below-at (flow_at p f).tunnels (λ k. rate_at plan a (tunnel_of p f k)) j 0 lt)
    ∙ ap (λ xs. get_or xs j 0) e
    ∙ list_below-at (flow_at p f).tunnels (λ k. rate_at plan b (tunnel_of p f k)) j 0 lt

pub content-mark : (p : Problem) (plan : Plan) (t h a b : ℕ) → content p plan (item.Entry t h) a ≡ content p plan (item.Entry t h) b → mark_at plan a t ≡ mark_at plan b t
content-mark p plan t h a b e = mark-from (mark_at plan a t) (mark_at plan b t) (ap (λ xs. get_or xs 0 0) e)

-- so the same content takes the same
pub use-same : (p : Problem) (plan : Plan) (i : Item) (r : Resource) (a b : ℕ) → content p plan i a ≡ content p plan i b → use_at p plan a i r ≤ use_at p plan b i r
use-same p plan i r a b e = takes-mono p (rate_at plan a) (rate_at plan b) (λ t h. mark_at plan a t) (λ t h. mark_at plan b t) i r (within i e)
  where
    within : (i : Item) → content p plan i a ≡ content p plan i b → IsWithin p (rate_at plan a) (λ t h. mark_at plan a t) (rate_at plan b) (λ t h. mark_at plan b t) i
    within (item.Flow f) e = λ j lt. omega (arith, content-rate p plan f a b e j lt)
    within (item.Entry t h) e = λ there. sym (content-mark p plan t h a b e) ∙ there

-- a step's maximum covers both ends
pub greater_rate-begins : (plan : Plan) (s t : ℕ) → rate_at plan s t ≤ greater_rate plan s t
greater_rate-begins plan s t = omega arith

pub greater_rate-ends : (plan : Plan) (s t : ℕ) → rate_at plan (next_stage plan s) t ≤ greater_rate plan s t
greater_rate-ends plan s t = omega arith

pub either_mark-begins : (plan : Plan) (s t : ℕ) → mark_at plan s t ≡ true → either_mark plan s t ≡ true
either_mark-begins plan s t there = or_left (mark_at plan s t) (mark_at plan (next_stage plan s) t) there

pub either_mark-ends : (plan : Plan) (s t : ℕ) → mark_at plan (next_stage plan s) t ≡ true → either_mark plan s t ≡ true
either_mark-ends plan s t there = or_right (mark_at plan s t) (mark_at plan (next_stage plan s) t) there

pub step-begins : (p : Problem) (plan : Plan) (i : Item) (r : Resource) (s : ℕ) → use_at p plan s i r ≤ step_maximum p plan s i r
step-begins p plan i r s = takes-mono p (rate_at plan s) (greater_rate plan s) (λ t h. mark_at plan s t) (λ t h. either_mark plan s t) i r (within i)
  where
    within : (i : Item) → IsWithin p (rate_at plan s) (λ t h. mark_at plan s t) (greater_rate plan s) (λ t h. either_mark plan s t) i
    within (item.Flow f) = λ j lt. greater_rate-begins plan s (tunnel_of p f j)
    within (item.Entry t h) = λ there. either_mark-begins plan s t there

pub step-ends : (p : Problem) (plan : Plan) (i : Item) (r : Resource) (s : ℕ) → use_at p plan (next_stage plan s) i r ≤ step_maximum p plan s i r
step-ends p plan i r s = takes-mono p (rate_at plan (next_stage plan s)) (greater_rate plan s) (λ t h. mark_at plan (next_stage plan s) t) (λ t h. either_mark plan s t) i r (within i)
  where
    within : (i : Item) → IsWithin p (rate_at plan (next_stage plan s)) (λ t h. mark_at plan (next_stage plan s) t) (greater_rate plan s) (λ t h. either_mark plan s t) i
    within (item.Flow f) = λ j lt. greater_rate-ends plan s (tunnel_of p f j)
    within (item.Entry t h) = λ there. either_mark-ends plan s t there
