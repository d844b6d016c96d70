-- The needs of an operation as they are told: which there are, and that they are all.
use Rattle.std.proofs.Common.{◌≡◌, ℕ, zero, suc, ◌+◌, Bool, true, false, ◌&&◌, ◌||◌, List, [], ◌∷◌, ◌++◌, append-nil, nat_le, ◌==◌, if◌then◌else◌, refl, sym, ap, ap₂, subst, ◌∙◌, arith}
use Rattle.std.specs.List.{flat_map, list_all}
use Rattle.std.proofs.lemmas.List.Concat.{flat_map-append}
use Rattle.std.proofs.lemmas.List.Folds.{list_all-append}
use Rattle.rollout_rules.specs.Sums.{all_below, list_below}
use Rattle.rollout_rules.specs.Wan.{Problem, Plan, Rollout, flow_at, tunnel_at, tunnel_of, hops, rate_at, mark_at}
use Rattle.rollout_rules.specs.Items.{number_of}
use Rattle.rollout_rules.specs.History.{Places, stand}
use Rattle.rollout_rules.specs.Needs.{installed_since, idle_since, entries_past, needs_met_at}
use Rattle.rollout_rules.specs.declared.item.Item.{Item}
use Rattle.rollout_rules.specs.declared.item.Item.TheVariants as item
use Rattle.plan_texts.specs.Explain.{at_stage_text, stood_text, needs_text}
use Rattle.plan_texts.specs.Needs.{entry_need, entry_needs, carrier_needs, flow_need, needs_of, is_met}

-- ---- in a text

-- what a tunnel that doesn't carry needs, and one that does
pub carrier-none : (p : Problem) (plan : Plan) (s t rate : ℕ) → rate ≡ rate_at plan s t → (rate == 0) ≡ true → [] ≡ needs_text p (carrier_needs p plan s t)
carrier-none p plan s t rate is none =
    ap (λ b. needs_text p (if b then [] else entry_needs p t (installed_since plan t s))) (sym (ap (λ n. n == 0) (sym is) ∙ none))

pub carrier-some : (p : Problem) (plan : Plan) (s t rate since : ℕ) → rate ≡ rate_at plan s t → (rate == 0) ≡ false → since ≡ installed_since plan t s → needs_text p (entry_needs p t since) ≡ needs_text p (carrier_needs p plan s t)
carrier-some p plan s t rate since is some first =
    ap (λ u. needs_text p (entry_needs p t u)) first
    ∙ ap (λ b. needs_text p (if b then [] else entry_needs p t (installed_since plan t s))) (sym (ap (λ n. n == 0) (sym is) ∙ some))

-- an item that stands from the start, and one that has to come
pub stood-none : (n s : ℕ) → s ≡ 0 → [] ≡ stood_text n s
stood-none n s start = ap (λ k. stood_text n k) (sym start)

pub stood-some : (n s : ℕ) → (s == 0) ≡ false → at_stage_text n s ≡ stood_text n s
stood-some n s later = ap (λ b. if b then [] else at_stage_text n s) (sym later)

-- an entry by its number
pub entry-number : (q r : Rollout) (t h first : ℕ) → q ≡ r → first ≡ number_of q.problem (item.Entry t 0) → first + h ≡ number_of r.problem (item.Entry t h)
entry-number q r t h first same is =
    let here : first ≡ number_of r.problem (item.Entry t 0) = subst (λ (o : Rollout). first ≡ number_of o.problem (item.Entry t 0)) same is in
    omega (arith, here)

-- an installation needs nothing, and a removal that its flow has gone
pub arrival-told : (p : Problem) (plan : Plan) (t h s : ℕ) (mark : Bool) → mark ≡ mark_at plan (s + 1) t → mark ≡ true → [] ≡ needs_text p (needs_of p plan (item.Entry t h) s)
arrival-told p plan t h s mark is there =
    ap (λ b. needs_text p (if b then [] else flow_need p plan t s ∷ [])) (sym (sym is ∙ there))

pub departure-told : (p : Problem) (plan : Plan) (t h s flow since : ℕ) (mark : Bool) → mark ≡ mark_at plan (s + 1) t → mark ≡ false → flow ≡ (tunnel_at p t).flow → since ≡ idle_since plan t s
    → stood_text flow since ≡ needs_text p (needs_of p plan (item.Entry t h) s)
departure-told p plan t h s flow since mark is gone own first =
    ap₂ (λ f u. stood_text f u) own first
    ∙ sym (append-nil (stood_text (tunnel_at p t).flow (idle_since plan t s)))
    ∙ ap (λ b. needs_text p (if b then [] else flow_need p plan t s ∷ [])) (sym (sym is ∙ gone))

-- ---- all of them

and-true : (b : Bool) → (b && true) ≡ b
and-true true = refl
and-true false = refl

-- a test of each number is one of each element
all-listed : {X : Type 0} (test : X → Bool) (n : ℕ) (g : ℕ → X) → all_below n (λ k. test (g k)) ≡ list_all test (list_below n g)
all-listed test zero g = refl
all-listed test (suc n) g =
    ap₂ (λ a b. a && b) (all-listed test n g) (sym (and-true (test (g n))))
    ∙ sym (list_all-append test (list_below n g) (g n ∷ []))

all-rows : {X Y : Type 0} (test : Y → Bool) (f : X → List Y) (g : ℕ → X) (each : ℕ → Bool) (n : ℕ) → ((k : ℕ) → each k ≡ list_all test (f (g k))) → all_below n each ≡ list_all test (flat_map f (list_below n g))
all-rows test f g each zero same = refl
all-rows test f g each (suc n) same =
    ap₂ (λ a b. a && b) (all-rows test f g each n same) (same n ∙ ap (list_all test) (sym (append-nil (f (g n)))))
    ∙ sym (list_all-append test (flat_map f (list_below n g)) (f (g n) ++ []))
    ∙ ap (list_all test) (sym (flat_map-append f (list_below n g) (g n ∷ [])))

unless : {X : Type 0} (test : X → Bool) (idle met : Bool) (rows : List X) → met ≡ list_all test rows → (idle || met) ≡ list_all test (if idle then [] else rows)
unless test true met rows is = refl
unless test false met rows is = is

carried : (p : Problem) (plan : Plan) (at : Places) (s t : ℕ) → ((rate_at plan s t == 0) || entries_past p plan at t (installed_since plan t s)) ≡ list_all (is_met p plan at) (carrier_needs p plan s t)
carried p plan at s t =
    unless (is_met p plan at) (rate_at plan s t == 0) (entries_past p plan at t (installed_since plan t s)) (entry_needs p t (installed_since plan t s))
    (all-listed (is_met p plan at) (hops p t) (entry_need t (installed_since plan t s)))

pub needs-are_all : (p : Problem) (plan : Plan) (at : Places) (i : Item) (s : ℕ) → needs_met_at p plan at i s ≡ list_all (is_met p plan at) (needs_of p plan i s)
needs-are_all p plan at (item.Flow f) s =
    all-rows (is_met p plan at) (carrier_needs p plan (s + 1)) (tunnel_of p f)
    (λ j. (rate_at plan (s + 1) (tunnel_of p f j) == 0) || entries_past p plan at (tunnel_of p f j) (installed_since plan (tunnel_of p f j) (s + 1)))
    (flow_at p f).tunnels (λ j. carried p plan at (s + 1) (tunnel_of p f j))
needs-are_all p plan at (item.Entry t h) s =
    unless (is_met p plan at) (mark_at plan (s + 1) t) (nat_le (idle_since plan t s) (stand p plan at (item.Flow (tunnel_at p t).flow)))
    (flow_need p plan t s ∷ [])
    (sym (and-true (nat_le (idle_since plan t s) (stand p plan at (item.Flow (tunnel_at p t).flow)))))
