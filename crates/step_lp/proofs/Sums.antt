-- Sums in which most terms are 0, and sums over the used tunnels.
use Rattle.std.proofs.Common.{◌≡◌, ◌≢◌, ℕ, zero, suc, ◌+◌, ◌<◌, Bool, true, false, List, [], ◌∷◌, ◌++◌, length, if◌then◌else◌, inl, inr, ◌∙◌, sym, refl, arith}
use Rattle.std.specs.Prelude.{◌==◌, ◌&&◌}
use Rattle.std.proofs.lemmas.Bool.{cases_lt, ne_eqb, eq-eqb}
use Rattle.rollout_rules.specs.Sums.{sum_below}
use Rattle.rollout_rules.specs.Wan.{Problem, tunnel_of}
use Rattle.rollout_rules.specs.Valid.{flow_total}
use Rattle.rollout_rules.specs.Network.{IsNetwork}
use Rattle.rollout_rules.proofs.Below.{sum_below-same, sum_below-zero}
use Rattle.rollout_rules.proofs.Tunnels.{tunnels_of, flow-tunnel_of}
use Rattle.rollout_rules.proofs.Totals.{sum_below-tunnels}
use Rattle.step_lp.specs.Program.{used_at, used_to, belongs}

-- the sum of what is 0 but at one number
pub sum_below-one : (n k : ℕ) (f : ℕ → ℕ) → k < n → ((j : ℕ) → j < n → j ≢ k → f j ≡ 0) → sum_below n f ≡ f k
sum_below-one zero k f lt h = absurd (omega arith)
sum_below-one (suc n) k f lt h = elim (cases_lt k n) as (λ c. sum_below (suc n) f ≡ f k) [
  | inl below ↦
      let last : f n ≡ 0 = h n (omega arith) (λ (e : n ≡ k). omega arith) in
      omega (arith, sum_below-one n k f below (λ j low other. h j (omega arith) other))
  | inr above ↦
      let at : k ≡ n = omega arith in
      rw at (omega (arith, sum_below-zero n f (λ j low. h j (omega arith) (λ (e : j ≡ k). omega arith))))
]

if_same : (a k : ℕ) (b : Bool) (x : ℕ) → a ≢ k → (if (a == k) && b then x else 0) ≡ 0
if_same a k b x h = rw (ne_eqb a k h)

-- of the blocks only one counts
pub one_block : (m k T : ℕ) (test : ℕ → Bool) (n : ℕ → ℕ → ℕ) → k < m →
    sum_below m (λ b. sum_below T (λ t. if (b == k) && test t then n b t else 0)) ≡ sum_below T (λ t. if test t then n k t else 0)
one_block m k T test n lt =
    sum_below-one m k (λ b. sum_below T (λ t. if (b == k) && test t then n b t else 0)) lt
    (λ b low other. sum_below-zero T (λ t. if (b == k) && test t then n b t else 0) (λ t inside. if_same b k (test t) (n b t) other))
    ∙ sum_below-same T (λ t. if (k == k) && test t then n k t else 0) (λ t. if test t then n k t else 0) (λ t inside. itself t)
  where
    itself : (t : ℕ) → (if (k == k) && test t then n k t else 0) ≡ (if test t then n k t else 0)
    itself t = rw (eq-eqb k k refl)

-- of the tunnels only one counts
pub one_tunnel : (T u : ℕ) (f : ℕ → ℕ) → u < T → sum_below T (λ t. if t == u then f t else 0) ≡ f u
one_tunnel T u f lt =
    sum_below-one T u (λ t. if t == u then f t else 0) lt (λ t low other. other_one t other) ∙ own_one
  where
    other_one : (t : ℕ) → t ≢ u → (if t == u then f t else 0) ≡ 0
    other_one t h = rw (ne_eqb t u h)

    own_one : (if u == u then f u else 0) ≡ f u
    own_one = rw (eq-eqb u u refl)

-- of the flows only one counts
pub one_flow : (p : Problem) (g : ℕ → ℕ) (f : ℕ) → IsNetwork p → f < length p.flows →
    sum_below (length p.tunnels) (λ t. if belongs p t f then g t else 0) ≡ flow_total p g f
one_flow p g f net lt =
    sym (sum_below-tunnels p (λ t. if belongs p t f then g t else 0) net)
    ∙ sum_below-one (length p.flows) f (λ e. sum_below (tunnels_of p e) (λ j. if belongs p (tunnel_of p e j) f then g (tunnel_of p e j) else 0)) lt
    (λ e low other. sum_below-zero (tunnels_of p e) (λ j. if belongs p (tunnel_of p e j) f then g (tunnel_of p e j) else 0) (λ j few. of_other e j low few other))
    ∙ sum_below-same (tunnels_of p f) (λ j. if belongs p (tunnel_of p f j) f then g (tunnel_of p f j) else 0) (λ j. g (tunnel_of p f j)) (λ j few. of_own j few)
  where
    of_other : (e j : ℕ) → e < length p.flows → j < tunnels_of p e → e ≢ f → (if belongs p (tunnel_of p e j) f then g (tunnel_of p e j) else 0) ≡ 0
    of_other e j low few other = rw (flow-tunnel_of p e j net low few) (rw (ne_eqb e f other))

    of_own : (j : ℕ) → j < tunnels_of p f → (if belongs p (tunnel_of p f j) f then g (tunnel_of p f j) else 0) ≡ g (tunnel_of p f j)
    of_own j few = rw (flow-tunnel_of p f j net lt few) (rw (eq-eqb f f refl))

-- ---- over a list of numbers

abbrev pub sum_over : List ℕ → (ℕ → ℕ) → ℕ
sum_over [] f = 0
sum_over (t ∷ ts) f = f t + sum_over ts f

pub sum_over-append : (ts us : List ℕ) (f : ℕ → ℕ) → sum_over (ts ++ us) f ≡ sum_over ts f + sum_over us f
sum_over-append [] us f = omega arith
sum_over-append (t ∷ ts) us f = omega (arith, sum_over-append ts us f)

-- over the used tunnels, where others have 0
pub sum_over-used : (p : Problem) (n : ℕ) (f : ℕ → ℕ) → ((t : ℕ) → used_at p t ≡ false → f t ≡ 0) → sum_over (used_to p n) f ≡ sum_below n f
sum_over-used p zero f h = refl
sum_over-used p (suc n) f h =
    sum_over-append (used_to p n) (if used_at p n then n ∷ [] else []) f
    ∙ by_test (used_at p n) refl (sum_over-used p n f h)
  where
    by_test : (b : Bool) → used_at p n ≡ b → sum_over (used_to p n) f ≡ sum_below n f →
        sum_over (used_to p n) f + sum_over (if b then n ∷ [] else []) f ≡ sum_below n f + f n
    by_test true e so_far = omega arith
    by_test false e so_far = omega (arith, h n e)
