-- How many unknowns and rows a program has.
use Rattle.std.proofs.Common.{◌≡◌, ℕ, zero, suc, ◌+◌, ◌-◌, ◌*◌, ◌^◌, ◌<◌, ◌≤◌, Bool, true, false, [], ◌∷◌, ◌++◌, length, if◌then◌else◌, ap, ◌∙◌, sym, refl, arith}
use Rattle.std.proofs.Math.Nat.{mul-le-mul}
use Rattle.std.proofs.lemmas.List.{length-append, length-map}
use Rattle.rollout_rules.specs.Sums.{sum_below, count_below, list_below}
use Rattle.rollout_rules.specs.Wan.{Problem}
use Rattle.rollout_rules.proofs.Below.{sum_below-same}
use Rattle.rollout_rules.proofs.Rows.{list_below-length}
use Rattle.step_lp.specs.declared.limit.Limit.{Limit}
use Rattle.step_lp.specs.declared.limit.Limit.TheVariants.{Link}
use Rattle.step_lp.specs.Program.{joined_below, used_at, used_to, used_tunnels, used_count, rate_blocks, blocks, unknowns, row_of, tops_of, tops_at, top_limits, link_limits, totals_of, total_limits, limits, move_program, coefficients_in, coefficient}
use Rattle.step_lp.proofs.Lists.{length-joined_below, sum_below-times}

length-if_used : (b : Bool) (t : ℕ) → length (if b then t ∷ [] else []) ≡ (if b then 1 else 0)
length-if_used true t = refl
length-if_used false t = refl

pub length-used_to : (p : Problem) (n : ℕ) → length (used_to p n) ≡ count_below n (used_at p)
length-used_to p n =
    length-joined_below n (λ t. if used_at p t then t ∷ [] else [])
    ∙ sum_below-same n (λ t. length (if used_at p t then t ∷ [] else [])) (λ t. if used_at p t then 1 else 0) (λ t lt. length-if_used (used_at p t) t)

pub length-used_tunnels : (p : Problem) → length (used_tunnels p) ≡ used_count p
length-used_tunnels p = length-used_to p (length p.tunnels)

length-tops_at : (p : Problem) (s t : ℕ) (b : Bool) → length (if b then tops_of s t else []) ≡ 2 * (if b then 1 else 0)
length-tops_at p s t true = refl
length-tops_at p s t false = refl

twice : (n : ℕ) (f : ℕ → ℕ) → sum_below n (λ k. 2 * f k) ≡ 2 * sum_below n f
twice zero f = refl
twice (suc n) f = omega (arith, twice n f)

length-top_limits : (p : Problem) (q : ℕ) → length (top_limits p q) ≡ q * (2 * used_count p)
length-top_limits p q =
    length-joined_below q (λ s. joined_below (length p.tunnels) (tops_at p s))
    ∙ sum_below-times q (2 * used_count p) (λ s. length (joined_below (length p.tunnels) (tops_at p s))) (λ s lt.
    length-joined_below (length p.tunnels) (tops_at p s)
    ∙ sum_below-same (length p.tunnels) (λ t. length (tops_at p s t)) (λ t. 2 * (if used_at p t then 1 else 0)) (λ t lt. length-tops_at p s t (used_at p t))
    ∙ twice (length p.tunnels) (λ t. if used_at p t then 1 else 0))

length-link_limits : (p : Problem) (q : ℕ) → length (link_limits p q) ≡ q * length p.links
length-link_limits p q =
    length-joined_below q (λ s. list_below (length p.links) (Link s))
    ∙ sum_below-times q (length p.links) (λ s. length (list_below (length p.links) (Link s))) (λ s lt. list_below-length (length p.links) (Link s))

length-total_limits : (p : Problem) (q : ℕ) → length (total_limits p q) ≡ rate_blocks q * (length p.flows * 2)
length-total_limits p q =
    length-joined_below (rate_blocks q) (λ b. joined_below (length p.flows) (totals_of (b + 1)))
    ∙ sum_below-times (rate_blocks q) (length p.flows * 2) (λ b. length (joined_below (length p.flows) (totals_of (b + 1)))) (λ b lt.
    length-joined_below (length p.flows) (totals_of (b + 1))
    ∙ sum_below-times (length p.flows) 2 (λ f. length (totals_of (b + 1) f)) (λ f lt. refl))

-- the rows of a program by its numbers of used tunnels, links and flows
abbrev pub rows_by : ℕ → ℕ → ℕ → ℕ → ℕ
rows_by used links flows q = 2 * used * q + q * links + 2 * flows * (q - 1)

pub length-limits : (p : Problem) (q : ℕ) → length (limits p q) ≡ rows_by (used_count p) (length p.links) (length p.flows) q
length-limits p q =
    length-append (top_limits p q) (link_limits p q ++ total_limits p q)
    ∙ ap (λ n. length (top_limits p q) + n) (length-append (link_limits p q) (total_limits p q))
    ∙ added (used_count p) (length p.links) (length p.flows) q (q - 1) (length (top_limits p q)) (length (link_limits p q)) (length (total_limits p q))
    (length-top_limits p q) (length-link_limits p q) (length-total_limits p q)
  where
    added : (u l f q r a b c : ℕ) → a ≡ q * (2 * u) → b ≡ q * l → c ≡ r * (f * 2) → a + (b + c) ≡ 2 * u * q + q * l + 2 * f * r
    added u l f q r a b c x y z = omega arith

pub length-coefficients : (p : Problem) (q : ℕ) (limit : Limit) → length (joined_below (blocks q) (coefficients_in p q limit)) ≡ unknowns p q
length-coefficients p q limit =
    length-joined_below (blocks q) (coefficients_in p q limit)
    ∙ sum_below-times (blocks q) (used_count p) (λ b. length (coefficients_in p q limit b)) (λ b lt.
    length-map (used_tunnels p) (coefficient p q limit b) ∙ length-used_tunnels p)

-- a program of at most 8 steps is small enough to be counted
pub unknowns_by : (p : Problem) (q u : ℕ) → 2 ≤ q → u ≡ used_count p → (2 * q - 1) * u ≡ unknowns p q
unknowns_by p q u some a =
    let twice : 2 * q - 1 ≡ blocks q = omega arith in
    ap (λ k. k * u) twice ∙ ap (λ k. blocks q * k) a

pub few_unknowns : (u q : ℕ) → u ≤ 4096 → q ≤ 8 → (2 * q - 1) * u ≤ 61440
few_unknowns u q a b =
    let less : 2 * q - 1 ≤ 15 = omega arith in
    let most : (2 * q - 1) * u ≤ 15 * 4096 = mul-le-mul less a in
    omega arith

pub rows_are : (p : Problem) (q u l f : ℕ) → u ≡ used_count p → l ≡ length p.links → f ≡ length p.flows →
    rows_by u l f q ≡ length (move_program p q).rows
rows_are p q u l f a b c =
    ap (λ k. rows_by k l f q) a ∙ ap (λ k. rows_by (used_count p) k f q) b ∙ ap (λ k. rows_by (used_count p) (length p.links) k q) c
    ∙ sym (length-map (limits p q) (row_of p q) ∙ length-limits p q)

pub few_rows : (u l f q : ℕ) → u ≤ 4096 → l ≤ 2048 → f ≤ 1024 → q ≤ 8 → rows_by u l f q ≤ 96256
few_rows u l f q a b c d =
    let tops : u * q ≤ 4096 * 8 = mul-le-mul a d in
    let links : q * l ≤ 8 * 2048 = mul-le-mul d b in
    let less : q - 1 ≤ 7 = omega arith in
    let totals : f * (q - 1) ≤ 1024 * 7 = mul-le-mul c less in
    rows u q (q * l) f (q - 1) tops links totals
  where
    rows : (u q l f r : ℕ) → u * q ≤ 4096 * 8 → l ≤ 8 * 2048 → f * r ≤ 1024 * 7 → 2 * u * q + l + 2 * f * r ≤ 96256
    rows u q l f r a b c = omega arith

pub cells_fit : (r n : ℕ) → r ≤ 96256 → n ≤ 61440 → r * (n + 1) < 2 ^ 64
cells_fit r n a b =
    let more : n + 1 ≤ 61441 = omega arith in
    let most : r * (n + 1) ≤ 96256 * 61441 = mul-le-mul a more in
    omega arith
