-- What the check tells, and what answers are worth.
use Rattle.std.proofs.Common.{◌≡◌, ℕ, ◌-◌, ◌*◌, ◌<◌, ◌≤◌, ◌⊎◌, max, Bool, true, false, not, ◌&&◌, List, [], ◌∷◌, Some, None, length, get_or, slice_index, is_some, nat_lt, nat_le, inl, inr, refl, subst, arith, leb-true, le-leb, ltb-true, ltb-false, lt-ltb, eqb-true, eq-eqb}
use Rattle.std.specs.Prelude.{◌==◌}
use Rattle.std.proofs.lemmas.Bool.{and_parts, and_from, or_cases, or_left, or_right, not-true, not_from_false}
use Rattle.std.proofs.lemmas.List.Elements.{All-map}
use Rattle.rollout_rules.specs.Wan.{Problem, tunnel_at, link_at, old_rate, new_rate}
use Rattle.rollout_rules.specs.Network.{IsNetwork}
use Rattle.rollout_rules.specs.Items.{load}
use Rattle.rollout_rules.specs.Valid.{is_valid_plan}
use Rattle.plan_check.specs.First.{provided}
use Rattle.plan_check.proofs.Firsts.{first_below_none, first_below_some}
use Rattle.scratch_plan.specs.Frame.{old_row, new_row, frame, has_equal_rates}
use Rattle.scratch_plan.specs.Refusals.{refusal}
use Rattle.scratch_plan.specs.Steps.{IsRow, IsRateStep}
use Rattle.scratch_plan.proofs.Causes.{room}
use Rattle.scratch_plan.proofs.Frames.{load-mono, last-step, frame-valid}
use Rattle.scratch_plan.proofs.Installed.{rate-row}
use Rattle.scratch_plan.proofs.Slackness.{row-blended, old-blended, new-blended}
use Rattle.fraction_lp.specs.Ratio.{Ratio}
use Rattle.fraction_lp.specs.Dictionary.{Row, IsWhole}
use Rattle.fraction_lp.specs.Excluding.{excludes}
use Rattle.fraction_lp.proofs.Excluded.{excluded-certificate, excluded-formed, certificate-excludes}
use Rattle.step_lp.specs.Program.{unknowns, row_of, limits, move_program, cells}
use Rattle.step_lp.proofs.Sizes.{length-coefficients}
use Rattle.fraction_lp.specs.declared.proof.Proof.{Proof}
use Rattle.fraction_lp.specs.declared.proof.Proof.TheVariants.{Plain, Link, Rows}
use Rattle.lp_proof.specs.Shown.{greater_end, direct_load, NeedsTwo, HasMultipliers, ShowsLeast, IsFormed, is_plain, is_overloaded, needs_two, is_built, has_multipliers, shows_least}
use Rattle.lp_proof.specs.Least.{overload_at, first_overloaded}

-- ---- the check

pub program-whole : (p : Problem) (q : ℕ) → IsWhole (move_program p q)
program-whole p q =
    All-map (λ (row : Row). length row.coefficients ≡ unknowns p q) (row_of p q) (limits p q)
    (λ k d lt. length-coefficients p q (get_or (limits p q) k d))

-- the parts of "the program is built"
pub record IsBuilt (p : Problem) (q : ℕ) : Type 0 where
  pub least : 3 ≤ q
  pub most : q ≤ 9
  pub small : is_some (cells p (q - 1)) ≡ true

pub built-parts : (p : Problem) (q : ℕ) → is_built p q ≡ true → IsBuilt p q
built-parts p q e =
    let both = and_parts (nat_le 3 q && nat_le q 9) (is_some (cells p (q - 1))) e in
    let range = and_parts (nat_le 3 q) (nat_le q 9) both.0 in
    record { least = leb-true 3 q range.0; most = leb-true q 9 range.1; small = both.1 }

built-from : (p : Problem) (q : ℕ) → 3 ≤ q → q ≤ 9 → is_some (cells p (q - 1)) ≡ true → is_built p q ≡ true
built-from p q least most small =
    and_from (nat_le 3 q && nat_le q 9) (is_some (cells p (q - 1))) (and_from (nat_le 3 q) (nat_le q 9) (le-leb 3 q least) (le-leb q 9 most)) small

plain-sound : (p : Problem) (q : ℕ) → is_plain p q ≡ true → (q ≡ 0) ⊎ ((q ≡ 1) × (has_equal_rates p ≡ false))
plain-sound p q e = elim (or_cases (q == 0) ((q == 1) && not (has_equal_rates p)) e) as (λ c. (q ≡ 0) ⊎ ((q ≡ 1) × (has_equal_rates p ≡ false))) [
  | inl none ↦ inl (eqb-true q 0 none)
  | inr one ↦
      let both = and_parts (q == 1) (not (has_equal_rates p)) one in
      inr (eqb-true q 1 both.0, not-true (has_equal_rates p) both.1)
]

plain-complete : (p : Problem) (q : ℕ) → (q ≡ 0) ⊎ ((q ≡ 1) × (has_equal_rates p ≡ false)) → is_plain p q ≡ true
plain-complete p q (inl none) = or_left (q == 0) ((q == 1) && not (has_equal_rates p)) (eq-eqb q 0 none)
plain-complete p q (inr one) =
    or_right (q == 0) ((q == 1) && not (has_equal_rates p))
    (and_from (q == 1) (not (has_equal_rates p)) (eq-eqb q 1 one.0) (not_from_false (has_equal_rates p) one.1))

link-sound : (p : Problem) (q l : ℕ) → needs_two p q l ≡ true → NeedsTwo p q l
link-sound p q l e =
    let all = and_parts ((q == 2) && nat_lt l (length p.links)) (is_overloaded p l) e in
    let both = and_parts (q == 2) (nat_lt l (length p.links)) all.0 in
    record {
      two = eqb-true q 2 both.0;
      inside = ltb-true l (length p.links) both.1;
      above = ltb-true (link_at p l).capacity (direct_load p l) all.1;
    }

link-complete : (p : Problem) (q l : ℕ) → NeedsTwo p q l → needs_two p q l ≡ true
link-complete p q l needs =
    and_from ((q == 2) && nat_lt l (length p.links)) (is_overloaded p l)
    (and_from (q == 2) (nat_lt l (length p.links)) (eq-eqb q 2 needs.two) (lt-ltb l (length p.links) needs.inside))
    (lt-ltb (link_at p l).capacity (direct_load p l) needs.above)

rows-sound : (p : Problem) (q : ℕ) (ys : List Ratio) → has_multipliers p q ys ≡ true → HasMultipliers p q ys
rows-sound p q ys e =
    let both = and_parts (is_built p q) (excludes (move_program p (q - 1)) ys) e in
    let built : IsBuilt p q = built-parts p q both.0 in
    record {
      least = built.least;
      most = built.most;
      small = built.small;
      certificate = excluded-certificate (move_program p (q - 1)) ys (program-whole p (q - 1)) both.1;
    }

-- what the check accepts shows it
pub accepted-shows : (p : Problem) (q : ℕ) (proof : Proof) → shows_least p q proof ≡ true → ShowsLeast p q proof
accepted-shows p q Plain e = plain-sound p q e
accepted-shows p q (Link l) e = link-sound p q l e
accepted-shows p q (Rows ys) e = rows-sound p q ys e

pub accepted-formed : (p : Problem) (q : ℕ) (proof : Proof) → shows_least p q proof ≡ true → IsFormed p q proof
accepted-formed p q Plain e = tt
accepted-formed p q (Link l) e = tt
accepted-formed p q (Rows ys) e =
    excluded-formed (move_program p (q - 1)) ys (and_parts (is_built p q) (excludes (move_program p (q - 1)) ys) e).1

-- and what shows it is accepted where no number leaves its type
pub shows-accepted : (p : Problem) (q : ℕ) (proof : Proof) → ShowsLeast p q proof → IsFormed p q proof → shows_least p q proof ≡ true
shows-accepted p q Plain shows formed = plain-complete p q shows
shows-accepted p q (Link l) shows formed = link-complete p q l shows
shows-accepted p q (Rows ys) shows formed =
    and_from (is_built p q) (excludes (move_program p (q - 1)) ys) (built-from p q shows.least shows.most shows.small)
    (certificate-excludes (move_program p (q - 1)) ys shows.certificate formed)

-- ---- what is found of two steps

not-provided : {A : Type 0} (b : Bool) (a : A) → provided b a ≡ None → b ≡ false
not-provided true a e = cc
not-provided false a e = refl

is-provided : {A : Type 0} (b : Bool) (a x : A) → provided b a ≡ Some x → (b ≡ true) × (a ≡ x)
is-provided true a x e = (refl, cc)
is-provided false a x e = cc

-- a link that is found is too small
pub found-overloaded : (p : Problem) (l : ℕ) → first_overloaded p ≡ Some l → needs_two p 2 l ≡ true
found-overloaded p l e =
    let there = first_below_some (overload_at p) (length p.links) l e in
    let both = is-provided (is_overloaded p there.0) there.0 l there.2 in
    subst (λ (k : ℕ). needs_two p 2 k ≡ true) both.1
    (and_from ((2 == 2) && nat_lt there.0 (length p.links)) (is_overloaded p there.0)
    (and_from (2 == 2) (nat_lt there.0 (length p.links)) refl (lt-ltb there.0 (length p.links) there.1)) both.0)

module _ (p : Problem) (net : IsNetwork p) (free : refusal p ≡ None) (none : first_overloaded p ≡ None) where
  fits-at : (l : ℕ) → l < length p.links → direct_load p l ≤ (link_at p l).capacity
  fits-at l inside =
      ltb-false (link_at p l).capacity (direct_load p l)
      (not-provided (is_overloaded p l) l (first_below_none (overload_at p) (length p.links) l inside none))

  old-is : IsRow p 1 (old_row p 1)
  old-is = subst (IsRow p 1) (old-blended p 1) (row-blended p 1 net 0 (omega arith))

  new-is : IsRow p 1 (new_row p 1)
  new-is = subst (IsRow p 1) (new-blended p 1) (row-blended p 1 net 1 (omega arith))

  larger : (t : ℕ) → t < length p.tunnels → max (slice_index (old_row p 1) t) (slice_index (new_row p 1) t) ≤ greater_end p t
  larger t low =
      plain (slice_index (old_row p 1) t) (slice_index (new_row p 1) t) (old_rate (tunnel_at p t)) (new_rate (tunnel_at p t))
      (rate-row p (λ u. 1 * old_rate u) t low) (rate-row p (λ u. 1 * new_rate u) t low)
    where
      plain : (x y a b : ℕ) → x ≡ 1 * a → y ≡ 1 * b → max x y ≤ max a b
      plain x y a b e f = omega arith

  step-fits : (l : ℕ) → l < length p.links → load p (λ t. max (slice_index (old_row p 1) t) (slice_index (new_row p 1) t)) l ≤ (link_at p l).capacity * 1
  step-fits l inside =
      let less : load p (λ t. max (slice_index (old_row p 1) t) (slice_index (new_row p 1) t)) l ≤ direct_load p l =
      load-mono p (λ t. max (slice_index (old_row p 1) t) (slice_index (new_row p 1) t)) (greater_end p) l larger in
      within (load p (λ t. max (slice_index (old_row p 1) t) (slice_index (new_row p 1) t)) l) (direct_load p l) (link_at p l).capacity less (fits-at l inside)
    where
      within : (a b c : ℕ) → a ≤ b → b ≤ c → a ≤ c * 1
      within a b c e f = omega arith

  step : IsRateStep p 1 (old_row p 1) (new_row p 1)
  step = record { before = old-is; after = new-is; fits = step-fits }

  -- where no link is too small one step is valid
  pub direct-valid : is_valid_plan p (frame p 1 []) ≡ true
  direct-valid = frame-valid p 1 (new_row p 1 ∷ []) (room p free) (record {
    low = omega arith;
    high = omega arith;
    few = omega arith;
    last = refl;
    steps = (step, last-step p 1 (old_row p 1) (new_row p 1) step);
  }) net
