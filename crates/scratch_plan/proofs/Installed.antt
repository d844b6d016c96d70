-- Who is installed in each part of a frame: what carries traffic is, and a stage that is left out has the marks of the one before.
use Rattle.std.proofs.Common.{◌≡◌, ℕ, zero, suc, ◌*◌, ◌<◌, ◌≤◌, Bool, true, false, not, ◌&&◌, ◌||◌, List, [], ◌∷◌, map, length, get_or, Option, Some, None, is_some, unwrap_or, nat_lt, ◌==◌, if◌then◌else◌, refl, sym, ap, ap₂, arith, lt-ltb}
use Rattle.std.proofs.lemmas.Bool.{and_from, and_parts, or_left, or_right, or_parts}
use Rattle.std.proofs.lemmas.List.{get_or-map}
use Rattle.std.specs.List.{list_any}
use Rattle.rollout_rules.specs.Wan.{Problem, Tunnel, no_tunnel, tunnel_at, old_rate, new_rate, hops, switch_of, width_of}
use Rattle.rollout_rules.specs.Items.{entries_at}
use Rattle.rollout_rules.specs.Sums.{sum_below}
use Rattle.rollout_rules.proofs.Below.{sum_below-mono}
use Rattle.scratch_plan.specs.Marks.{was_there, is_wanted, is_used, is_kept, is_idle, is_fresh, is_left}
use Rattle.scratch_plan.specs.Frame.{stage_of, old_row, new_row}
use Rattle.scratch_plan.proofs.Stages.{mark}

-- what a mark and a rate of a stage are
pub mark-stage_of : (p : Problem) (row : List ℕ) (m : Tunnel → Bool) (t : ℕ) → t < length p.tunnels → mark (stage_of p row m) t ≡ m (tunnel_at p t)
mark-stage_of p row m t inside = get_or-map m p.tunnels t no_tunnel false inside

pub rate-row : (p : Problem) (f : Tunnel → ℕ) (t : ℕ) → t < length p.tunnels → get_or (map f p.tunnels) t 0 ≡ f (tunnel_at p t)
rate-row p f t inside = get_or-map f p.tunnels t no_tunnel 0 inside

-- ---- who is in which group
pub kept-used : (t : Tunnel) → is_kept t ≡ true → is_used t ≡ true
kept-used t kept = (and_parts (was_there t) (is_used t) kept).1

pub kept-there : (t : Tunnel) → is_kept t ≡ true → was_there t ≡ true
kept-there t kept = (and_parts (was_there t) (is_used t) kept).0

pub wanted-used : (t : Tunnel) → is_wanted t ≡ true → is_used t ≡ true
wanted-used t wanted = or_left (is_wanted t) (nat_lt 0 (old_rate t)) wanted

positive : (a b : ℕ) → 0 < a * b → 0 < b
positive a zero lt = absurd (omega (arith, lt))
positive a (suc b) lt = omega arith

some : (o : Option ℕ) → 0 < unwrap_or o 0 → is_some o ≡ true
some None lt = absurd (omega (arith, lt))
some (Some n) lt = refl

pub carrying-kept : (t : Tunnel) → 0 < old_rate t → is_kept t ≡ true
carrying-kept t lt = and_from (was_there t) (is_used t) (some t.old lt) (or_right (is_wanted t) (nat_lt 0 (old_rate t)) (lt-ltb 0 (old_rate t) lt))

pub ending-wanted : (t : Tunnel) → 0 < new_rate t → is_wanted t ≡ true
ending-wanted t lt = some t.new lt

-- a positive rate of the old row, and of the new one
module _ (p : Problem) (scale t : ℕ) (inside : t < length p.tunnels) where
  pub old-kept : 0 < get_or (old_row p scale) t 0 → is_kept (tunnel_at p t) ≡ true
  old-kept lt = carrying-kept (tunnel_at p t) (positive scale (old_rate (tunnel_at p t)) (rw (rate-row p (λ u. scale * old_rate u) t inside) at lt))

  pub new-wanted : 0 < get_or (new_row p scale) t 0 → is_wanted (tunnel_at p t) ≡ true
  new-wanted lt = ending-wanted (tunnel_at p t) (positive scale (new_rate (tunnel_at p t)) (rw (rate-row p (λ u. scale * new_rate u) t inside) at lt))

-- ---- a stage left out
same_marks : (test m n : Tunnel → Bool) (ts : List Tunnel) → ((t : Tunnel) → test t ≡ false → m t ≡ n t) → list_any test ts ≡ false → map m ts ≡ map n ts
same_marks test m n [] same none = refl
same_marks test m n (t ∷ ts) same none =
    let both = or_parts (test t) (list_any test ts) none in
    ap₂ ◌∷◌ (same t both.0) (same_marks test m n ts same both.1)

pub same_stage : (p : Problem) (row : List ℕ) (test m n : Tunnel → Bool) → ((t : Tunnel) → test t ≡ false → m t ≡ n t) → list_any test p.tunnels ≡ false → stage_of p row m ≡ stage_of p row n
same_stage p row test m n same none = ap (λ marks. record { rates = row; installed = marks }) (same_marks test m n p.tunnels same none)

not_idle : (a b : Bool) → (a && not b) ≡ false → a ≡ (a && b)
not_idle true true e = refl
not_idle true false e = e
not_idle false b e = refl

pub without_idle : (t : Tunnel) → is_idle t ≡ false → was_there t ≡ is_kept t
without_idle t none = not_idle (was_there t) (is_used t) none

not_fresh : (o : Option ℕ) (w : Bool) → (w && not (is_some o)) ≡ false → (is_some o && (w || nat_lt 0 (unwrap_or o 0))) ≡ (w || nat_lt 0 (unwrap_or o 0))
not_fresh (Some n) w e = refl
not_fresh None true e = sym e
not_fresh None false e = refl

pub without_fresh : (t : Tunnel) → is_fresh t ≡ false → is_kept t ≡ is_used t
without_fresh t none = not_fresh t.old (is_wanted t) none

not_left : (w x : Bool) → ((w || x) && not w) ≡ false → (w || x) ≡ w
not_left true x e = refl
not_left false true e = e
not_left false false e = refl

pub without_left : (t : Tunnel) → is_left t ≡ false → is_used t ≡ is_wanted t
without_left t none = not_left (is_wanted t) (nat_lt 0 (old_rate t)) none

-- ---- tables: what takes part in more takes no less
taken : (a b c : Bool) (n : ℕ) → (b ≡ true → c ≡ true) → (if a && b then n else 0) ≤ (if a && c then n else 0)
taken true true c n more = rw (more refl) (omega arith)
taken true false c n more = omega arith
taken false b c n more = omega arith

pub entries-mono : (p : Problem) (m u : ℕ → ℕ → Bool) (w : ℕ) → ((t h : ℕ) → t < length p.tunnels → m t h ≡ true → u t h ≡ true) → entries_at p m w ≤ entries_at p u w
entries-mono p m u w more =
    sum_below-mono (length p.tunnels) (λ t. sum_below (hops p t) (λ h. if (switch_of p t h == w) && m t h then width_of p t else 0)) (λ t. sum_below (hops p t) (λ h. if (switch_of p t h == w) && u t h then width_of p t else 0))
    (λ t inside. sum_below-mono (hops p t) (λ h. if (switch_of p t h == w) && m t h then width_of p t else 0) (λ h. if (switch_of p t h == w) && u t h then width_of p t else 0)
    (λ h low. taken (switch_of p t h == w) (m t h) (u t h) (width_of p t) (more t h inside)))
