-- The tunnels of a small network in format 2 may be added.
use Rattle.std.proofs.Common.{◌≡◌, ℕ, zero, suc, ◌+◌, ◌<◌, List, [], ◌∷◌, length, slice_index, Some, None, IsSome, refl, sym, ap, subst, ◌∙◌, arith}
use Rattle.rollout_rules.specs.Wan.{Problem}
use Rattle.rollout_rules.specs.Building.{no_wide_problem, with_switch, with_link, with_flow, with_tunnel, find_link, IsRoute, MayAddTunnel}

abbrev along : List ℕ
along = 0 ∷ 1 ∷ []

-- two switches, the link from one to the other, and a flow
abbrev small : List ℕ → List ℕ → List ℕ → Problem
small a b web = with_flow (with_link (with_switch (with_switch no_wide_problem a 40) b 20) 0 1 1000) web

module _ (p : Problem) (link : IsSome (find_link p 0 1)) (two : 2 ≡ length p.switches) where
  switches : (h : ℕ) → h < 2 → slice_index along h < length p.switches
  switches zero lt = omega arith
  switches (suc zero) lt = omega arith
  switches (suc (suc h)) lt = absurd (omega arith)

  once : (g h : ℕ) → g < 2 → h < 2 → slice_index along g ≡ slice_index along h → g ≡ h
  once zero zero gl hl e = refl
  once zero (suc zero) gl hl e = absurd (omega arith)
  once zero (suc (suc h)) gl hl e = absurd (omega arith)
  once (suc zero) zero gl hl e = absurd (omega arith)
  once (suc zero) (suc zero) gl hl e = refl
  once (suc zero) (suc (suc h)) gl hl e = absurd (omega arith)
  once (suc (suc g)) h gl hl e = absurd (omega arith)

  joined : (h : ℕ) → h + 1 < 2 → IsSome (find_link p (slice_index along h) (slice_index along (h + 1)))
  joined zero lt = link
  joined (suc h) lt = absurd (omega arith)

  route : IsRoute p along
  route = record { most = omega arith; switches = switches; once = once; joined = joined }

first : (a b web : List ℕ) → MayAddTunnel (small a b web) along (Some 3) (Some 5) 2
first a b web = record {
  some_flow = omega arith;
  few = omega arith;
  room = omega arith;
  route = route (small a b web) refl refl;
  least = omega arith;
  ends = refl;
  old = omega arith;
  new = omega arith;
  width = record { some = omega arith; most = omega arith; plain = λ e. absurd (omega arith) };
}

second : (a b web : List ℕ) → MayAddTunnel (with_tunnel (small a b web) along (Some 3) (Some 5) 2) along None (Some 4) 16
second a b web = record {
  some_flow = omega arith;
  few = omega arith;
  room = omega arith;
  route = route (with_tunnel (small a b web) along (Some 3) (Some 5) 2) refl refl;
  least = omega arith;
  ends = refl;
  old = tt;
  new = omega arith;
  width = record { some = omega arith; most = omega arith; plain = λ e. absurd (omega arith) };
}

-- the same of problems that were built row by row
module _ (p q r s u : Problem) (a b web : List ℕ) (none : p ≡ no_wide_problem) (one : q ≡ with_switch p a 40) (two : r ≡ with_switch q b 20) (link : s ≡ with_link r 0 1 1000) (flow : u ≡ with_flow s web) where
  is_small : u ≡ small a b web
  is_small = flow ∙ ap (λ x. with_flow x web) (link ∙ ap (λ x. with_link x 0 1 1000) (two ∙ ap (λ x. with_switch x b 20) (one ∙ ap (λ x. with_switch x a 40) none)))

  pub first_may : MayAddTunnel u along (Some 3) (Some 5) 2
  first_may = subst (λ x. MayAddTunnel x along (Some 3) (Some 5) 2) (sym is_small) (first a b web)

  pub second_may : (v : Problem) → v ≡ with_tunnel u along (Some 3) (Some 5) 2 → MayAddTunnel v along None (Some 4) 16
  second_may v is = subst (λ x. MayAddTunnel x along None (Some 4) 16) (sym (is ∙ ap (λ x. with_tunnel x along (Some 3) (Some 5) 2) is_small)) (second a b web)
