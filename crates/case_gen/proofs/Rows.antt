-- Draws after draws, and lists of what a function gives for each number below a bound.
use Rattle.std.proofs.Common.{◌≡◌, ℕ, zero, suc, ◌+◌, ◌%◌, refl, ap, arith}
use Rattle.rand_pcg.specs.Lcg.{Lcg, next_state, state_after}
use Rattle.rand_pcg.specs.Pcg.{multiplier_64, output_xsh_rr}
use Rattle.case_gen.specs.Draws.{after_draws, drawn}

further : (increment count more state : ℕ) → state_after 64 multiplier_64 increment more (state_after 64 multiplier_64 increment count state) ≡ state_after 64 multiplier_64 increment (count + more) state
unfolding state_after
further increment zero more state = let e : 0 + more ≡ more = omega arith in rw e refl
further increment (suc count) more state =
    let e : suc count + more ≡ suc (count + more) = omega arith in
    rw e (further increment count more (next_state 64 multiplier_64 increment state))

generator : ℕ → ℕ → Lcg
generator state increment = record { state = state; increment = increment }

pub behind : (draws : Lcg) (count more : ℕ) → after_draws (after_draws draws count) more ≡ after_draws draws (count + more)
unfolding after_draws generator
behind draws count more = ap (λ (state : ℕ). generator state draws.increment) (further draws.increment count more draws.state)

pub in_a_row : (draws : Lcg) (count place below : ℕ) → drawn (after_draws draws count) place below ≡ drawn draws (count + place) below
unfolding drawn
in_a_row draws count place below = ap (λ (g : Lcg). output_xsh_rr g.state % below) (behind draws count place)

-- before the first draw nothing is drawn
pub not_yet : (draws : Lcg) → after_draws draws 0 ≡ draws
unfolding after_draws state_after
not_yet draws = refl
