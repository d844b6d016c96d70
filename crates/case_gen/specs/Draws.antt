-- What is drawn: words of one generator, each modulo a bound (O'Neill's PCG with 32-bit words).
use Rattle.std.specs.Prelude.{ℕ, ◌%◌}
use Rattle.rand_core.specs.Pcg32Seed.{pcg32_seed}
use Rattle.rand_pcg.specs.Lcg.{Lcg, advance}
use Rattle.rand_pcg.specs.Pcg.{multiplier_64, output_xsh_rr, pcg32_of_seed}

-- before the first draw of a seed
unfoldable pub seeded : ℕ → Lcg
seeded seed = pcg32_of_seed (pcg32_seed 16 seed)

-- after so many draws
unfoldable pub after_draws : Lcg → ℕ → Lcg
after_draws draws count = advance 64 multiplier_64 count draws

-- the draw at a place, from 0, below a bound
unfoldable pub drawn : Lcg → ℕ → ℕ → ℕ
drawn draws place below = output_xsh_rr (after_draws draws place).state % below
