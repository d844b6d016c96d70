use Rattle.std.proofs.Common.{refl}
use Rattle.rand_core.specs.Pcg32Seed.{pcg32_seed}
use Rattle.rand_core.specs.Steps.{u32_at, word_bytes}
use Rattle.rand_pcg.specs.Lcg.{state_after}
use Rattle.case_gen.specs.Draws.{after_draws, drawn, seeded}
use Rattle.case_gen.proofs.worked.the_first_words_of_seed_7.Goals as goal

pub returns-clause-first : goal.returns-clause-first
unfolding drawn after_draws state_after seeded pcg32_seed word_bytes u32_at
returns-clause-first c = refl

pub returns-clause-second : goal.returns-clause-second
unfolding drawn after_draws state_after seeded pcg32_seed word_bytes u32_at
returns-clause-second c = refl

pub returns-clause-third : goal.returns-clause-third
unfolding drawn after_draws state_after seeded pcg32_seed word_bytes u32_at
returns-clause-third c = refl
