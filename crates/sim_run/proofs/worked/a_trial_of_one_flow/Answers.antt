use Rattle.std.specs.Fmt.{digits}
use Rattle.json.specs.Print.{escape_byte}
use Rattle.std.proofs.Common.{refl}
use Rattle.rand_core.specs.Pcg32Seed.{pcg32_seed}
use Rattle.rand_core.specs.Steps.{u32_at, word_bytes}
use Rattle.rand_pcg.specs.Lcg.{state_after}
use Rattle.case_gen.specs.Draws.{after_draws, drawn, seeded}
use Rattle.case_gen.specs.Named.{five_switches}
use Rattle.sim_run.specs.TrialText.{trial_text}
use Rattle.sim_run.proofs.worked.a_trial_of_one_flow.Goals as goal

pub returns : goal.returns
unfolding trial_text five_switches drawn after_draws state_after seeded pcg32_seed word_bytes u32_at digits escape_byte
returns c = refl
