use Rattle.std.proofs.Common.{refl}
use Rattle.rand_core.specs.Pcg32Seed.{pcg32_seed}
use Rattle.rand_core.specs.Steps.{u32_at, word_bytes}
use Rattle.rand_pcg.specs.Lcg.{state_after}
use Rattle.case_gen.specs.Cases.{case}
use Rattle.case_gen.specs.Rings.{flows_below, links_below, switches_below, tunnels_below}
use Rattle.case_gen.specs.Draws.{after_draws, drawn, seeded}
use Rattle.case_gen.specs.Named.{five_switches}
use Rattle.case_gen.proofs.worked.five_switches_and_one_flow.Goals as goal

pub returns : goal.returns
unfolding case flows_below links_below switches_below tunnels_below five_switches drawn after_draws state_after seeded pcg32_seed word_bytes u32_at
returns c = refl
