use Rattle.std.proofs.Common.{ap, ◌∙◌}
use Rattle.rand_pcg.specs.Lcg.{Lcg}
use Rattle.case_gen.specs.Draws.{after_draws}
use Rattle.case_gen.proofs.Rows.{behind}
use Rattle.case_gen.proofs.rates.Rates.draw.Goals as goal

pub returns-clause-two_words : goal.returns-clause-two_words
returns-clause-two_words c = c.draw_rate-new.ensures.one_word ∙ ap (λ (g : Lcg). after_draws g 1) c.draw_rate-old.ensures.one_word ∙ behind c.args.draws.now 1 1
