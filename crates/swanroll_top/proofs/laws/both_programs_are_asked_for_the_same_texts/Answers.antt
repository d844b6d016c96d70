use Rattle.swanroll_top.proofs.SameWords.{asked-alone, asked-whole}
use Rattle.swanroll_top.proofs.laws.both_programs_are_asked_for_the_same_texts.Goals as goal

pub returns : goal.returns
returns c = λ policies words what. (asked-alone policies words what, asked-whole policies words what)
