use Rattle.std.proofs.Common.{sym, subst}
use Rattle.wan_edge.specs.Frames.{IsCutAnswer}
use Rattle.wire_frames.proofs.Cuts.{cut_no_answer}
use Rattle.wire_frames.proofs.answer_reader.AnswerReader.new.Goals as goal

pub returns-clause-cut : goal.returns-clause-cut
returns-clause-cut c = subst IsCutAnswer (sym c.new.ensures) cut_no_answer
