use Rattle.std.proofs.Common.{◌∙◌, sym}
use Rattle.wire_frames.proofs.Cuts.{cut_kept_answer}
use Rattle.wire_frames.proofs.answer_reader.AnswerReader.feed.Goals as goal

pub returns-clause-cut : goal.returns-clause-cut
returns-clause-cut c live = cut_kept_answer c.self.inside.front c.args.piece.now c.read_answer-given.result _ c.read_answer-given.ensures.read (sym c.is_ok-self-inside.ensures.value ∙ live)
