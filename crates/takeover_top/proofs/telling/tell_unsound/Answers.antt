use Rattle.std.proofs.Common.{List, ℕ, inl, inr, refl, ap, subst, ◌∙◌}
use Rattle.swanroll_top.specs.Live.{NotesText}
use Rattle.takeover_top.specs.Lines.{start_line}
use Rattle.takeover_top.proofs.telling.tell_unsound.Goals as goal

pub returns-in-Ok : goal.returns-in-Ok
returns-in-Ok g c = inl (refl, subst (λ (line : List ℕ). NotesText line (g.K.Sink.told c.args.notes.now) (g.K.Sink.told c.write_line.new.notes)) (c.as_str.ensures ∙ c.in-Ok.ensures ∙ ap (λ p. start_line p c.args.fault) c.problem.ensures) c.write_line.ensures)

pub returns-in-Err : goal.returns-in-Err
returns-in-Err g c = inr c.note.ensures.told
