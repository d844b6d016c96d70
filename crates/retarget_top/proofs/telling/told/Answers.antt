use Rattle.std.proofs.Common.{◌≡◌, List, ℕ, inl, inr, refl, subst, ◌∙◌}
use Rattle.lists.proofs.Results.{of_ok}
use Rattle.retarget_top.specs.Lines.{NotesText}
use Rattle.retarget_top.proofs.telling.told.Goals as goal

pub returns-in-Ok : goal.returns-in-Ok
returns-in-Ok g c = λ text is.
    inl
    (refl, subst (λ (line : List ℕ). NotesText line (g.K.Sink.told c.args.notes.now) (g.K.Sink.told c.write_line.new.notes)) (c.as_str.ensures ∙ of_ok c.args.line c.in-Ok.line (λ made. made ≡ text) c.in-Ok.is is) c.write_line.ensures)

pub returns-in-Err : goal.returns-in-Err
returns-in-Err g c = λ text is. inr c.note.ensures.told
