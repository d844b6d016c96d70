use Rattle.std.proofs.Common.{IfSome, sym, ap, subst, ◌∙◌}
use Rattle.text_writer.proofs.Pushing.{said_so}
use Rattle.text_commands.specs.Drawn.{IsReadBack}
use Rattle.text_commands.specs.Ready.{IsReady, drawn_ready, ready_text}
use Rattle.text_commands.proofs.writing.push_ready.Goals as goal

pub push_rollout-requires : goal.push_rollout-requires
push_rollout-requires g c = subst (λ r. IsReady r) c.in-Document.is c.requires

pub push_loads-requires : goal.push_loads-requires
push_loads-requires g c = subst (λ r. IsReady r) c.in-Loads.is c.requires

pub push_explanation-requires : goal.push_explanation-requires
push_explanation-requires g c = subst (λ r. IsReady r) c.in-Explained.is c.requires

pub push_drawn-requires : goal.push_drawn-requires
push_drawn-requires g c = subst (λ r. IsReady r) c.in-Rehearsed.is c.requires

pub push_shown-requires-clause-names : goal.push_shown-requires-clause-names
push_shown-requires-clause-names g c = (subst (λ r. IsReady r) c.in-Shown.is c.requires).0

pub push_shown-requires-clause-said : goal.push_shown-requires-clause-said
push_shown-requires-clause-said g c = c.as_str-in-Shown.ensures ∙ (subst (λ r. IsReady r) c.in-Shown.is c.requires).1

pub returns-in-Made-clause-text : goal.returns-in-Made-clause-text
returns-in-Made-clause-text g c = said_so g.P.Pieces.pushes (c.as_str.ensures ∙ sym (ap (λ r. ready_text r) c.in-Made.is)) c.push_str.ensures

pub returns-in-Document-clause-text : goal.returns-in-Document-clause-text
returns-in-Document-clause-text g c = said_so g.P.Pieces.pushes (sym (ap (λ r. ready_text r) c.in-Document.is)) c.push_rollout.ensures

pub returns-in-Loads-clause-text : goal.returns-in-Loads-clause-text
returns-in-Loads-clause-text g c = said_so g.P.Pieces.pushes (sym (ap (λ r. ready_text r) c.in-Loads.is)) c.push_loads.ensures

pub returns-in-Explained-clause-text : goal.returns-in-Explained-clause-text
returns-in-Explained-clause-text g c = said_so g.P.Pieces.pushes (sym (ap (λ r. ready_text r) c.in-Explained.is)) c.push_explanation.ensures

pub returns-in-Shown-clause-text : goal.returns-in-Shown-clause-text
returns-in-Shown-clause-text g c = said_so g.P.Pieces.pushes (sym (ap (λ r. ready_text r) c.in-Shown.is)) c.push_shown.ensures

pub returns-in-Rehearsed-clause-text : goal.returns-in-Rehearsed-clause-text
returns-in-Rehearsed-clause-text g c = said_so g.P.Pieces.pushes (sym (ap (λ r. ready_text r) c.in-Rehearsed.is)) c.push_drawn.ensures.text

-- a script that was drawn is read back, and of anything else nothing is said
pub returns-in-Made-clause-read : goal.returns-in-Made-clause-read
returns-in-Made-clause-read g c = subst (λ r. IfSome (drawn_ready r) IsReadBack) (sym c.in-Made.is) tt

pub returns-in-Document-clause-read : goal.returns-in-Document-clause-read
returns-in-Document-clause-read g c = subst (λ r. IfSome (drawn_ready r) IsReadBack) (sym c.in-Document.is) tt

pub returns-in-Loads-clause-read : goal.returns-in-Loads-clause-read
returns-in-Loads-clause-read g c = subst (λ r. IfSome (drawn_ready r) IsReadBack) (sym c.in-Loads.is) tt

pub returns-in-Explained-clause-read : goal.returns-in-Explained-clause-read
returns-in-Explained-clause-read g c = subst (λ r. IfSome (drawn_ready r) IsReadBack) (sym c.in-Explained.is) tt

pub returns-in-Shown-clause-read : goal.returns-in-Shown-clause-read
returns-in-Shown-clause-read g c = subst (λ r. IfSome (drawn_ready r) IsReadBack) (sym c.in-Shown.is) tt

pub returns-in-Rehearsed-clause-read : goal.returns-in-Rehearsed-clause-read
returns-in-Rehearsed-clause-read g c = subst (λ r. IfSome (drawn_ready r) IsReadBack) (sym c.in-Rehearsed.is) c.push_drawn.ensures.read
