-- When a release begins nothing.
use Rattle.std.proofs.Common.{◌≡◌, ℕ, List, [], ◌∷◌, length, refl, sym, ap, ◌∙◌, arith}
use Rattle.rollout_laws.proofs.Released.{none-held, held-none}
use Rattle.rollout_rules.specs.declared.op.Op.{Op}
use Rattle.rollout_rules.specs.declared.op.OpView.{OpView}
use Rattle.rollout_rules.specs.declared.op.Entry.{Entry}
use Rattle.dependency_graph.specs.Graph.{Followed}
use Rattle.update_scheduler.specs.Benches.{ops_of}
use Rattle.update_scheduler.specs.Tried.{released_by, IsAllHeld}

no-entries : (es : List Entry) → ops_of es ≡ [] → es ≡ []
no-entries [] none = refl
no-entries (e ∷ es) none = absurd (omega (arith, ap length none))

pub nothing-held : (g : Followed) (policy : OpView → ℕ) (ops : List Op) → ops ≡ ops_of (released_by g policy) → ops ≡ [] → IsAllHeld g policy
nothing-held g policy ops is none = none-held g.rollout.problem g.rollout.plan policy g.history (no-entries (released_by g policy) (sym is ∙ none))

pub held-nothing : (g : Followed) (policy : OpView → ℕ) (ops : List Op) → ops ≡ ops_of (released_by g policy) → IsAllHeld g policy → ops ≡ []
held-nothing g policy ops is held = is ∙ ap ops_of (held-none g.rollout.problem g.rollout.plan policy g.history held)
