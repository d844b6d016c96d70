-- What a box of a closure answers is what the closure answers.
use Rattle.std.proofs.Common.{◌≡◌, ℕ, sym, subst}
use mir.Syntax.{Dict}
use denote.Param.Members.{Mut}
use denote.Param.Table.{Table, Entry}
use denote.Param.Object.{Made, read_made}
use Rattle.rollout_rules.specs.declared.op.OpView.{OpView}
use Rattle.order_policy.specs.Answers.{AreAnswers}

module _ (T : Table (λ X. Mut X (OpView × Unit {0}) ℕ) Dict) (e : Entry (λ X. Mut X (OpView × Unit {0}) ℕ) Dict) (at : T.I) (same : e ≡ T.entry at) where
  -- The box's maker gives the table of what it boxes, the closure's entry there, and that the box is made of the closure.
  pub boxed : {i : T.I} {y : (T.entry i).0.Denot} {x : e.0.Denot} {most : ℕ} → Made (λ j. (T.entry j).0.coded.code) e.0.coded.code at i y x
      → AreAnswers most (λ view rank. e.1.post x (view, tt) rank) → AreAnswers most (λ view rank. (T.entry i).1.post y (view, tt) rank)
  boxed {i} {y} {x} {most} made = subst (λ (A : Type 0). A) (sym (read_made T e at same (Type 0) (λ j z. AreAnswers most (λ view rank. j.1.post z (view, tt) rank)) i y x made))
