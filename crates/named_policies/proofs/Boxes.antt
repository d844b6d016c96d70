-- What a policy over a box of a closure ranks by is what the closure answers.
use Rattle.std.proofs.Common.{◌≡◌, ℕ, true, sym, subst}
use mir.Syntax.{Dict}
use denote.Param.Members.{Mut}
use denote.Param.Table.{Table, Entry}
use denote.Param.Object.{Made, read_made}
use Rattle.rollout_rules.specs.declared.op.OpView.{OpView}
use Rattle.order_policy.specs.Answers.{is_view}
use Rattle.named_policies.specs.Policies.{RanksBy}

module _ (T : Table (λ X. Mut X (OpView × Unit {0}) ℕ) Dict) (e : Entry (λ X. Mut X (OpView × Unit {0}) ℕ) Dict) (at : T.I) (same : e ≡ T.entry at) where
  pub ranks_by : {i : T.I} {y : (T.entry i).0.Denot} {x : e.0.Denot} (answers ranks : OpView → ℕ) → Made (λ j. (T.entry j).0.coded.code) e.0.coded.code at i y x
      → ((view : OpView) (rank : ℕ) → is_view view ≡ true → (T.entry i).1.post y (view, tt) rank → rank ≡ answers view)
      → ((view : OpView) → e.1.post x (view, tt) (ranks view))
      → RanksBy answers ranks
  ranks_by {i} {y} {x} answers ranks made alone given view small =
      sym (alone view (ranks view) small (subst (λ (A : Type 0). A) (sym (read_made T e at same (Type 0) (λ j z. j.1.post z (view, tt) (ranks view)) i y x made)) (given view)))
