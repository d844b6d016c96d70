-- What a wait has found.
use Rattle.std.proofs.Common.{◌≡◌, ℕ, ◌<◌, List, length, Option, Some, None, subst}
use Rattle.std.specs.Prelude.{IfSome}
use Rattle.wan_edge.specs.Fleets.{WaitsFor}
use Rattle.wan_edge.specs.declared.waited.Waited.{Waited}

pub one_woken : {G : Type 0} (found : Option Waited) (woken : Waited) (seated : List G) → found ≡ Some woken → IfSome found (λ one. WaitsFor None seated one) → WaitsFor None seated woken
one_woken found woken seated is holds = subst (λ (one : Option Waited). IfSome one (λ each. WaitsFor None seated each)) is holds

pub one_below : {G : Type 0} (first : Option ℕ) (place : ℕ) (seated : List G) → first ≡ Some place → IfSome first (λ n. n < length seated) → place < length seated
one_below first place seated is holds = subst (λ (one : Option ℕ). IfSome one (λ n. n < length seated)) is holds
