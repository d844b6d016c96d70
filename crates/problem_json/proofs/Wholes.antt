-- A text that was pushed as a whole into memory.
use Rattle.std.proofs.Common.{◌≡◌, ℕ, List, [], Option, Some, subst}
use Rattle.text_writer.specs.Kept.{Adds, AddsText}

pub whole_text : (bytes text : List ℕ) (before now : Option (List ℕ)) → before ≡ Some [] → AddsText before bytes now → now ≡ Some text → text ≡ bytes
whole_text bytes text before now empty added is =
    subst (λ t. Adds (Some []) bytes t) is (subst (λ t. Adds t bytes now) empty added.added)
