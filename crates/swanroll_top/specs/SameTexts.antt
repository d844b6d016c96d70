-- The words that ask for a text of the input alone, of the whole program and of one that makes such texts alone.
use Rattle.std.specs.Prelude.{◌≡◌, ◌↔◌, ℕ, List, String, Some}
use Rattle.std.specs.declared.alloc.Global.{Global}
use Rattle.rollout_rules.specs.declared.op.OpView.{OpView}
use Rattle.text_commands.specs.Words.{TextAsked, text_asked_by}
use Rattle.swanroll_top.specs.Words.{a_text, asked_by}

-- whatever the policies, the same words ask for the same text
abbrev pub AreAskedTheSame : Type 0
AreAskedTheSame =
    (policies : List (List ℕ × (OpView → ℕ))) (words : List (String Global)) (what : TextAsked)
    → (text_asked_by policies words ≡ Some what) ↔ (asked_by policies words ≡ Some (a_text what))
