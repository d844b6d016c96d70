-- A mark after the last one changes nothing.
use Rattle.std.proofs.Common.{◌≡◌, ℕ, ◌≤◌, Bool, true, List, length, slice_set, sym}
use Rattle.std.proofs.lemmas.List.{set_past}

pub mark_past : (marks : List Bool) (switch : ℕ) → length marks ≤ switch → marks ≡ slice_set marks switch true
mark_past marks switch past = sym (set_past marks switch true past)
