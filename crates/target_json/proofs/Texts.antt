-- What the bytes of a text are.
use Rattle.std.proofs.Common.{◌≡◌, ℕ, List, Bool, true, false, Some, None, Ok, Err, refl}
use Rattle.std.specs.Str.{is_utf8, IsUtf8}
use Rattle.std.proofs.lemmas.Str.{IsUtf8-from_is_utf8, is_utf8-from_IsUtf8}
use Rattle.serde_json.specs.Data.{Data}
use Rattle.serde_json.specs.Read.{read}
use Rattle.target_json.specs.Grammar.{data_in}
use Rattle.target_json.specs.declared.fault.TargetFault.TheVariants.{NotJson}

pub data_read : (bytes : List ℕ) (d : Data) → IsUtf8 bytes → read bytes ≡ Some d → data_in bytes ≡ Ok d
unfolding data_in
data_read bytes d utf8 is = rw (is_utf8-from_IsUtf8 bytes utf8, is)

refused : (b : Bool) (bytes : List ℕ) → is_utf8 bytes ≡ b → (IsUtf8 bytes → read bytes ≡ None) → data_in bytes ≡ Err NotJson
unfolding data_in
refused true bytes is h = rw (is, h (IsUtf8-from_is_utf8 bytes is))
refused false bytes is h = rw is

pub data_refused : (bytes : List ℕ) → (IsUtf8 bytes → read bytes ≡ None) → data_in bytes ≡ Err NotJson
data_refused bytes h = refused (is_utf8 bytes) bytes refl h
