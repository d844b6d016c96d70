-- What went over a way, and how often something came about.
use Rattle.std.specs.Prelude.{ℕ, ◌+◌, List, [], ◌∷◌, ◌++◌}
use Rattle.byte_history.specs.declared.history.Bytes.{Bytes, Nothing, Also'}
use Rattle.byte_history.specs.declared.history.Times.{Times, Never, Again'}

abbrev pub bytes_in : Bytes → List ℕ
bytes_in Nothing = []
bytes_in (Also' marker before byte) = bytes_in before ++ byte.value ∷ []

abbrev pub times_in : Times → ℕ
times_in Never = 0
times_in (Again' marker before) = times_in before + 1
