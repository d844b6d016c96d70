-- What a disk was, the earliest first.
use Rattle.std.specs.Prelude.{List, [], ◌∷◌, ◌++◌}
use Rattle.disk_model.specs.Memory.{Medium}
use Rattle.disk_mirror.specs.declared.past.Past.{Past, Nothing, Also'}

abbrev pub past_in : Past → List Medium
past_in Nothing = []
past_in (Also' marker before was) = past_in before ++ was.value ∷ []
