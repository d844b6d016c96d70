use Rattle.std.proofs.Common.{[], ◌∷◌, refl}
use Rattle.disk_model.proofs.Tearing.{Torn-none, Torn-written}
use Rattle.disk_model.proofs.worked.a_later_write_may_be_left_alone.Goals as goal

pub returns : goal.returns
returns c = (1 ∷ 2 ∷ [], Torn-none 0 1 (1 ∷ 2 ∷ []), (1 ∷ 9 ∷ [], Torn-written 1 (9 ∷ []) (1 ∷ 2 ∷ []), refl))
