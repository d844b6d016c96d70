-- Calls of a disk that write nothing, one after the other.
use Rattle.std.proofs.Common.{inl, inr, ⊎_elim, arith, refl, ◌∙◌}
use Rattle.disk_model.specs.Effects.{WritesNothing}
use Rattle.disk_model.specs.Traces.{DiskTrace}
use Rattle.disk_model.proofs.Durable.{durable_still}
use Rattle.disk_mirror.specs.Images.{IsLeftAlone}

pub no_call : (old : DiskTrace) → IsLeftAlone old old
no_call old = record {
  same = refl;
  crash = λ c left. left;
  time = record { later = omega arith; keeps = λ t c earlier left. left; nothing_else = λ t c earlier left. inl left };
}

pub one_call : (old new : DiskTrace) → WritesNothing old new → IsLeftAlone old new
one_call old new nothing = record {
  same = nothing.same;
  crash = nothing.crash;
  time = record {
    later = nothing.time.later;
    keeps = nothing.time.keeps;
    nothing_else = λ t c earlier left. ⊎_elim inl (λ now. inr (nothing.crash c now)) (nothing.time.nothing_else t c earlier left);
  };
}

pub more_calls : (old mid new : DiskTrace) → IsLeftAlone old mid → IsLeftAlone mid new → IsLeftAlone old new
more_calls old mid new first second = record {
  same = second.same ∙ first.same;
  crash = λ c left. first.crash c (second.crash c left);
  time = record {
    later = omega (arith, first.time.later, second.time.later);
    keeps = λ t c earlier left. second.time.keeps t c (omega (arith, earlier, first.time.later)) (first.time.keeps t c earlier left);
    nothing_else = λ t c earlier left. ⊎_elim
        (first.time.nothing_else t c earlier)
        (λ now. inr (first.crash c now))
        (second.time.nothing_else t c (omega (arith, earlier, first.time.later)) left);
  };
}

pub ruleset alone = (no_call, one_call, more_calls, durable_still)
