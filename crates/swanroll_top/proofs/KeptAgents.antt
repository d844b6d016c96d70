-- How an agent with a file follows from its service.
use Rattle.std.proofs.Common.{◌≡◌, ◌⊎◌, inl, inr, ℕ, List, Option, Some, None, Ok, IfSome, sym, ap, subst, ◌∙◌, arith}
use Rattle.disk_model.specs.Moments.{LeavesOnly}
use Rattle.disk_model.specs.Traces.{DiskTrace}
use Rattle.disk_model.proofs.Running.{LeavesOnly-start}
use Rattle.wan_edge.specs.Streams.{Appends}
use Rattle.agent_service.specs.KeptServices.{MayBeLeft}
use Rattle.swanroll_top.specs.Agents.{EndsOwn}
use Rattle.text_commands.specs.CommandEnds.{status_of}
use Rattle.swanroll_top.specs.KeptAgents.{kept_status}
use Rattle.text_commands.specs.Runs.{EndsWith, Follows}
use Rattle.text_commands.specs.declared.command_end.CommandEnd.{CommandEnd}
use Rattle.text_commands.specs.declared.command_end.CommandEnd.TheVariants.{Done}
use Rattle.swanroll_top.specs.declared.kept_end.KeptEnd.{KeptEnd}

-- nothing was done after the opening
pub still_left : {D : Type 0} (trace : D → DiskTrace) (told : Option (List ℕ)) (disk : D) → ((c : List ℕ) → (trace disk).left_since (trace disk).moment c → (trace disk).may_leave c)
    → IfSome told (λ image. LeavesOnly trace disk disk (MayBeLeft (trace disk).may_leave image))
still_left trace None disk now = tt
still_left trace (Some image) disk now = LeavesOnly-start trace disk (MayBeLeft (trace disk).may_leave image) (λ c left. inl (now c left))

-- a disk that wasn't opened is told by 8, or for lack of memory by 12
pub untold : (status : ℕ) → status ≡ 0 → (status ≡ 8) ⊎ (status ≡ 12) → ⊥
untold status nought (inl eight) = absurd (omega (arith, nought, eight))
untold status nought (inr twelve) = absurd (omega (arith, nought, twelve))

-- what is told as done is done
pub told_done : (ending : KeptEnd) (status : ℕ) → status ≡ 0 → (status ≡ kept_status ending) ⊎ (status ≡ 12) → kept_status ending ≡ 0
told_done ending status nought (inl is) = sym is ∙ nought
told_done ending status nought (inr twelve) = absurd (omega (arith, nought, twelve))

-- and then its line was written
pub written_line : (text : List ℕ) (ending : CommandEnd) (out now : Option (List ℕ)) → status_of ending ≡ 0 → EndsOwn ending → Follows (Ok text) ending out now → Appends out text now
written_line text ending out now nought (inl done) follows = done_line (subst (λ (e : CommandEnd). Follows (Ok text) e out now) done follows)
  where
    done_line : EndsWith (Ok text) Done out now → Appends out text now
    done_line (inl all) = all.1
    done_line (inr cut) = absurd (cc cut.0)
written_line text ending out now nought (inr (inl cut)) follows = absurd (omega (arith, nought, ap status_of cut))
written_line text ending out now nought (inr (inr memory)) follows = absurd (omega (arith, nought, ap status_of memory))
