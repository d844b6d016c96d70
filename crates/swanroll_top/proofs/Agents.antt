-- How a run of an agent follows from the service.
use Rattle.std.proofs.Common.{◌≡◌, ℕ, List, false, Option, Ok, subst, sym, ap, ◌∙◌, inl, inr}
use Rattle.agent_service.specs.Services.{Guests, Tells}
use Rattle.swanroll_top.specs.Agents.{EndsOwn, RunsAgent, ServesAs}
use Rattle.text_commands.specs.CommandEnds.{status_of, tells_place}
use Rattle.text_commands.specs.Runs.{EndsWith, Follows, IsTold}
use Rattle.text_commands.specs.declared.command_end.CommandEnd.{CommandEnd}
use Rattle.text_commands.specs.declared.command_end.CommandEnd.TheVariants.{Done, Usage, AboveLimit, Input, NotValid, NoPlan, Unshown, ReadFault, WriteFault, DiskFault, GuestFault, Refused, NotFinished, OutOfMemory}
use Rattle.text_commands.proofs.Programs.{known-told}

pub text-own : (text : List ℕ) (e : CommandEnd) (out now : Option (List ℕ)) → EndsWith (Ok text) e out now → EndsOwn e
text-own text e out now (inl done) = inl done.0
text-own text e out now (inr cut) = inr (inl cut.0)

pub own-known : (e : CommandEnd) → EndsOwn e → tells_place e ≡ false
own-known e (inl is) = ap tells_place is
own-known e (inr (inl is)) = ap tells_place is
own-known e (inr (inr is)) = ap tells_place is

pub own-not : (e other : CommandEnd) → EndsOwn e → (Done ≡ other → ⊥) → (WriteFault ≡ other → ⊥) → (OutOfMemory ≡ other → ⊥) → e ≡ other → ⊥
own-not e other (inl is) done cut memory h = done (sym is ∙ h)
own-not e other (inr (inl is)) done cut memory h = cut (sym is ∙ h)
own-not e other (inr (inr is)) done cut memory h = memory (sym is ∙ h)

-- the status tells the ending, since its line takes no memory
pub serves-as : {G : Type 0} (tells : Tells G) (guests : ℕ) (before now : Guests G) (e : CommandEnd) (status : ℕ) (out out_now noted noted_now : Option (List ℕ)) (faults faults_now : ℕ)
    → RunsAgent tells guests before now e out out_now → IsTold e status noted noted_now faults faults_now → ServesAs tells guests before now status out out_now
serves-as tells guests before now e status out out_now noted noted_now faults faults_now runs told = record {
  ending = e;
  is_status = told.is_status ∙ ap status_of (known-told e told.told runs.known told.is);
  runs = runs;
}

-- a text that was written is the one that was asked for
pub text-follows : (text line : List ℕ) (e : CommandEnd) (out now : Option (List ℕ)) → text ≡ line → EndsWith (Ok text) e out now → Follows (Ok line) e out now
text-follows text line Done out now same h = subst (λ t. EndsWith (Ok t) Done out now) same h
text-follows text line Usage out now same h = subst (λ t. EndsWith (Ok t) Usage out now) same h
text-follows text line AboveLimit out now same h = subst (λ t. EndsWith (Ok t) AboveLimit out now) same h
text-follows text line (Input f) out now same h = subst (λ t. EndsWith (Ok t) (Input f) out now) same h
text-follows text line (NotValid p b) out now same h = subst (λ t. EndsWith (Ok t) (NotValid p b) out now) same h
text-follows text line (NoPlan u) out now same h = subst (λ t. EndsWith (Ok t) (NoPlan u) out now) same h
text-follows text line (Unshown u) out now same h = subst (λ t. EndsWith (Ok t) (Unshown u) out now) same h
text-follows text line ReadFault out now same h = subst (λ t. EndsWith (Ok t) ReadFault out now) same h
text-follows text line WriteFault out now same h = subst (λ t. EndsWith (Ok t) WriteFault out now) same h
text-follows text line DiskFault out now same h = subst (λ t. EndsWith (Ok t) DiskFault out now) same h
text-follows text line GuestFault out now same h = subst (λ t. EndsWith (Ok t) GuestFault out now) same h
text-follows text line (Refused f) out now same h = subst (λ t. EndsWith (Ok t) (Refused f) out now) same h
text-follows text line (NotFinished u) out now same h = subst (λ t. EndsWith (Ok t) (NotFinished u) out now) same h
text-follows text line OutOfMemory out now same (inl h) = let no : OutOfMemory ≡ Done = h.0 in cc
text-follows text line OutOfMemory out now same (inr h) = let no : OutOfMemory ≡ WriteFault = h.0 in cc
