-- What comes of placing the journal of a takeover, and of its beginning.
use Rattle.std.proofs.Common.{◌≡◌, ℕ, Bool, true, List, [], length, Result, Ok, Err, refl, sym, ap, ap₂, subst, inr, ◌∙◌}
use Rattle.std.specs.Prelude.{IfErr, IfOk, IsErrOf}
use Rattle.rollout_rules.specs.History.{History, settled, started}
use Rattle.rollout_rules.specs.Items.{item_count}
use Rattle.rollout_rules.specs.Legal.{is_sound}
use Rattle.rollout_rules.specs.Sums.{list_below}
use Rattle.rollout_rules.specs.Wan.{Rollout}
use Rattle.rollout_rules.proofs.Rows.{list_below-length}
use Rattle.wan_edge.specs.Ports.{PortTrace}
use Rattle.disk_mirror.specs.Openings.{IsTold, Opens, OpensWithin}
use Rattle.disk_model.specs.Traces.{DiskTrace}
use Rattle.dependency_graph.specs.FirstFault.{TellsSound}
use Rattle.dependency_graph.specs.Graph.{Followed}
use Rattle.dependency_graph.specs.declared.start_fault.StartFault.{StartFault}
use Rattle.dependency_graph.specs.declared.start_fault.StartFault.TheVariants as fault
use Rattle.intent_journal.specs.declared.digest.Digest.{Digest}
use Rattle.intent_journal.specs.declared.fault.JournalFault.{JournalFault}
use Rattle.intent_journal.specs.declared.fault.JournalFault.TheVariants.{Memory}
use Rattle.intent_journal.specs.Phases.{kept_of}
use Rattle.intent_journal.specs.Placements.{placed_kept, settled_numbers}
use Rattle.switch_ports.specs.Berths.{FleetPorts}
use Rattle.rollout_report.specs.Journals.{digest_for}
use Rattle.rollback_service.specs.Placings.{HasPlaced, IsNotPlaced, MayPlace}
use Rattle.rollback_service.proofs.Placings.{never-placed, not-placed, settled-start}
use Rattle.held_service.specs.Noting.{noted_at}
use Rattle.fence_takeover.specs.Fences.{IsFencedOff}
use Rattle.fence_takeover.specs.Starts.{number_in}
use Rattle.fence_takeover.specs.declared.end.FenceEnd.{FenceEnd}
use Rattle.fence_takeover.specs.Beginnings.{AnswerOf, Begins, BeginsAt, OpensAt, PlacesAt, taken_kept}
use Rattle.fence_takeover.specs.declared.begun.NotBegun.{NotBegun}
use Rattle.fence_takeover.specs.declared.begun.NotBegun.TheVariants as why

-- what is placed of a graph that begins a rollout at a start
pub kept-taken : (digest : Digest) (g : Followed) (r : Rollout) (migration : ℕ) (start : List ℕ) → digest ≡ digest_for r migration → g.rollout ≡ r → g.history ≡ started start → length start ≡ item_count r.problem
    → placed_kept digest g ≡ taken_kept r migration start
kept-taken digest g r migration start known rollout begins long =
    ap (λ (d : Digest). kept_of d (settled_numbers g) []) known
    ∙ ap₂ (λ (x : Rollout) (h : History). kept_of (digest_for r migration) (list_below (item_count x.problem) (settled h)) []) rollout begins
    ∙ ap (λ (xs : List ℕ). kept_of (digest_for r migration) xs []) (settled-start (item_count r.problem) start long)

module _ {D : Type 0} (trace : D → DiskTrace) (r : Rollout) (migration : ℕ) (start : List ℕ) (old : D) where
  -- it was tried
  pub places-at : (given : Result Rollout JournalFault) (answer : Result (Rollout × List ℕ) NotBegun) (new : D) → AnswerOf given start answer → MayPlace trace (taken_kept r migration start) old new
      → IfOk given (λ there. (there ≡ r) × HasPlaced trace (taken_kept r migration start) new) → IfErr given (λ cause. IsNotPlaced trace cause old new) → PlacesAt answer trace r migration start old new
  places-at (Ok there) answer new is may placed not_placed =
      subst (λ (a : Result (Rollout × List ℕ) NotBegun). PlacesAt a trace r migration start old new) (sym is) (record { same = placed.0; own = refl; may = may; placed = placed.1 })
  places-at (Err cause) answer new is may placed not_placed =
      subst (λ (a : Result (Rollout × List ℕ) NotBegun). PlacesAt a trace r migration start old new) (sym is) (record { may = may; cause_is = not_placed })

  -- there was no memory for it
  pub places-none : ((c : List ℕ) → (trace old).left_since (trace old).moment c → (trace old).may_leave c) → PlacesAt (Err (why.Journal Memory)) trace r migration start old old
  places-none now = record { may = never-placed trace (taken_kept r migration start) old now; cause_is = not-placed trace old }

  module _ (room : ℕ) where
    -- the disk was opened
    pub opens-at : (opened : D) (answer : Result (Rollout × List ℕ) NotBegun) (new : D) → Opens (trace old) (trace opened) → IsTold (trace opened).bytes → OpensWithin room (trace old) (trace opened)
        → PlacesAt answer trace r migration start opened new → OpensAt answer trace r migration start room old new
    opens-at opened (Ok taken) new opens told within places = record { opened = opened; opens = opens; told = told; within = within; places = places }
    opens-at opened (Err (why.Fence there end)) new opens told within places = absurd places
    opens-at opened (Err (why.Start there f)) new opens told within places = absurd places
    opens-at opened (Err (why.Journal cause)) new opens told within places = inr (record { opened = opened; opens = opens; told = told; within = within; places = places })

    -- one may begin there
    pub begins-at : (answer : Result (Rollout × List ℕ) NotBegun) (new : D) → is_sound r.problem r.plan start ≡ true → OpensAt answer trace r migration start room old new → BeginsAt answer trace r migration start room old new
    begins-at (Ok taken) new sound tries = record { sound = sound; tries = tries }
    begins-at (Err (why.Fence there end)) new sound tries = tries
    begins-at (Err (why.Start there f)) new sound tries = absurd tries
    begins-at (Err (why.Journal cause)) new sound tries = record { sound = sound; tries = tries }

    -- from a start on nothing is said of the switches
    pub begun-fence : (answer : Result (Rollout × List ℕ) NotBegun) (new : D) (there : Rollout) (end : FenceEnd) → BeginsAt answer trace r migration start room old new → IsErrOf answer (why.Fence there end) → ⊥
    begun-fence answer new there end begins is = subst (λ (a : Result (Rollout × List ℕ) NotBegun). BeginsAt a trace r migration start room old new) is begins

    -- all told
    pub begins-told : {P : Type 0} (tell : P → PortTrace) (limit : ℕ) (before now : FleetPorts P) (answer : Result (Rollout × List ℕ) NotBegun) (new : D) → IsFencedOff tell r.problem r.plan migration limit before now start → BeginsAt answer trace r migration start room old new
        → Begins answer tell trace r migration limit room before now old new
    begins-told tell limit before now (Ok taken) new fenced begins = record { start = start; fenced = fenced; begins = begins }
    begins-told tell limit before now (Err (why.Fence there end)) new fenced begins = absurd begins
    begins-told tell limit before now (Err (why.Start there f)) new fenced begins = record { start = start; fenced = fenced; begins = begins }
    begins-told tell limit before now (Err (why.Journal cause)) new fenced begins = record { start = start; fenced = fenced; begins = begins }

-- where not all told, that is the cause
pub same-cause : {T U : Type 0} (r there : Rollout) (end other : FenceEnd) → IsErrOf {T = T} (Err (why.Fence r end)) (why.Fence there other) → IsErrOf {T = U} (Err end) other
same-cause r there end other is =
    let same : end ≡ other = cc is in
    ap (λ (e : FenceEnd). Err e) same

-- what a fault says of a start doesn't depend on what else might have been answered
pub tells-also : (A B : Type 0) (f : StartFault) (sound : Bool) → TellsSound {A = A} (Err f) sound → TellsSound {A = B} (Err f) sound
tells-also A B (fault.Above item held count) sound tells = tells
tells-also A B (fault.Need item number) sound tells = tells
tells-also A B (fault.Room stage spot found wanted) sound tells = tells
tells-also A B fault.Memory sound tells = tells

-- a start that was told has a number for each item
pub taken-long : {P : Type 0} (tell : P → PortTrace) (r : Rollout) (migration limit : ℕ) (before now : FleetPorts P) (start : List ℕ) → IsFencedOff tell r.problem r.plan migration limit before now start → length start ≡ item_count r.problem
taken-long tell r migration limit before now start fenced =
    ap (λ (xs : List ℕ). length xs) fenced.taken.start_is ∙ list_below-length (item_count r.problem) (λ n. number_in migration (noted_at fenced.notes n))
