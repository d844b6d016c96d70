-- What a look of a seat that waits makes of a shared book.
use Rattle.std.proofs.Common.{◌≡◌, ℕ, ◌+◌, ◌<◌, ◌≤◌, Bool, true, false, List, [], ◌∷◌, ◌++◌, length, All, Option, Some, None, if◌then◌else◌, slice_index_or, refl, sym, ap, ap₂, ◌∙◌, subst, arith}
use Rattle.std.specs.List.{filter}
use Rattle.std.proofs.lemmas.List.Elements.{All-head, All-tail}
use Rattle.std.specs.Option.{option_or}
use Rattle.rollout_rules.specs.Wan.{Problem, Rollout}
use Rattle.rollout_rules.specs.History.{History}
use Rattle.rollout_rules.specs.Items.{item_count}
use Rattle.rollout_rules.specs.Legal.{is_finished}
use Rattle.rollout_rules.specs.World.{in_flight}
use Rattle.rollout_rules.specs.declared.op.Op.{Op}
use Rattle.rollout_book.specs.JournaledRounds.{Journaled}
use Rattle.shared_book.specs.declared.note.What.{What}
use Rattle.shared_book.specs.declared.note.What.TheVariants as what
use Rattle.shared_book.specs.declared.note.Note.{Note}
use Rattle.shared_book.specs.declared.note.Written.{Written}
use Rattle.shared_book.specs.declared.call_reply.Halt.{Halt}
use Rattle.shared_book.specs.declared.call_reply.Wake.{Wake}
use Rattle.shared_book.specs.declared.call_reply.Wake.TheVariants as wake
use Rattle.shared_book.specs.Notes.{calls_by, halt_by, first_stop}
use Rattle.shared_book.specs.Histories.{Opening, history_of}
use Rattle.shared_book.specs.Legal.{is_still}
use Rattle.shared_book.specs.Knows.{next_note}
use Rattle.shared_book.specs.Replies.{asked_at, is_among, is_asked, wake_or, wake_reply, wake_says, wake_with}
use Rattle.shared_book.proofs.Saying.{wake-may}
use Rattle.shared_book.specs.Homes.{homes_of}
use Rattle.shared_book.specs.Sharing.{IsNoted, IsShared, log_of}
use Rattle.shared_book.specs.Told.{with_noted}
use Rattle.shared_book.specs.Waking.{first_of, wake_of, OnTold}
use Rattle.shared_book.proofs.HomeRows.{home-read}
use Rattle.shared_book.proofs.ListCalls.{none-of}
use Rattle.shared_book.proofs.Sharing.{still, unnoted, goes-on, first_stop-next, log-is, at-log}
use Rattle.shared_book.proofs.Unstopped.{unstopped}

-- ---- the first operation that is asked for
filter-same : {A : Type 0} (P : A → Type 0) (f g : A → Bool) (xs : List A) → ((x : A) → P x → f x ≡ g x) → All P xs → filter f xs ≡ filter g xs
filter-same P f g [] same all = refl
filter-same P f g (x ∷ xs) same all =
    ap₂ (λ b ys. if b then x ∷ ys else ys) (same x (All-head P x xs all)) (filter-same P f g xs same (All-tail P x xs all))

-- by the row of homes these are the operations of the switches
pub asked-rows : (p : Problem) (homes : List (Option ℕ)) (switches : List ℕ) (ops : List Op) → homes ≡ homes_of p → All (λ op. op.item < item_count p) ops
    → filter (λ (op : Op). is_among switches (slice_index_or homes op.item None)) ops ≡ filter (is_asked p switches) ops
asked-rows p homes switches ops same all =
    filter-same (λ (op : Op). op.item < item_count p) (λ op. is_among switches (slice_index_or homes op.item None)) (is_asked p switches) ops
    (λ op lt. ap (is_among switches) (home-read p homes op.item same lt)) all

pub wake-first : (finished still : Bool) (ops : List Op) (op : Op) → Some op ≡ first_of ops → Some (wake.Work op) ≡ wake_with finished still ops
wake-first finished still [] op e = absurd (cc e)
wake-first finished still (x ∷ xs) op e = ap (λ (o : Option Op). work-of o) e
  where
    work-of : Option Op → Option Wake
    work-of None = None
    work-of (Some op) = Some (wake.Work op)

pub wake-rest : (finished still : Bool) (ops : List Op) → None ≡ first_of ops → wake_with finished still ops ≡ (if finished then Some wake.Finished else if still then Some wake.Held else None)
wake-rest finished still [] e = refl
wake-rest finished still (x ∷ xs) e = absurd (cc e)

-- ---- what a look finds
module _ {D : Type 0} (b : Journaled D) (halted : Option Halt) (homes : List (Option ℕ)) (switches : List ℕ) (ops : List Op) (asked : Option Op) (none : halted ≡ None) (rows : homes ≡ homes_of b.rollout.problem)
    (value : ops ≡ in_flight b.rollout.problem b.history) (items : All (λ op. op.item < item_count b.rollout.problem) ops)
    (told : asked ≡ first_of (filter (λ (op : Op). is_among switches (slice_index_or homes op.item None)) ops)) where
  first-is : asked ≡ first_of (asked_at b.rollout.problem b.history switches)
  first-is = told ∙ ap first_of (asked-rows b.rollout.problem homes switches ops rows items ∙ ap (filter (is_asked b.rollout.problem switches)) value)

  pub woken-work : (op : Op) → asked ≡ Some op → Some (wake.Work op) ≡ wake_of b halted switches
  woken-work op is = wake-first (is_finished b.rollout.problem b.rollout.plan b.history) (is_still b.rollout.problem b.history) (asked_at b.rollout.problem b.history switches) op (sym is ∙ first-is) ∙ ap (λ h. wake_of b h switches) (sym none)

  pub woken-rest : (finished still : Bool) → asked ≡ None → is_finished b.rollout.problem b.rollout.plan b.history ≡ finished → is_still b.rollout.problem b.history ≡ still
      → (if finished then Some wake.Finished else if still then Some wake.Held else None) ≡ wake_of b halted switches
  woken-rest finished still is ends rests =
      sym (ap (λ h. wake_of b h switches) none
      ∙ wake-rest (is_finished b.rollout.problem b.rollout.plan b.history) (is_still b.rollout.problem b.history) (asked_at b.rollout.problem b.history switches) (sym is ∙ first-is)
      ∙ ap₂ (λ f s. if f then Some wake.Finished else if s then Some wake.Held else None) ends rests)

-- ---- the note of a look
on-told : (woken : Wake) (P : Type 0) → P → OnTold woken P
on-told (wake.Work op) P holds = holds
on-told wake.Finished P holds = holds
on-told wake.Held P holds = holds
on-told (wake.Stopped halt) P holds = holds
on-told wake.Memory P holds = tt

module _ {D : Type 0} (o : Opening) (seats : ℕ) (b : Journaled D) (ns : List Note) (halt : Option Halt) (left most : ℕ) (log : List Written) (s : IsShared o seats b ns halt left most log) (switches : List ℕ) where
  -- what a wait ends with is what the history says
  wake-by : (stop : Option Halt) → first_stop log ≡ stop → wake_of b halt switches ≡ wake_reply o log switches
  wake-by (Some h) is =
      let at : Option Halt → Rollout → History → Option Wake = λ st r h. wake_or st (wake_with (is_finished r.problem r.plan h) (is_still r.problem h) (asked_at r.problem h switches)) in
      ap (λ st. at st b.rollout b.history) (s.halted ∙ is) ∙ sym (ap (λ st. at st o.rollout (history_of o log)) is)
  wake-by None is =
      let at : Option Halt → Rollout → History → Option Wake = λ st r h. wake_or st (wake_with (is_finished r.problem r.plan h) (is_still r.problem h) (asked_at r.problem h switches)) in
      ap (λ st. at st b.rollout b.history) s.halted ∙ ap₂ (λ r h. at (first_stop log) r h) s.rollout (s.history ∙ unstopped o log s.legal is)

  pub wake-is : wake_of b halt switches ≡ wake_reply o log switches
  wake-is = wake-by (first_stop log) refl

  module _ (ns' : List Note) (halt' : Option Halt) (most' seat : ℕ) (room : length ns + 1 + left ≤ most') where
    pub wake-shared : (woken : Wake) → Some woken ≡ wake_of b halt switches → IsNoted seat (calls_by seat log) (wake_says woken) ns halt ns' halt'
        → IsShared o seats b ns' halt' left most' (with_noted seat log (wake_says woken) [])
    wake-shared (wake.Work op) told noted =
        goes-on o seats b b ns ns' halt halt' left most most' log seat what.Work [] s (wake-may o log seat switches (wake.Work op) what.Work (sym (told ∙ wake-is)) refl) (still b b what.Work refl refl)
        (λ later. s.live (none-of (first_stop log) (sym (first_stop-next log (next_note seat log what.Work [])) ∙ later))) noted.0 noted.1 refl room
    wake-shared wake.Finished told noted =
        goes-on o seats b b ns ns' halt halt' left most most' log seat what.Finished [] s (wake-may o log seat switches wake.Finished what.Finished (sym (told ∙ wake-is)) refl) (still b b what.Finished refl refl)
        (λ later. s.live (none-of (first_stop log) (sym (first_stop-next log (next_note seat log what.Finished [])) ∙ later))) noted.0 noted.1 refl room
    wake-shared wake.Held told noted =
        goes-on o seats b b ns ns' halt halt' left most most' log seat what.Held [] s (wake-may o log seat switches wake.Held what.Held (sym (told ∙ wake-is)) refl) (still b b what.Held refl refl)
        (λ later. s.live (none-of (first_stop log) (sym (first_stop-next log (next_note seat log what.Held [])) ∙ later))) noted.0 noted.1 refl room
    wake-shared (wake.Stopped first) told noted =
        goes-on o seats b b ns ns' halt halt' left most most' log seat what.Stopped [] s (wake-may o log seat switches (wake.Stopped first) what.Stopped (sym (told ∙ wake-is)) refl) (still b b what.Stopped refl refl)
        (λ later. s.live (none-of (first_stop log) (sym (first_stop-next log (next_note seat log what.Stopped [])) ∙ later))) noted.0 noted.1 refl room
    wake-shared wake.Memory told noted = unnoted o seats b ns ns' halt halt' left most most' log s noted.0 noted.1 (omega (arith, room))

-- What a look leaves: the type's own facts, the history with the note, and what was told.
pub record WakeLeaves {D : Type 0} (o : Opening) (seats : ℕ) (book : Journaled D) (list : List Note) (first : Option Halt) (waiting capacity : ℕ) (log : List Written) (seat : ℕ) (switches : List ℕ) (woken : Wake) : Type 0 where
  pub shared : IsShared o seats book list first waiting capacity (log_of book list)
  pub noted : log_of book list ≡ with_noted seat log (wake_says woken) []
  pub told : OnTold woken (Some woken ≡ wake_reply o log switches)

pub wake-leaves : {D : Type 0} (o : Opening) (seats : ℕ) (b : Journaled D) (ns mid ns' : List Note) (halt halt' : Option Halt) (left most most' : ℕ) (log : List Written) (seat call : ℕ) (switches : List ℕ) (woken : Wake) (said : Option What)
    → IsShared o seats b ns halt left most log → call ≡ calls_by seat log → Some woken ≡ wake_of b halt switches → said ≡ wake_says woken → mid ≡ ns → IsNoted seat call said mid halt ns' halt'
    → length ns + 1 + left ≤ most' → WakeLeaves o seats b ns' halt' left most' log seat switches woken
wake-leaves o seats b ns mid ns' halt halt' left most most' log seat call switches woken said s numbered told is mid-is noted room =
    let by-call : IsNoted seat (calls_by seat log) said mid halt ns' halt' = subst (λ (k : ℕ). IsNoted seat k said mid halt ns' halt') numbered noted in
    let by-reply : IsNoted seat (calls_by seat log) (wake_says woken) mid halt ns' halt' = subst (λ (w : Option What). IsNoted seat (calls_by seat log) w mid halt ns' halt') is by-call in
    let noted' : IsNoted seat (calls_by seat log) (wake_says woken) ns halt ns' halt' = subst (λ (xs : List Note). IsNoted seat (calls_by seat log) (wake_says woken) xs halt ns' halt') mid-is by-reply in
    let shared = wake-shared o seats b ns halt left most log s switches ns' halt' most' seat room woken told noted' in
    record {
      shared = at-log o seats b ns' halt' left most' _ shared;
      noted = log-is o seats b ns' halt' left most' _ shared;
      told = on-told woken (Some woken ≡ wake_reply o log switches) (told ∙ wake-is o seats b ns halt left most log s switches);
    }
