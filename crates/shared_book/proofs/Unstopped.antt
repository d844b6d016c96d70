-- Before the first stop all entries that came with notes are in the list.
use Rattle.std.proofs.Common.{◌≡◌, ℕ, Bool, true, false, ◌&&◌, List, [], ◌∷◌, ◌++◌, Option, Some, None, option_map, refl, sym, ap, ap₂, ◌∙◌}
use Rattle.std.specs.Option.{option_or}
use Rattle.std.proofs.lemmas.Bool.{and_parts}
use Rattle.rollout_rules.specs.Legal.{is_legal}
use Rattle.rollout_rules.specs.History.{with_entries}
use Rattle.rollout_rules.specs.declared.op.Entry.{Entry}
use Rattle.shared_book.specs.declared.note.Cause.{Cause}
use Rattle.shared_book.specs.declared.note.What.{What}
use Rattle.shared_book.specs.declared.note.What.TheVariants as what
use Rattle.shared_book.specs.declared.note.Note.{Note}
use Rattle.shared_book.specs.declared.note.Written.{Written}
use Rattle.shared_book.specs.declared.call_reply.Halt.{Halt}
use Rattle.shared_book.specs.Notes.{cause_of, halt_by, first_stop}
use Rattle.shared_book.specs.Histories.{Opening, segment_of, added, history_of, all_entries}
use Rattle.shared_book.specs.Legal.{is_empty, may_say, may_note, may_go_on, is_legal_shared}
use Rattle.shared_book.proofs.Stops.{no_entries, of_three, of_four}

own-is : (o : Opening) (ws : List Written) (seat : ℕ) (es : List Entry) (said : What) → may_say o ws seat es said ≡ true → cause_of said ≡ None → es ≡ segment_of said es
own-is o ws seat es (what.Turned dones begins) may none = refl
own-is o ws seat es (what.Alien item held begun) may none = no_entries es (of_four _ _ _ _ may).1
own-is o ws seat es what.Disk may none = absurd (cc none)
own-is o ws seat es what.Listed may none = no_entries es (and_parts _ _ may).1
own-is o ws seat es what.Work may none = no_entries es (of_three _ _ _ may).1
own-is o ws seat es what.Finished may none = no_entries es (of_three _ _ _ may).1
own-is o ws seat es what.Held may none = no_entries es (of_four _ _ _ _ may).1
own-is o ws seat es what.Stopped may none = no_entries es (and_parts _ _ may).1
own-is o ws seat es (what.Stop why) may none = no_entries es (and_parts _ _ may).1

-- of two possible stops neither is there
pub or-neither : (a b : Option Halt) → option_or a b ≡ None → (a ≡ None) × (b ≡ None)
or-neither (Some x) b e = absurd (cc e)
or-neither None b e = (refl, e)

pub no-cause : (f : Cause → Halt) (why : Option Cause) → option_map f why ≡ None → why ≡ None
no-cause f (Some cause) e = absurd (cc e)
no-cause f None e = refl

unstopped-from : (o : Opening) (ws later : List Written) → may_go_on o ws later ≡ true → first_stop later ≡ None → all_entries later ≡ added later
unstopped-from o ws [] may none = refl
unstopped-from o ws (w ∷ later) may none =
    let parts = and_parts (may_note o ws w) (may_go_on o (ws ++ w ∷ []) later) may in
    let says = (and_parts _ (may_say o ws w.note.seat w.entries w.note.what) parts.0).1 in
    let neither = or-neither (halt_by w.note) (first_stop later) none in
    ap₂ (λ (es xs : List Entry). es ++ xs) (own-is o ws w.note.seat w.entries w.note.what says (no-cause _ (cause_of w.note.what) neither.0))
    (unstopped-from o (ws ++ w ∷ []) later parts.1 neither.1)

pub unstopped : (o : Opening) (ws : List Written) → is_legal_shared o ws ≡ true → first_stop ws ≡ None → with_entries o.found (all_entries ws) ≡ history_of o ws
unstopped o ws legal none =
    ap (with_entries o.found) (unstopped-from o [] ws (and_parts (is_legal o.rollout.problem o.rollout.plan o.found) (may_go_on o [] ws) legal).1 none)
