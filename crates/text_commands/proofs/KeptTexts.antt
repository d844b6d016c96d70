-- How the promise of a command that makes a text follows from what it brought about and from what was noted.
use Rattle.std.proofs.Common.{◌≡◌, ℕ, List, drop, String, false, Option, Some, None, Result, Ok, Err, refl, sym, ap, ◌∙◌, subst}
use Rattle.std.specs.declared.alloc.Global.{Global}
use Rattle.rollout_rules.specs.declared.op.OpView.{OpView}
use Rattle.wan_edge.specs.Streams.{Rose, SinkTrace, SourceTrace}
use Rattle.text_commands.specs.CommandEnds.{ending_of_unread, tells_place}
use Rattle.text_commands.specs.Program.{Streams}
use Rattle.text_commands.specs.Runs.{IsTold, Runs}
use Rattle.text_commands.specs.TextCall.{EndsTextUnread, Lent, TextsPromise, TextsStart, lent, streams_of}
use Rattle.text_commands.specs.TextPromise.{TextPromise}
use Rattle.text_commands.specs.Uses.{uses_input, uses_nothing}
use Rattle.text_commands.specs.Words.{TextAsked, text_asked_by}
use Rattle.text_commands.specs.declared.arguments.Unread.{Unread}
use Rattle.text_commands.specs.declared.arguments.Unread.TheVariants as unread
use Rattle.text_commands.specs.declared.command_end.CommandEnd.{CommandEnd}
use Rattle.text_commands.specs.declared.command_end.CommandEnd.TheVariants.{Usage, ReadFault, WriteFault, DiskFault, GuestFault, NotFinished}
use Rattle.text_commands.specs.declared.unfinished.Unfinished.{Unfinished}
use Rattle.text_commands.proofs.Programs.{command-run, ended, follows-of, not-usage, text-unwritten, told-brings, usage-run}

-- what each command keeps, by how it ended and what was noted
pub text-keeps : (what : TextAsked) (before after : Streams) (e : CommandEnd) (status : ℕ) → Runs what before.source after.source e before.sink.written after.sink.written → IsTold e status before.notes.written after.notes.written before.notes.faults after.notes.faults
    → TextPromise what before after status
text-keeps what before after e status runs told =
    let told_runs = told-brings (λ x. Runs what before.source after.source x before.sink.written after.sink.written) before.sink.written after.sink.written e told.told told.is runs
    (text-unwritten what before.source after.source before.sink.written after.sink.written e runs) (λ same. same) in
    record {
      does = λ read memory. record {
        ending = told.told;
        is_status = told.is_status;
        follows = follows-of what before.source after.source before.sink.written after.sink.written told.told told_runs (λ h. read (told.is_status ∙ h)) (λ h. memory (told.is_status ∙ h));
        line = told.line;
      };
    }

-- the line of an ending before any word was read takes no memory
pub unread-known : (why : Unread) → tells_place (ending_of_unread why) ≡ false
unread-known unread.NotText = refl
unread-known unread.Memory = refl

module _ {S K : Type 0} (told : S → SourceTrace) (written : K → SinkTrace) where
  -- a text was asked for
  pub text-promised : (what : TextAsked) (source source_now : S) (sink sink_now notes notes_now : K) (e : CommandEnd) (status : ℕ)
      → Runs what (told source) (told source_now) e (written sink).written (written sink_now).written
      → (e ≡ ReadFault → Rose (told source).faults (told source_now).faults) → (e ≡ WriteFault → Rose (written sink).faults (written sink_now).faults)
      → (e ≡ DiskFault → ⊥) → (e ≡ GuestFault → ⊥) → ((u : Unfinished) → e ≡ NotFinished u → ⊥) → (e ≡ Usage → ⊥)
      → IsTold e status (written notes).written (written notes_now).written (written notes).faults (written notes_now).faults → (status ≡ 0 → notes_now ≡ notes)
      → TextsPromise told written (Some what) (lent source sink notes) status (lent source_now sink_now notes_now)
  text-promised what source source_now sink sink_now notes notes_now e status runs read write disk guest unfinished ran noted quiet =
      record {
        run = command-run uses_input (Some what) what (streams_of told written (lent source sink notes)) (streams_of told written (lent source_now sink_now notes_now)) e status refl
            (text-unwritten what (told source) (told source_now) (written sink).written (written sink_now).written e runs)
            read write (λ h. absurd (disk h)) (λ h. absurd (guest h)) (λ u h. absurd (unfinished u h)) ran noted;
        untouched = λ h. absurd (not-usage e status _ _ _ _ ran noted h);
        quiet = quiet;
        command = text-keeps what (streams_of told written (lent source sink notes)) (streams_of told written (lent source_now sink_now notes_now)) e status runs noted;
      }

  -- what was asked for is this
  pub promised-as : (asked other : Option TextAsked) (before after : Lent S K) (status : ℕ) → other ≡ asked → TextsPromise told written other before status after → TextsPromise told written asked before status after
  promised-as asked other before after status is promise = subst (λ a. TextsPromise told written a before status after) is promise

  -- words that are no command line leave all but the notes as it was
  pub usage-text : (asked : Option TextAsked) (source : S) (sink notes notes_now : K) (status : ℕ) → asked ≡ None
      → IsTold Usage status (written notes).written (written notes_now).written (written notes).faults (written notes_now).faults → (status ≡ 0 → notes_now ≡ notes)
      → TextsPromise told written asked (lent source sink notes) status (lent source sink notes_now)
  usage-text asked source sink notes notes_now status is noted quiet =
      subst (λ a. TextsPromise told written a (lent source sink notes) status (lent source sink notes_now)) (sym is) (record {
        run = usage-run uses_nothing None (streams_of told written (lent source sink notes)) (streams_of told written (lent source sink notes_now)) status refl refl refl noted;
        untouched = λ h. refl;
        quiet = quiet;
        command = tt;
      })

  -- ---- from the arguments on

  pub text-started : {A : Type 0} (policies : List (List ℕ × (OpView → ℕ))) (arguments : Result A Unread) (list : A → List (String Global)) (all : A) (words : List (String Global)) (before after : Lent S K) (status : ℕ)
      → arguments ≡ Ok all → words ≡ drop 1 (list all) → TextsPromise told written (text_asked_by policies words) before status after → TextsStart told written policies arguments list before status after
  text-started policies arguments list all words before after status is words_are promise =
      subst (λ r. TextsStart told written policies r list before status after) (sym is) (record { read = subst (λ w. TextsPromise told written (text_asked_by policies w) before status after) words_are promise; unread = tt })

  pub text-unread : {A : Type 0} (policies : List (List ℕ × (OpView → ℕ))) (arguments : Result A Unread) (list : A → List (String Global)) (why : Unread) (e : CommandEnd)
      (source : S) (sink notes notes_now : K) (status : ℕ) → arguments ≡ Err why → e ≡ ending_of_unread why
      → IsTold e status (written notes).written (written notes_now).written (written notes).faults (written notes_now).faults
      → TextsStart told written policies arguments list (lent source sink notes) status (lent source sink notes_now)
  text-unread policies arguments list why e source sink notes notes_now status is end noted =
      subst (λ r. TextsStart told written policies r list (lent source sink notes) status (lent source sink notes_now)) (sym is) (record {
        read = tt;
        unread = subst (λ x. EndsTextUnread told written x (lent source sink notes) status (lent source sink notes_now)) end (record {
          ended = ended (streams_of told written (lent source sink notes)) (streams_of told written (lent source sink notes_now)) e status (ap tells_place end ∙ unread-known why) refl refl noted;
          unread = refl;
          unwritten = refl;
        });
      })
