-- What a run has made of a port, as the laws on switches ask for it.
use Rattle.std.proofs.Common.{ℕ, List, [], ◌∷◌, Option, ⊎_elim, arith}
use Rattle.std.specs.List.{Contains}
use Rattle.std.proofs.lemmas.List.Elements.{Contains-append_cases, Contains-append_left, Contains-append_right}
use Rattle.rollout_rules.specs.History.{with_entries}
use Rattle.rollout_rules.specs.declared.op.Op.{Op}
use Rattle.rollout_rules.specs.declared.op.Entry.{Entry}
use Rattle.rollout_rules.specs.declared.op.Entry.TheVariants as entry
use Rattle.wan_edge.specs.Frames.{Command}
use Rattle.switch_ports.specs.Views.{SessionTrace}
use Rattle.shared_book.specs.declared.note.What.{What}
use Rattle.shared_book.specs.declared.note.What.TheVariants as what
use Rattle.shared_book.specs.declared.note.Written.{Written}
use Rattle.shared_book.specs.Histories.{Opening, added, all_entries, history_of, segment_of}
use Rattle.switch_laws.specs.Runs.{IsAnswered, IsBegunCommand, RunsAt, StartsAsFound}
use Rattle.controller_run.specs.Keeping.{IsBegun}
use Rattle.controller_run.specs.PortRuns.{Covers, IsPortRun}

-- what a note adds came with it
pub of_segment : (said : What) (es : List Entry) (e : Entry) → Contains (segment_of said es) e → Contains es e
of_segment (what.Turned dones begins) es e at = at
of_segment (what.Alien item held begun) es e at = absurd (omega (arith, at.1))
of_segment what.Disk es e at = absurd (omega (arith, at.1))
of_segment what.Listed es e at = absurd (omega (arith, at.1))
of_segment what.Work es e at = absurd (omega (arith, at.1))
of_segment what.Finished es e at = absurd (omega (arith, at.1))
of_segment what.Held es e at = absurd (omega (arith, at.1))
of_segment what.Stopped es e at = absurd (omega (arith, at.1))
of_segment (what.Stop why) es e at = absurd (omega (arith, at.1))

pub of_added : (log : List Written) (e : Entry) → Contains (added log) e → Contains (all_entries log) e
of_added [] e at = at
of_added (w ∷ log) e at =
    ⊎_elim (λ here. Contains-append_left w.entries (all_entries log) e (of_segment w.note.what w.entries e here)) (λ later. Contains-append_right w.entries (all_entries log) e (of_added log e later))
    (Contains-append_cases (segment_of w.note.what w.entries) (added log) e at)

module _ (o : Opening) (migration : ℕ) (homes : List (Option ℕ)) (log : List Written) (first now : SessionTrace) where
  begun_command : (c : Command) → IsBegun o (history_of o log) c → IsBegunCommand o.rollout (with_entries o.found (added log)) c
  begun_command c begun = record { op = begun.op; there = begun.begun; is = begun.is }

  answered : (op : Op) → Covers migration op first now → IsAnswered migration op first now
  answered op covers = record { moment = covers.told.at; answer = covers.answer; told = covers.told.told; later = covers.told.later.came; heard_since = covers.told.later.heard; item = covers.item; number = covers.number }

  pub runs_at : (run : IsPortRun o migration homes log first now) → StartsAsFound o.rollout migration homes o.found first → RunsAt o.rollout migration homes o.found (added log) run.sent first now
  runs_at run starts = record {
    starts = starts;
    story = run.story;
    begun = λ k d inside. begun_command _ (run.begun k d inside);
    answered = λ op done home. answered op (run.answered op (of_added log (entry.Done op) done) home);
  }
