-- What a read of a guest gave, and what came of it.
use Rattle.std.proofs.Common.{◌≡◌, ◌∙◌, ℕ, ◌-◌, ◌<◌, ◌≤◌, ◌==◌, Bool, true, false, List, [], ◌++◌, length, take, Option, Some, None, refl, sym, ap, ap₂, subst, arith}
use Rattle.std.specs.Prelude.{IfSome}
use Rattle.std.proofs.lemmas.Bool.{eqb-true}
use Rattle.std.proofs.lemmas.List.{append-nil, length-take-le}
use Rattle.lists.proofs.Rows.{none_of_length_0}
use Rattle.wan_edge.specs.Streams.{Appends, FailsToRead, IsAtEnd, Reads, SinkTrace, SourceTrace, Takes, TakesFrom}
use Rattle.wan_edge.proofs.Chains.{Appends-nothing, TakesFrom-nothing}
use Rattle.switch_agent.specs.Serving.{IsOwnFault}
use Rattle.switch_agent.specs.ReadStates.{ReadSoFar}
use Rattle.switch_agent.specs.declared.serve_fault.ServeFault.{ServeFault}
use Rattle.switch_agent.specs.declared.serve_fault.ServeFault.TheVariants.{Frame, Long, Memory, Read, Write}
use Rattle.switch_agent.specs.declared.serve_fault.Served.{Served}
use Rattle.switch_agent.proofs.Pieces.{frame_read, long_read, long_write, memory_read, no_fault, some_left, write_read}
use Rattle.fenced_agent.specs.Agents.{FencedItems, fenced_holding}
use Rattle.agent_talks.specs.Serving.{CarriesOut, Ends, HearsBytes, HearsGuest, IsCutTermed, answered, heard_by, heard_on}
use Rattle.agent_talks.specs.declared.heard.Heard.{Heard}
use Rattle.agent_talks.proofs.Stops.{nothing_carried}

-- ---- what came of it

-- a serving with another end, where what stands after its commands allows it
recast : (a b : FencedItems) (bytes : List ℕ) (commands : ℕ) (fault fault_now : Option ServeFault) (P Q : List ℕ → Type 0) (w w' : Option (List ℕ))
    → ((rest xs : List ℕ) → Ends fault P b rest w xs w' → Ends fault_now Q b rest w xs w') → CarriesOut a b bytes (record { commands = commands; fault = fault }) P w w'
    → CarriesOut a b bytes (record { commands = commands; fault = fault_now }) Q w w'
recast a b bytes commands fault fault_now P Q w w' change carried = record {
  commands = carried.commands;
  rest = carried.rest;
  whole = carried.whole;
  counted = carried.counted;
  holds = carried.holds;
  items_seen = carried.items_seen;
  ends = change carried.rest (answered (fenced_holding a) carried.commands) carried.ends;
}

abbrev pub talk_of : List ℕ → ℕ → ReadSoFar
talk_of kept room = record { kept = kept; room = room }

module _ (a b : FencedItems) (kept piece kept_now : List ℕ) (room : ℕ) (left w w' : Option (List ℕ)) where
  -- without a fault
  on_heard : (commands : ℕ) (full : Bool) → (room - length piece == 0) ≡ full → CarriesOut a b (kept ++ piece) (record { commands = commands; fault = None }) (λ rest. rest ≡ kept_now) w w'
      → IsCutTermed kept_now → commands ≤ length piece → 0 < length piece → HearsBytes a b (talk_of kept room) piece (heard_on commands kept_now (room - length piece) full) left w w'
  unfolding recast
  on_heard commands true is carried cut few some = record {
    carried = recast a b (kept ++ piece) commands None (Some Long) (λ rest. rest ≡ kept_now) IsCutTermed w w' (λ rest xs ends. (subst IsCutTermed (sym ends.0) cut, ends.1)) carried;
    few = few;
    further = (refl, eqb-true (room - length piece) 0 is);
  }
  on_heard commands false isnt carried cut few some = record {
    carried = recast a b (kept ++ piece) commands None None (λ rest. rest ≡ kept_now) IsCutTermed w w' (λ rest xs ends. (subst IsCutTermed (sym ends.0) cut, ends.1)) carried;
    few = few;
    further = (some, some_left (room - length piece) isnt, ap (λ (k : List ℕ). talk_of k (room - length piece)) (sym carried.ends.0));
  }

  by_fault : (commands : ℕ) (fault : Option ServeFault) → CarriesOut a b (kept ++ piece) (record { commands = commands; fault = fault }) (λ rest. rest ≡ kept_now) w w'
      → IfSome fault IsOwnFault → (fault ≡ None → IsCutTermed kept_now) → commands ≤ length piece → 0 < length piece
      → HearsBytes a b (talk_of kept room) piece (heard_by commands fault kept_now (room - length piece)) left w w'
  by_fault commands None carried own cut few some = on_heard commands (room - length piece == 0) refl carried (cut refl) few some
  by_fault commands (Some (Frame fault)) carried own cut few some = record {
    carried = recast a b (kept ++ piece) commands (Some (Frame fault)) (Some (Frame fault)) (λ rest. rest ≡ kept_now) IsCutTermed w w' (λ rest xs ends. ends) carried;
    few = few;
    further = refl;
  }
  by_fault commands (Some Read) carried own cut few some = absurd own
  by_fault commands (Some Write) carried own cut few some = record {
    carried = recast a b (kept ++ piece) commands (Some Write) (Some Write) (λ rest. rest ≡ kept_now) IsCutTermed w w' (λ rest xs ends. ends) carried;
    few = few;
    further = refl;
  }
  by_fault commands (Some Long) carried own cut few some = absurd own
  by_fault commands (Some Memory) carried own cut few some = record {
    carried = recast a b (kept ++ piece) commands (Some Memory) (Some Memory) (λ rest. rest ≡ kept_now) IsCutTermed w w' (λ rest xs ends. ends) carried;
    few = few;
    further = refl;
  }

  -- bytes were served
  pub bytes_heard : (served : Served) → CarriesOut a b (kept ++ piece) served (λ rest. rest ≡ kept_now) w w' → IfSome served.fault IsOwnFault → (served.fault ≡ None → IsCutTermed kept_now)
      → served.commands ≤ length piece → 0 < length piece → HearsBytes a b (talk_of kept room) piece (heard_by served.commands served.fault kept_now (room - length piece)) left w w'
  bytes_heard served carried own cut few some = by_fault served.commands served.fault carried own cut few some

-- the end came
pub end_heard : (items : FencedItems) (kept piece : List ℕ) (room : ℕ) (left w : Option (List ℕ)) (heard : Heard) → heard ≡ record { served = record { commands = 0; fault = None }; talk = None } → IsCutTermed kept → length piece ≡ 0
    → (length piece ≡ 0 → IsAtEnd left) → HearsBytes items items (talk_of kept room) piece heard left w w
end_heard items kept piece room left w heard is cut none at_end =
    let all : kept ++ piece ≡ kept = ap (λ (xs : List ℕ). kept ++ xs) (none_of_length_0 piece none) ∙ append-nil kept in
    subst (λ (h : Heard). HearsBytes items items (talk_of kept room) piece h left w w) (sym is) (record {
      carried = subst (λ (bytes : List ℕ). CarriesOut items items bytes (record { commands = 0; fault = None }) IsCutTermed w w) (sym all)
          (nothing_carried items kept None IsCutTermed w (cut, Appends-nothing w));
      few = omega arith;
      further = (none, at_end none);
    })

-- a fault of the bytes or of writing is none of reading
on_unread : (commands : ℕ) (kept : List ℕ) (room : ℕ) (full : Bool) → (heard_on commands kept room full).served.fault ≡ Some Read → ⊥
on_unread commands kept room true is = long_read is
on_unread commands kept room false is = no_fault None Read refl is

pub never_read : (commands : ℕ) (fault : Option ServeFault) (kept : List ℕ) (room : ℕ) → IfSome fault IsOwnFault → (heard_by commands fault kept room).served.fault ≡ Some Read → ⊥
never_read commands None kept room own is = on_unread commands kept room (room == 0) is
never_read commands (Some (Frame fault)) kept room own is = frame_read fault is
never_read commands (Some Read) kept room own is = absurd own
never_read commands (Some Write) kept room own is = write_read is
never_read commands (Some Long) kept room own is = absurd own
never_read commands (Some Memory) kept room own is = memory_read is

-- and one of writing was one of the serving
on_unwritten : (commands : ℕ) (kept : List ℕ) (room : ℕ) (full : Bool) → (heard_on commands kept room full).served.fault ≡ Some Write → ⊥
on_unwritten commands kept room true is = long_write is
on_unwritten commands kept room false is = no_fault None Write refl is

pub was_write : (commands : ℕ) (fault : Option ServeFault) (kept : List ℕ) (room : ℕ) → (heard_by commands fault kept room).served.fault ≡ Some Write → fault ≡ Some Write
was_write commands None kept room is = absurd (on_unwritten commands kept room (room == 0) is)
was_write commands (Some fault) kept room is = is

-- ---- one read of a guest

-- bytes came, or its end
pub guest_heard : (a b : FencedItems) (talk : ReadSoFar) (kept : List ℕ) (room n : ℕ) (buffer : List ℕ) (source mid now : SourceTrace) (heard : Heard) (sink mid_sink : SinkTrace) (w' : Option (List ℕ))
    → kept ≡ talk.kept → room ≡ talk.room → now ≡ mid → mid_sink ≡ sink → Reads n buffer source mid → n ≤ room → n ≤ length buffer
    → HearsBytes a b (talk_of kept room) (take n buffer) heard mid.left mid_sink.written w' → HearsGuest a b talk source now heard sink.written w'
guest_heard a b talk kept room n buffer source mid now heard sink mid_sink w' kept_is room_is unread unwritten reads few inside hears = record {
  bytes = take n buffer;
  takes = subst (λ (s : SourceTrace). Takes (take n buffer) source s) (sym unread) reads.takes;
  within = omega (arith, length-take-le n buffer inside, few, room_is);
  hears = subst (λ (t : ReadSoFar). HearsBytes a b t (take n buffer) heard now.left sink.written w') (ap₂ talk_of kept_is room_is)
      (subst (λ (s : SourceTrace). HearsBytes a b (talk_of kept room) (take n buffer) heard s.left sink.written w') (sym unread)
      (subst (λ (s : SinkTrace). HearsBytes a b (talk_of kept room) (take n buffer) heard mid.left s.written w') unwritten hears));
}

-- the read failed
pub guest_failed : (items : FencedItems) (talk : ReadSoFar) (kept : List ℕ) (source now : SourceTrace) (heard : Heard) (sink sink_now : SinkTrace)
    → kept ≡ talk.kept → IsCutTermed kept → sink_now ≡ sink → FailsToRead source now → heard ≡ record { served = record { commands = 0; fault = Some Read }; talk = None }
    → HearsGuest items items talk source now heard sink.written sink_now.written
guest_failed items talk kept source now heard sink sink_now kept_is cut unwritten failed is =
    let cut_talk : IsCutTermed (talk.kept ++ []) = subst IsCutTermed (kept_is ∙ sym (append-nil talk.kept)) cut in
    subst (λ (s : SinkTrace). HearsGuest items items talk source now heard sink.written s.written) (sym unwritten)
    (subst (λ (h : Heard). HearsGuest items items talk source now h sink.written sink.written) (sym is) (record {
      bytes = [];
      takes = record {
        left = subst (λ (left : Option (List ℕ)). TakesFrom source.left [] left) (sym failed.left) (TakesFrom-nothing source.left);
        taken = subst (λ (taken : Option (List ℕ)). Appends source.taken [] taken) (sym failed.taken) (Appends-nothing source.taken);
      };
      within = omega arith;
      hears = record {
        carried = nothing_carried items (talk.kept ++ []) (Some Read) IsCutTermed sink.written (cut_talk, Appends-nothing sink.written);
        few = omega arith;
        further = (refl, refl);
      };
    }))
