-- What a read of a guest gave, and what came of it.
use Rattle.std.proofs.Common.{◌≡◌, ◌∙◌, ℕ, zero, suc, ◌-◌, ◌<◌, ◌≤◌, ◌==◌, Bool, true, false, true≢false, List, [], ◌++◌, length, take, Option, Some, None, Result, Ok, Err, refl, sym, ap, ap₂, subst, arith}
use Rattle.std.specs.Prelude.{IfOk, IfSome}
use Rattle.std.proofs.lemmas.Bool.{eqb-true}
use Rattle.std.proofs.lemmas.List.{append-nil, length-take-le, take-append-le}
use Rattle.lists.proofs.Rows.{none_of_length_0}
use Rattle.wan_edge.specs.Frames.{IsCutCommand}
use Rattle.wan_edge.specs.Streams.{Appends, FailsToRead, IsAtEnd, Reads, SinkTrace, SourceTrace, Takes, TakesFrom}
use Rattle.wan_edge.proofs.Chains.{Appends-nothing, TakesFrom-nothing}
use Rattle.wire_frames.specs.declared.fault.FrameFault.{FrameFault}
use Rattle.switch_agent.specs.Items.{Items, holding}
use Rattle.switch_agent.specs.Serving.{CarriesOut, Ends, HearsBytes, HearsGuest, IsOwnFault, answered, heard_by, heard_on}
use Rattle.switch_agent.specs.ReadStates.{ReadSoFar}
use Rattle.switch_agent.specs.declared.guest_read.GuestRead.{GuestRead}
use Rattle.switch_agent.specs.declared.serve_fault.ServeFault.{ServeFault}
use Rattle.switch_agent.specs.declared.serve_fault.ServeFault.TheVariants.{Frame, Long, Memory, Read, Write}
use Rattle.switch_agent.specs.declared.serve_fault.Served.{Served}
use Rattle.switch_agent.proofs.Stops.{nothing_carried}

-- ---- what was read

-- what came stands at the front of the buffer
pub read_front : {E : Type 0} (r : Result ℕ E) (k : ℕ) (into rest : List ℕ) (a b : SourceTrace) → length into ≡ k → IfOk r (λ n. n ≤ k) → IfOk r (λ n. Reads n into a b) → IfOk r (λ n. Reads n (into ++ rest) a b)
read_front (Ok n) k into rest a b long within reads =
    record { takes = subst (λ (bytes : List ℕ). Takes bytes a b) (sym (take-append-le n into rest (omega (arith, long, within)))) reads.takes; at_end = reads.at_end }
read_front (Err e) k into rest a b long within reads = tt

-- and is no more than might come
pub read_within : {E : Type 0} (r : Result ℕ E) (k room long : ℕ) → k ≤ room → k ≤ long → IfOk r (λ n. n ≤ k) → IfOk r (λ n. (n ≤ room) × (n ≤ long))
read_within (Ok n) k room long few inside within = (omega (arith, few, within), omega (arith, inside, within))
read_within (Err e) k room long few inside within = tt

-- the end before a read of nothing is the end after it
ended : (before now : Option (List ℕ)) → TakesFrom before [] now → IsAtEnd before → IsAtEnd now
ended before None takes at_end = tt
ended before (Some rest) takes at_end = subst IsAtEnd takes at_end

pub read_end : (n : ℕ) (buffer : List ℕ) (a b : SourceTrace) → Reads n buffer a b → n ≤ length buffer → length (take n buffer) ≡ 0 → IsAtEnd b.left
read_end n buffer a b reads inside none =
    let zero_read : n ≡ 0 = omega (arith, length-take-le n buffer inside, none) in
    ended a.left b.left (subst (λ (bytes : List ℕ). TakesFrom a.left bytes b.left) (none_of_length_0 (take n buffer) none) reads.takes.left) (reads.at_end zero_read)

-- ---- what came of it

-- a serving with another end, where what stands after its commands allows it
recast : (a b : Items) (bytes : List ℕ) (commands : ℕ) (fault fault_now : Option ServeFault) (P Q : List ℕ → Type 0) (w w' : Option (List ℕ))
    → ((rest xs : List ℕ) → Ends fault P b rest w xs w' → Ends fault_now Q b rest w xs w') → CarriesOut a b bytes (record { commands = commands; fault = fault }) P w w'
    → CarriesOut a b bytes (record { commands = commands; fault = fault_now }) Q w w'
recast a b bytes commands fault fault_now P Q w w' change carried = record {
  commands = carried.commands;
  rest = carried.rest;
  whole = carried.whole;
  counted = carried.counted;
  holds = carried.holds;
  items_seen = carried.items_seen;
  ends = change carried.rest (answered (holding a) carried.commands) carried.ends;
}

pub some_left : (n : ℕ) → (n == 0) ≡ false → 0 < n
some_left zero isnt = absurd (true≢false isnt)
some_left (suc n) isnt = omega arith

abbrev pub talk_of : List ℕ → ℕ → ReadSoFar
talk_of kept room = record { kept = kept; room = room }

module _ (a b : Items) (kept piece kept_now : List ℕ) (room : ℕ) (left w w' : Option (List ℕ)) where
  -- without a fault
  on_heard : (commands : ℕ) (full : Bool) → (room - length piece == 0) ≡ full → CarriesOut a b (kept ++ piece) (record { commands = commands; fault = None }) (λ rest. rest ≡ kept_now) w w'
      → IsCutCommand kept_now → commands ≤ length piece → 0 < length piece → HearsBytes a b (talk_of kept room) piece (heard_on commands kept_now (room - length piece) full) left w w'
  unfolding recast
  on_heard commands true is carried cut few some = record {
    carried = recast a b (kept ++ piece) commands None (Some Long) (λ rest. rest ≡ kept_now) IsCutCommand w w' (λ rest xs ends. (subst IsCutCommand (sym ends.0) cut, ends.1)) carried;
    few = few;
    further = (refl, eqb-true (room - length piece) 0 is);
  }
  on_heard commands false isnt carried cut few some = record {
    carried = recast a b (kept ++ piece) commands None None (λ rest. rest ≡ kept_now) IsCutCommand w w' (λ rest xs ends. (subst IsCutCommand (sym ends.0) cut, ends.1)) carried;
    few = few;
    further = (some, some_left (room - length piece) isnt, ap (λ (k : List ℕ). talk_of k (room - length piece)) (sym carried.ends.0));
  }

  by_fault : (commands : ℕ) (fault : Option ServeFault) → CarriesOut a b (kept ++ piece) (record { commands = commands; fault = fault }) (λ rest. rest ≡ kept_now) w w'
      → IfSome fault IsOwnFault → (fault ≡ None → IsCutCommand kept_now) → commands ≤ length piece → 0 < length piece
      → HearsBytes a b (talk_of kept room) piece (heard_by commands fault kept_now (room - length piece)) left w w'
  by_fault commands None carried own cut few some = on_heard commands (room - length piece == 0) refl carried (cut refl) few some
  by_fault commands (Some (Frame fault)) carried own cut few some = record {
    carried = recast a b (kept ++ piece) commands (Some (Frame fault)) (Some (Frame fault)) (λ rest. rest ≡ kept_now) IsCutCommand w w' (λ rest xs ends. ends) carried;
    few = few;
    further = refl;
  }
  by_fault commands (Some Read) carried own cut few some = absurd own
  by_fault commands (Some Write) carried own cut few some = record {
    carried = recast a b (kept ++ piece) commands (Some Write) (Some Write) (λ rest. rest ≡ kept_now) IsCutCommand w w' (λ rest xs ends. ends) carried;
    few = few;
    further = refl;
  }
  by_fault commands (Some Long) carried own cut few some = absurd own
  by_fault commands (Some Memory) carried own cut few some = record {
    carried = recast a b (kept ++ piece) commands (Some Memory) (Some Memory) (λ rest. rest ≡ kept_now) IsCutCommand w w' (λ rest xs ends. ends) carried;
    few = few;
    further = refl;
  }

  -- bytes were served
  pub bytes_heard : (served : Served) → CarriesOut a b (kept ++ piece) served (λ rest. rest ≡ kept_now) w w' → IfSome served.fault IsOwnFault → (served.fault ≡ None → IsCutCommand kept_now)
      → served.commands ≤ length piece → 0 < length piece → HearsBytes a b (talk_of kept room) piece (heard_by served.commands served.fault kept_now (room - length piece)) left w w'
  bytes_heard served carried own cut few some = by_fault served.commands served.fault carried own cut few some

-- the end came
pub end_heard : (items : Items) (kept piece : List ℕ) (room : ℕ) (left w : Option (List ℕ)) (heard : GuestRead) → heard ≡ record { served = record { commands = 0; fault = None }; talk = None } → IsCutCommand kept → length piece ≡ 0
    → (length piece ≡ 0 → IsAtEnd left) → HearsBytes items items (talk_of kept room) piece heard left w w
end_heard items kept piece room left w heard is cut none at_end =
    let all : kept ++ piece ≡ kept = ap (λ (xs : List ℕ). kept ++ xs) (none_of_length_0 piece none) ∙ append-nil kept in
    subst (λ (h : GuestRead). HearsBytes items items (talk_of kept room) piece h left w w) (sym is) (record {
      carried = subst (λ (bytes : List ℕ). CarriesOut items items bytes (record { commands = 0; fault = None }) IsCutCommand w w) (sym all)
          (nothing_carried items kept None IsCutCommand w (cut, Appends-nothing w));
      few = omega arith;
      further = (none, at_end none);
    })

-- one fault isn't another, and no fault is none of them
pub long_read : Some Long ≡ Some Read → ⊥
long_read is = cc

pub write_read : Some Write ≡ Some Read → ⊥
write_read is = cc

pub memory_read : Some Memory ≡ Some Read → ⊥
memory_read is = cc

pub frame_read : (fault : FrameFault) → Some (Frame fault) ≡ Some Read → ⊥
frame_read fault is = cc

pub no_fault : (found : Option ServeFault) (fault : ServeFault) → found ≡ None → found ≡ Some fault → ⊥
no_fault found fault none some = let e : None ≡ Some fault = sym none ∙ some in cc

pub long_write : Some Long ≡ Some Write → ⊥
long_write is = cc

-- a fault of the bytes or of writing is none of reading
on_unread : (commands : ℕ) (kept : List ℕ) (room : ℕ) (full : Bool) → (heard_on commands kept room full).served.fault ≡ Some Read → ⊥
on_unread commands kept room true is = long_read is
on_unread commands kept room false is = no_fault None Read refl is

pub never_read : (commands : ℕ) (fault : Option ServeFault) (kept : List ℕ) (room : ℕ) → IfSome fault IsOwnFault → (heard_by commands fault kept room).served.fault ≡ Some Read → ⊥
never_read commands None kept room own is = on_unread commands kept room (room == 0) is
never_read commands (Some (Frame fault)) kept room own is = frame_read fault is
never_read commands (Some Read) kept room own is = absurd own
never_read commands (Some Write) kept room own is = write_read is
never_read commands (Some Long) kept room own is = absurd own
never_read commands (Some Memory) kept room own is = memory_read is

-- and one of writing was one of the serving
on_unwritten : (commands : ℕ) (kept : List ℕ) (room : ℕ) (full : Bool) → (heard_on commands kept room full).served.fault ≡ Some Write → ⊥
on_unwritten commands kept room true is = long_write is
on_unwritten commands kept room false is = no_fault None Write refl is

pub was_write : (commands : ℕ) (fault : Option ServeFault) (kept : List ℕ) (room : ℕ) → (heard_by commands fault kept room).served.fault ≡ Some Write → fault ≡ Some Write
was_write commands None kept room is = absurd (on_unwritten commands kept room (room == 0) is)
was_write commands (Some fault) kept room is = is

pub read_no_write : (fault : Option ServeFault) → fault ≡ Some Read → fault ≡ Some Write → ⊥
read_no_write fault read write = write_read (sym write ∙ read)

-- ---- one read of a guest

-- bytes came, or its end
pub guest_heard : (a b : Items) (talk : ReadSoFar) (kept : List ℕ) (room n : ℕ) (buffer : List ℕ) (source mid now : SourceTrace) (heard : GuestRead) (sink mid_sink : SinkTrace) (w' : Option (List ℕ))
    → kept ≡ talk.kept → room ≡ talk.room → now ≡ mid → mid_sink ≡ sink → Reads n buffer source mid → n ≤ room → n ≤ length buffer
    → HearsBytes a b (talk_of kept room) (take n buffer) heard mid.left mid_sink.written w' → HearsGuest a b talk source now heard sink.written w'
guest_heard a b talk kept room n buffer source mid now heard sink mid_sink w' kept_is room_is unread unwritten reads few inside hears = record {
  bytes = take n buffer;
  takes = subst (λ (s : SourceTrace). Takes (take n buffer) source s) (sym unread) reads.takes;
  within = omega (arith, length-take-le n buffer inside, few, room_is);
  hears = subst (λ (t : ReadSoFar). HearsBytes a b t (take n buffer) heard now.left sink.written w') (ap₂ talk_of kept_is room_is)
      (subst (λ (s : SourceTrace). HearsBytes a b (talk_of kept room) (take n buffer) heard s.left sink.written w') (sym unread)
      (subst (λ (s : SinkTrace). HearsBytes a b (talk_of kept room) (take n buffer) heard mid.left s.written w') unwritten hears));
}

-- the read failed
pub guest_failed : (items : Items) (talk : ReadSoFar) (kept : List ℕ) (source now : SourceTrace) (heard : GuestRead) (sink sink_now : SinkTrace)
    → kept ≡ talk.kept → IsCutCommand kept → sink_now ≡ sink → FailsToRead source now → heard ≡ record { served = record { commands = 0; fault = Some Read }; talk = None }
    → HearsGuest items items talk source now heard sink.written sink_now.written
guest_failed items talk kept source now heard sink sink_now kept_is cut unwritten failed is =
    let cut_talk : IsCutCommand (talk.kept ++ []) = subst IsCutCommand (kept_is ∙ sym (append-nil talk.kept)) cut in
    subst (λ (s : SinkTrace). HearsGuest items items talk source now heard sink.written s.written) (sym unwritten)
    (subst (λ (h : GuestRead). HearsGuest items items talk source now h sink.written sink.written) (sym is) (record {
      bytes = [];
      takes = record {
        left = subst (λ (left : Option (List ℕ)). TakesFrom source.left [] left) (sym failed.left) (TakesFrom-nothing source.left);
        taken = subst (λ (taken : Option (List ℕ)). Appends source.taken [] taken) (sym failed.taken) (Appends-nothing source.taken);
      };
      within = omega arith;
      hears = record {
        carried = nothing_carried items (talk.kept ++ []) (Some Read) IsCutCommand sink.written (cut_talk, Appends-nothing sink.written);
        few = omega arith;
        further = (refl, refl);
      };
    }))
