-- Commands that were not carried out, and what stands there in their place.
use Rattle.std.proofs.Common.{◌≡◌, ◌≤◌, ℕ, List, [], ◌++◌, length, Option, Some, None, false, refl, sym, ap, subst, arith, take, Ok, ◌∙◌}
use Rattle.std.proofs.lemmas.List.{append-nil, take_all}
use Rattle.std.proofs.lemmas.List.Elements.{All-nil}
use Rattle.wan_edge.proofs.Chains.{Appends-nothing}
use Rattle.fenced_agent.specs.Agents.{FencedItems, fenced_holding}
use Rattle.fenced_agent.specs.Frames.{IsTermedCommand, TermedCommand, term_of, termed_bytes}
use Rattle.fenced_wire.specs.Reading.{Ends as EndsCommand, GoesOn, IsTermedFault, ReadsTermed, Termed, all_kept}
use Rattle.wire_frames.specs.declared.fault.FrameFault.{FrameFault}
use Rattle.switch_agent.specs.Items.{seen}
use Rattle.switch_agent.specs.declared.serve_fault.ServeFault.{ServeFault}
use Rattle.switch_agent.specs.declared.serve_fault.ServeFault.TheVariants.{Frame, Memory}
use Rattle.wire_frames.proofs.Cuts.{cut_none}
use Rattle.agent_talks.specs.Serving.{CarriesOut, Ends, IsCutTermed}

-- before the first byte
pub cut_nothing : IsCutTermed []
cut_nothing = record {
  frame = record { term = None; command = cut_none.frame };
  fits = record { in_term = omega arith; whole = cut_none.fits };
  missing = cut_none.missing;
  some = cut_none.some;
  begins = cut_none.begins;
}

-- no command was carried out
pub nothing_carried : (items : FencedItems) (bytes : List ℕ) (fault : Option ServeFault) (GoesOn : List ℕ → Type 0) (written : Option (List ℕ)) → Ends fault GoesOn items bytes written [] written → CarriesOut items items bytes (record { commands = 0; fault = fault }) GoesOn written written
nothing_carried items bytes fault GoesOn written ends = record { commands = []; rest = bytes; whole = record { fit = All-nil IsTermedCommand; parts = refl }; counted = refl; holds = refl; items_seen = λ item. refl; ends = ends }

-- bytes were taken, and they end no command
pub none_carried : (items : FencedItems) (before : Termed) (piece : List ℕ) (n : ℕ) (found : Option TermedCommand) (now : Termed) (written : Option (List ℕ)) → found ≡ None → ReadsTermed before piece (Ok (n, found)) now
    → CarriesOut items items (all_kept before ++ take n piece) (record { commands = 0; fault = None }) (λ rest. rest ≡ all_kept now) written written
none_carried items before piece n found now written is read =
    let on : GoesOn before piece n now = subst (λ (f : Option TermedCommand). ReadsTermed before piece (Ok (n, f)) now) is read in
    nothing_carried items (all_kept before ++ take n piece) None (λ rest. rest ≡ all_kept now) written (sym on.longer, Appends-nothing written)

-- after a whole command nothing is kept
pub ends_cut : (before : Termed) (piece : List ℕ) (n : ℕ) (found : Option TermedCommand) (c : TermedCommand) (now : Termed) → found ≡ Some c → ReadsTermed before piece (Ok (n, found)) now → IsCutTermed (all_kept now)
ends_cut before piece n found c now is read =
    let ends : EndsCommand before piece n c now = subst (λ (f : Option TermedCommand). ReadsTermed before piece (Ok (n, f)) now) is read in
    subst IsCutTermed (sym ends.none_kept) cut_nothing

-- at a byte of the piece stands a fault
pub fault_carried : (items : FencedItems) (kept piece : List ℕ) (fault : FrameFault) (P : List ℕ → Type 0) (written : Option (List ℕ)) → IsTermedFault (kept ++ piece) fault
    → CarriesOut items items (kept ++ take (length piece) piece) (record { commands = 0; fault = Some (Frame fault) }) P written written
fault_carried items kept piece fault P written at_byte =
    nothing_carried items (kept ++ take (length piece) piece) (Some (Frame fault)) P written (subst (λ (xs : List ℕ). IsTermedFault (kept ++ xs) fault) (sym (take_all (length piece) piece (omega arith))) at_byte, Appends-nothing written)

-- a command that wasn't carried out, for lack of memory
pub no_room : (a b : FencedItems) (c : TermedCommand) (written : Option (List ℕ)) → IsTermedCommand c → b ≡ a → seen a.items c.command.1.item ≡ false → a.floor ≤ term_of c.term
    → CarriesOut a b (termed_bytes c) (record { commands = 0; fault = Some Memory }) (λ rest. rest ≡ []) written written
no_room a b c written fits same unseen above = record {
  commands = [];
  rest = termed_bytes c;
  whole = record { fit = All-nil IsTermedCommand; parts = refl };
  counted = refl;
  holds = ap fenced_holding same;
  items_seen = λ item. ap (λ (items : FencedItems). seen items.items item) same;
  ends = (
    record { command = c; fits = fits; unseen = ap (λ (items : FencedItems). seen items.items c.command.1.item) same ∙ unseen; above = subst (λ (items : FencedItems). items.floor ≤ term_of c.term) (sym same) above; behind = []; parts = sym (append-nil (termed_bytes c)) },
    Appends-nothing written,
  );
}
