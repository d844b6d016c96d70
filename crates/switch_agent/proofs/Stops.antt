-- Commands that were not carried out, and what stands there in their place.
use Rattle.std.proofs.Common.{◌≡◌, ℕ, List, [], ◌++◌, length, Option, Some, None, false, refl, sym, ap, subst, arith, take, Ok, ◌∙◌}
use Rattle.std.proofs.lemmas.List.{append-nil, take_all}
use Rattle.std.proofs.lemmas.List.Elements.{All-nil}
use Rattle.wan_edge.specs.Frames.{CommandFrame, IsCommand, command_bytes}
use Rattle.wan_edge.proofs.Chains.{Appends-nothing}
use Rattle.wire_frames.specs.Reading.{GoesOn, IsCommandFault, Reader, Reads}
use Rattle.wire_frames.specs.declared.fault.FrameFault.{FrameFault}
use Rattle.switch_agent.specs.Items.{Items, holding, seen}
use Rattle.switch_agent.specs.Serving.{CarriesOut, Ends}
use Rattle.switch_agent.specs.declared.serve_fault.ServeFault.{ServeFault}
use Rattle.switch_agent.specs.declared.serve_fault.ServeFault.TheVariants.{Frame, Memory}

-- no command was carried out
pub nothing_carried : (items : Items) (bytes : List ℕ) (fault : Option ServeFault) (GoesOn : List ℕ → Type 0) (written : Option (List ℕ)) → Ends fault GoesOn items bytes written [] written → CarriesOut items items bytes (record { commands = 0; fault = fault }) GoesOn written written
nothing_carried items bytes fault GoesOn written ends = record { commands = []; rest = bytes; whole = record { fit = All-nil IsCommand; parts = refl }; counted = refl; holds = refl; items_seen = λ item. refl; ends = ends }

-- all of the piece was taken, and it ends no command
pub none_carried : (items : Items) (kept piece : List ℕ) (n : ℕ) (found : Option CommandFrame) (now : Reader) (written : Option (List ℕ)) → found ≡ None → Reads command_bytes IsCommand IsCommandFault kept piece (Ok (n, found)) now
    → CarriesOut items items (kept ++ take n piece) (record { commands = 0; fault = None }) (λ rest. rest ≡ now.kept) written written
none_carried items kept piece n found now written is read =
    let on : GoesOn command_bytes IsCommand IsCommandFault kept piece n now = subst (λ (f : Option CommandFrame). Reads command_bytes IsCommand IsCommandFault kept piece (Ok (n, f)) now) is read in
    nothing_carried items (kept ++ take n piece) None (λ rest. rest ≡ now.kept) written (ap (λ (xs : List ℕ). kept ++ xs) (take_all n piece (omega (arith, on.all))) ∙ sym (ap (λ (r : Reader). r.kept) on.now_longer), Appends-nothing written)

-- at a byte of the piece stands a fault
pub fault_carried : (items : Items) (kept piece : List ℕ) (fault : FrameFault) (P : List ℕ → Type 0) (written : Option (List ℕ)) → IsCommandFault (kept ++ piece) fault
    → CarriesOut items items (kept ++ take (length piece) piece) (record { commands = 0; fault = Some (Frame fault) }) P written written
fault_carried items kept piece fault P written at_byte =
    nothing_carried items (kept ++ take (length piece) piece) (Some (Frame fault)) P written (subst (λ (xs : List ℕ). IsCommandFault (kept ++ xs) fault) (sym (take_all (length piece) piece (omega arith))) at_byte, Appends-nothing written)

-- a command that wasn't carried out, for lack of memory
pub no_room : (a b : Items) (c : CommandFrame) (written : Option (List ℕ)) → IsCommand c → b ≡ a → seen a c.1.item ≡ false
    → CarriesOut a b (command_bytes c) (record { commands = 0; fault = Some Memory }) (λ rest. rest ≡ []) written written
no_room a b c written fits same unseen = record {
  commands = [];
  rest = command_bytes c;
  whole = record { fit = All-nil IsCommand; parts = refl };
  counted = refl;
  holds = ap holding same;
  items_seen = λ item. ap (λ (items : Items). seen items item) same;
  ends = (
    record { command = c; fits = fits; unseen = ap (λ (items : Items). seen items c.1.item) same ∙ unseen; behind = []; parts = sym (append-nil (command_bytes c)) },
    Appends-nothing written,
  );
}
