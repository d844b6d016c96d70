-- What an agent's file is read as when it is opened, and what making it and closing a cut batch leave.
use Rattle.std.proofs.Common.{◌≡◌, ◌≢◌, inl, inr, ◌⊎◌, ◌==◌, ◌&&◌, nat_le, nat_lt, if◌then◌else◌, Bool, true, false, ℕ, zero, suc, ◌+◌, ◌-◌, ◌<◌, ◌≤◌, List, [], ◌∷◌, ◌++◌, length, take, drop, get_or, replicate, Option, Some, None, IfSome, refl, sym, subst, ◌∙◌, ap, arith, take-append-drop}
use Rattle.std.proofs.lemmas.Bool.{cases_eq, eq-eqb, eqb-true}
use Rattle.std.proofs.lemmas.Bool.Decides.{nat_tests}
use Rattle.std.proofs.lemmas.List.{append-nil, get_or-drop, length-take-le}
use Rattle.fenced_agent.specs.Agents.{FencedHoldings}
use Rattle.disk_model.specs.Crashes.{Holds, IsDurable}
use Rattle.disk_model.specs.Moments.{LeavesOnly}
use Rattle.disk_model.specs.Traces.{DiskTrace}
use Rattle.disk_model.specs.Whole.{IsQuiet}
use Rattle.disk_model.specs.Writes.{Torn, written}
use Rattle.disk_model.proofs.Parting.{Torn-byte, Torn-drop}
use Rattle.disk_model.proofs.Running.{LeavesOnly-chain, LeavesOnly-weaker}
use Rattle.disk_model.proofs.Tearing.{Torn-written}
use Rattle.disk_model.proofs.FourBytes.{byte_first, written_one}
use Rattle.agent_state.specs.Batches.{batches_of, open_gate}
use Rattle.agent_state.specs.Images.{batches_in, first_start, is_state, live_start, made, made_length, state_kind}
use Rattle.disk_model.specs.Numbers.{byte_at, number_4}
use Rattle.agent_state.specs.Opened.{HasLive, IsBlank, IsFound, ReadsAlike, Walks, batch_at}
use Rattle.agent_state.specs.States.{HasPart}
use Rattle.agent_state.specs.Stored.{IsKept, IsReadAs, home_of, nothing_yet}
use Rattle.agent_state.specs.declared.place.Place.{Place}
use Rattle.agent_state.proofs.Heads.{long_image, part_apart, part_reads, place_low}
use Rattle.agent_state.proofs.Reading.{Stands-nothing, batches_closed}
use Rattle.agent_state.proofs.Walked.{none_behind}

-- ---- what was read

-- what was read of the disk is what a crash leaves
pub holds_read : (P : List ℕ → Type 0) (told now : Option (List ℕ)) (left : List ℕ → Type 0) (image : List ℕ) → now ≡ told → IfSome told (λ all. image ≡ all) → IsDurable now left → P image → Holds P now left
holds_read P told None left image same read durable holds = tt
holds_read P None (Some all) left image same read durable holds = absurd (cc same)
holds_read P (Some all) (Some bytes) left image same read durable holds =
    let is : image ≡ bytes = read ∙ sym (cc same) in
    (subst P is holds, durable)

-- and so is what was told
pub read_told : (P : List ℕ → Type 0) (told : Option (List ℕ)) (image : List ℕ) → IfSome told (λ all. image ≡ all) → P image → IfSome told P
read_told P None image read holds = tt
read_told P (Some all) image read holds = subst P read holds

module _ {D : Type 0} (trace : D → DiskTrace) where
  -- reading alone leaves what might have been left before
  pub quiet_run : (told : Option (List ℕ)) (old new : D) → IsQuiet trace old new → IfSome told (λ image. LeavesOnly trace old new (λ c. (trace old).may_leave c ⊎ ReadsAlike image c))
  quiet_run None old new quiet = tt
  quiet_run (Some image) old new quiet = LeavesOnly-weaker trace old new (trace old).may_leave (λ c. (trace old).may_leave c ⊎ ReadsAlike image c) quiet.run (λ c left. inl left)

-- ---- files without a batch

pub blank_reads : (image : List ℕ) → IsBlank image → batches_in image ≡ Some []
blank_reads image few =
    let short : nat_le (length image) made_length ≡ true = grind (arith, nat_tests, few) in
    ap (λ (b : Bool). if b then Some [] else if is_state image then Some (batches_of (drop (live_start image) image)) else None) short

pub blank_torn : (image c : List ℕ) → IsBlank image → Torn 0 11 image c → ReadsAlike image c
blank_torn image c few torn = blank_reads c (omega (arith, few, torn.no_longer)) ∙ sym (blank_reads image few)

drop_past : (n : ℕ) (l : List ℕ) → length l ≤ n → drop n l ≡ []
drop_past zero [] few = refl
drop_past zero (x ∷ l) few = absurd (omega (arith, few))
drop_past (suc n) [] few = refl
drop_past (suc n) (x ∷ l) few = drop_past n l (omega (arith, few))

made_written : (image : List ℕ) → IsBlank image → written 0 made image ≡ made
made_written image few =
    let gap : 0 - length image ≡ 0 = omega arith in
    ap (λ (k : ℕ). replicate k 0 ++ (made ++ drop 11 image)) gap ∙ ap (λ (l : List ℕ). made ++ l) (drop_past 11 image few) ∙ append-nil made

first_number : number_4 (drop 2 made) ≡ 10
unfolding number_4
first_number = refl

abbrev pub first_place : Place
first_place = record { second = false; start = 10; gate = 10; fresh = 1 }

made_kept : IsKept first_place nothing_yet made
made_kept = record {
  kept = [];
  rest = record {
    front = [];
    mark = 0;
    behind = [];
    has = record { kind = refl; side = refl; start = first_number; low = omega arith; some = omega arith; part = refl };
    stands = Stands-nothing;
    closed = λ same. absurd (omega (arith, same));
    at = refl;
    short = λ few. refl;
  };
  leaves = refl;
}

pub made_done : (place : Place) (bytes image : List ℕ) → place ≡ first_place → bytes ≡ made → IsBlank image → IsKept place nothing_yet (written 0 bytes image)
made_done place bytes image is are few =
    subst (λ (p : Place). IsKept p nothing_yet (written 0 bytes image)) (sym is)
    (subst (λ (b : List ℕ). IsKept first_place nothing_yet (written 0 b image)) (sym are)
    (subst (IsKept first_place nothing_yet) (sym (made_written image few)) made_kept))

-- ---- files with batches

-- an image of something else isn't read as anything
pub other_kind : (image : List ℕ) → made_length < length image → byte_at 0 image ≢ state_kind → batches_in image ≡ None
other_kind image long other =
    let some : nat_le (length image) made_length ≡ false = grind (arith, nat_tests, long) in
    let shut : (byte_at 0 image == state_kind) ≡ false = grind (arith, nat_tests, other) in
    ap (λ (b : Bool). if b then Some [] else if is_state image then Some (batches_of (drop (live_start image) image)) else None) some
    ∙ ap (λ (b : Bool). if b && (nat_le first_start (live_start image) && nat_lt (live_start image) (length image)) then Some (batches_of (drop (live_start image) image)) else None) shut

-- the image as it was walked through
pub found : (place next : Place) (gate : ℕ) (cut : Bool) (held : FencedHoldings) (image : List ℕ) → made_length < length image → HasLive place image → Walks (drop place.start image) gate held → batch_at (drop place.start image) gate ≡ None
    → next ≡ record place { gate = place.start + gate } → cut ≡ (byte_at gate (drop place.start image) == open_gate) → IsFound next cut held image
found place next gate cut held image long live walks none next_is cut_is =
    let part = drop place.start image in
    let there : IsFound (record place { gate = place.start + gate }) cut held image = record {
      front = take gate part;
      mark = byte_at gate part;
      behind = drop (gate + 1) part;
      has = record {
        kind = live.kind;
        side = live.side;
        start = live.start;
        low = live.low;
        some = omega arith;
        part = sym (take-append-drop gate part) ∙ ap (λ (l : List ℕ). take gate part ++ l) (byte_first part gate walks.within);
      };
      kept = walks.kept;
      stands = walks.stands;
      none = none_behind part gate none;
      at = omega (arith, length-take-le gate part (omega (arith, walks.within)));
      long = long;
      leaves = walks.leaves;
      is_cut = cut_is;
    } in
    subst (λ (p : Place). IsFound p cut held image) (sym next_is) there

pub found_reads : (place : Place) (cut : Bool) (held : FencedHoldings) (image : List ℕ) (is : IsFound place cut held image) → batches_in image ≡ Some is.kept
found_reads place cut held image is =
    part_reads (home_of place) is.front (is.mark ∷ is.behind) image is.kept is.has is.stands (λ few. absurd (omega (arith, few, is.long)))
    ∙ ap Some (ap (λ (l : List (List ℕ)). is.kept ++ l) is.none ∙ append-nil is.kept)

pub found_read : (place : Place) (cut : Bool) (held : FencedHoldings) (image : List ℕ) → IsFound place cut held image → IsReadAs image held
found_read place cut held image is = record { kept = is.kept; read = found_reads place cut held image is; leaves = is.leaves }

-- a gate that isn't open is closed
pub found_kept : (place : Place) (held : FencedHoldings) (image : List ℕ) → IsFound place false held image → IsKept place held image
found_kept place held image is =
    let shut : is.mark ≢ open_gate = λ open_is. absurd (cc (is.is_cut, eq-eqb is.mark open_gate open_is)) in
    record {
      kept = is.kept;
      rest = record {
        front = is.front;
        mark = is.mark;
        behind = is.behind;
        has = is.has;
        stands = is.stands;
        closed = shut;
        at = is.at;
        short = λ few. absurd (omega (arith, few, is.long));
      };
      leaves = is.leaves;
    }

-- the byte of a gate that was closed
byte_written : (place : Place) (image : List ℕ) → place.start ≤ place.gate → get_or (drop place.start (written place.gate (0 ∷ []) image)) (place.gate - place.start) 0 ≡ 0
byte_written place image order =
    let now = written place.gate (0 ∷ []) image in
    let is : place.start + (place.gate - place.start) ≡ place.gate = omega (arith, order) in
    get_or-drop place.start now (place.gate - place.start) 0 ∙ ap (λ (i : ℕ). get_or now i 0) is ∙ written_one place.gate 0 image

module _ (place : Place) (held : FencedHoldings) (image : List ℕ) (is : IsFound place true held image) where
  was_open : is.mark ≡ open_gate
  was_open = eqb-true is.mark open_gate (sym is.is_cut)

  -- the image with another byte for this gate
  closing_part : (c : List ℕ) → Torn place.gate 1 image c → HasPart (home_of place) is.front (get_or (drop place.start c) (place.gate - place.start) 0 ∷ is.behind) c
  closing_part c torn =
      let home = home_of place in
      let long = long_image home is.front (is.mark ∷ is.behind) image is.has in
      let at = place.gate - place.start in
      let at_is : at ≡ length is.front = omega (arith, is.at) in
      let inner = Torn-drop place.start place.gate 1 image c (omega (arith, is.at)) (omega (arith, long)) torn in
      let part = Torn-byte is.front is.behind (drop place.start c) is.mark at at_is (subst (λ (l : List ℕ). Torn at 1 l (drop place.start c)) is.has.part inner) in
      part_apart home is.front (is.mark ∷ is.behind) (get_or (drop place.start c) at 0 ∷ is.behind) image c place.gate 1 is.has torn
      (omega (arith, is.at, is.has.low)) (inl (omega (arith, is.at, is.has.low, place_low place.second))) (omega arith) part

  none_still : (byte : ℕ) → batches_of (byte ∷ is.behind) ≡ []
  none_still byte = elim (cases_eq byte open_gate) [
    | inl same ↦ ap (λ (b : ℕ). batches_of (b ∷ is.behind)) (same ∙ sym was_open) ∙ is.none
    | inr other ↦ batches_closed byte is.behind other
  ]

  pub closing_torn : (c : List ℕ) → Torn place.gate 1 image c → ReadsAlike image c
  closing_torn c torn =
      let byte = get_or (drop place.start c) (place.gate - place.start) 0 in
      part_reads (home_of place) is.front (byte ∷ is.behind) c is.kept (closing_part c torn) is.stands (λ few. absurd (omega (arith, few, is.long, torn.no_shorter)))
      ∙ ap Some (ap (λ (l : List (List ℕ)). is.kept ++ l) (none_still byte) ∙ append-nil is.kept)
      ∙ sym (found_reads place true held image is)

  pub closing_done : IsKept place held (written place.gate (0 ∷ []) image)
  closing_done =
      let now = written place.gate (0 ∷ []) image in
      let torn : Torn place.gate 1 image now = Torn-written place.gate (0 ∷ []) image in
      let has = closing_part now torn in
      let byte = get_or (drop place.start now) (place.gate - place.start) 0 in
      let zero_byte : byte ≡ 0 = byte_written place image (omega (arith, is.at)) in
      record {
        kept = is.kept;
        rest = record {
          front = is.front;
          mark = byte;
          behind = is.behind;
          has = has;
          stands = is.stands;
          closed = λ same. absurd (omega (arith, same, zero_byte));
          at = is.at;
          short = λ few. absurd (omega (arith, few, is.long, torn.no_shorter));
        };
        leaves = is.leaves;
      }

-- nothing is read of a file without a batch
pub nothing_read : (image : List ℕ) (held : FencedHoldings) → IsBlank image → held ≡ nothing_yet → IsReadAs image held
nothing_read image held few nothing = record { kept = []; read = blank_reads image few; leaves = nothing }

module _ {D : Type 0} (trace : D → DiskTrace) where
  -- reading, and then writes after which the file is read as before
  pub then_alike : (told between : Option (List ℕ)) (old mid new : D) → IsQuiet trace old mid → (trace old).bytes ≡ told → (trace mid).bytes ≡ between → IfSome between (λ image. LeavesOnly trace mid new (ReadsAlike image))
      → IfSome told (λ image. LeavesOnly trace old new (λ c. (trace old).may_leave c ⊎ ReadsAlike image c))
  then_alike None between old mid new quiet was is run = tt
  then_alike (Some image) None old mid new quiet was is run = absurd (cc (quiet.same, was, is))
  then_alike (Some image) (Some bytes) old mid new quiet was is run =
      let same : bytes ≡ image = cc (quiet.same, was, is) in
      LeavesOnly-chain trace old mid new (λ c. (trace old).may_leave c ⊎ ReadsAlike image c) (ReadsAlike bytes)
      (LeavesOnly-weaker trace old mid (trace old).may_leave (λ c. (trace old).may_leave c ⊎ ReadsAlike image c) quiet.run (λ c left. inl left)) run
      (λ c alike. inr (alike ∙ ap batches_in same))
