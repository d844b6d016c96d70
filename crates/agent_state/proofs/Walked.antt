-- Batches that were read one after the other, and the commands in them.
use Rattle.std.proofs.Common.{◌≡◌, ◌==◌, ◌&&◌, nat_lt, if◌then◌else◌, Bool, true, false, ℕ, suc, ◌+◌, ◌-◌, ◌<◌, ◌^◌, List, [], ◌∷◌, ◌++◌, length, take, drop, Some, None, refl, sym, subst, ◌∙◌, ap, arith, length-append, length-drop}
use Rattle.std.specs.List.{flat_map}
use Rattle.std.proofs.Math.Seq.{take-add}
use Rattle.std.proofs.lemmas.Bool.{eqb-true, ltb-true}
use Rattle.std.proofs.lemmas.Grind.{flat_map-append}
use Rattle.std.proofs.lemmas.List.{append_assoc, append-nil, drop-append-le, drop-drop, drop-take, drop_at, length-take-le, take-append-drop, take_all, take_at}
use Rattle.std.proofs.lemmas.List.Elements.{All-append, All-cons, All-nil}
use Rattle.wan_edge.specs.Frames.{CommandFrame, IsCommand, command_bytes}
use Rattle.wan_edge.specs.Switches.{Holdings}
use Rattle.fenced_agent.specs.Agents.{FencedHoldings, restored}
use Rattle.fenced_agent.specs.Frames.{fence_bytes}
use Rattle.switch_agent.specs.Items.{with_stored}
use Rattle.disk_model.proofs.FourBytes.{byte_first, number_4-front}
use Rattle.agent_state.specs.Batches.{Stands, batches_of, open_gate}
use Rattle.disk_model.specs.Numbers.{byte_at, number_4}
use Rattle.agent_state.specs.Opened.{HasFloor, Restores, RestoresBatch, Walks, batch_at}
use Rattle.agent_state.specs.Stored.{AreBytes, IsBatch, Leaves, StoredBatch, nothing_yet, with_all, with_batch, with_commands}
use Rattle.agent_state.proofs.Reading.{Stands-nothing, batches_step}

-- ---- what commands leave

pub with_all-append : (held : Holdings) (xs ys : List CommandFrame) → with_all held (xs ++ ys) ≡ with_all (with_all held xs) ys
with_all-append held [] ys = refl
with_all-append held (x ∷ xs) ys = with_all-append (with_stored held x) xs ys

pub AreBytes-none : AreBytes [] []
AreBytes-none = record { fit = All-nil IsCommand; is = refl }

pub AreBytes-append : (xs ys : List CommandFrame) (a b : List ℕ) → AreBytes xs a → AreBytes ys b → AreBytes (xs ++ ys) (a ++ b)
AreBytes-append xs ys a b first second = record {
  fit = All-append IsCommand xs ys first.fit second.fit;
  is = ap (λ (l : List ℕ). l ++ b) first.is ∙ ap (λ (l : List ℕ). flat_map command_bytes xs ++ l) second.is ∙ sym (flat_map-append command_bytes xs ys);
}

pub AreBytes-one : (c : CommandFrame) (bytes : List ℕ) → IsCommand c → command_bytes c ≡ bytes → AreBytes (c ∷ []) bytes
AreBytes-one c bytes fits is = record { fit = All-cons IsCommand c [] fits (All-nil IsCommand); is = sym is ∙ sym (append-nil (command_bytes c)) }

-- a batch more
pub Leaves-more : (a b now : FencedHoldings) (kept : List (List ℕ)) (batch : StoredBatch) (bytes : List ℕ) → Leaves a kept b → IsBatch batch bytes → now ≡ with_batch b batch → Leaves a (kept ++ bytes ∷ []) now
Leaves-more a b now [] batch bytes leaves is leads = (batch, is, leads ∙ ap (λ (h : FencedHoldings). with_batch h batch) leaves)
Leaves-more a b now (first ∷ later) batch bytes leaves is leads = (leaves.0, leaves.1, Leaves-more (with_batch a leaves.0) b now later batch bytes leaves.2 is leads)

-- ---- the commands of a batch

pub restores_none : (held : FencedHoldings) → Restores held held []
restores_none held = record { commands = []; are = AreBytes-none; holds = refl }

abbrev under : ℕ → Holdings → FencedHoldings
under floor held = record { floor = floor; held = held }

with_commands-more : (held : FencedHoldings) (xs : List CommandFrame) (c : CommandFrame) → restored (with_commands held xs) c ≡ with_commands held (xs ++ c ∷ [])
with_commands-more held xs c = ap (under held.floor) (sym (with_all-append held.held xs (c ∷ [])))

pub Restores-more : (a b d : FencedHoldings) (bytes more : List ℕ) (c : CommandFrame) → Restores a b bytes → IsCommand c → command_bytes c ≡ more → d ≡ restored b c → Restores a d (bytes ++ more)
Restores-more a b d bytes more c so_far fits is holds = record {
  commands = so_far.commands ++ c ∷ [];
  are = AreBytes-append so_far.commands (c ∷ []) bytes more so_far.are (AreBytes-one c more fits is);
  holds = holds ∙ ap (λ (h : FencedHoldings). restored h c) so_far.holds ∙ with_commands-more a so_far.commands c;
}

-- nothing is left
pub restores_all : (a b : FencedHoldings) (bytes rest : List ℕ) → length rest ≡ 0 → Restores a b (take (length bytes - length rest) bytes) → Restores a b bytes
restores_all a b bytes rest none so_far =
    subst (Restores a b) (take_all (length bytes - length rest) bytes (omega (arith, none))) so_far

-- commands alone
pub restores_plain : (a b : FencedHoldings) (bytes : List ℕ) → Restores a b bytes → RestoresBatch a b bytes
restores_plain a b bytes restores = record {
  batch = record { floor = None; commands = restores.commands };
  is = record { in_floor = omega arith; behind = bytes; parts = refl; are = restores.are };
  holds = restores.holds;
}

-- after a floor
pub restores_under : (a mid b : FencedHoldings) (floor : ℕ) (bytes behind : List ℕ) → HasFloor floor bytes → behind ≡ drop 5 bytes → mid ≡ record { floor = floor; held = a.held } → Restores mid b behind → RestoresBatch a b bytes
restores_under a mid b floor bytes behind has behind_is mid_is restores = record {
  batch = record { floor = Some floor; commands = restores.commands };
  is = record {
    in_floor = has.small;
    behind = behind;
    parts = has.parts ∙ ap (λ (xs : List ℕ). fence_bytes (Some floor) ++ xs) (sym behind_is);
    are = restores.are;
  };
  holds = restores.holds ∙ ap (λ (h : FencedHoldings). with_commands h restores.commands) mid_is;
}

-- five bytes that are those of a floor
pub has_floor : (floor : ℕ) (front bytes : List ℕ) → floor < 2 ^ 32 → front ≡ fence_bytes (Some floor) → take 5 bytes ≡ front → HasFloor floor bytes
has_floor floor front bytes small is same = record {
  small = small;
  parts = sym (take-append-drop 5 bytes) ∙ ap (λ (xs : List ℕ). xs ++ drop 5 bytes) (same ∙ is);
}

-- ---- the batches of a part

-- a body as it stands after an open gate
pub batches_raw : (body tail : List ℕ) (n : ℕ) → number_4 body ≡ n → length body ≡ 4 + n → 0 < length tail → batches_of (open_gate ∷ (body ++ tail)) ≡ drop 4 body ∷ batches_of tail
batches_raw body tail n is long some =
    let number : number_4 (body ++ tail) ≡ n = number_4-front body tail (omega (arith, long)) ∙ is in
    let whole : 4 + number_4 (body ++ tail) < length (body ++ tail) = omega (arith, number, long, length-append body tail, some) in
    let first : take (number_4 (body ++ tail)) (drop 4 (body ++ tail)) ≡ drop 4 body =
    ap (λ (m : ℕ). take m (drop 4 (body ++ tail))) number
    ∙ ap (take n) (drop-append-le 4 body tail (omega (arith, long)))
    ∙ take_at (drop 4 body) tail n (omega (arith, length-drop 4 body, long)) in
    let later : drop (4 + number_4 (body ++ tail)) (body ++ tail) ≡ tail =
    drop_at body tail (4 + number_4 (body ++ tail)) (omega (arith, number, long)) in
    batches_step (body ++ tail) whole
    ∙ ap (λ (b : List ℕ). b ∷ batches_of (drop (4 + number_4 (body ++ tail)) (body ++ tail))) first
    ∙ ap (λ (l : List ℕ). drop 4 body ∷ batches_of l) later

pub Stands-raw : (front : List ℕ) (kept : List (List ℕ)) (body : List ℕ) (n : ℕ) → Stands front kept → number_4 body ≡ n → length body ≡ 4 + n → Stands (front ++ open_gate ∷ body) (kept ++ drop 4 body ∷ [])
Stands-raw front kept body n stands is long = record {
  counts = λ tail some.
      ap batches_of (append_assoc front (open_gate ∷ body) tail)
      ∙ stands.counts (open_gate ∷ (body ++ tail)) (omega arith)
      ∙ ap (λ (l : List (List ℕ)). kept ++ l) (batches_raw body tail n is long some)
      ∙ sym (append_assoc kept (drop 4 body ∷ []) (batches_of tail));
}

-- what the tests of a batch say
pub record HasBatch (part : List ℕ) (gate n : ℕ) : Type 0 where
  pub is_open : byte_at gate part ≡ open_gate
  pub number : number_4 (drop (gate + 1) part) ≡ n
  pub whole : 4 + n < length (drop (gate + 1) part)

found_by : (ajar whole : Bool) (size n : ℕ) → (if ajar && whole then Some size else None) ≡ Some n → (ajar ≡ true) × (whole ≡ true) × (size ≡ n)
found_by true true size n is = (refl, refl, cc is)
found_by true false size n is = absurd (cc is)
found_by false whole size n is = absurd (cc is)

pub has_batch : (part : List ℕ) (gate n : ℕ) → batch_at part gate ≡ Some n → HasBatch part gate n
has_batch part gate n is =
    let rest = drop (gate + 1) part in
    let tests = found_by (byte_at gate part == open_gate) (nat_lt (4 + number_4 rest) (length rest)) (number_4 rest) n is in
    record {
      is_open = eqb-true (byte_at gate part) open_gate tests.0;
      number = tests.2;
      whole = omega (arith, ltb-true (4 + number_4 rest) (length rest) tests.1, tests.2);
    }

pub Walks-start : (part : List ℕ) (held : FencedHoldings) → 0 < length part → held ≡ nothing_yet → Walks part 0 held
Walks-start part held some nothing = record { within = some; kept = []; stands = Stands-nothing; leaves = nothing }

-- the bytes of a batch, and those of its body
body_behind : (part : List ℕ) (gate n : ℕ) → take n (drop (gate + 5) part) ≡ drop 4 (take (4 + n) (drop (gate + 1) part))
body_behind part gate n =
    let place : gate + 5 ≡ gate + 1 + 4 = omega arith in
    ap (λ (k : ℕ). take n (drop k part)) place ∙ ap (take n) (sym (drop-drop 4 (gate + 1) part)) ∙ sym (drop-take 4 n (drop (gate + 1) part))

pub Walks-next : (part : List ℕ) (gate n : ℕ) (held now : FencedHoldings) → Walks part gate held → batch_at part gate ≡ Some n → RestoresBatch held now (take n (drop (gate + 5) part)) → Walks part (gate + (5 + n)) now
Walks-next part gate n held now so_far is restores =
    let has = has_batch part gate n is in
    let rest = drop (gate + 1) part in
    let body = take (4 + n) rest in
    let long_rest : length rest ≡ length part - (gate + 1) = length-drop (gate + 1) part in
    let long : length body ≡ 4 + n = length-take-le (4 + n) rest (omega (arith, has.whole)) in
    let number : number_4 body ≡ n =
    sym (number_4-front body (drop (4 + n) rest) (omega (arith, long))) ∙ ap number_4 (take-append-drop (4 + n) rest) ∙ has.number in
    let next : gate + (5 + n) ≡ gate + suc (4 + n) = omega arith in
    let front : take (gate + (5 + n)) part ≡ take gate part ++ open_gate ∷ body =
    ap (λ (k : ℕ). take k part) next ∙ take-add gate (suc (4 + n)) part ∙ ap (λ (l : List ℕ). take gate part ++ take (suc (4 + n)) l) (byte_first part gate so_far.within)
    ∙ ap (λ (b : ℕ). take gate part ++ b ∷ body) has.is_open in
    let batch : take n (drop (gate + 5) part) ≡ drop 4 body = body_behind part gate n in
    record {
      within = omega (arith, has.whole, long_rest);
      kept = so_far.kept ++ drop 4 body ∷ [];
      stands = subst (λ (l : List ℕ). Stands l (so_far.kept ++ drop 4 body ∷ [])) (sym front) (Stands-raw (take gate part) so_far.kept body n so_far.stands number long);
      leaves = Leaves-more nothing_yet held now so_far.kept restores.batch (drop 4 body) so_far.leaves (subst (IsBatch restores.batch) batch restores.is) restores.holds;
    }

none_by : (ajar whole : Bool) (size : ℕ) (more : List (List ℕ)) → (if ajar && whole then Some size else None) ≡ None → (if ajar && whole then more else []) ≡ []
none_by true true size more is = absurd (cc is)
none_by true false size more is = refl
none_by false whole size more is = refl

-- no batch counts after the last gate
pub none_behind : (part : List ℕ) (gate : ℕ) → batch_at part gate ≡ None → batches_of (byte_at gate part ∷ drop (gate + 1) part) ≡ []
none_behind part gate none =
    none_by (byte_at gate part == open_gate) (nat_lt (4 + number_4 (drop (gate + 1) part)) (length (drop (gate + 1) part))) (number_4 (drop (gate + 1) part)) _ none
