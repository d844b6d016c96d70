-- No answer that was told in whole rounds is above what is settled after them.
use Rattle.std.proofs.Common.{◌≡◌, ◌⊎◌, ℕ, ◌+◌, ◌<◌, ◌≤◌, Bool, true, false, not, ◌&&◌, ◌==◌, nat_le, nat_lt, List, [], ◌∷◌, ◌++◌, All, Option, Some, if◌then◌else◌, refl, sym, ap, ◌∙◌, subst, ⊎_elim, arith, append-nil, append_assoc, eq-eqb, leb-true, ltb-true}
use Rattle.std.proofs.lemmas.Bool.{and_from, and_parts, cases_lt, le-leb}
use Rattle.std.proofs.lemmas.List.Elements.{All-contains, All-filter, All-map, Contains-append_left}
use Rattle.std.specs.List.{Contains, filter, list_any}
use Rattle.rollout_rules.specs.Sums.{list_below}
use Rattle.rollout_rules.specs.Wan.{Problem}
use Rattle.rollout_rules.specs.Items.{item_count}
use Rattle.rollout_rules.specs.History.{History, begun, flies, settled, with_entries}
use Rattle.rollout_rules.specs.Legal.{is_legal}
use Rattle.rollout_rules.specs.Release.{dones, is_covered, next_op, release}
use Rattle.rollout_rules.specs.World.{in_flight}
use Rattle.rollout_rules.specs.declared.op.Op.{Op}
use Rattle.rollout_rules.specs.declared.op.Entry.{Entry}
use Rattle.rollout_rules.specs.declared.op.Entry.TheVariants.{Done}
use Rattle.rollout_laws.proofs.Histories.{is_counted, settled-with}
use Rattle.turn_lock.specs.Histories.{Follows}
use Rattle.wan_edge.specs.Frames.{Answer}
use Rattle.rollout_book.specs.Aliens.{op_of, told_by}
use Rattle.rollout_book.specs.declared.turn.Turn.{Turn}
use Rattle.shared_book.specs.declared.note.What.{What}
use Rattle.shared_book.specs.declared.note.What.TheVariants as what
use Rattle.shared_book.specs.declared.note.Written.{Written}
use Rattle.shared_book.specs.declared.call_reply.Halt.{Halt}
use Rattle.shared_book.specs.Histories.{Opening, history_of}
use Rattle.shared_book.specs.Knows.{next_note}
use Rattle.shared_book.specs.Legal.{begun_of, is_alien, is_legal_shared}
use Rattle.shared_book.specs.Replies.{asked_at, batch_at, first_alien, is_asked, or_stopped, or_turned}
use Rattle.shared_book.proofs.Going.{front_is_legal}
use Rattle.shared_book.proofs.Lists.{list-is_legal}
use Rattle.shared_book.specs.Calls.{IsRoundCall, seat_of}
use Rattle.shared_book.specs.declared.reply.RoundReply.TheVariants as round
use Rattle.controller_run.proofs.Behind.{history-behind, settled-behind, some-done}
use Rattle.controller_run.proofs.Elements.{any-has, below-has, filter-has, inside-cons, map-has, none-inside}

-- ---- a round that turned had no alien answer
not-false : (b : Bool) → not b ≡ false → b ≡ true
not-false true is = refl
not-false false is = absurd (cc is)

module _ (item number top : ℕ) (rest : Option What) (es : List Entry) (ended begins : ℕ) where
  first-turned : (b : Bool) → or_turned (if b then Some (what.Alien item number top) else rest) es ≡ what.Turned ended begins → (b ≡ false) × (or_turned rest es ≡ what.Turned ended begins)
  first-turned true is = absurd (cc is)
  first-turned false is = (refl, is)

module _ (p : Problem) (h : History) where
  none-alien : (answers : List Op) (es : List Entry) (ended begins : ℕ) → or_turned (first_alien p h answers) es ≡ what.Turned ended begins → (op : Op) → Contains answers op → is_alien p h op ≡ false
  none-alien [] es ended begins is op at = absurd (none-inside op at)
  none-alien (answer ∷ later) es ended begins is op at =
      let both = first-turned answer.item answer.number (begun_of p h answer.item) (first_alien p h later) es ended begins (is_alien p h answer) is in
      ⊎_elim (λ (same : answer ≡ op). subst (λ (x : Op). is_alien p h x ≡ false) same both.0) (λ (behind : Contains later op). none-alien later es ended begins both.1 op behind) (inside-cons answer op later at)

  -- the item of one that isn't alien exists, and its number is at most what was begun
  known : (op : Op) → is_alien p h op ≡ false → (op.item < item_count p) × (op.number ≤ begun h op.item)
  known op is =
      let parts = and_parts (nat_lt op.item (item_count p)) (nat_le op.number (begun_of p h op.item)) (not-false (nat_lt op.item (item_count p) && nat_le op.number (begun_of p h op.item)) is) in
      let few : op.number ≤ begun_of p h op.item = leb-true op.number (begun_of p h op.item) parts.1 in
      (ltb-true op.item (item_count p) parts.0, subst (λ (b : Bool). op.number ≤ (if b then begun h op.item else 0)) parts.0 few)

-- ---- after the batch of a round
module _ (o : Opening) (h : History) (legal : is_legal o.rollout.problem o.rollout.plan h ≡ true) (told : List Answer) where
  -- an operation in flight that an answer covers is done in the batch
  covered-done : (a : Answer) → Contains told a → a.item < item_count o.rollout.problem → begun h a.item ≡ settled h a.item + 1 → begun h a.item ≤ a.held → Contains (batch_at o h (told_by told)) (Done (next_op h a.item))
  covered-done a inside within flying high =
      let p = o.rollout.problem in
      let n = a.item in
      let covered : is_covered h (told_by told) n ≡ true
      = and_from (flies h n) (list_any (λ x. (x.item == n) && nat_le (begun h n) x.number) (told_by told)) (eq-eqb (begun h n) (settled h n + 1) flying)
      (any-has (λ (x : Op). (x.item == n) && nat_le (begun h n) x.number) (told_by told) (op_of a) (map-has op_of told a inside)
      (and_from (n == n) (nat_le (begun h n) a.held) (eq-eqb n n refl) (le-leb (begun h n) a.held high))) in
      let ended : Contains (dones p h (told_by told)) (Done (next_op h n))
      = map-has (λ (m : ℕ). Done (next_op h m)) (filter (is_covered h (told_by told)) (list_below (item_count p) (λ m. m))) n
      (filter-has (is_covered h (told_by told)) (list_below (item_count p) (λ m. m)) n covered (below-has (item_count p) n within)) in
      Contains-append_left (dones p h (told_by told)) (release p o.rollout.plan o.policy (with_entries h (dones p h (told_by told)))) (Done (next_op h n)) ended

  batch-passed : (ended begins : ℕ) → or_turned (first_alien o.rollout.problem h (told_by told)) (batch_at o h (told_by told)) ≡ what.Turned ended begins
      → (a : Answer) → Contains told a → a.held ≤ settled (with_entries h (batch_at o h (told_by told))) a.item
  batch-passed ended begins is a inside =
      let p = o.rollout.problem in
      let n = a.item in
      let es = batch_at o h (told_by told) in
      let is_known = known p h (op_of a) (none-alien p h (told_by told) es ended begins is (op_of a) (map-has op_of told a inside)) in
      let few : a.held ≤ begun h n = is_known.1 in
      let counted = is_counted p o.rollout.plan h legal n in
      let one = counted.one_flies in
      let behind = settled-with h es n in
      ⊎_elim
      (λ (high : settled h n < a.held).
      let flying : begun h n ≡ settled h n + 1 = omega (arith, high, few, one) in
      let more = some-done es (next_op h n) (covered-done a inside is_known.0 flying (omega (arith, flying, high))) in
      omega (arith, behind, more, few, flying))
      (λ (low : a.held ≤ settled h n). omega (arith, low, behind)) (cases_lt (settled h n) a.held)

-- ---- in what a worker has seen
-- an answer is at most what is settled
abbrev pub IsPassed : Opening → List Written → Answer → Type 0
IsPassed o seen a = a.held ≤ settled (history_of o seen) a.item

pub passed-behind : (o : Opening) (seen after : List Written) (more : List Written) → after ≡ seen ++ more → (a : Answer) → IsPassed o seen a → IsPassed o after a
passed-behind o seen after more is a passed =
    let was : a.held ≤ settled (history_of o seen) a.item = passed in
    let low : a.held ≤ settled (history_of o (seen ++ more)) a.item = omega (arith, was, settled-behind o seen more a.item) in
    subst (λ (ws : List Written). a.held ≤ settled (history_of o ws) a.item) (sym is) low

pub round-passed : (o : Opening) (seats : List ℕ) (seat : ℕ) (seen after : List Written) (told : List Answer) (turn : Turn) → IsRoundCall o seats seat seen (told_by told) (round.Turned turn) after → (a : Answer) → Contains told a → IsPassed o after a
round-passed o seats seat seen after told turn call a inside =
    let h = history_of o call.log in
    let es = batch_at o h (told_by told) in
    let note = next_note seat call.log (what.Turned turn.dones turn.begins) es in
    let legal : is_legal o.rollout.problem o.rollout.plan h ≡ true
    = list-is_legal o call.log (front_is_legal o call.log (note ∷ []) (subst (λ (ws : List Written). is_legal_shared o ws ≡ true) call.noted call.legal)) in
    let says : or_turned (first_alien o.rollout.problem h (told_by told)) es ≡ what.Turned turn.dones turn.begins
    = ap (λ (s : Option Halt). or_stopped s (or_turned (first_alien o.rollout.problem h (told_by told)) es)) (sym call.told.0) ∙ call.told.1 in
    let behind : history_of o after ≡ with_entries h es = ap (history_of o) call.noted ∙ history-behind o call.log (note ∷ []) ∙ ap (with_entries h) (append-nil es) in
    subst (λ (g : History). a.held ≤ settled g a.item) (sym behind) (batch-passed o h legal told turn.dones turn.begins says a inside)

-- a note of a call comes after what was seen
pub note-behind : (seats : List ℕ) (seen log after : List Written) (note : Written) → Follows seat_of seats seen log → after ≡ log ++ note ∷ [] → (more : List Written) × (after ≡ seen ++ more)
note-behind seats seen log after note past is =
    (past.past ++ note ∷ [], is ∙ ap (λ (ws : List Written). ws ++ note ∷ []) past.is ∙ append_assoc seen past.past (note ∷ []))

pub both-behind : (a b c : List Written) → (more : List Written) × (b ≡ a ++ more) → (more : List Written) × (c ≡ b ++ more) → (more : List Written) × (c ≡ a ++ more)
both-behind a b c first second = (first.0 ++ second.0, second.1 ∙ ap (λ (ws : List Written). ws ++ second.0) first.1 ∙ append_assoc a first.0 second.0)

-- ---- an operation in flight is above all that is passed
abbrev IsNext : History → Op → Type 0
IsNext h op = op.number ≡ settled h op.item + 1

pub asked-next : (p : Problem) (h : History) (switches : List ℕ) (op : Op) → Contains (asked_at p h switches) op → op.number ≡ settled h op.item + 1
asked-next p h switches op at =
    let items = filter (flies h) (list_below (item_count p) (λ n. n)) in
    let all : All (IsNext h) (in_flight p h) = All-map (IsNext h) (next_op h) items (λ k d inside. refl) in
    All-contains (IsNext h) (asked_at p h switches) op (All-filter (is_asked p switches) (IsNext h) (in_flight p h) all) at
