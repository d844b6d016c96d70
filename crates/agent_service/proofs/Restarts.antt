-- What an image is read as, and what a restart goes on from.
use Rattle.std.proofs.Common.{◌≡◌, ◌==◌, ◌∙◌, ◌<◌, ◌≤◌, ◌^◌, nat_lt, true, inl, inr, ℕ, zero, suc, List, [], ◌∷◌, ◌++◌, length, drop, slice_index, Option, Some, None, unwrap_or, refl, sym, ap, ap₂, subst, arith, length-append}
use Rattle.std.specs.List.{All, flat_map}
use Rattle.std.proofs.lemmas.Bool.{cases_Bool, cases_lt, cond-false, cond-true, cond_both, le-ltb, lt-ltb}
use Rattle.rollout_rules.specs.Agent.{Holding, held_after, is_at_most}
use Rattle.rollout_rules.proofs.Pairs.{after-more, at_most-refl, at_most-trans}
use Rattle.wan_edge.specs.Frames.{CommandFrame, IsCommand, command_bytes, command_head}
use Rattle.wan_edge.specs.Switches.{Holdings, after_command, pair_asked}
use Rattle.wan_edge.proofs.Sizes.{command-some}
use Rattle.wire_frames.proofs.OneSpelling.{one_command, one_number, same_parts}
use Rattle.fenced_agent.specs.Agents.{FencedHoldings, after_all_termed, after_termed}
use Rattle.fenced_agent.specs.Frames.{TermedCommand, fence_bytes, term_of}
use Rattle.agent_state.specs.Stored.{AreBytes, IsBatch, IsReadAs, Leaves, StoredBatch, nothing_yet, with_batch}
use Rattle.agent_service.specs.Keeping.{GoesOnBy, HasCome}

-- ---- one thing alone

-- bytes of commands are those of one row of commands
rows_one : (xs ys : List CommandFrame) → All IsCommand xs → All IsCommand ys → flat_map command_bytes xs ≡ flat_map command_bytes ys → xs ≡ ys
rows_one [] [] fit also same = refl
rows_one [] (y ∷ ys) fit also same = absurd (omega (arith, ap length same, length-append (command_bytes y) (flat_map command_bytes ys), command-some y))
rows_one (x ∷ xs) [] fit also same = absurd (omega (arith, ap length same, length-append (command_bytes x) (flat_map command_bytes xs), command-some x))
rows_one (x ∷ xs) (y ∷ ys) fit also same =
    let first = one_command x y (flat_map command_bytes xs) (flat_map command_bytes ys) (fit zero x (omega arith)) (also zero y (omega arith)) same in
    let later = rows_one xs ys (λ k d inside. fit (suc k) d (omega (arith, inside))) (λ k d inside. also (suc k) d (omega (arith, inside))) first.1 in
    ap (λ (c : CommandFrame). c ∷ xs) first.0 ∙ ap (λ (cs : List CommandFrame). y ∷ cs) later

-- no command begins as a floor does
other_kind : (commands : List CommandFrame) (term : ℕ) (behind : List ℕ) → flat_map command_bytes commands ≡ fence_bytes (Some term) ++ behind → ⊥
unfolding command_bytes command_head
other_kind [] term behind same = absurd (omega (arith, ap length same))
other_kind (c ∷ cs) term behind same = absurd (omega (arith, ap (λ (xs : List ℕ). slice_index xs 0) same))

abbrev batch_of : Option ℕ → List CommandFrame → StoredBatch
batch_of floor commands = record { floor = floor; commands = commands }

-- bytes are those of one batch
parts_one : (m n : Option ℕ) (xs ys : List CommandFrame) (a b : List ℕ) → term_of m < 2 ^ 32 → term_of n < 2 ^ 32 → AreBytes xs a → AreBytes ys b → fence_bytes m ++ a ≡ fence_bytes n ++ b → batch_of m xs ≡ batch_of n ys
parts_one None None xs ys a b m_fits n_fits first second same =
    ap (batch_of None) (rows_one xs ys first.fit second.fit (sym first.is ∙ same ∙ second.is))
parts_one None (Some n) xs ys a b m_fits n_fits first second same = absurd (other_kind xs n b (sym first.is ∙ same))
parts_one (Some m) None xs ys a b m_fits n_fits first second same = absurd (other_kind ys m a (sym second.is ∙ sym same))
parts_one (Some m) (Some n) xs ys a b m_fits n_fits first second same =
    let parts = same_parts (fence_bytes (Some m)) (fence_bytes (Some n)) a b refl same in
    let floor : m ≡ n = one_number m n m_fits n_fits (ap (drop 1) parts.0) in
    ap₂ (λ (k : ℕ) (cs : List CommandFrame). batch_of (Some k) cs) floor (rows_one xs ys first.fit second.fit (sym first.is ∙ parts.1 ∙ second.is))

batch_one : (bytes : List ℕ) (x y : StoredBatch) → IsBatch x bytes → IsBatch y bytes → x ≡ y
batch_one bytes x y first second = parts_one x.floor y.floor x.commands y.commands first.behind second.behind first.in_floor second.in_floor first.are second.are (sym first.parts ∙ second.parts)

leaves_one : (kept : List (List ℕ)) (before a b : FencedHoldings) → Leaves before kept a → Leaves before kept b → a ≡ b
leaves_one [] before a b first second = first ∙ sym second
leaves_one (bytes ∷ later) before a b first second =
    let same = batch_one bytes first.0 second.0 first.1 second.1 in
    leaves_one later (with_batch before first.0) a b first.2 (subst (λ (batch : StoredBatch). Leaves (with_batch before batch) later b) (sym same) second.2)

kept_one : (first second : List (List ℕ)) → Some first ≡ Some second → first ≡ second
kept_one first second is = ap (λ (found : Option (List (List ℕ))). unwrap_or found first) is

pub read_one : (image : List ℕ) (a b : FencedHoldings) → IsReadAs image a → IsReadAs image b → a ≡ b
read_one image a b first second =
    let same = kept_one first.kept second.kept (sym first.read ∙ second.read) in
    leaves_one first.kept nothing_yet a b first.leaves (subst (λ (kept : List (List ℕ)). Leaves nothing_yet kept b) (sym same) second.leaves)

-- ---- no less

one_grows : (held : Holdings) (c : CommandFrame) (item : ℕ) → is_at_most (held item).held (after_command held c item).held ≡ true
one_grows held c item = elim (cases_Bool (item == c.1.item)) [
  | inl is ↦
      ap (λ (h : Holding). is_at_most (held item).held h.held) (cond-true (item == c.1.item) (held_after (held item) (pair_asked c) c.1.content) (held item) is)
      ∙ after-more (held item) (pair_asked c) c.1.content
  | inr isnt ↦
      ap (λ (h : Holding). is_at_most (held item).held h.held) (cond-false (item == c.1.item) (held_after (held item) (pair_asked c) c.1.content) (held item) isnt)
      ∙ at_most-refl (held item).held
]

floor_grows : (f : FencedHoldings) (c : TermedCommand) → f.floor ≤ (after_termed f c).floor
floor_grows f c = elim (cases_lt (term_of c.term) f.floor) [
  | inl below ↦ omega (arith, ap (λ (h : FencedHoldings). h.floor) (cond-true (nat_lt (term_of c.term) f.floor) f (carried f c) (lt-ltb (term_of c.term) f.floor below)))
  | inr above ↦ omega (arith, above, ap (λ (h : FencedHoldings). h.floor) (cond-false (nat_lt (term_of c.term) f.floor) f (carried f c) (le-ltb (term_of c.term) f.floor above)))
]
  where
    carried : FencedHoldings → TermedCommand → FencedHoldings
    carried f c = record { floor = term_of c.term; held = after_command f.held c.command }

item_grows : (f : FencedHoldings) (c : TermedCommand) (item : ℕ) → is_at_most (f.held item).held ((after_termed f c).held item).held ≡ true
item_grows f c item =
    cond_both (nat_lt (term_of c.term) f.floor) f (record { floor = term_of c.term; held = after_command f.held c.command }) (λ (h : FencedHoldings). is_at_most (f.held item).held (h.held item).held ≡ true)
    (λ below. at_most-refl (f.held item).held) (λ above. one_grows f.held c.command item)

floors_grow : (f : FencedHoldings) (cs : List TermedCommand) → f.floor ≤ (after_all_termed f cs).floor
floors_grow f [] = omega arith
floors_grow f (c ∷ cs) = omega (arith, floor_grows f c, floors_grow (after_termed f c) cs)

pairs_grow : (f : FencedHoldings) (cs : List TermedCommand) (item : ℕ) → is_at_most (f.held item).held ((after_all_termed f cs).held item).held ≡ true
pairs_grow f [] item = at_most-refl (f.held item).held
pairs_grow f (c ∷ cs) item =
    at_most-trans (f.held item).held ((after_termed f c).held item).held ((after_all_termed (after_termed f c) cs).held item).held (item_grows f c item) (pairs_grow (after_termed f c) cs item)

pub goes_on : (before now : FencedHoldings) (image : List ℕ) → HasCome before image → IsReadAs image now → GoesOnBy before now
goes_on before now image come read =
    let are : now ≡ after_all_termed before come.commands = read_one image now (after_all_termed before come.commands) read come.read in
    record {
      commands = come.commands;
      fit = come.fit;
      are = are;
      no_lower = omega (arith, floors_grow before come.commands, ap (λ (h : FencedHoldings). h.floor) are);
      no_less = λ item. ap (λ (h : FencedHoldings). is_at_most (before.held item).held (h.held item).held) are ∙ pairs_grow before come.commands item;
    }
