-- A batch that is added, and a file that is written anew, by what is held.
use Rattle.std.proofs.Common.{◌≡◌, inl, inr, ⊎_elim, ◌==◌, nat_eq, false, ℕ, ◌+◌, ◌<◌, ◌^◌, List, [], ◌∷◌, ◌++◌, length, Option, Some, None, IfSome, unwrap_or, refl, sym, subst, ◌∙◌, ap, eq-eqb}
use Rattle.std.specs.List.{AllByRecursion, IsDistinct}
use Rattle.std.specs.Map.{keys_of, lookup}
use Rattle.std.proofs.lemmas.Bool.{cases_eq, cond-false, cond-true, ne_eqb}
use Rattle.rollout_rules.specs.Agent.{Holding}
use Rattle.wan_edge.specs.Frames.{CommandFrame}
use Rattle.wan_edge.specs.Streams.{KeepsTelling}
use Rattle.wan_edge.specs.Switches.{Holdings, holding_nothing}
use Rattle.switch_agent.specs.Items.{Items, held_by, holding, last_command}
use Rattle.fenced_agent.specs.Agents.{FencedHoldings, FencedItems, fenced_holding}
use Rattle.disk_model.specs.Crashes.{Holds, Only}
use Rattle.disk_model.specs.Moments.{LeavesOnly}
use Rattle.disk_model.specs.Traces.{DiskTrace}
use Rattle.disk_model.proofs.Running.{LeavesOnly-weaker}
use Rattle.agent_state.specs.Batches.{IsBody}
use Rattle.agent_state.specs.Renewals.{new_gate, new_home}
use Rattle.agent_state.specs.States.{Home, IsAtRest, IsCommitted, IsEither}
use Rattle.agent_state.specs.Stored.{IsBatch, IsBeforeOrAfter, IsKept, IsReadAs, Leaves, StoredBatch, floor_behind, home_of, kept_floor, last_batch, last_commands, last_of, nothing_yet, part_bytes, with_all, with_batch}
use Rattle.agent_state.specs.declared.place.Place.{Place}
use Rattle.agent_state.proofs.Heads.{rest_reads}
use Rattle.agent_state.proofs.Walked.{Leaves-more, with_all-append}

-- ---- the commands that were carried out last

-- what a command that may be there leaves
abbrev pub or_held : Option CommandFrame → Holding → Holding
or_held None before = before
or_held (Some c) before = held_by (Some c)

-- no later entry has the key of one before it
unseen_later : (item q : ℕ) (es : Items) → q ≡ item → AllByRecursion (λ y. nat_eq item y ≡ false) (keys_of es) → last_command es q ≡ None
unseen_later item q [] same apart = refl
unseen_later item q (e ∷ es) same apart =
    let other : (q == e.0) ≡ false = ap (λ (n : ℕ). n == e.0) same ∙ apart.0 in
    ap (λ (found : Option (Option CommandFrame)). unwrap_or found None) (cond-false (q == e.0) (Some e.1) (lookup (λ key. q == key) es) other)
    ∙ unseen_later item q es same apart.1

one_at : (item : ℕ) (last : Option CommandFrame) (held : Holdings) (q : ℕ) → q ≡ item → with_all held (last_of item last) q ≡ or_held last (held q)
one_at item None held q same = refl
one_at item (Some c) held q same = cond-true (q == item) (held_by (Some c)) (held q) (eq-eqb q item same)

one_elsewhere : (item : ℕ) (last : Option CommandFrame) (held : Holdings) (q : ℕ) → (q ≡ item → ⊥) → with_all held (last_of item last) q ≡ held q
one_elsewhere item None held q other = refl
one_elsewhere item (Some c) held q other = cond-false (q == item) (held_by (Some c)) (held q) (ne_eqb q item other)

lasts_at : (es : Items) (held : Holdings) (q : ℕ) → IsDistinct nat_eq (keys_of es) → with_all held (last_commands es) q ≡ or_held (last_command es q) (held q)
unfolding IsDistinct
lasts_at [] held q apart = refl
lasts_at (e ∷ es) held q apart =
    let first = with_all held (last_of e.0 e.1) in
    ap (λ (h : Holdings). h q) (with_all-append held (last_of e.0 e.1) (last_commands es))
    ∙ lasts_at es first q apart.1
    ∙ elim (cases_eq q e.0) [
      | inl same ↦
          ap (λ (last : Option CommandFrame). or_held last (first q)) (unseen_later e.0 q es same apart.0)
          ∙ one_at e.0 e.1 held q same
          ∙ sym (ap (λ (found : Option (Option CommandFrame)). or_held (unwrap_or found None) (held q)) (cond-true (q == e.0) (Some e.1) (lookup (λ key. q == key) es) (eq-eqb q e.0 same)))
      | inr other ↦
          ap (or_held (last_command es q)) (one_elsewhere e.0 e.1 held q other)
          ∙ sym (ap (λ (found : Option (Option CommandFrame)). or_held (unwrap_or found None) (held q)) (cond-false (q == e.0) (Some e.1) (lookup (λ key. q == key) es) (ne_eqb q e.0 other)))
    ]

or_nothing : (last : Option CommandFrame) → or_held last (held_by None) ≡ held_by last
or_nothing None = refl
or_nothing (Some c) = refl

-- the commands that were carried out last lead to what is held
pub lasts_lead : (items : Items) → IsDistinct nat_eq (keys_of items) → holding items ≡ with_all holding_nothing (last_commands items)
lasts_lead items apart i q = sym (lasts_at items holding_nothing q apart ∙ or_nothing (last_command items q)) i

floor_kept : (floor : ℕ) → floor_behind (kept_floor floor) 0 ≡ floor
floor_kept floor = elim (cases_eq floor 0) [
  | inl none ↦
      ap (λ (kept : Option ℕ). floor_behind kept 0) (cond-true (floor == 0) None (Some floor) (eq-eqb floor 0 none)) ∙ sym none
  | inr some ↦
      ap (λ (kept : Option ℕ). floor_behind kept 0) (cond-false (floor == 0) None (Some floor) (ne_eqb floor 0 some))
]

-- the last batch leads to what is held
last_leads : (items : FencedItems) → IsDistinct nat_eq (keys_of items.items) → fenced_holding items ≡ with_batch nothing_yet (last_batch items)
last_leads items apart i = record { floor = sym (floor_kept items.floor) i; held = lasts_lead items.items apart i }

-- ---- what is read

pub kept_reads : (place : Place) (held : FencedHoldings) (image : List ℕ) → IsKept place held image → IsReadAs image held
kept_reads place held image is = record { kept = is.kept; read = rest_reads (home_of place) place.gate is.kept image is.rest; leaves = is.leaves }

module _ {D : Type 0} (trace : D → DiskTrace) where
  -- a batch, done or not
  pub add_run : (told : Option (List ℕ)) (left : List ℕ → Type 0) (old new : D) (place : Place) (before now : FencedHoldings) (stored : StoredBatch) (batch body : List ℕ)
      → Holds (IsKept place before) told left → IsBatch stored batch → now ≡ with_batch before stored → IsBody batch body
      → IfSome told (λ image. (home : Home) (kept : List (List ℕ)) (b : List ℕ) → IsAtRest home place.gate kept image → IsBody b body → Only image left
      → LeavesOnly trace old new (IsEither kept (kept ++ b ∷ [])))
      → IfSome told (λ _. LeavesOnly trace old new (IsBeforeOrAfter before now))
  add_run None left old new place before now stored batch body holds are leads is_body says = tt
  add_run (Some image) left old new place before now stored batch body holds are leads is_body says =
      let k = holds.0 in
      let after = Leaves-more nothing_yet before now k.kept stored batch k.leaves are leads in
      LeavesOnly-weaker trace old new (IsEither k.kept (k.kept ++ batch ∷ [])) (IsBeforeOrAfter before now) (says (home_of place) k.kept batch k.rest is_body holds.1)
      (λ c either. ⊎_elim (λ was. inl (record { kept = k.kept; read = was; leaves = k.leaves })) (λ is. inr (record { kept = k.kept ++ batch ∷ []; read = is; leaves = after })) either)

  -- a file that is written anew, done or not
  pub anew_run : (told : Option (List ℕ)) (left : List ℕ → Type 0) (old new : D) (place : Place) (items : FencedItems) (batch bytes : List ℕ)
      → Holds (IsKept place (fenced_holding items)) told left → IsBatch (last_batch items) batch → IsDistinct nat_eq (keys_of items.items) → length batch < 2 ^ 32 → bytes ≡ part_bytes batch
      → ((kept : List (List ℕ)) (b : List ℕ) → Holds (IsAtRest (home_of place) place.gate kept) told left → length b < 2 ^ 32 → bytes ≡ part_bytes b
      → IfSome told (λ _. LeavesOnly trace old new (IsEither kept (b ∷ []))))
      → IfSome told (λ _. LeavesOnly trace old new (λ c. IsReadAs c (fenced_holding items)))
  anew_run None left old new place items batch bytes holds are apart few is says = tt
  anew_run (Some image) left old new place items batch bytes holds are apart few is says =
      let k = holds.0 in
      let after : Leaves nothing_yet (batch ∷ []) (fenced_holding items) = (last_batch items, are, last_leads items apart) in
      LeavesOnly-weaker trace old new (IsEither k.kept (batch ∷ [])) (λ c. IsReadAs c (fenced_holding items)) (says k.kept batch (k.rest, holds.1) few is)
      (λ c either. ⊎_elim (λ was. record { kept = k.kept; read = was; leaves = k.leaves }) (λ new. record { kept = batch ∷ []; read = new; leaves = after }) either)

-- where the file stands after a batch
pub added : (told told_new : Option (List ℕ)) (left left_new : List ℕ → Type 0) (place next : Place) (before now : FencedHoldings) (stored : StoredBatch) (batch body : List ℕ)
    → home_of next ≡ home_of place → next.gate ≡ place.gate + length body
    → Holds (IsKept place before) told left → IsBatch stored batch → now ≡ with_batch before stored → IsBody batch body → KeepsTelling told told_new
    → IfSome told (λ image. (home : Home) (kept : List (List ℕ)) (b : List ℕ) → IsAtRest home place.gate kept image → IsBody b body
    → IsCommitted home (place.gate + length body) (kept ++ b ∷ []) told_new left_new)
    → Holds (IsKept next now) told_new left_new
added None None left left_new place next before now stored batch body same gate holds are leads is_body keeps says = tt
added None (Some image) left left_new place next before now stored batch body same gate holds are leads is_body keeps says = absurd (cc keeps)
added (Some image) told_new left left_new place next before now stored batch body same gate holds are leads is_body keeps says =
    let k = holds.0 in
    let done = says (home_of place) k.kept batch k.rest is_body in
    let after = Leaves-more nothing_yet before now k.kept stored batch k.leaves are leads in
    let rest : IsAtRest (home_of next) next.gate (k.kept ++ batch ∷ []) done.now =
    subst (λ (home : Home). IsAtRest home next.gate (k.kept ++ batch ∷ []) done.now) (sym same)
    (subst (λ (n : ℕ). IsAtRest (home_of place) n (k.kept ++ batch ∷ []) done.now) (sym gate) done.rest) in
    rw done.is_told (record { kept = k.kept ++ batch ∷ []; rest = rest; leaves = after }, done.durable)

-- and where it is written anew
pub renewed : (told told_new : Option (List ℕ)) (left left_new : List ℕ → Type 0) (place next : Place) (items : FencedItems) (to : ℕ) (batch bytes : List ℕ)
    → home_of next ≡ new_home (home_of place) to → next.gate ≡ new_gate to batch
    → Holds (IsKept place (fenced_holding items)) told left → IsBatch (last_batch items) batch → IsDistinct nat_eq (keys_of items.items) → length batch < 2 ^ 32 → bytes ≡ part_bytes batch → KeepsTelling told told_new
    → ((kept : List (List ℕ)) (b : List ℕ) → Holds (IsAtRest (home_of place) place.gate kept) told left → length b < 2 ^ 32 → bytes ≡ part_bytes b
    → Holds (IsAtRest (new_home (home_of place) to) (new_gate to b) (b ∷ [])) told_new left_new)
    → Holds (IsKept next (fenced_holding items)) told_new left_new
renewed told None left left_new place next items to batch bytes same gate holds are apart few is keeps says = tt
renewed None (Some image) left left_new place next items to batch bytes same gate holds are apart few is keeps says = absurd (cc keeps)
renewed (Some image) (Some now) left left_new place next items to batch bytes same gate holds are apart few is keeps says =
    let k = holds.0 in
    let done = says k.kept batch (k.rest, holds.1) few is in
    let after : Leaves nothing_yet (batch ∷ []) (fenced_holding items) = (last_batch items, are, last_leads items apart) in
    let rest : IsAtRest (home_of next) next.gate (batch ∷ []) now =
    subst (λ (home : Home). IsAtRest home next.gate (batch ∷ []) now) (sym same)
    (subst (λ (n : ℕ). IsAtRest (new_home (home_of place) to) n (batch ∷ []) now) (sym gate) done.0) in
    (record { kept = batch ∷ []; rest = rest; leaves = after }, done.1)
