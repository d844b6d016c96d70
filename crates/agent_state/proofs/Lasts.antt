-- The commands of items that were carried out last, item by item.
use Rattle.std.proofs.Common.{◌≡◌, ◌==◌, inl, inr, eq-eqb, ℕ, zero, suc, ◌+◌, ◌<◌, ◌≤◌, ◌^◌, List, [], ◌∷◌, ◌++◌, length, take, Option, Some, None, sym, subst, ◌∙◌, ap, arith}
use Rattle.std.specs.List.{flat_map}
use Rattle.std.specs.Prelude.{slice_get}
use Rattle.std.proofs.lemmas.Bool.{cases_eq, cond-false, cond-true, ne_eqb}
use Rattle.std.proofs.lemmas.List.{append_assoc, append-nil, take_all}
use Rattle.wan_edge.specs.Frames.{CommandFrame, command_bytes}
use Rattle.switch_agent.specs.Items.{Items}
use Rattle.fenced_agent.specs.Agents.{FencedItems}
use Rattle.fenced_agent.specs.Frames.{fence_bytes, term_of}
use Rattle.agent_state.specs.Stored.{AddsBytes, AreBytes, IsBatch, kept_floor, last_commands, last_of, last_batch}
use Rattle.agent_state.proofs.Walked.{AreBytes-append, AreBytes-none}

-- an item more
last_commands-more : (items : Items) (place item : ℕ) (last : Option CommandFrame) → slice_get items place ≡ Some (item, last) → last_commands (take (suc place) items) ≡ last_commands (take place items) ++ last_of item last
last_commands-more [] place item last is = absurd (cc is)
last_commands-more (e ∷ es) zero item last is =
    let same : e ≡ (item, last) = cc is in
    append-nil (last_of e.0 e.1) ∙ ap (λ (x : ℕ × Option CommandFrame). last_of x.0 x.1) same
last_commands-more (e ∷ es) (suc place) item last is =
    ap (λ (l : List CommandFrame). last_of e.0 e.1 ++ l) (last_commands-more es place item last is) ∙ sym (append_assoc (last_of e.0 e.1) (last_commands (take place es)) (last_of item last))

-- nothing was added
pub adds-none : (bytes : List ℕ) → AddsBytes [] bytes bytes
adds-none bytes = record { more = []; are = AreBytes-none; is = sym (append-nil bytes) }

adds-chain : (xs ys : List CommandFrame) (a b more c : List ℕ) → AddsBytes xs a b → AreBytes ys more → c ≡ b ++ more → AddsBytes (xs ++ ys) a c
adds-chain xs ys a b more c first are put = record {
  more = first.more ++ more;
  are = AreBytes-append xs ys first.more more first.are are;
  is = put ∙ ap (λ (l : List ℕ). l ++ more) first.is ∙ append_assoc a first.more more;
}

pub lasts-more : (items : Items) (place : ℕ) (before bytes now : List ℕ) (item : ℕ) (last : Option CommandFrame) → slice_get items place ≡ Some (item, last) → now ≡ bytes ++ flat_map command_bytes (last_of item last)
    → AreBytes (last_of item last) (flat_map command_bytes (last_of item last)) → AddsBytes (last_commands (take place items)) before bytes → AddsBytes (last_commands (take (place + 1) items)) before now
lasts-more items place before bytes now item last is put own so_far =
    let next : suc place ≡ place + 1 = omega arith in
    subst (λ (n : ℕ). AddsBytes (last_commands (take n items)) before now) next
    (subst (λ (cs : List CommandFrame). AddsBytes cs before now) (sym (last_commands-more items place item last is))
    (adds-chain (last_commands (take place items)) (last_of item last) before bytes (flat_map command_bytes (last_of item last)) now so_far own put))

none_there : (items : Items) (place : ℕ) → slice_get items place ≡ None → length items ≤ place
none_there [] place is = omega arith
none_there (e ∷ es) zero is = absurd (cc is)
none_there (e ∷ es) (suc place) is = omega (arith, none_there es place is)

-- after the last item
pub lasts-all : (items : Items) (place : ℕ) (before bytes : List ℕ) → slice_get items place ≡ None → AddsBytes (last_commands (take place items)) before bytes → AddsBytes (last_commands items) before bytes
lasts-all items place before bytes none so_far = subst (λ (l : Items). AddsBytes (last_commands l) before bytes) (take_all place items (none_there items place none)) so_far

-- the floor, and they after it
pub last-whole : (f : FencedItems) (floor : ℕ) (items : Items) (first bytes : List ℕ) → floor ≡ f.floor → items ≡ f.items → floor < 2 ^ 32 → first ≡ fence_bytes (kept_floor floor) → AddsBytes (last_commands items) first bytes → IsBatch (last_batch f) bytes
last-whole f floor items first bytes floor_is items_are small first_is adds =
    subst (λ (l : Items). IsBatch (record { floor = kept_floor f.floor; commands = last_commands l }) bytes) items_are
    (subst (λ (n : ℕ). IsBatch (record { floor = kept_floor n; commands = last_commands items }) bytes) floor_is (record {
      in_floor = in_kept floor small;
      behind = adds.more;
      parts = adds.is ∙ ap (λ (l : List ℕ). l ++ adds.more) first_is;
      are = adds.are;
    }))
  where
    in_kept : (n : ℕ) → n < 2 ^ 32 → term_of (kept_floor n) < 2 ^ 32
    in_kept n small = elim (cases_eq n 0) [
      | inl none ↦ subst (λ (kept : Option ℕ). term_of kept < 2 ^ 32) (sym (cond-true (n == 0) None (Some n) (eq-eqb n 0 none))) (omega arith)
      | inr some ↦ subst (λ (kept : Option ℕ). term_of kept < 2 ^ 32) (sym (cond-false (n == 0) None (Some n) (ne_eqb n 0 some))) small
    ]
