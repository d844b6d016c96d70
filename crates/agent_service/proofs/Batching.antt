-- The batch that a read of commands leaves.
use Rattle.std.proofs.Common.{◌≡◌, ◌==◌, ◌&&◌, ◌<◌, ◌^◌, not, nat_lt, arith, Bool, true, false, if◌then◌else◌, inl, inr, ℕ, List, [], ◌∷◌, ◌++◌, Option, Some, None, refl, sym, ap, subst, ◌∙◌, append_assoc, eq-eqb}
use Rattle.std.proofs.lemmas.Bool.{cases_Bool, cases_eq, cond-false, cond-true, ne_eqb}
use Rattle.std.proofs.lemmas.List.{append-nil}
use Rattle.rollout_rules.specs.Agent.{Holding, held_after, is_next_command}
use Rattle.wan_edge.specs.Frames.{CommandFrame, IsCommand, command_bytes}
use Rattle.wan_edge.specs.Switches.{Holdings, after_command, pair_asked}
use Rattle.wan_edge.specs.Streams.{Appends}
use Rattle.switch_agent.specs.Items.{held_by, with_stored}
use Rattle.agent_state.specs.Stored.{with_all}
use Rattle.agent_state.proofs.Walked.{AreBytes-append, AreBytes-none, AreBytes-one, with_all-append}
use Rattle.fenced_agent.specs.Agents.{FencedHoldings, after_fenced, after_termed}
use Rattle.fenced_agent.specs.Frames.{IsTermedCommand, TermedCommand, fence_bytes, term_of}
use Rattle.agent_talks.specs.Serving.{takes_termed}
use Rattle.agent_state.specs.Stored.{IsBatch, StoredBatch, floor_behind, with_batch}
use Rattle.agent_service.specs.Keeping.{Stores, StoresAll, raised}

pub stores_none : (held : FencedHoldings) (batch : List ℕ) → Stores held held batch batch
stores_none held batch = record { commands = []; more = []; are = AreBytes-none; is = sym (append-nil batch); leads = refl }

pub Stores-chain : (a b d : FencedHoldings) (x y z : List ℕ) → Stores a b x y → Stores b d y z → Stores a d x z
Stores-chain a b d x y z first second = record {
  commands = first.commands ++ second.commands;
  more = first.more ++ second.more;
  are = AreBytes-append first.commands second.commands first.more second.more first.are second.are;
  is = second.is ∙ ap (λ (l : List ℕ). l ++ second.more) first.is ∙ append_assoc x first.more second.more;
  leads = second.leads ∙ ap (λ (h : Holdings). with_all h second.commands) first.leads ∙ sym (with_all-append a.held first.commands second.commands);
}

-- nothing was added
pub Stores-same : (a b : FencedHoldings) (x y : List ℕ) → b.held ≡ a.held → y ≡ x → Stores a b x y
Stores-same a b x y same as_was = record { commands = []; more = []; are = AreBytes-none; is = as_was ∙ sym (append-nil x); leads = same }

-- what a command holds of its item
abbrev held_by' : CommandFrame → Holding
held_by' c = held_by (Some c)

-- a command that is the next leaves its pair and content, and another one nothing
next_at : (held : Holdings) (c : CommandFrame) → is_next_command (held c.1.item).held (pair_asked c) ≡ true → (q : ℕ) → after_command held c q ≡ with_stored held c q
next_at held c next q = elim (cases_eq q c.1.item) [
  | inl same ↦
      let here : (q == c.1.item) ≡ true = eq-eqb q c.1.item same in
      let next_here : is_next_command (held q).held (pair_asked c) ≡ true = ap (λ (n : ℕ). is_next_command (held n).held (pair_asked c)) same ∙ next in
      cond-true (q == c.1.item) (held_after (held q) (pair_asked c) c.1.content) (held q) here
      ∙ cond-true (is_next_command (held q).held (pair_asked c)) (held_by' c) (held q) next_here
      ∙ sym (cond-true (q == c.1.item) (held_by' c) (held q) here)
  | inr other ↦
      let there : (q == c.1.item) ≡ false = ne_eqb q c.1.item other in
      cond-false (q == c.1.item) (held_after (held q) (pair_asked c) c.1.content) (held q) there ∙ sym (cond-false (q == c.1.item) (held_by' c) (held q) there)
]

other_at : (held : Holdings) (c : CommandFrame) → is_next_command (held c.1.item).held (pair_asked c) ≡ false → (q : ℕ) → after_command held c q ≡ held q
other_at held c other q = elim (cases_eq q c.1.item) [
  | inl same ↦
      let other_here : is_next_command (held q).held (pair_asked c) ≡ false = ap (λ (n : ℕ). is_next_command (held n).held (pair_asked c)) same ∙ other in
      cond-true (q == c.1.item) (held_after (held q) (pair_asked c) c.1.content) (held q) (eq-eqb q c.1.item same)
      ∙ cond-false (is_next_command (held q).held (pair_asked c)) (held_by' c) (held q) other_here
  | inr there ↦ cond-false (q == c.1.item) (held_after (held q) (pair_asked c) c.1.content) (held q) (ne_eqb q c.1.item there)
]

stores_next : (takes : Bool) (f now : FencedHoldings) (c : CommandFrame) (batch batch_now : List ℕ) → takes ≡ is_next_command (f.held c.1.item).held (pair_asked c) → now.held ≡ after_command f.held c → IsCommand c
    → batch_now ≡ (if takes then batch ++ command_bytes c else batch) → Stores f now batch batch_now
stores_next true f now c batch batch_now takes is fits put = record {
  commands = c ∷ [];
  more = command_bytes c;
  are = AreBytes-one c (command_bytes c) fits refl;
  is = put;
  leads = is ∙ (λ i q. next_at f.held c (sym takes) q i);
}
stores_next false f now c batch batch_now takes is fits put = Stores-same f now batch batch_now (is ∙ (λ i q. other_at f.held c (sym takes) q i)) put

-- a command that is carried out by the rule of terms
pub Stores-one : (takes : Bool) (f now : FencedHoldings) (c : TermedCommand) (batch batch_now : List ℕ) → takes ≡ takes_termed f c → now ≡ after_termed f c → IsTermedCommand c
    → batch_now ≡ (if takes then batch ++ command_bytes c.command else batch) → Stores f now batch batch_now
Stores-one takes f now c batch batch_now takes_is is fits put = elim (cases_Bool (nat_lt (term_of c.term) f.floor)) [
  | inl below ↦
      let none : takes ≡ false = takes_is ∙ ap (λ (b : Bool). not b && next) below in
      Stores-same f now batch batch_now
      (ap (λ (h : FencedHoldings). h.held) (is ∙ cond-true (nat_lt (term_of c.term) f.floor) f carried below))
      (put ∙ ap (λ (b : Bool). if b then batch ++ command_bytes c.command else batch) none)
  | inr above ↦
      stores_next takes f now c.command batch batch_now
      (takes_is ∙ ap (λ (b : Bool). not b && next) above)
      (ap (λ (h : FencedHoldings). h.held) (is ∙ cond-false (nat_lt (term_of c.term) f.floor) f carried above))
      fits.whole put
]
  where
    next : Bool
    next = is_next_command (f.held c.command.1.item).held (pair_asked c.command)

    carried : FencedHoldings
    carried = record { floor = term_of c.term; held = after_command f.held c.command }

-- ---- with the floor

floor_raised : (before now : ℕ) → now ≡ floor_behind (raised before now) before
floor_raised before now = elim (cases_eq now before) [
  | inl same ↦ same ∙ sym (ap (λ (r : Option ℕ). floor_behind r before) (cond-true (now == before) None (Some now) (eq-eqb now before same)))
  | inr other ↦ sym (ap (λ (r : Option ℕ). floor_behind r before) (cond-false (now == before) None (Some now) (ne_eqb now before other)))
]

raised_small : (before now : ℕ) → now < 2 ^ 32 → term_of (raised before now) < 2 ^ 32
raised_small before now small = elim (cases_eq now before) [
  | inl same ↦ subst (λ (r : Option ℕ). term_of r < 2 ^ 32) (sym (cond-true (now == before) None (Some now) (eq-eqb now before same))) (omega arith)
  | inr other ↦ subst (λ (r : Option ℕ). term_of r < 2 ^ 32) (sym (cond-false (now == before) None (Some now) (ne_eqb now before other))) small
]

-- the floor in front of the commands
pub stores_all : (a b : FencedHoldings) (before now : ℕ) (none commands given bytes : List ℕ) → before ≡ a.floor → now ≡ b.floor → now < 2 ^ 32 → none ≡ [] → given ≡ commands → bytes ≡ fence_bytes (raised before now) ++ given
    → Stores a b none commands → StoresAll a b bytes
stores_all a b before now none commands given bytes before_is now_is small empty given_is put stores = record {
  stored = record { floor = raised before now; commands = stores.commands };
  is = record {
    in_floor = raised_small before now small;
    behind = stores.more;
    parts =
        put
        ∙ ap (λ (l : List ℕ). fence_bytes (raised before now) ++ l) (given_is ∙ stores.is ∙ ap (λ (l : List ℕ). l ++ stores.more) empty);
    are = stores.are;
  };
  leads = λ i. record { floor = floor_leads i; held = stores.leads i };
}
  where
    floor_leads : b.floor ≡ floor_behind (raised before now) a.floor
    floor_leads = sym now_is ∙ floor_raised before now ∙ ap (floor_behind (raised before now)) before_is

-- bytes that were added to a buffer were appended to what it tells
pub as_told : (old new bytes : List ℕ) → new ≡ old ++ bytes → Appends (Some old) bytes (Some new)
as_told old new bytes put = ap some_bytes put
  where
    some_bytes : List ℕ → Option (List ℕ)
    some_bytes xs = Some xs
