-- Which entries may follow what a graph stands for, by what the graph tells.
use Rattle.std.proofs.Common.{◌≡◌, ◌&&◌, not, nat_lt, Bool, true, false, ℕ, suc, ◌+◌, ◌<◌, ◌≤◌, List, [], ◌∷◌, ◌++◌, length, take, drop, get_or, if◌then◌else◌, sym, ⊎_elim, ◌∙◌, ap, arith, eqb-true, eq-eqb, lt-ltb, le-leb}
use Rattle.std.proofs.Math.Seq.{drop-cons, take-add}
use Rattle.std.proofs.lemmas.Bool.{and_from, and_parts, cases_Bool, ltb-true}
use Rattle.std.proofs.lemmas.List.{append-nil, append_assoc, drop_all, take_all}
use Rattle.rollout_rules.specs.Wan.{Plan, Problem, Rollout}
use Rattle.rollout_rules.specs.Items.{item_count, item_at}
use Rattle.rollout_rules.specs.Operations.{operations}
use Rattle.rollout_rules.specs.History.{History, begun, flies, places_of, settled, with_entries}
use Rattle.rollout_rules.specs.Room.{fits}
use Rattle.rollout_rules.specs.Legal.{is_legal, is_next, may_add, may_begin, may_end}
use Rattle.rollout_rules.specs.Release.{next_op}
use Rattle.rollout_rules.specs.declared.op.Op.{Op}
use Rattle.rollout_rules.specs.declared.op.Entry.{Entry}
use Rattle.rollout_rules.specs.declared.op.Entry.TheVariants.{Begin, Done}
use Rattle.rollout_laws.proofs.Histories.{begins, ends, is_counted, is_legal-append}
use Rattle.dependency_graph.specs.Graph.{Followed, are_needs_met, has_next, has_room, with_begun, with_done}
use Rattle.intent_journal.specs.Verdicts.{legal_count}

module _ (g : Followed) (op : Op) where
  abbrev p : Problem
  p = g.rollout.problem

  abbrev plan : Plan
  plan = g.rollout.plan

  abbrev h : History
  h = g.history

  -- the next operation of its item
  pub next_is : op.number ≡ settled h op.item + 1 → next_op h op.item ≡ op
  next_is number = λ i. record { item = op.item; number = sym number i }

  begun_is : op.number ≡ settled h op.item + 1 → with_begun g op.item ≡ record g { history = with_entries h (Begin op ∷ []) }
  begun_is number = ap (λ (o : Op). record g { history = with_entries h (Begin o ∷ []) }) (next_is number)

  done_is : op.number ≡ settled h op.item + 1 → with_done g op.item ≡ record g { history = with_entries h (Done op ∷ []) }
  done_is number = ap (λ (o : Op). record g { history = with_entries h (Done o ∷ []) }) (next_is number)

  -- what may begin: the graph has it as its item's next operation, with its needs met and room for it
  pub may_item : may_begin p plan h op ≡ true → op.item < item_count p
  may_item may = (begins p plan h op may).next.within

  pub may_next : may_begin p plan h op ≡ true → has_next g op.item ≡ true
  may_next may =
      let m = begins p plan h op may in
      and_from (not (flies h op.item)) (nat_lt (settled h op.item) (operations p plan (item_at p op.item))) (ap not m.next.idle) (lt-ltb _ _ (omega (arith, m.next.number, m.next.exists)))

  pub may_number : may_begin p plan h op ≡ true → op.number ≡ settled h op.item + 1
  may_number may = (begins p plan h op may).next.number

  pub may_needs : may_begin p plan h op ≡ true → are_needs_met g op.item ≡ true
  may_needs may = (begins p plan h op may).needs

  pub may_room : may_begin p plan h op ≡ true → has_room g op.item ≡ true
  may_room may =
      let m = begins p plan h op may in
      ap (λ (f : Followed). fits p plan (places_of p f.history)) (begun_is m.next.number) ∙ m.room

  pub may_begun : may_begin p plan h op ≡ true → with_begun g op.item ≡ record g { history = with_entries h (Begin op ∷ []) }
  may_begun may = begun_is (may_number may)

  -- where one of these is wanting it may not begin
  no_begin : (may_begin p plan h op ≡ true → ⊥) → false ≡ may_begin p plan h op
  no_begin never = ⊎_elim (λ yes. absurd (never yes)) (λ no. sym no) (cases_Bool (may_begin p plan h op))

  pub no_item : item_count p ≤ op.item → false ≡ may_begin p plan h op
  no_item beyond = no_begin (λ may. absurd (omega (arith, beyond, may_item may)))

  pub no_next : has_next g op.item ≡ false → false ≡ may_begin p plan h op
  no_next none = no_begin (λ may. absurd (cc (sym (may_next may) ∙ none)))

  pub no_number : (op.number ≡ settled h op.item + 1 → ⊥) → false ≡ may_begin p plan h op
  no_number other = no_begin (λ may. other (may_number may))

  pub no_needs : are_needs_met g op.item ≡ false → false ≡ may_begin p plan h op
  no_needs none = no_begin (λ may. absurd (cc (sym (may_needs may) ∙ none)))

  next_op_is : op.item < item_count p → has_next g op.item ≡ true → op.number ≡ settled h op.item + 1 → is_next p plan h op ≡ true
  next_op_is inside next number =
      let parts = and_parts (not (flies h op.item)) (nat_lt (settled h op.item) (operations p plan (item_at p op.item))) next in
      let exists : op.number ≤ operations p plan (item_at p op.item) = omega (arith, number, ltb-true _ _ parts.1) in
      and_from _ _ (and_from _ _ (and_from _ _ (lt-ltb _ _ inside) parts.0) (eq-eqb _ _ number)) (le-leb _ _ exists)

  pub room_decides : op.item < item_count p → has_next g op.item ≡ true → op.number ≡ settled h op.item + 1 → are_needs_met g op.item ≡ true → has_room g op.item ≡ may_begin p plan h op
  room_decides inside next number needs = ⊎_elim
      (λ fit.
      let room : fits p plan (places_of p (with_entries h (Begin op ∷ []))) ≡ true = sym (ap (λ (f : Followed). fits p plan (places_of p f.history)) (begun_is number)) ∙ fit in
      fit ∙ sym (and_from _ _ (and_from _ _ (next_op_is inside next number) needs) room))
      (λ full. full ∙ no_begin (λ may. absurd (cc (sym (may_room may) ∙ full))))
      (cases_Bool (has_room g op.item))

  -- what may be done is of an item
  pub end_item : is_legal p plan h ≡ true → may_end h op ≡ true → op.item < item_count p
  end_item legal may = (is_counted p plan h legal op.item).within (omega (arith, eqb-true (begun h op.item) (settled h op.item + 1) (ends h op may).flying))

  pub no_end : is_legal p plan h ≡ true → item_count p ≤ op.item → false ≡ may_end h op
  no_end legal beyond = ⊎_elim (λ may. absurd (omega (arith, beyond, end_item legal may))) (λ no. sym no) (cases_Bool (may_end h op))

  pub end_flies : may_end h op ≡ true → flies h op.item ≡ true
  end_flies may = (ends h op may).flying

  pub end_done : may_end h op ≡ true → with_done g op.item ≡ record g { history = with_entries h (Done op ∷ []) }
  end_done may = done_is (ends h op may).number

-- a loop over entries has come to this place: the graph has followed those before it
pub record HasFollowed (old : Followed) (entries : List Entry) (place : ℕ) (now : Followed) : Type 0 where
  pub is : now ≡ record old { history = with_entries old.history (take place entries) }
  pub legal : is_legal old.rollout.problem old.rollout.plan now.history ≡ true
  pub counted : legal_count old.rollout.problem old.rollout.plan old.history entries ≡ place + legal_count old.rollout.problem old.rollout.plan now.history (drop place entries)

pub HasFollowed-start : (old : Followed) (entries : List Entry) → is_legal old.rollout.problem old.rollout.plan old.history ≡ true → HasFollowed old entries 0 old
HasFollowed-start old entries legal = record {
  is = λ i. record old { history = record { start = old.history.start; entries = sym (append-nil old.history.entries) i } };
  legal = legal;
  counted = omega arith;
}

module _ (old : Followed) (entries : List Entry) (place : ℕ) (now : Followed) (so : HasFollowed old entries place now) (entry d : Entry) (inside : place < length entries) (this : entry ≡ get_or entries place d) where
  at_place : drop place entries ≡ entry ∷ drop (place + 1) entries
  at_place =
      let next : suc place ≡ place + 1 = omega arith in
      drop-cons entries place d inside ∙ ap (λ (e : Entry). e ∷ drop (suc place) entries) (sym this) ∙ ap (λ (k : ℕ). entry ∷ drop k entries) next

  same_rollout : now.rollout ≡ old.rollout
  same_rollout = ap (λ (f : Followed). f.rollout) so.is

  may_here : (may : Bool) → may ≡ may_add now.rollout.problem now.rollout.plan now.history entry → may_add old.rollout.problem old.rollout.plan now.history entry ≡ may
  may_here may is = sym (ap (λ (r : Rollout). may_add r.problem r.plan now.history entry) same_rollout) ∙ sym is

  pub HasFollowed-next : (new : Followed) (may : Bool) → may ≡ may_add now.rollout.problem now.rollout.plan now.history entry → may ≡ true
      → new ≡ (if may then record now { history = with_entries now.history (entry ∷ []) } else now) → HasFollowed old entries (place + 1) new
  HasFollowed-next new may told does given =
      let p = old.rollout.problem in
      let plan = old.rollout.plan in
      let may_it : may_add p plan now.history entry ≡ true = may_here may told ∙ does in
      let is : new ≡ record now { history = with_entries now.history (entry ∷ []) } =
      given ∙ ap (λ (b : Bool). if b then record now { history = with_entries now.history (entry ∷ []) } else now) does in
      let longer : take place entries ++ entry ∷ [] ≡ take (place + 1) entries = sym (take-add place 1 entries ∙ ap (λ (l : List Entry). take place entries ++ take 1 l) at_place) in
      let joined : with_entries now.history (entry ∷ []) ≡ with_entries old.history (take (place + 1) entries) =
      ap (λ (f : Followed). with_entries f.history (entry ∷ [])) so.is
      ∙ ap (λ (l : List Entry). record { start = old.history.start; entries = l }) (append_assoc old.history.entries (take place entries) (entry ∷ []))
      ∙ ap (λ (l : List Entry). with_entries old.history l) longer in
      let same : new ≡ record old { history = with_entries old.history (take (place + 1) entries) } =
      is ∙ ap (λ (r : Rollout). record { rollout = r; history = with_entries now.history (entry ∷ []) }) same_rollout ∙ ap (λ (h : History). record old { history = h }) joined in
      record {
        is = same;
        legal = ap (λ (f : Followed). is_legal p plan f.history) is ∙ is_legal-append p plan now.history (entry ∷ []) so.legal (ap (λ (b : Bool). b && true) may_it);
        counted =
            let step : legal_count p plan now.history (drop place entries) ≡ 1 + legal_count p plan (with_entries now.history (entry ∷ [])) (drop (place + 1) entries) =
            ap (legal_count p plan now.history) at_place ∙ ap (λ (b : Bool). if b then 1 + legal_count p plan (with_entries now.history (entry ∷ [])) (drop (place + 1) entries) else 0) may_it in
            omega (arith, so.counted, step, ap (λ (f : Followed). legal_count p plan f.history (drop (place + 1) entries)) is);
      }

  pub HasFollowed-stops : (may : Bool) → may ≡ may_add now.rollout.problem now.rollout.plan now.history entry → may ≡ false
      → legal_count old.rollout.problem old.rollout.plan old.history entries ≡ place
  HasFollowed-stops may told fails =
      let p = old.rollout.problem in
      let plan = old.rollout.plan in
      let may_not : may_add p plan now.history entry ≡ false = may_here may told ∙ fails in
      let step : legal_count p plan now.history (drop place entries) ≡ 0 =
      ap (legal_count p plan now.history) at_place ∙ ap (λ (b : Bool). if b then 1 + legal_count p plan (with_entries now.history (entry ∷ [])) (drop (place + 1) entries) else 0) may_not in
      omega (arith, so.counted, step)

  -- an entry that may not follow leaves the graph there
  pub HasFollowed-kept : (new : Followed) (may : Bool) → may ≡ false → new ≡ (if may then record now { history = with_entries now.history (entry ∷ []) } else now) → new ≡ record old { history = with_entries old.history (take place entries) }
  HasFollowed-kept new may fails given = given ∙ ap (λ (b : Bool). if b then record now { history = with_entries now.history (entry ∷ []) } else now) fails ∙ so.is

pub HasFollowed-all : (old : Followed) (entries : List Entry) (place : ℕ) (now : Followed) → HasFollowed old entries place now → length entries ≡ place
    → (legal_count old.rollout.problem old.rollout.plan old.history entries ≡ length entries) × (now ≡ record old { history = with_entries old.history entries })
HasFollowed-all old entries place now so end =
    let p = old.rollout.problem in
    let plan = old.rollout.plan in
    let none : legal_count p plan now.history (drop place entries) ≡ 0 = ap (legal_count p plan now.history) (drop_all place entries (omega (arith, end))) in
    let whole : take place entries ≡ entries = take_all place entries (omega (arith, end)) in
    (omega (arith, so.counted, none, end), so.is ∙ ap (λ (l : List Entry). record old { history = with_entries old.history l }) whole)
