-- A graph goes on by an entry that may be added.
use Rattle.std.proofs.Common.{◌≡◌, ℕ, ◌+◌, ◌*◌, ◌<◌, ◌≤◌, true, not, ◌&&◌, ◌==◌, List, [], ◌∷◌, ◌++◌, length, length-append, nat_le, nat_lt, refl, sym, ap, ◌∙◌, subst, arith, eq-eqb, ne_eqb, eqb-true, lt-ltb, ltb-true, le-leb}
use Rattle.std.proofs.lemmas.Bool.{and_parts}
use Rattle.rollout_rules.specs.Sums.{sum_below}
use Rattle.rollout_rules.specs.Wan.{Problem, Plan}
use Rattle.rollout_rules.specs.Items.{item_count}
use Rattle.rollout_rules.specs.History.{History, started, with_entries, begun, settled, flies}
use Rattle.rollout_rules.specs.Legal.{may_add, is_sound, is_legal}
use Rattle.rollout_rules.specs.Release.{next_op}
use Rattle.rollout_rules.specs.declared.op.Op.{Op}
use Rattle.rollout_rules.specs.declared.op.Entry.{Entry}
use Rattle.rollout_rules.specs.declared.op.Entry.TheVariants.{Begin, Done}
use Rattle.rollout_rules.proofs.Below.{sum_below-mono, sum_below-but, sum_below-plus, sum_below-zero}
use Rattle.rollout_laws.proofs.Histories.{begins_in-append, dones_in-append, begins, ends, is_counted, started_is_legal, is_legal-append}
use Rattle.dependency_graph.specs.Progress.{Counts, AreCountsOf, MayCount}
use Rattle.dependency_graph.specs.Graph.{Followed, count_of, op_total, has_next, are_needs_met, has_room, entries_of, IsFollowed}
use Rattle.dependency_graph.proofs.Following.{counted_next}

-- the item of an entry
abbrev pub item_of : Entry → ℕ
item_of (Begin op) = op.item
item_of (Done op) = op.item

-- an entry is one of its item's, and no other's
entries-one : (e : Entry) → entries_of (e ∷ []) (item_of e) ≡ 1
entries-one (Begin op) = let same = eq-eqb op.item op.item refl in rw same refl
entries-one (Done op) = let same = eq-eqb op.item op.item refl in rw same refl

entries-other : (e : Entry) (n : ℕ) → (item_of e ≡ n → ⊥) → entries_of (e ∷ []) n ≡ 0
entries-other (Begin op) n other = let no = ne_eqb op.item n other in rw no refl
entries-other (Done op) n other = let no = ne_eqb op.item n other in rw no refl

entries-more : (es : List Entry) (e : Entry) (n : ℕ) → entries_of (es ++ e ∷ []) n ≡ entries_of es n + entries_of (e ∷ []) n
entries-more es e n = omega (arith, begins_in-append es (e ∷ []) n, dones_in-append es (e ∷ []) n)

entries-counted : (m : ℕ) (es : List Entry) (e : Entry) → item_of e < m → length es ≡ sum_below m (entries_of es) → length (es ++ e ∷ []) ≡ sum_below m (entries_of (es ++ e ∷ []))
entries-counted m es e inside so =
    let n = item_of e in
    let but = sum_below-but m n (entries_of es) (entries_of (es ++ e ∷ [])) inside (λ j lt other. omega (arith, entries-more es e j, entries-other e j (λ q. other (sym q)))) in
    omega (arith, but, entries-more es e n, entries-one e, so, length-append es (e ∷ []))

-- an entry that may be added is of an item
add-inside : (p : Problem) (plan : Plan) (h : History) (e : Entry) → is_legal p plan h ≡ true → may_add p plan h e ≡ true → item_of e < item_count p
add-inside p plan h (Begin op) legal may = (begins p plan h op may).next.within
add-inside p plan h (Done op) legal may =
    (is_counted p plan h legal op.item).within (omega (arith, flying op (ends h op may).flying))
  where
    flying : (op : Op) → flies h op.item ≡ true → begun h op.item ≡ settled h op.item + 1
    flying op e = eqb-true (begun h op.item) (settled h op.item + 1) e

module _ (c : Counts) (h : History) (room : ℕ) (so : IsFollowed c h room) (e : Entry) (may : may_add c.rollout.problem c.rollout.plan h e ≡ true) where
  abbrev p : Problem
  p = c.rollout.problem

  abbrev plan : Plan
  plan = c.rollout.plan

  abbrev more : History
  more = with_entries h (e ∷ [])

  legal-more : is_legal p plan more ≡ true
  legal-more = is_legal-append p plan h (e ∷ []) so.legal (ap (λ b. b && true) may)

  pub followed-left : MayCount c e
  followed-left = counted_next c h e so.counts legal-more

  pub followed-inside : item_of e < item_count p
  followed-inside = add-inside p plan h e so.legal may

  entries-all : length more.entries ≡ sum_below (item_count p) (entries_of more.entries)
  entries-all = entries-counted (item_count p) h.entries e followed-inside so.entries

  entries-most : length more.entries ≤ 2 * op_total c.rollout
  entries-most = omega (
    arith,
    entries-all,
    sum_below-mono (item_count p) (entries_of more.entries) (λ n. count_of c.rollout n + count_of c.rollout n) (λ n lt.
        let counted = is_counted p plan more legal-more n in
        omega (arith, counted.exist lt, counted.settled_begun)),
    sum_below-plus (item_count p) (count_of c.rollout) (count_of c.rollout),
  )

  -- there is room for it
  pub followed-room : length h.entries < room
  followed-room = omega (arith, entries-most, so.room, length-append h.entries (e ∷ []))

  -- and the graph that it leads to
  pub followed-more : (c' : Counts) → c'.rollout ≡ c.rollout → AreCountsOf c' more → IsFollowed c' more room
  followed-more c' same counts = record {
    start = so.start ∙ ap (λ r. item_count r.problem) (sym same);
    legal = subst (λ r. is_legal r.problem r.plan more ≡ true) (sym same) legal-more;
    counts = counts;
    entries = entries-all ∙ ap (λ r. sum_below (item_count r.problem) (entries_of more.entries)) (sym same);
    room = subst (λ r. 2 * op_total r ≤ room) (sym same) so.room;
  }

-- the next operation of an item may begin where the three tests hold, and be done where it flies
module _ (g : Followed) (n : ℕ) (inside : n < item_count g.rollout.problem) where
  pub next-may_begin : has_next g n ≡ true → are_needs_met g n ≡ true → has_room g n ≡ true → may_add g.rollout.problem g.rollout.plan g.history (Begin (next_op g.history n)) ≡ true
  next-may_begin next needs room =
      let parts = and_parts (not (flies g.history n)) (nat_lt (settled g.history n) (count_of g.rollout n)) next in
      let idle : not (flies g.history n) ≡ true = parts.0 in
      let left : settled g.history n < count_of g.rollout n = ltb-true (settled g.history n) (count_of g.rollout n) parts.1 in
      let here : nat_lt n (item_count g.rollout.problem) ≡ true = lt-ltb n (item_count g.rollout.problem) inside in
      let same : (settled g.history n + 1 == settled g.history n + 1) ≡ true = eq-eqb (settled g.history n + 1) (settled g.history n + 1) refl in
      let exists : nat_le (settled g.history n + 1) (count_of g.rollout n) ≡ true = le-leb (settled g.history n + 1) (count_of g.rollout n) (omega (arith, left)) in
      rw (here, idle, same, exists, needs, room) refl

  pub next-may_end : flies g.history n ≡ true → may_add g.rollout.problem g.rollout.plan g.history (Done (next_op g.history n)) ≡ true
  next-may_end flying = let same : (settled g.history n + 1 == settled g.history n + 1) ≡ true = eq-eqb (settled g.history n + 1) (settled g.history n + 1) refl in rw (flying, same) refl

-- an item that flies has an operation left
pub flying-left : (g : Followed) (n : ℕ) → n < item_count g.rollout.problem → is_legal g.rollout.problem g.rollout.plan g.history ≡ true → flies g.history n ≡ true → settled g.history n < count_of g.rollout n
flying-left g n inside legal flying =
    let counted = is_counted g.rollout.problem g.rollout.plan g.history legal n in
    omega (arith, counted.exist inside, eqb-true (begun g.history n) (settled g.history n + 1) flying)

-- and so has one with a next operation
pub next-left : (g : Followed) (n : ℕ) → has_next g n ≡ true → settled g.history n < count_of g.rollout n
next-left g n next =
    let parts = and_parts (not (flies g.history n)) (nat_lt (settled g.history n) (count_of g.rollout n)) next in
    ltb-true (settled g.history n) (count_of g.rollout n) parts.1

-- a graph at its start
pub followed-first : (c : Counts) (start : List ℕ) (spare : ℕ) → length start ≡ item_count c.rollout.problem → is_sound c.rollout.problem c.rollout.plan start ≡ true → AreCountsOf c (started start) → 2 * op_total c.rollout ≤ spare → IsFollowed c (started start) spare
followed-first c start spare numbers sound counts room = record {
  start = numbers;
  legal = started_is_legal c.rollout.problem c.rollout.plan start sound;
  counts = counts;
  entries = sym (sum_below-zero (item_count c.rollout.problem) (entries_of []) (λ k lt. refl));
  room = room;
}
