-- Laws of a round's batch: it may follow, and what its entries are.
use Rattle.std.proofs.Common.{◌≡◌, ℕ, zero, suc, ◌+◌, ◌<◌, ◌≤◌, Bool, true, false, not, ◌&&◌, ◌||◌, ◌==◌, nat_le, List, [], ◌∷◌, ◌++◌, map, length, refl, sym, ap, ap₂, ◌∙◌, subst, arith, eqb-true, eq-eqb, lt-ltb}
use Rattle.std.proofs.lemmas.Bool.{and_parts, and_from, cond_both, not-true}
use Rattle.std.proofs.lemmas.List.Elements.{All-nil, All-cons, All-head, All-tail, All-push, All-weaker, All-filter, All-map, filter_passes}
use Rattle.std.specs.List.{All, filter, list_any}
use Rattle.rollout_rules.specs.Sums.{list_below}
use Rattle.rollout_rules.specs.Wan.{Problem, Plan}
use Rattle.rollout_rules.specs.Items.{item_count}
use Rattle.rollout_rules.specs.History.{History, with_entries, dones_in, begins_in, begun, settled, flies}
use Rattle.rollout_rules.specs.Legal.{may_begin, may_end, may_follow, is_legal}
use Rattle.rollout_rules.specs.Release.{next_op, view_of, waiting, in_order_of, begin_each, is_held_back, released, release, is_covered, dones, batch}
use Rattle.rollout_rules.specs.World.{World, is_writing, is_answered, all_answered, answers_of, allows}
use Rattle.rollout_rules.specs.declared.held.Given.{Given}
use Rattle.rollout_rules.specs.declared.op.Op.{Op}
use Rattle.rollout_rules.specs.declared.op.OpView.{OpView}
use Rattle.rollout_rules.specs.declared.op.Entry.{Entry}
use Rattle.rollout_rules.specs.declared.op.Entry.TheVariants.{Begin, Done}
use Rattle.rollout_rules.specs.declared.event.Event.TheVariants as event
use Rattle.rollout_laws.specs.Batches.{BeginsNext, BeginsUnheld, covers, EndsAnswered}
use Rattle.rollout_laws.proofs.Released.{All-in_order}
use Rattle.rollout_laws.proofs.Histories.{begun-with, settled-with, begun-done, settled-done_other, settled-begin, both_follow, is_legal-append, is_counted}

-- each number stands once in the list
abbrev Apart : List ℕ → Type 0
Apart [] = Unit {0}
Apart (n ∷ ns) = All (λ m. n ≡ m → ⊥) ns × Apart ns

apart-push : (ns : List ℕ) (n : ℕ) → Apart ns → All (λ m. m ≡ n → ⊥) ns → Apart (ns ++ n ∷ [])
apart-push [] n apart other = (All-nil (λ m. n ≡ m → ⊥), tt)
apart-push (m ∷ ns) n apart other =
    (All-push (λ k. m ≡ k → ⊥) ns n apart.0 (All-head (λ k. k ≡ n → ⊥) m ns other), apart-push ns n apart.1 (All-tail (λ k. k ≡ n → ⊥) m ns other))

apart-filter : (test : ℕ → Bool) (ns : List ℕ) → Apart ns → Apart (filter test ns)
apart-filter test [] apart = tt
apart-filter test (n ∷ ns) apart =
    cond_both (test n) (n ∷ filter test ns) (filter test ns) Apart (λ _. (All-filter test (λ m. n ≡ m → ⊥) ns apart.0, apart-filter test ns apart.1)) (λ _. apart-filter test ns apart.1)

abbrev numbers : ℕ → List ℕ
numbers n = list_below n (λ k. k)

pub numbers_below : (n : ℕ) → All (λ k. k < n) (numbers n)
numbers_below zero = All-nil (λ k. k < 0)
numbers_below (suc n) = All-push (λ k. k < suc n) (numbers n) n (All-weaker (λ k. k < n) (λ k. k < suc n) (λ k l. omega arith) (numbers n) (numbers_below n)) (omega arith)

numbers_apart : (n : ℕ) → Apart (numbers n)
numbers_apart zero = tt
numbers_apart (suc n) = apart-push (numbers n) n (numbers_apart n) (All-weaker (λ k. k < n) (λ k. k ≡ n → ⊥) (λ k l e. omega arith) (numbers n) (numbers_below n))

-- an item flies as ever after the Done of another
flies-done_other : (h : History) (op : Op) (n : ℕ) → (op.item ≡ n → ⊥) → flies (with_entries h (Done op ∷ [])) n ≡ flies h n
flies-done_other h op n other = ap₂ (λ a b. a == b + 1) (begun-done h op n) (settled-done_other h op n other)

-- what is still in flight, with the counts of the history at the start
record IsFlying (h g : History) (n : ℕ) : Type 0 where
  flying : flies g n ≡ true
  same : settled g n ≡ settled h n

still_flying : (h g : History) (op : Op) (n : ℕ) → (op.item ≡ n → ⊥) → IsFlying h g n → IsFlying h (with_entries g (Done op ∷ [])) n
still_flying h g op n other was =
    record { flying = flies-done_other g op n other ∙ was.flying; same = settled-done_other g op n other ∙ was.same }

all_answered-append : (migration : ℕ) (handed : List Given) (xs ys : List Entry) → all_answered migration handed xs ≡ true → all_answered migration handed ys ≡ true → all_answered migration handed (xs ++ ys) ≡ true
all_answered-append migration handed [] ys a b = b
all_answered-append migration handed (x ∷ xs) ys a b =
    let parts = and_parts (is_answered migration handed x) (all_answered migration handed xs) a in
    and_from _ _ parts.0 (all_answered-append migration handed xs ys parts.1 b)

and_beside : (a b c : Bool) → b ≡ true → (a && c) ≡ (a && b && c)
and_beside true b c e = rw e refl
and_beside false b c e = refl

or_beside : (a b c d : Bool) → b ≡ false → d ≡ (a && b && c || d)
or_beside true b c d e = rw e refl
or_beside false b c d e = refl

-- the answers of a migration cover what is answered by it
pub covers-answers_of : (migration : ℕ) (op : Op) (handed : List Given) → list_any (covers op) (answers_of migration handed) ≡ is_answered migration handed (Done op)
covers-answers_of migration op [] = refl
covers-answers_of migration op (a ∷ handed) =
    cond_both (a.held.migration == migration) (a ∷ filter (λ b. b.held.migration == migration) handed) (filter (λ b. b.held.migration == migration) handed)
    (λ l. list_any (covers op) (map answer l) ≡ is_answered migration (a ∷ handed) (Done op))
    (λ this. ap₂ (λ b c. b || c) (and_beside (a.item == op.item) (a.held.migration == migration) (nat_le op.number a.held.number) this) (covers-answers_of migration op handed))
    (λ other. covers-answers_of migration op handed ∙ or_beside (a.item == op.item) (a.held.migration == migration) (nat_le op.number a.held.number) (is_answered migration handed (Done op)) other)
  where
    answer : Given → Op
    answer b = record { item = b.item; number = b.held.number }

-- the Done of a covered operation is answered
covered_is_answered : (h : History) (answers : List Op) (n : ℕ) → is_covered h answers n ≡ true → EndsAnswered h answers (Done (next_op h n))
covered_is_answered h answers n covered =
    let parts = and_parts (flies h n) _ covered in
    let same : begun h n ≡ settled h n + 1 = eqb-true _ _ parts.0 in
    (parts.0, refl, subst (λ k. list_any (λ a. (a.item == n) && nat_le k a.number) answers ≡ true) same parts.1)

pub dones_are_answered : (p : Problem) (h : History) (answers : List Op) → All (EndsAnswered h answers) (dones p h answers)
dones_are_answered p h answers =
    All-map (EndsAnswered h answers) (λ n. Done (next_op h n)) (filter (is_covered h answers) (numbers (item_count p)))
    (All-weaker (λ n. is_covered h answers n ≡ true) (λ n. EndsAnswered h answers (Done (next_op h n))) (covered_is_answered h answers) _ (filter_passes (is_covered h answers) (numbers (item_count p))))

ended_all_answered : (h : History) (migration : ℕ) (handed : List Given) (es : List Entry) → All (EndsAnswered h (answers_of migration handed)) es → all_answered migration handed es ≡ true
ended_all_answered h migration handed [] all = refl
ended_all_answered h migration handed (Begin op ∷ es) all = absurd (All-head (EndsAnswered h (answers_of migration handed)) (Begin op) es all)
ended_all_answered h migration handed (Done op ∷ es) all =
    and_from _ _ (sym (covers-answers_of migration op handed) ∙ (All-head (EndsAnswered h (answers_of migration handed)) (Done op) es all).2)
    (ended_all_answered h migration handed es (All-tail (EndsAnswered h (answers_of migration handed)) (Done op) es all))

begun_all_answered : (h : History) (migration : ℕ) (handed : List Given) (es : List Entry) → All (BeginsNext h) es → all_answered migration handed es ≡ true
begun_all_answered h migration handed [] all = refl
begun_all_answered h migration handed (Begin op ∷ es) all = begun_all_answered h migration handed es (All-tail (BeginsNext h) (Begin op) es all)
begun_all_answered h migration handed (Done op ∷ es) all = absurd (All-head (BeginsNext h) (Done op) es all)

-- a list of Begins settles nothing
pub begins_settle_nothing : (h : History) (es : List Entry) (n : ℕ) → All (BeginsNext h) es → dones_in es n ≡ 0
begins_settle_nothing h [] n all = refl
begins_settle_nothing h (Begin op ∷ es) n all = begins_settle_nothing h es n (All-tail (BeginsNext h) (Begin op) es all)
begins_settle_nothing h (Done op ∷ es) n all = absurd (All-head (BeginsNext h) (Done op) es all)

module _ (p : Problem) (plan : Plan) where
  dones_follow_from : (h g : History) (ns : List ℕ) → Apart ns → All (IsFlying h g) ns → may_follow p plan g (map (λ n. Done (next_op h n)) ns) ≡ true
  dones_follow_from h g [] apart flying = refl
  dones_follow_from h g (n ∷ ns) apart flying =
      let here = All-head (IsFlying h g) n ns flying in
      let rest = All-tail (IsFlying h g) n ns flying in
      and_from (may_end g (next_op h n)) _
      (and_from (flies g n) _ here.flying (eq-eqb _ _ (ap (λ k. k + 1) (sym here.same))))
      (dones_follow_from h (with_entries g (Done (next_op h n) ∷ [])) ns apart.1 (λ k d lt. still_flying h g (next_op h n) _ (apart.0 k d lt) (rest k d lt)))

  pub dones_follow : (h : History) (answers : List Op) → may_follow p plan h (dones p h answers) ≡ true
  dones_follow h answers =
      dones_follow_from h h (filter (is_covered h answers) (numbers (item_count p))) (apart-filter (is_covered h answers) _ (numbers_apart (item_count p)))
      (All-weaker (λ n. is_covered h answers n ≡ true) (IsFlying h h) (λ n c. record { flying = (and_parts (flies h n) _ c).0; same = refl }) _ (filter_passes (is_covered h answers) (numbers (item_count p))))

  pub begin_each_follows : (h : History) (ns : List ℕ) → may_follow p plan h (begin_each p plan h ns) ≡ true
  begin_each_follows h [] = refl
  begin_each_follows h (n ∷ ns) =
      cond_both (may_begin p plan h (next_op h n)) _ _ (λ l. may_follow p plan h l ≡ true)
      (λ may. and_from _ _ may (begin_each_follows (with_entries h (Begin (next_op h n) ∷ [])) ns)) (λ _. begin_each_follows h ns)

  begin_each_next : (h g : History) (ns : List ℕ) → ((n : ℕ) → settled g n ≡ settled h n) → All (BeginsNext h) (begin_each p plan g ns)
  begin_each_next h g [] same = All-nil (BeginsNext h)
  begin_each_next h g (n ∷ ns) same =
      cond_both (may_begin p plan g (next_op g n)) _ _ (All (BeginsNext h))
      (λ may. All-cons (BeginsNext h) (Begin (next_op g n)) _ (λ i. record { item = n; number = same n i + 1 })
      (begin_each_next h (with_entries g (Begin (next_op g n) ∷ [])) ns (λ m. settled-begin g (next_op g n) m ∙ same m))) (λ _. begin_each_next h g ns same)

  module _ (policy : OpView → ℕ) where
    -- whether the policy doesn't hold an item back
    abbrev is_free : History → ℕ → Bool
    is_free h n = not (is_held_back policy (view_of p plan h n))

    begin_each_unheld : (h g : History) (ns : List ℕ) → All (λ n. is_free h n ≡ true) ns → All (BeginsUnheld p plan policy h) (begin_each p plan g ns)
    begin_each_unheld h g [] free = All-nil (BeginsUnheld p plan policy h)
    begin_each_unheld h g (n ∷ ns) free =
        let here = not-true _ (All-head (λ m. is_free h m ≡ true) n ns free) in
        let rest = All-tail (λ m. is_free h m ≡ true) n ns free in
        cond_both (may_begin p plan g (next_op g n)) _ _ (All (BeginsUnheld p plan policy h))
        (λ may. All-cons (BeginsUnheld p plan policy h) (Begin (next_op g n)) _ here (begin_each_unheld h (with_entries g (Begin (next_op g n) ∷ [])) ns rest))
        (λ _. begin_each_unheld h g ns rest)

    pub release_follows : (h : History) → may_follow p plan h (release p plan policy h) ≡ true
    release_follows h = begin_each_follows h (in_order_of (λ n. policy (view_of p plan h n)) (released p plan policy h))

    pub release_begins_next : (h : History) → All (BeginsNext h) (release p plan policy h)
    release_begins_next h = begin_each_next h h (in_order_of (λ n. policy (view_of p plan h n)) (released p plan policy h)) (λ n. refl)

    pub release_begins_unheld : (h : History) → All (BeginsUnheld p plan policy h) (release p plan policy h)
    release_begins_unheld h =
        begin_each_unheld h h (in_order_of (λ n. policy (view_of p plan h n)) (released p plan policy h))
        (All-in_order (λ n. is_free h n ≡ true) (λ n. policy (view_of p plan h n)) (released p plan policy h) (filter_passes (is_free h) (waiting p plan h)))

    pub release_begins_once : (h : History) → is_legal p plan h ≡ true → (n : ℕ) → begins_in (release p plan policy h) n ≤ 1
    release_begins_once h legal n =
        let now = is_counted p plan (with_entries h (release p plan policy h)) (is_legal-append p plan h _ legal (release_follows h)) n in
        let was = is_counted p plan h legal n in
        let low = was.settled_begun in
        let high = now.one_flies in
        let none = begins_settle_nothing h (release p plan policy h) n (release_begins_next h) in
        omega (arith, begun-with h (release p plan policy h) n, settled-with h (release p plan policy h) n, low, high, none)

    pub batch_follows : (h : History) (answers : List Op) → may_follow p plan h (batch p plan policy h answers) ≡ true
    batch_follows h answers = both_follow p plan h (dones p h answers) _ (dones_follow h answers) (release_follows (with_entries h (dones p h answers)))

    pub batch_is_legal : (h : History) (answers : List Op) → is_legal p plan h ≡ true → is_legal p plan (with_entries h (batch p plan policy h answers)) ≡ true
    batch_is_legal h answers legal = is_legal-append p plan h _ legal (batch_follows h answers)

    pub batch_is_answered : (h : History) (migration : ℕ) (handed : List Given) → all_answered migration handed (batch p plan policy h (answers_of migration handed)) ≡ true
    batch_is_answered h migration handed =
        let answers = answers_of migration handed in
        let later = with_entries h (dones p h answers) in
        all_answered-append migration handed (dones p h answers) _ (ended_all_answered h migration handed (dones p h answers) (dones_are_answered p h answers))
        (begun_all_answered later migration handed (release p plan policy later) (release_begins_next later))

    pub round_may_be_written : (w : World) → let entries = batch p plan policy w.durable (answers_of w.migration w.handed) in w.up ≡ true → is_writing w ≡ false → 0 < length entries → allows p plan w (event.Write entries) ≡ true
    round_may_be_written w up idle some =
        and_from _ _
        (and_from _ _ (and_from _ _ (and_from _ _ up (ap not idle)) (lt-ltb 0 _ some)) (batch_follows w.durable (answers_of w.migration w.handed)))
        (batch_is_answered w.durable w.migration w.handed)
