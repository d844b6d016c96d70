-- What every allowed event keeps of a world, and so every schedule.
use Rattle.std.proofs.Common.{◌≡◌, ℕ, ◌+◌, ◌<◌, ◌≤◌, ◌⊎◌, true, ◌==◌, nat_lt, List, [], length, take, slice_index, refl, sym, ap, ◌∙◌, subst, ⊎_elim, inl, inr, arith, eqb-true, ltb-true, eq-eqb, ne_eqb}
use Rattle.std.proofs.lemmas.Bool.{and_parts, cond_both, cond-true, cond-false, lt-ltb}
use Rattle.std.proofs.lemmas.List.Elements.{All-nil, All-push, All-weaker, All-map, All-contains, filter_passes, Contains-get_or}
use Rattle.std.specs.List.{All, Contains, filter}
use Rattle.rollout_rules.specs.Sums.{list_below}
use Rattle.rollout_rules.specs.Wan.{Problem, Plan}
use Rattle.rollout_rules.specs.Items.{item_count, item_at}
use Rattle.rollout_rules.specs.Operations.{content_after}
use Rattle.rollout_rules.specs.History.{History, started, with_entries, no_start, begun, settled, flies}
use Rattle.rollout_rules.specs.Legal.{is_sound, may_follow}
use Rattle.rollout_rules.specs.Agent.{pair_of, first_pair, is_at_most, nothing_held}
use Rattle.rollout_rules.specs.Release.{next_op}
use Rattle.rollout_rules.specs.World.{World, no_op, no_answer, number_at, holding_of, pair_at, first_world, is_first_pair, are_first_pairs, no_pairs, held_of, now, in_flight, all_answered, allows, happens}
use Rattle.rollout_rules.specs.declared.held.Held.{Held}
use Rattle.rollout_rules.specs.declared.held.Given.{Given}
use Rattle.rollout_rules.specs.declared.op.Op.{Op}
use Rattle.rollout_rules.specs.declared.op.Entry.{Entry}
use Rattle.rollout_rules.specs.declared.event.Event.TheVariants as event
use Rattle.rollout_rules.proofs.Below.{all_below-at, all_below-from}
use Rattle.rollout_rules.proofs.Rows.{list_below-length, list_below-at}
use Rattle.rollout_rules.proofs.Pairs.{at_most-refl}
use Rattle.rollout_laws.specs.Kept.{IsBegun, IsEarlierPair, IsHeldRight, HasAnswer, IsKept}
use Rattle.rollout_laws.specs.SafeWorlds.{MayBeHeldAtFirst}
use Rattle.rollout_laws.proofs.Histories.{begun-with, take_follows, started_is_legal, is_legal-append}
use Rattle.rollout_laws.proofs.Pairs.{number-same, number-answered}
use Rattle.rollout_laws.proofs.Answers.{all_answered-more, all_answered-take, settled-applied}

-- a history that goes on has begun no less
pub begun-more : (h : History) (es : List Entry) (op : Op) → IsBegun h op → IsBegun (with_entries h es) op
begun-more h es op was =
    let high = was.high in
    record { low = was.low; high = omega (arith, high, begun-with h es op.item) }

-- each operation in flight is begun
pub flying_is_begun : (h : History) (n : ℕ) → flies h n ≡ true → IsBegun h (next_op h n)
flying_is_begun h n flying =
    let count = eqb-true (begun h n) (settled h n + 1) flying in
    record { low = omega arith; high = omega (arith, count) }

pub in_flight_is_begun : (p : Problem) (h : History) → All (IsBegun h) (in_flight p h)
in_flight_is_begun p h =
    All-map (IsBegun h) (next_op h) (filter (flies h) (list_below (item_count p) (λ n. n)))
    (All-weaker (λ n. flies h n ≡ true) (λ n. IsBegun h (next_op h n)) (flying_is_begun h) _ (filter_passes (flies h) (list_below (item_count p) (λ n. n))))

-- what is held at first
pub first_held : (p : Problem) (plan : Plan) (start : List ℕ) (migration : ℕ) (first : List Held) (n : ℕ) → n < item_count p → held_of (first_world p plan start migration first) n ≡ holding_of p plan start migration n (pair_at first n)
first_held p plan start migration first n lt = list_below-at (item_count p) (λ k. holding_of p plan start migration k (pair_at first k)) n nothing_held lt

-- a first pair is of this migration or of an earlier one, and stands for the start
first_is_earlier : (migration start : ℕ) (held : Held) → is_first_pair migration start held ≡ true → (held.migration ≡ migration) ⊎ IsEarlierPair migration held held
first_is_earlier migration start held =
    cond_both (held.migration == migration) (held.number == start) (nat_lt held.migration migration) (λ b. b ≡ true → (held.migration ≡ migration) ⊎ IsEarlierPair migration held held)
    (λ same _. inl (eqb-true held.migration migration same))
    (λ _ lt. inr (record { same = refl; earlier = ltb-true held.migration migration lt }))

pub first_is_start : (migration start : ℕ) (held : Held) → is_first_pair migration start held ≡ true → number_at migration start held ≡ start
first_is_start migration start held is =
    cond_both (held.migration == migration) held.number start (λ k. k ≡ start)
    (λ same. eqb-true held.number start (sym (cond-true (held.migration == migration) (held.number == start) (nat_lt held.migration migration) same) ∙ is))
    (λ _. refl)

-- each pair that may be held at first is one that may be, and no other
one_first_pair : (migration start : ℕ) (held : Held) → (held ≡ pair_of migration start) ⊎ (held.migration < migration) → is_first_pair migration start held ≡ true
one_first_pair migration start held (inl same) =
    subst (λ h. is_first_pair migration start h ≡ true) (sym same)
    (cond-true (migration == migration) (start == start) (nat_lt migration migration) (eq-eqb migration migration refl) ∙ eq-eqb start start refl)
one_first_pair migration start held (inr lt) =
    cond-false (held.migration == migration) (held.number == start) (nat_lt held.migration migration) (ne_eqb held.migration migration (λ e. omega (arith, e, lt))) ∙ lt-ltb held.migration migration lt

first_pair_is_one : (migration start : ℕ) (held : Held) → is_first_pair migration start held ≡ true → (held ≡ pair_of migration start) ⊎ (held.migration < migration)
first_pair_is_one migration start held is =
    ⊎_elim
    (λ (same : held.migration ≡ migration). inl (λ k. record { migration = same k; number = (sym (number-same migration start held same) ∙ first_is_start migration start held is) k }))
    (λ (e : IsEarlierPair migration held held). inr e.earlier)
    (first_is_earlier migration start held is)

pub first_pairs-from : (p : Problem) (start : List ℕ) (migration : ℕ) (first : List Held) → MayBeHeldAtFirst p start migration first → are_first_pairs p start migration first ≡ true
first_pairs-from p start migration first may =
    all_below-from (item_count p) (λ n. is_first_pair migration (slice_index start n) (pair_at first n)) (λ n lt. one_first_pair migration (slice_index start n) (pair_at first n) (may n lt))

pub first_pairs-are : (p : Problem) (start : List ℕ) (migration : ℕ) (first : List Held) → are_first_pairs p start migration first ≡ true → MayBeHeldAtFirst p start migration first
first_pairs-are p start migration first firsts n lt =
    first_pair_is_one migration (slice_index start n) (pair_at first n) (all_below-at (item_count p) (λ k. is_first_pair migration (slice_index start k) (pair_at first k)) firsts n lt)

-- in a network's first migration nothing was applied, and each item is held with the first pair
pub new_pairs_are_first : (p : Problem) → are_first_pairs p (no_start p) 0 (no_pairs p) ≡ true
new_pairs_are_first p =
    first_pairs-from p (no_start p) 0 (no_pairs p)
    (λ n lt. inl (list_below-at (item_count p) (λ k. first_pair) n first_pair lt ∙ ap (pair_of 0) (sym (list_below-at (item_count p) (λ k. 0) n 0 lt))))

-- at first each item is held with its pair, and with the content of the start
pub held-first_pair : (p : Problem) (plan : Plan) (start : List ℕ) (migration : ℕ) (first : List Held) (n : ℕ) → n < item_count p → (held_of (first_world p plan start migration first) n).held ≡ pair_at first n
held-first_pair p plan start migration first n lt = ap (λ v. v.held) (first_held p plan start migration first n lt)

pub held-start : (p : Problem) (plan : Plan) (start : List ℕ) (migration : ℕ) (first : List Held) → are_first_pairs p start migration first ≡ true → (n : ℕ) → n < item_count p → (held_of (first_world p plan start migration first) n).content ≡ content_after p plan (item_at p n) (slice_index start n)
held-start p plan start migration first firsts n lt =
    ap (λ v. v.content) (first_held p plan start migration first n lt)
    ∙ ap (content_after p plan (item_at p n)) (first_is_start migration (slice_index start n) (pair_at first n) (all_below-at (item_count p) (λ k. is_first_pair migration (slice_index start k) (pair_at first k)) firsts n lt))

module _ (p : Problem) (plan : Plan) where
  module _ (start : List ℕ) (migration : ℕ) (first : List Held) where
    first_is_right : are_first_pairs p start migration first ≡ true → (n : ℕ) → n < item_count p → IsHeldRight p plan migration (pair_at first n) (started start) n (holding_of p plan start migration n (pair_at first n))
    first_is_right firsts n lt =
        let is = all_below-at (item_count p) (λ k. is_first_pair migration (slice_index start k) (pair_at first k)) firsts n lt in
        let number = first_is_start migration (slice_index start n) (pair_at first n) is in
        record {
          low = omega (arith, number);
          high = omega (arith, number);
          content = refl;
          least = at_most-refl (pair_at first n);
          pair = first_is_earlier migration (slice_index start n) (pair_at first n) is;
        }

    pub first_world_is_kept : is_sound p plan start ≡ true → are_first_pairs p start migration first ≡ true → IsKept p plan (first_world p plan start migration first)
    first_world_is_kept sound firsts =
        let w = first_world p plan start migration first in
        record {
          legal = started_is_legal p plan start sound;
          follows = refl;
          sent = All-nil (IsBegun (started start));
          items = list_below-length (item_count p) (λ n. holding_of p plan start migration n (pair_at first n));
          held = λ n lt. subst (IsHeldRight p plan migration (pair_at first n) (started start) n) (sym (first_held p plan start migration first n lt)) (first_is_right firsts n lt);
          given = All-nil (λ a. is_at_most a.held (held_of w a.item).held ≡ true);
          answering = All-nil (λ a. a.item < item_count p);
          handed = All-nil (Contains []);
          answered = refl;
        }

  module _ (w : World) (kept : IsKept p plan w) where
    -- an answer handed over is of an item, and is at most what is held of it
    answer_is_given : (a : Given) → Contains w.handed a → Contains w.given a
    answer_is_given a there = All-contains (Contains w.given) w.handed a kept.handed there

    pub answer_is_of_an_item : (op : Op) → HasAnswer w.migration w.handed op → op.item < item_count p
    answer_is_of_an_item op has =
        subst (λ n. n < item_count p) has.item (All-contains (λ b. b.item < item_count p) w.given has.answer kept.answering (answer_is_given has.answer has.there))

    -- what an answer of this migration told was applied
    pub answer_was_applied : (op : Op) → HasAnswer w.migration w.handed op → op.number ≤ now w op.item
    answer_was_applied op has =
        let a = has.answer in
        let given = answer_is_given a has.there in
        let lt = All-contains (λ b. b.item < item_count p) w.given a kept.answering given in
        let late = All-contains (λ b. is_at_most b.held (held_of w b.item).held ≡ true) w.given a kept.given given in
        let told = number-answered w.migration (slice_index w.durable.start a.item) (pair_at w.first a.item) a.held (held_of w a.item).held has.migration late (kept.held a.item lt).pair in
        let number = has.number in
        subst (λ n. op.number ≤ now w n) has.item (omega (arith, number, told))

    -- what is held stays right when entries become durable that are answered
    held-more : (b : List Entry) → may_follow p plan w.durable b ≡ true → all_answered w.migration w.handed b ≡ true → (n : ℕ) → n < item_count p → IsHeldRight p plan w.migration (pair_at w.first n) (with_entries w.durable b) n (held_of w n)
    held-more b follows answered n lt =
        let was = kept.held n lt in
        let high = was.high in
        record {
          low = settled-applied w.migration p plan (now w) w.handed answer_was_applied w.durable b follows answered n was.low;
          high = omega (arith, high, begun-with w.durable b n);
          content = was.content;
          least = was.least;
          pair = was.pair;
        }

    pub kept-Write : (b : List Entry) → allows p plan w (event.Write b) ≡ true → IsKept p plan (happens p plan w (event.Write b))
    kept-Write b allowed =
        let a = and_parts _ (all_answered w.migration w.handed b) allowed in
        let f = and_parts _ (may_follow p plan w.durable b) a.0 in
        record { legal = kept.legal; follows = f.1; sent = kept.sent; items = kept.items; held = kept.held; given = kept.given; answering = kept.answering; handed = kept.handed; answered = a.1 }

    pub kept-EndWrite : IsKept p plan (happens p plan w event.EndWrite)
    kept-EndWrite =
        record {
          legal = is_legal-append p plan w.durable w.writing kept.legal kept.follows;
          follows = refl;
          sent = All-weaker (IsBegun w.durable) (IsBegun (with_entries w.durable w.writing)) (begun-more w.durable w.writing) w.sent kept.sent;
          items = kept.items;
          held = held-more w.writing kept.follows kept.answered;
          given = kept.given;
          answering = kept.answering;
          handed = kept.handed;
          answered = refl;
        }

    pub kept-Send : (n : ℕ) → allows p plan w (event.Send n) ≡ true → IsKept p plan (happens p plan w (event.Send n))
    kept-Send n allowed =
        let lt = ltb-true n (length (in_flight p w.durable)) (and_parts _ (nat_lt n (length (in_flight p w.durable))) allowed).1 in
        record {
          legal = kept.legal;
          follows = kept.follows;
          sent = All-push (IsBegun w.durable) w.sent _ kept.sent (in_flight_is_begun p w.durable n no_op lt);
          items = kept.items;
          held = kept.held;
          given = kept.given;
          answering = kept.answering;
          handed = kept.handed;
          answered = kept.answered;
        }

    pub kept-Hand : (n : ℕ) → allows p plan w (event.Hand n) ≡ true → IsKept p plan (happens p plan w (event.Hand n))
    kept-Hand n allowed =
        let lt = ltb-true n (length w.given) (and_parts w.up (nat_lt n (length w.given)) allowed).1 in
        record {
          legal = kept.legal;
          follows = kept.follows;
          sent = kept.sent;
          items = kept.items;
          held = kept.held;
          given = kept.given;
          answering = kept.answering;
          handed = All-push (Contains w.given) w.handed _ kept.handed (Contains-get_or w.given n no_answer lt);
          answered = all_answered-more w.migration w.handed _ w.writing kept.answered;
        }

    pub kept-Crash : (n : ℕ) → IsKept p plan (happens p plan w (event.Crash n))
    kept-Crash n =
        let follows = take_follows p plan w.durable w.writing n kept.follows in
        record {
          legal = is_legal-append p plan w.durable (take n w.writing) kept.legal follows;
          follows = refl;
          sent = All-weaker (IsBegun w.durable) (IsBegun (with_entries w.durable (take n w.writing))) (begun-more w.durable (take n w.writing)) w.sent kept.sent;
          items = kept.items;
          held = held-more (take n w.writing) follows (all_answered-take w.migration w.handed n w.writing kept.answered);
          given = kept.given;
          answering = kept.answering;
          handed = All-nil (Contains w.given);
          answered = refl;
        }

    pub kept-Restart : IsKept p plan (happens p plan w event.Restart)
    kept-Restart = record { legal = kept.legal; follows = kept.follows; sent = kept.sent; items = kept.items; held = kept.held; given = kept.given; answering = kept.answering; handed = kept.handed; answered = kept.answered }
