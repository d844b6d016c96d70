-- What a controller's side keeps, across what it hears and across a round.
use Rattle.std.proofs.Common.{◌≡◌, ℕ, ◌+◌, ◌*◌, ◌<◌, ◌≤◌, true, List, [], ◌∷◌, ◌++◌, filter, length, All, refl, sym, ap, ap₂, ◌∙◌, subst, arith}
use Rattle.std.proofs.lemmas.List.Elements.{All-map, All-filter}
use Rattle.rollout_rules.specs.Items.{item_count}
use Rattle.rollout_rules.specs.History.{History, with_entries, flies}
use Rattle.rollout_rules.specs.Legal.{is_legal, may_follow}
use Rattle.rollout_rules.specs.Release.{next_op, dones, batch}
use Rattle.rollout_rules.specs.World.{in_flight}
use Rattle.rollout_rules.specs.Wan.{Problem}
use Rattle.rollout_rules.specs.declared.op.Op.{Op}
use Rattle.rollout_rules.specs.declared.op.OpView.{OpView}
use Rattle.rollout_rules.specs.declared.op.Entry.{Entry}
use Rattle.rollout_laws.proofs.Histories.{with_both}
use Rattle.rollout_laws.proofs.Rounds.{numbers_below, batch_follows, batch_is_legal}
use Rattle.dependency_graph.specs.Graph.{Followed}
use Rattle.update_scheduler.specs.Benches.{Begun}
use Rattle.update_scheduler.specs.Tried.{released_by, with_release}
use Rattle.update_scheduler.specs.Endings.{Acks, covered_items, with_told, ended, with_ended, with_dones}
use Rattle.update_scheduler.specs.InFlight.{Flown, with_each}
use Rattle.update_scheduler.specs.Rounds.{Turning, after_round}
use Rattle.update_scheduler.specs.Rows.{numbers}
use Rattle.update_scheduler.specs.Turns.{with_batch, begun_in, IsTurning}
use Rattle.update_scheduler.proofs.Ended.{covered-ended, told-more, none-covered}
use Rattle.update_scheduler.proofs.Flying.{flown-each}
use Rattle.update_scheduler.proofs.Batches.{flying-short, counts-long, batch-begins, batch-few_begins, batch-few_dones}

-- ---- operations in flight
pub flying-inside : (p : Problem) (h : History) → All (λ op. op.item < item_count p) (in_flight p h)
flying-inside p h = All-map (λ op. op.item < item_count p) (next_op h) (filter (flies h) (numbers (item_count p))) (All-filter (flies h) (λ n. n < item_count p) (numbers (item_count p)) (numbers_below (item_count p)))

-- ---- the steps of a batch
pub ended-graph : (g : Followed) (answers : List Op) (row : List ℕ) → row ≡ covered_items g.rollout.problem g.history answers → with_ended g row ≡ with_dones g answers
ended-graph g answers row is =
    let same = ap (ended g.history) is ∙ covered-ended g.rollout.problem g.history answers in
    λ i. record { rollout = g.rollout; history = with_entries g.history (same i) }

pub batch-graph : (g : Followed) (policy : OpView → ℕ) (answers : List Op) → with_release (with_dones g answers) policy ≡ with_batch g policy answers
batch-graph g policy answers =
    let whole = with_both g.history (dones g.rollout.problem g.history answers) (released_by (with_dones g answers) policy) in
    λ i. record { rollout = g.rollout; history = whole i }

-- ---- at first
pub first-turning : (g : Followed) (bench : Begun) (flights : Flown) (told : Acks) (entries : List Entry) (room items : ℕ) → is_legal g.rollout.problem g.rollout.plan g.history ≡ true
    → bench ≡ record { items = item_count g.rollout.problem; begun = [] } → flights ≡ record { items = item_count g.rollout.problem; ops = in_flight g.rollout.problem g.history } → told ≡ record { items = items; row = []; answers = [] } → entries ≡ []
    → items ≡ item_count g.rollout.problem → room ≡ 2 * items → IsTurning g bench flights told entries room
first-turning g bench flights told entries room items legal bench-is flights-are told-is none count room-is = rw (bench-is, flights-are, told-is, none, room-is, count) record {
  legal = legal;
  bench_fits = refl;
  flights_fit = refl;
  flying = refl;
  heard = (refl, none-covered g.rollout.problem g.history);
  begins = refl;
  few_dones = omega arith;
  few_begins = omega arith;
  enough = omega arith;
}

-- ---- hearing
module _ (g : Followed) (bench : Begun) (flights : Flown) (told : Acks) (entries : List Entry) (room : ℕ) (now : IsTurning g bench flights told entries room) where
  pub hears : (answer : Op) → answer.item < item_count g.rollout.problem
      → IsTurning g bench flights (record { items = told.items; row = with_told g.history told.row answer; answers = told.answers ++ answer ∷ [] }) entries room
  hears answer lt = record {
    legal = now.legal;
    bench_fits = now.bench_fits;
    flights_fit = now.flights_fit;
    flying = now.flying;
    heard = (now.heard.0, told-more g.rollout.problem g.history told.answers answer told.row lt now.heard.1);
    begins = now.begins;
    few_dones = now.few_dones;
    few_begins = now.few_begins;
    enough = now.enough;
  }

  pub forgets : IsTurning g bench flights (record { items = told.items; row = []; answers = [] }) entries room
  forgets = record {
    legal = now.legal;
    bench_fits = now.bench_fits;
    flights_fit = now.flights_fit;
    flying = now.flying;
    heard = (now.heard.0, none-covered g.rollout.problem g.history);
    begins = now.begins;
    few_dones = now.few_dones;
    few_begins = now.few_begins;
    enough = now.enough;
  }

  pub few-flights : length flights.ops ≤ flights.items
  few-flights = omega (arith, ap length now.flying, flying-short g.rollout.problem g.history, now.flights_fit)

  -- ---- a round
  module _ (policy : OpView → ℕ) (next : Followed) (bench' : Begun) (told' : Acks) (entries' : List Entry) (room' : ℕ)
      (next-is : next ≡ with_batch g policy told.answers)
      (entries-are : entries' ≡ batch g.rollout.problem g.rollout.plan policy g.history told.answers)
      (bench-is : bench' ≡ record { items = bench.items; begun = begun_in g policy told.answers })
      (told-is : told' ≡ record { items = told.items; row = []; answers = [] })
      (room-is : room' ≡ room) where
    turns : (flights' : Flown) → flights'.items ≡ flights.items → flights'.ops ≡ in_flight g.rollout.problem (with_batch g policy told.answers).history
        → IsTurning (with_batch g policy told.answers) (record { items = bench.items; begun = begun_in g policy told.answers }) flights' (record { items = told.items; row = []; answers = [] }) (batch g.rollout.problem g.rollout.plan policy g.history told.answers) room
    turns flights' fit are = record {
      legal = batch_is_legal g.rollout.problem g.rollout.plan policy g.history told.answers now.legal;
      bench_fits = now.bench_fits;
      flights_fit = fit ∙ now.flights_fit;
      flying = are;
      heard = (now.heard.0, none-covered g.rollout.problem (with_batch g policy told.answers).history);
      begins = batch-begins g.rollout.problem g.rollout.plan policy g.history told.answers;
      few_dones = batch-few_dones g.rollout.problem g.rollout.plan policy g.history told.answers;
      few_begins = batch-few_begins g.rollout.problem g.rollout.plan policy g.history told.answers;
      enough = now.enough;
    }

    moved : (flights' : Flown) → flights'.items ≡ flights.items → flights'.ops ≡ in_flight g.rollout.problem (with_batch g policy told.answers).history → IsTurning next bench' flights' told' entries' room'
    moved flights' fit are = rw (next-is, bench-is, told-is, entries-are, room-is) (turns flights' fit are)

    pub turned : (flights' : Flown) → flights'.items ≡ flights.items → flights'.ops ≡ with_each flights.ops entries' → IsTurning next bench' flights' told' entries' room'
    turned flights' fit are =
        let p = g.rollout.problem in
        let es = batch p g.rollout.plan policy g.history told.answers in
        moved flights' fit (are ∙ ap₂ (λ ops new. with_each ops new) now.flying entries-are ∙ flown-each p g.rollout.plan g.history es now.legal (batch_follows p g.rollout.plan policy g.history told.answers))

    pub few-entries : length flights.ops + length entries' ≤ 3 * flights.items
    few-entries =
        let p = g.rollout.problem in
        let es = batch p g.rollout.plan policy g.history told.answers in
        omega (
          arith,
          few-flights,
          ap length entries-are,
          counts-long es,
          batch-few_dones p g.rollout.plan policy g.history told.answers,
          batch-few_begins p g.rollout.plan policy g.history told.answers,
          now.flights_fit,
        )

    -- what contracts see after it
    pub turned-view : (t : Turning) → record { rollout = g.rollout; history = g.history; heard = told.answers; batch = entries } ≡ t → record { rollout = next.rollout; history = next.history; heard = told'.answers; batch = entries' } ≡ after_round t policy
    turned-view t is =
        ap (λ (f : Followed). record { rollout = f.rollout; history = f.history; heard = told'.answers; batch = entries' }) next-is
        ∙ ap (λ (d : Acks). record { rollout = g.rollout; history = (with_batch g policy told.answers).history; heard = d.answers; batch = entries' }) told-is
        ∙ ap (λ (es : List Entry). record { rollout = g.rollout; history = (with_batch g policy told.answers).history; heard = []; batch = es }) entries-are
        ∙ ap (λ (u : Turning). after_round u policy) is

    pub turned-follows : (t : Turning) → record { rollout = g.rollout; history = g.history; heard = told.answers; batch = entries } ≡ t → may_follow t.rollout.problem t.rollout.plan t.history entries' ≡ true
    turned-follows t is =
        subst (λ (u : Turning). may_follow u.rollout.problem u.rollout.plan u.history entries' ≡ true) is
        (subst (λ (es : List Entry). may_follow g.rollout.problem g.rollout.plan g.history es ≡ true) (sym entries-are) (batch_follows g.rollout.problem g.rollout.plan policy g.history told.answers))
