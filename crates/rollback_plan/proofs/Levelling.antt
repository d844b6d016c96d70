-- Levelling: what a round begins under a policy that holds, where it has nothing to begin, and the way to a level.
use Rattle.std.proofs.Common.{◌≡◌, ℕ, ◌+◌, ◌-◌, ◌<◌, ◌≤◌, ◌⊎◌, Bool, true, false, ◌==◌, if◌then◌else◌, nat_le, List, [], ◌∷◌, inl, inr, refl, sym, ap, ◌∙◌, subst, arith, leb-true, le-leb, le_refl, eqb-true, ne_eqb}
use Rattle.std.proofs.lemmas.Bool.{and_parts, and_from, both_ways, cases_eq, cases_lt, lt-leb}
use Rattle.std.proofs.lemmas.List.Elements.{All-head, All-tail}
use Rattle.std.specs.List.{All}
use Rattle.rollout_rules.specs.Wan.{Problem, Plan, last_stage}
use Rattle.rollout_rules.specs.Network.{IsNetwork}
use Rattle.rollout_rules.specs.Items.{item_count, item_at, number_of, content}
use Rattle.rollout_rules.specs.Operations.{changes_to, operations, stand_after, content_after}
use Rattle.rollout_rules.specs.History.{History, Places, with_entries, begins_in, begun, settled, places_of, stand}
use Rattle.rollout_rules.specs.Room.{least_stage}
use Rattle.rollout_rules.specs.Valid.{is_valid_plan}
use Rattle.rollout_rules.specs.Legal.{may_begin, is_legal, is_finished}
use Rattle.rollout_rules.specs.Release.{next_op, view_of, held_back, is_held_back, release, dones, batch}
use Rattle.rollout_rules.specs.declared.op.Op.{Op}
use Rattle.rollout_rules.specs.declared.op.OpView.{OpView}
use Rattle.rollout_rules.specs.declared.op.Entry.{Entry}
use Rattle.rollout_rules.specs.declared.op.Entry.TheVariants.{Begin, Done}
use Rattle.rollout_rules.proofs.Below.{all_below-at, all_below-from}
use Rattle.rollout_rules.proofs.Numbers.{item_at-number_of, number_of-item_at, number_of-below, is_item-item_at}
use Rattle.rollout_rules.proofs.OverItems.{least_items-is}
use Rattle.rollout_laws.specs.Waiting.{NothingFlies}
use Rattle.rollout_laws.specs.Batches.{BeginsUnheld, EndsAnswered}
use Rattle.rollout_laws.proofs.Histories.{with_both, begun-with, settled-with, is_counted, is_legal-append}
use Rattle.rollout_laws.proofs.Standing.{changes-up, stand-passes, stand-past, stand-before, content-kept}
use Rattle.rollout_laws.proofs.Rooms.{least_stage-at}
use Rattle.rollout_laws.proofs.Released.{none-held}
use Rattle.rollout_laws.proofs.Rounds.{begins_settle_nothing, dones_are_answered, dones_follow, release_begins_next, release_begins_unheld, release_follows}
use Rattle.rollout_laws.proofs.Stuck.{least-begins}
use Rattle.rollout_laws.proofs.Validity.{plan-is_valid}
use Rattle.order_policy.specs.Answers.{last_rank}
use Rattle.rollback_plan.specs.Levels.{BegunTo, BegunUpTo, is_levelled_at, is_levelled, HoldsFrom, levelling}
use Rattle.rollback_plan.proofs.Views.{views-are_views}

-- the policy that levels at a stage holds from it on
rank-unheld : (chain : ℕ) → (last_rank - chain == held_back) ≡ false
rank-unheld chain = ne_eqb (last_rank - chain) held_back (λ e. omega arith)

pub levelling-holds : (s : ℕ) → HoldsFrom s (levelling s)
levelling-holds s = record {
  from = λ view small past. ap (λ (b : Bool). (if b then held_back else last_rank - view.chain) == held_back) (le-leb s view.stage past);
  below = λ view small before. ap (λ (b : Bool). (if b then held_back else last_rank - view.chain) == held_back) (lt-leb s view.stage before) ∙ rank-unheld view.chain;
}

-- an entry that begins an operation of an item has what all of them have
begin-of : (P : Entry → Type 0) (es : List Entry) (n : ℕ) → All P es → 0 < begins_in es n → (op : Op) × (op.item ≡ n) × P (Begin op)
begin-of P [] n all some = absurd (omega arith)
begin-of P (Begin op ∷ es) n all some = elim (cases_eq op.item n) as (λ c. (op : Op) × (op.item ≡ n) × P (Begin op)) [
  | inl e ↦ (op, e, All-head P (Begin op) es all)
  | inr other ↦
      let none = ap {B = ℕ} (λ (b : Bool). if b then 1 else 0) (ne_eqb op.item n other) in
      begin-of P es n (All-tail P (Begin op) es all) (omega (arith, some, none))
]
begin-of P (Done op ∷ es) n all some = begin-of P es n (All-tail P (Done op) es all) some

-- Dones begin nothing, Begins settle nothing
dones-begin_nothing : (h : History) (answers : List Op) (es : List Entry) (n : ℕ) → All (EndsAnswered h answers) es → begins_in es n ≡ 0
dones-begin_nothing h answers [] n all = refl
dones-begin_nothing h answers (Begin op ∷ es) n all = absurd (All-head (EndsAnswered h answers) (Begin op) es all)
dones-begin_nothing h answers (Done op ∷ es) n all = dones-begin_nothing h answers es n (All-tail (EndsAnswered h answers) (Done op) es all)

module _ (p : Problem) (plan : Plan) (s : ℕ) (most : s ≤ last_stage plan) where
  -- an item that stands before the stage has its next operation up to there
  pub next-up_to : (h : History) (n : ℕ) → n < item_count p → stand p plan (places_of p h) (item_at p n) < s → settled h n + 1 ≤ changes_to p plan (item_at p n) s
  next-up_to h n lt before =
      let stands : stand_after p plan (item_at p n) (settled h n) < s = subst (λ k. stand_after p plan (item_at p n) (settled h k) < s) (number_of-item_at p n lt) before in
      omega (arith, stand-before p plan (item_at p n) (settled h n) s stands most)

  -- a finished history that leads up to a stage is level there
  pub finished-levelled : (h : History) → BegunUpTo p plan s h → is_finished p plan h ≡ true → is_levelled p plan h s ≡ true
  finished-levelled h up finished = all_below-from (item_count p) (is_levelled_at p plan h s) (λ n lt.
      let all : settled h n ≡ operations p plan (item_at p n) = eqb-true _ _ (all_below-at (item_count p) (λ m. settled h m == operations p plan (item_at p m)) finished n lt) in
      and_from _ _ (le-leb _ _ (omega (arith, all, changes-up p plan (item_at p n) s (last_stage plan) most))) (le-leb _ _ (up n lt)))

  module _ (net : IsNetwork p) (is_valid : is_valid_plan p plan ≡ true) where
    module _ (policy : OpView → ℕ) (holds : HoldsFrom s policy) where
      -- what isn't held back stands before the stage
      unheld-before : (h : History) → is_legal p plan h ≡ true → (n : ℕ) → n < item_count p → is_held_back policy (view_of p plan h n) ≡ false → stand p plan (places_of p h) (item_at p n) < s
      unheld-before h legal n lt free = elim (cases_lt (stand p plan (places_of p h) (item_at p n)) s) as (λ c. stand p plan (places_of p h) (item_at p n) < s) [
        | inl before ↦ before
        | inr past ↦ absurd (both_ways (is_held_back policy (view_of p plan h n)) free (holds.from (view_of p plan h n) (views-are_views p plan h n net is_valid legal lt) past))
      ]

      -- a round leads no further than a bound that is at least the stage
      module _ (b : ℕ → ℕ) (above : (n : ℕ) → n < item_count p → changes_to p plan (item_at p n) s ≤ b n) (h : History) (legal : is_legal p plan h ≡ true) (up : BegunTo p b h) where
        abbrev es : List Entry
        es = release p plan policy h

        released-to : (n : ℕ) → n < item_count p → 0 < begins_in es n → begun (with_entries h es) n ≤ b n
        released-to n lt some =
            let there = begin-of (BeginsUnheld p plan policy h) es n (release_begins_unheld p plan policy h) some in
            let free : is_held_back policy (view_of p plan h n) ≡ false = subst (λ m. is_held_back policy (view_of p plan h m) ≡ false) there.1 there.2 in
            let next = next-up_to h n lt (unheld-before h legal n lt free) in
            let after = (is_counted p plan (with_entries h es) (is_legal-append p plan h es legal (release_follows p plan policy h)) n).one_flies in
            let none = begins_settle_nothing h es n (release_begins_next p plan policy h) in
            omega (arith, above n lt, next, after, none, settled-with h es n)

        pub release-to : BegunTo p b (with_entries h es)
        release-to n lt = elim (cases_lt 0 (begins_in es n)) as (λ c. begun (with_entries h es) n ≤ b n) [
          | inl some ↦ released-to n lt some
          | inr none ↦ omega (arith, none, up n lt, begun-with h es n)
        ]

      pub release-up_to : (h : History) → is_legal p plan h ≡ true → BegunUpTo p plan s h → BegunUpTo p plan s (with_entries h (release p plan policy h))
      release-up_to h legal up = release-to (λ n. changes_to p plan (item_at p n) s) (λ n lt. le_refl (changes_to p plan (item_at p n) s)) h legal up

      pub batch-up_to : (h : History) → is_legal p plan h ≡ true → BegunUpTo p plan s h → (answers : List Op) → BegunUpTo p plan s (with_entries h (batch p plan policy h answers))
      batch-up_to h legal up answers =
          let ended = dones p h answers in
          let later = with_entries h ended in
          let legal' = is_legal-append p plan h ended legal (dones_follow p plan h answers) in
          let still : BegunUpTo p plan s later = λ n lt. omega (arith, up n lt, begun-with h ended n, dones-begin_nothing h answers ended n (dones_are_answered p h answers)) in
          subst (λ g. BegunUpTo p plan s g) (with_both h ended (release p plan policy later)) (release-up_to later legal' still)

    module _ (h : History) (legal : is_legal p plan h ≡ true) (up : BegunUpTo p plan s h) where
      abbrev at : Places
      at = places_of p h

      -- an item before the stage whose next operation may begin
      pub record GoesOn : Type 0 where
        pub this : ℕ
        pub inside : this < item_count p
        pub before : stand p plan at (item_at p this) < s
        pub begins : may_begin p plan h (next_op h this) ≡ true

      -- where no item stands before the stage the history is level there
      past-levelled : s ≤ least_stage p plan at → is_levelled p plan h s ≡ true
      past-levelled from = all_below-from (item_count p) (is_levelled_at p plan h s) (λ n lt.
          let i = item_at p n in
          let stands = least_stage-at p plan at i (is_item-item_at p n lt) in
          let number = ap (settled h) (number_of-item_at p n lt) in
          let passes = stand-passes p plan i (at.settled i) in
          let steps = changes-up p plan i s (stand p plan at i) (omega (arith, from, stands)) in
          and_from _ _ (le-leb _ _ (omega (arith, steps, passes, number))) (le-leb _ _ (up n lt)))

      -- else it goes on, where nothing flies
      pub levelled-or_on : NothingFlies p h → (is_levelled p plan h s ≡ true) ⊎ GoesOn
      levelled-or_on idle = elim (cases_lt (least_stage p plan at) s) as (λ c. (is_levelled p plan h s ≡ true) ⊎ GoesOn) [
        | inl before ↦
            let ahead : least_stage p plan at < last_stage plan = omega (arith, before, most) in
            let least = least_items-is p (last_stage plan) (stand p plan at) ahead in
            let i = least.this in
            let n = number_of p i in
            let lt = number_of-below p i least.found in
            let same = item_at-number_of p i least.found in
            inr (record {
              this = n;
              inside = lt;
              before = subst (λ k. stand p plan at k < s) (sym same) (omega (arith, before, least.is));
              begins = least-begins p plan net (plan-is_valid p plan is_valid) h legal i least.found (sym least.is) ahead (idle n lt);
            })
        | inr from ↦ inl (past-levelled from)
      ]

      pub held-levelled : (policy : OpView → ℕ) → HoldsFrom s policy → NothingFlies p h → release p plan policy h ≡ [] → is_levelled p plan h s ≡ true
      held-levelled policy holds idle none = elim (levelled-or_on idle) as (λ c. is_levelled p plan h s ≡ true) [
        | inl level ↦ level
        | inr on ↦
            let view = view_of p plan h on.this in
            let held = none-held p plan policy h none on.this on.begins in
            let free = holds.below view (views-are_views p plan h on.this net is_valid legal on.inside) on.before in
            absurd (both_ways (is_held_back policy view) free held)
      ]

-- what is known of a level history
module _ (p : Problem) (plan : Plan) (h : History) (s : ℕ) (level : is_levelled p plan h s ≡ true) where
  record IsLevelAt (n : ℕ) : Type 0 where
    settled_all : changes_to p plan (item_at p n) s ≤ settled h n
    no_other : begun h n ≤ changes_to p plan (item_at p n) s

  level-at : (n : ℕ) → n < item_count p → IsLevelAt n
  level-at n lt =
      let both = and_parts (nat_le (changes_to p plan (item_at p n) s) (settled h n)) (nat_le (begun h n) (changes_to p plan (item_at p n) s)) (all_below-at (item_count p) (is_levelled_at p plan h s) level n lt) in
      record { settled_all = leb-true _ _ both.0; no_other = leb-true _ _ both.1 }

  pub levelled-idle : NothingFlies p h
  levelled-idle n lt =
      let at = level-at n lt in
      ne_eqb (begun h n) (settled h n + 1) (λ e. omega (arith, at.settled_all, at.no_other))

  pub levelled-contents : is_legal p plan h ≡ true → s ≤ last_stage plan → (n : ℕ) → n < item_count p → content_after p plan (item_at p n) (settled h n) ≡ content p plan (item_at p n) s
  levelled-contents legal most n lt =
      let at = level-at n lt in
      let i = item_at p n in
      let low = (is_counted p plan h legal n).settled_begun in
      let same : settled h n ≡ changes_to p plan i s = omega (arith, at.settled_all, at.no_other, low) in
      sym (content-kept p plan i (settled h n) s (omega (arith, same)) (stand-past p plan i (settled h n) s most (omega (arith, same))))
