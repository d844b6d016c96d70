-- What a shared history counts after further notes.
use Rattle.std.proofs.Common.{◌≡◌, ℕ, zero, suc, ◌+◌, ◌-◌, ◌<◌, ◌≤◌, true, ◌==◌, List, [], ◌∷◌, ◌++◌, Option, Some, refl, ap, ◌∙◌, subst, ⊎_elim, arith, eqb-true}
use Rattle.std.proofs.lemmas.Bool.{cases_lt, cond_both}
use Rattle.std.proofs.lemmas.List.Elements.{All-head, All-tail}
use Rattle.std.specs.List.{All, Contains}
use Rattle.rollout_rules.specs.Sums.{sum_below}
use Rattle.rollout_rules.specs.Wan.{Rollout}
use Rattle.rollout_rules.specs.Items.{item_at, item_count}
use Rattle.rollout_rules.specs.Operations.{operations}
use Rattle.rollout_rules.specs.History.{History, begun, dones_in, flies, settled}
use Rattle.rollout_rules.specs.Legal.{is_legal, unsettled}
use Rattle.rollout_rules.specs.declared.op.Op.{Op}
use Rattle.rollout_rules.specs.declared.op.Entry.{Entry}
use Rattle.rollout_rules.specs.declared.op.Entry.TheVariants.{Begin, Done}
use Rattle.rollout_rules.proofs.Below.{sum_below-mono}
use Rattle.rollout_laws.proofs.Histories.{dones_in-append, is_counted}
use Rattle.shared_book.specs.declared.note.What.{What}
use Rattle.shared_book.specs.declared.note.What.TheVariants as what
use Rattle.shared_book.specs.declared.note.Written.{Written}
use Rattle.shared_book.specs.Histories.{Opening, added, history_of, segment_of}
use Rattle.switch_ports.specs.Outboxes.{home_at}
use Rattle.controller_run.proofs.Behind.{settled-behind}
use Rattle.controller_run.proofs.Elements.{inside-later}
use Rattle.completion_laws.specs.Turns.{EndsNoneAt}

-- ---- Dones among entries
pub no-dones : (n : ℕ) (es : List Entry) → ((op : Op) → Contains es (Done op) → op.item ≡ n → ⊥) → dones_in es n ≡ 0
no-dones n [] none = refl
no-dones n (Begin op ∷ es) none = no-dones n es (λ other at. none other (inside-later (Begin op) (Done other) es at))
no-dones n (Done op ∷ es) none =
    let rest = no-dones n es (λ other at. none other (inside-later (Done op) (Done other) es at)) in
    cond_both (op.item == n) 1 0 (λ (k : ℕ). k + dones_in es n ≡ 0)
    (λ same. absurd (none op (0, omega arith, refl) (eqb-true op.item n same)))
    (λ _. omega (arith, rest))

-- ---- further notes
module _ (o : Opening) where
  module _ (homes : List (Option ℕ)) (switches : List ℕ) where
    segment-none : (n switch : ℕ) → home_at homes n ≡ Some switch → Contains switches switch → (said : What) (es : List Entry) → ((op : Op) → Contains es (Done op) → op.item ≡ n → ⊥) → dones_in (segment_of said es) n ≡ 0
    segment-none n switch home among (what.Turned dones begins) es none = no-dones n es none
    segment-none n switch home among (what.Alien item held begun) es none = refl
    segment-none n switch home among what.Disk es none = refl
    segment-none n switch home among what.Listed es none = refl
    segment-none n switch home among what.Work es none = refl
    segment-none n switch home among what.Finished es none = refl
    segment-none n switch home among what.Held es none = refl
    segment-none n switch home among what.Stopped es none = refl
    segment-none n switch home among (what.Stop why) es none = refl

    added-none : (n switch : ℕ) → home_at homes n ≡ Some switch → Contains switches switch → (more : List Written) → All (EndsNoneAt homes switches) more → dones_in (added more) n ≡ 0
    added-none n switch home among [] none = refl
    added-none n switch home among (w ∷ more) none =
        let here = segment-none n switch home among w.note.what w.entries
        (λ op at item. All-head (EndsNoneAt homes switches) w more none op at switch (ap (home_at homes) item ∙ home) among) in
        let rest = added-none n switch home among more (All-tail (EndsNoneAt homes switches) w more none) in
        omega (arith, dones_in-append (segment_of w.note.what w.entries) (added more) n, here, rest)

    -- where none of them ends an operation of these switches, as much is settled of their items
    pub settled-same : (ws more : List Written) → All (EndsNoneAt homes switches) more → (n switch : ℕ) → home_at homes n ≡ Some switch → Contains switches switch → settled (history_of o (ws ++ more)) n ≡ settled (history_of o ws) n
    settled-same ws more none n switch home among = omega (arith, settled-behind o ws more n, added-none n switch home among more none)

-- ---- how much is unsettled
sum-less : (k : ℕ) (f g : ℕ → ℕ) (n : ℕ) → n < k → ((m : ℕ) → m < k → f m ≤ g m) → f n + 1 ≤ g n → sum_below k f + 1 ≤ sum_below k g
sum-less zero f g n low all less = absurd (omega (arith, low))
sum-less (suc k) f g n low all less =
    ⊎_elim
    (λ (lower : n < k). omega (arith, sum-less k f g n lower (λ m lt. all m (omega (arith, lt))) less, all k (omega arith)))
    (λ (high : k ≤ n).
    let here : n ≡ k = omega (arith, low, high) in
    let last : f k + 1 ≤ g k = subst (λ (m : ℕ). f m + 1 ≤ g m) here less in
    omega (arith, sum_below-mono k f g (λ m lt. all m (omega (arith, lt))), last))
    (cases_lt n k)

module _ (r : Rollout) where
  pub unsettled-later : (h g : History) → ((n : ℕ) → settled h n ≤ settled g n) → unsettled r.problem r.plan g ≤ unsettled r.problem r.plan h
  unsettled-later h g more =
      sum_below-mono (item_count r.problem) (λ n. operations r.problem r.plan (item_at r.problem n) - settled g n) (λ n. operations r.problem r.plan (item_at r.problem n) - settled h n) (λ n low. omega (arith, more n))

  pub unsettled-less : (h g : History) (n : ℕ) → is_legal r.problem r.plan g ≡ true → n < item_count r.problem → ((m : ℕ) → settled h m ≤ settled g m) → settled h n + 1 ≤ settled g n → unsettled r.problem r.plan g + 1 ≤ unsettled r.problem r.plan h
  unsettled-less h g n legal low more less =
      let counted = is_counted r.problem r.plan g legal n in
      let exist = counted.exist low in
      let within = counted.settled_begun in
      sum-less (item_count r.problem) (λ m. operations r.problem r.plan (item_at r.problem m) - settled g m) (λ m. operations r.problem r.plan (item_at r.problem m) - settled h m) n low
      (λ m lt. omega (arith, more m)) (omega (arith, less, exist, within))

  -- what is in flight isn't settled
  pub unsettled-flying : (h : History) (n : ℕ) → is_legal r.problem r.plan h ≡ true → n < item_count r.problem → flies h n ≡ true → 1 ≤ unsettled r.problem r.plan h
  unsettled-flying h n legal low flying =
      let counted = is_counted r.problem r.plan h legal n in
      let exist = counted.exist low in
      let was : begun h n ≡ settled h n + 1 = eqb-true (begun h n) (settled h n + 1) flying in
      omega (arith, sum-less (item_count r.problem) (λ m. 0) (λ m. operations r.problem r.plan (item_at r.problem m) - settled h m) n low (λ m lt. omega arith) (omega (arith, exist, was)))
