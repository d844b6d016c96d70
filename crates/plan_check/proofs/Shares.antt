-- Running sums over tunnels: what each tunnel adds, and what all have added.
use Rattle.std.proofs.Common.{◌≡◌, ℕ, suc, ◌+◌, ◌*◌, ◌^◌, ◌<◌, ◌≤◌, Bool, true, false, ◌&&◌, List, [], ◌∷◌, length, slice_index, ◌==◌, if◌then◌else◌, refl, sym, ap, ◌∙◌, inl, inr, add-one, arith}
use Rattle.std.specs.List.{list_any}
use Rattle.std.proofs.lemmas.Bool.{cases_Bool, eqb-true}
use Rattle.lists.proofs.Conditions.{uncounted_second}
use Rattle.rollout_rules.specs.Sums.{sum_below}
use Rattle.rollout_rules.specs.Wan.{Problem, Plan, tunnel_at, link_at, switch_of, hops, width_of, crosses}
use Rattle.rollout_rules.specs.Items.{the_link, the_table, either_mark}
use Rattle.rollout_rules.specs.Network.{IsPath, IsNetwork}
use Rattle.rollout_rules.proofs.Below.{sum_below-front, sum_below-zero, sum_below-same}
use Rattle.rollout_rules.proofs.Totals.{step_total-load, step_total-entries_at}
use Rattle.plan_check.specs.Parts.{GrownBy, AreTotals, added, largest_share, rate_share, load_share, entry_share}

-- a row of sums, each of what the first n tunnels add to it
pub record AreSums (sums : List ℕ) (rows n : ℕ) (share : ℕ → ℕ → ℕ) : Type 0 where
  pub count : length sums ≡ rows
  pub each : (k : ℕ) → k < rows → slice_index sums k ≡ sum_below n (λ t. share t k)
  pub room : (k : ℕ) → k < rows → slice_index sums k ≤ n * largest_share

pub AreSums_more : (old new : List ℕ) (rows n : ℕ) (share : ℕ → ℕ → ℕ) → AreSums old rows n share → GrownBy old new (share n) largest_share → AreSums new rows (n + 1) share
AreSums_more old new rows n share so by = record {
  count = omega arith;
  each = λ k lt. rw add-one (omega (arith, so.each k lt, by.each k (omega arith)));
  room = λ k lt. omega (arith, so.room k lt, by.few k (omega arith));
}

-- the same growth in other words
pub GrownBy_as : (old new : List ℕ) (f g : ℕ → ℕ) (m n : ℕ) → GrownBy old new f m → ((k : ℕ) → f k ≡ g k) → m ≤ n → GrownBy old new g n
GrownBy_as old new f g m n by same le = record {
  count = by.count;
  each = λ k lt. omega (arith, by.each k lt, same k);
  few = λ k lt. omega (arith, by.few k lt);
}

pub few_times : (a b : ℕ) → a ≤ 17 → b < 2 ^ 64 → a * b ≤ largest_share
few_times a b few small = grind arith

-- where a row has no number twice, it adds the amount once to each number that it has
added_once : (row : List ℕ) (amount k : ℕ) → ((g h : ℕ) → g < length row → h < length row → slice_index row g ≡ slice_index row h → g ≡ h) → added row amount k ≡ (if list_any (λ j. j == k) row then amount else 0)
added_once [] amount k once = refl
added_once (x ∷ row) amount k once =
    let split : added (x ∷ row) amount k ≡ (if x == k then amount else 0) + added row amount k =
    sum_below-front (length row) (λ h. if slice_index (x ∷ row) h == k then amount else 0) in
    elim (cases_Bool (x == k)) as (λ c. added (x ∷ row) amount k ≡ (if list_any (λ j. j == k) (x ∷ row) then amount else 0)) [
      | inl same ↦
          let none : added row amount k ≡ 0 = sum_below-zero (length row) (λ h. if slice_index row h == k then amount else 0) (λ h lt.
          elim (cases_Bool (slice_index row h == k)) as (λ c. (if slice_index row h == k then amount else 0) ≡ 0) [
            | inl again ↦
                let back : 0 ≡ suc h = once 0 (suc h) (omega arith) (omega arith) (eqb-true x k same ∙ sym (eqb-true (slice_index row h) k again)) in
                absurd (omega arith)
            | inr differs ↦ rw differs refl
          ]) in
          split ∙ rw same (omega (arith, none))
      | inr other ↦
          let rest = added_once row amount k (λ g h gl hl e. let up = once (suc g) (suc h) (omega arith) (omega arith) e in omega arith) in
          split ∙ rw other (omega (arith, rest))
    ]

-- the links of a path come once
links_once : (p : Problem) (path along : List ℕ) → IsPath p path along → (g h : ℕ) → g < length along → h < length along → slice_index along g ≡ slice_index along h → g ≡ h
links_once p path along is g h gl hl e =
    is.once g h (omega (arith, is.between)) (omega (arith, is.between)) (sym (is.from g gl) ∙ ap (λ l. (link_at p l).from) e ∙ is.from h hl)

-- an amount that is taken where two tests pass, of which the second does
pub taken : (a b : Bool) (n : ℕ) → b ≡ true → (if a then n else 0) ≡ (if a && b then n else 0)
taken true b n passes = rw passes refl
taken false b n passes = refl

pub load_grown : (p : Problem) (rate : ℕ → ℕ) (t : ℕ) (old new row : List ℕ) (amount : ℕ) → IsNetwork p → t < length p.tunnels → row ≡ (tunnel_at p t).links → amount ≡ rate t → amount < 2 ^ 64 → GrownBy old new (added row amount) (length row * amount) → GrownBy old new (rate_share p rate t) largest_share
load_grown p rate t old new row amount net inside is has small by =
    let path = (net.tunnels t inside).path in
    let few : length row ≤ 17 = omega (arith, ap length is, path.between, path.most) in
    GrownBy_as old new (added row amount) (rate_share p rate t) (length row * amount) largest_share by
    (λ k.
    ap (λ r. added r amount k) is
    ∙ added_once (tunnel_at p t).links amount k (links_once p (tunnel_at p t).path (tunnel_at p t).links path)
    ∙ ap (λ a. if crosses p t k then a else 0) has)
    (few_times (length row) amount few small)

-- a tunnel with entries at either end of the step adds its width to the table of each switch on its path
pub entry_grown : (p : Problem) (plan : Plan) (s t : ℕ) (old new row : List ℕ) (amount : ℕ) → IsNetwork p → t < length p.tunnels → either_mark plan s t ≡ true → row ≡ (tunnel_at p t).path → amount ≡ width_of p t → amount < 2 ^ 64 → GrownBy old new (added row amount) (length row * amount) → GrownBy old new (entry_share p plan s t) largest_share
entry_grown p plan s t old new row amount net inside there is wide small by =
    let few : length row ≤ 17 = omega (arith, ap length is, (net.tunnels t inside).path.most) in
    GrownBy_as old new (added row amount) (entry_share p plan s t) (length row * amount) largest_share by
    (λ k.
    ap (λ r. added r amount k) is
    ∙ ap (λ a. added (tunnel_at p t).path a k) wide
    ∙ sum_below-same (hops p t) (λ h. if switch_of p t h == k then width_of p t else 0) (λ h. if (switch_of p t h == k) && either_mark plan s t then width_of p t else 0) (λ h lt. taken (switch_of p t h == k) (either_mark plan s t) (width_of p t) there))
    (few_times (length row) amount few small)

-- and one without adds nothing
pub entry_stays : (p : Problem) (plan : Plan) (s t : ℕ) (sums : List ℕ) → either_mark plan s t ≡ false → GrownBy sums sums (entry_share p plan s t) largest_share
entry_stays p plan s t sums none =
    let nothing : (k : ℕ) → entry_share p plan s t k ≡ 0 = λ k. sum_below-zero (hops p t) (λ h. if (switch_of p t h == k) && either_mark plan s t then width_of p t else 0) (λ h lt. uncounted_second (switch_of p t h == k) (either_mark plan s t) (width_of p t) none) in
    record {
      count = refl;
      each = λ k lt. omega (arith, nothing k);
      few = λ k lt. omega arith;
    }

-- what all tunnels add is what all items may take
pub loads_from_sums : (p : Problem) (plan : Plan) (s n : ℕ) (sums : List ℕ) → IsNetwork p → n ≡ length p.tunnels → AreSums sums (length p.links) n (load_share p plan s) → AreTotals p plan s (length p.links) the_link sums
loads_from_sums p plan s n sums net all so = record {
  count = so.count;
  each = λ l lt. so.each l lt ∙ ap (λ m. sum_below m (λ t. load_share p plan s t l)) all ∙ sym (step_total-load p plan s l net);
}

pub entries_from_sums : (p : Problem) (plan : Plan) (s n : ℕ) (sums : List ℕ) → n ≡ length p.tunnels → AreSums sums (length p.switches) n (entry_share p plan s) → AreTotals p plan s (length p.switches) the_table sums
entries_from_sums p plan s n sums all so = record {
  count = so.count;
  each = λ w lt. so.each w lt ∙ ap (λ m. sum_below m (λ t. entry_share p plan s t w)) all ∙ sym (step_total-entries_at p plan s w);
}
