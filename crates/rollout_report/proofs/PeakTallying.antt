-- An entry is marked or not, and with it the sum of its table changes.
use Rattle.std.proofs.Common.{◌≡◌, ℕ, ◌+◌, ◌-◌, ◌*◌, ◌<◌, ◌≤◌, Bool, true, false, ◌&&◌, ◌==◌, if◌then◌else◌, List, length, get_or, set, inl, inr, refl, sym, ap, ap₂, ◌∙◌, subst, arith, eqb-true, eq-eqb, get_or-set_same, get_or-set_other}
use Rattle.std.proofs.lemmas.Bool.{cases_Bool}
use Rattle.std.proofs.Math.ListN.{length-set}
use Rattle.lists.proofs.Conditions.{unequal_clash}
use Rattle.rollout_rules.specs.Sums.{sum_below}
use Rattle.rollout_rules.specs.Wan.{Problem, hops, switch_of, width_of}
use Rattle.rollout_rules.specs.Items.{the_table, takes, entries_at, is_item, item_at, item_count, number_of}
use Rattle.rollout_rules.specs.Network.{IsNetwork}
use Rattle.rollout_rules.specs.declared.item.Item.{Item}
use Rattle.rollout_rules.specs.declared.item.Item.TheVariants as item
use Rattle.rollout_rules.proofs.Numbers.{number_of-below, item_at-number_of}
use Rattle.rollout_rules.proofs.OverItems.{is_item-entry, entry-is_item, sum_items-but}
use Rattle.rollout_rules.proofs.Totals.{sum_items-entries_at}
use Rattle.rollout_rules.proofs.Below.{sum_below-at, sum_below-most}
use Rattle.rollout_report.specs.Fills.{marked, AreTallies}

-- what an entry of a width takes, where it is marked
pub taken_if : Bool → ℕ → ℕ
taken_if b width = if b then width else 0

taken_if-most : (b : Bool) (width most : ℕ) → width ≤ most → taken_if b width ≤ most
unfolding taken_if
taken_if-most true width most le = le
taken_if-most false width most le = omega arith

module _ (p : Problem) (t h : ℕ) (lt : t < length p.tunnels) (low : h < hops p t) where
  here : is_item p (item.Entry t h) ≡ true
  here = is_item-entry p t h lt low

  number-below : number_of p (item.Entry t h) < item_count p
  number-below = number_of-below p (item.Entry t h) here

  module _ (marks : List Bool) (mark : Bool) (all : length marks ≡ item_count p) where
    mark-here : marked p (set marks (number_of p (item.Entry t h)) mark) t h ≡ mark
    mark-here = get_or-set_same marks (number_of p (item.Entry t h)) mark false (omega (arith, number-below))

    pub mark-other : (u k : ℕ) → u < length p.tunnels → k < hops p u → (number_of p (item.Entry u k) ≡ number_of p (item.Entry t h) → ⊥) → marked p (set marks (number_of p (item.Entry t h)) mark) u k ≡ marked p marks u k
    mark-other u k row hop other = get_or-set_other marks (number_of p (item.Entry t h)) (number_of p (item.Entry u k)) mark false other

    same_item : (i : Item) → is_item p i ≡ true → number_of p i ≡ number_of p (item.Entry t h) → i ≡ item.Entry t h
    same_item i there e = sym (item_at-number_of p i there) ∙ ap (item_at p) e ∙ item_at-number_of p (item.Entry t h) here

    taken : (List Bool) → ℕ → Item → ℕ
    taken ms w i = takes p (λ _. 0) (marked p ms) i (the_table w)

    taken-other : (w : ℕ) (i : Item) → is_item p i ≡ true → (i ≡ item.Entry t h → ⊥) → taken (set marks (number_of p (item.Entry t h)) mark) w i ≡ taken marks w i
    unfolding taken
    taken-other w (item.Flow f) there other = refl
    taken-other w (item.Entry u k) there other =
        let place = entry-is_item p u k there in
        ap (λ b. if (switch_of p u k == w) && b then width_of p u else 0) (mark-other u k place.row place.hop (λ e. other (same_item (item.Entry u k) there e)))

    tally-set : (w : ℕ) → entries_at p (marked p (set marks (number_of p (item.Entry t h)) mark)) w + taken_if ((switch_of p t h == w) && marked p marks t h) (width_of p t) ≡ entries_at p (marked p marks) w + taken_if ((switch_of p t h == w) && mark) (width_of p t)
    unfolding taken taken_if
    tally-set w =
        let after = set marks (number_of p (item.Entry t h)) mark in
        let moved = sum_items-but p (taken after w) (taken marks w) (item.Entry t h) here (taken-other w) in
        let new = sum_items-entries_at p (λ _. 0) (marked p after) w in
        let old = sum_items-entries_at p (λ _. 0) (marked p marks) w in
        let term = ap (λ b. taken_if ((switch_of p t h == w) && b) (width_of p t)) mark-here in
        omega (arith, moved, new, old, term)

    pub holds-mark : taken_if (marked p marks t h) (width_of p t) ≤ entries_at p (marked p marks) (switch_of p t h)
    unfolding taken_if
    holds-mark =
        let same : (switch_of p t h == switch_of p t h) ≡ true = eq-eqb (switch_of p t h) (switch_of p t h) refl in
        let inner = sum_below-at (hops p t) (λ k. if (switch_of p t k == switch_of p t h) && marked p marks t k then width_of p t else 0) h low in
        let outer = sum_below-at (length p.tunnels) (λ u. sum_below (hops p u) (λ k. if (switch_of p u k == switch_of p t h) && marked p marks u k then width_of p u else 0)) t lt in
        let term : taken_if (marked p marks t h) (width_of p t) ≡ (if (switch_of p t h == switch_of p t h) && marked p marks t h then width_of p t else 0) = rw same refl in
        omega (arith, inner, outer, term)

    pub tallied : (sums : List ℕ) → AreTallies p marks sums → switch_of p t h < length p.switches
        → AreTallies p (set marks (number_of p (item.Entry t h)) mark) (set sums (switch_of p t h) (get_or sums (switch_of p t h) 0 - taken_if (marked p marks t h) (width_of p t) + taken_if mark (width_of p t)))
    unfolding taken_if
    tallied sums are inside =
        let x = switch_of p t h in
        let width = width_of p t in
        let v = get_or sums x 0 - taken_if (marked p marks t h) width + taken_if mark width in
        record {
          items = length-set marks (number_of p (item.Entry t h)) mark ∙ are.items;
          switches = length-set sums x v ∙ are.switches;
          each = λ w small. elim (cases_Bool (x == w)) as (λ c. get_or (set sums x v) w 0 ≡ entries_at p (marked p (set marks (number_of p (item.Entry t h)) mark)) w) [
            | inl same ↦
                let moved = rw same at (tally-set w) in
                let is : x ≡ w = eqb-true x w same in
                let holds : taken_if (marked p marks t h) width ≤ entries_at p (marked p marks) w = subst (λ y. taken_if (marked p marks t h) width ≤ entries_at p (marked p marks) y) is holds-mark in
                let sum : get_or sums x 0 ≡ entries_at p (marked p marks) w = ap (λ y. get_or sums y 0) is ∙ are.each w small in
                let new : get_or (set sums x v) w 0 ≡ v = ap (λ y. get_or (set sums x v) y 0) (sym is) ∙ get_or-set_same sums x v 0 (omega (arith, are.switches, inside)) in
                omega (arith, new, sum, holds, moved)
            | inr apart ↦
                let moved = rw apart at (tally-set w) in
                let kept = get_or-set_other sums x w v 0 (λ e. unequal_clash x w (sym e) apart) in
                omega (arith, kept, are.each w small, moved)
          ];
        }

-- No table is asked for more than its paths at the largest width.
entries-most : (p : Problem) → IsNetwork p → (there : ℕ → ℕ → Bool) (w : ℕ) → entries_at p there w ≤ 4096 * (17 * 16)
unfolding taken_if
entries-most p net there w =
    omega (
      arith,
      net.few,
      sum_below-most (length p.tunnels) (17 * 16) (λ t. sum_below (hops p t) (λ h. if (switch_of p t h == w) && there t h then width_of p t else 0)) (λ t lt.
          omega (
            arith,
            (net.tunnels t lt).path.most,
            sum_below-most (hops p t) 16 (λ h. if (switch_of p t h == w) && there t h then width_of p t else 0) (λ h low.
                taken_if-most ((switch_of p t h == w) && there t h) (width_of p t) 16 (net.tunnels t lt).width.most),
          )),
    )

-- the same in code: the switch and the width of the entry, and its number
module _ (p : Problem) (t h : ℕ) (lt : t < length p.tunnels) (low : h < hops p t) (marks : List Bool) (sums : List ℕ) (are : AreTallies p marks sums) where
  pub number-fits : (n : ℕ) → n ≡ number_of p (item.Entry t h) → n < length marks
  number-fits n num = omega (arith, num, are.items, number-below p t h lt low)

  module _ (net : IsNetwork p) (w width n : ℕ) (here-switch : w ≡ switch_of p t h) (wide : width ≡ width_of p t) (num : n ≡ number_of p (item.Entry t h)) where
    inside : switch_of p t h < length p.switches
    inside = (net.tunnels t lt).path.switches h low

    sum-there : get_or sums w 0 ≡ entries_at p (marked p marks) (switch_of p t h)
    sum-there = ap (λ v. get_or sums v 0) here-switch ∙ are.each (switch_of p t h) inside

    was-there : (was : ℕ) → was ≡ (if get_or marks n false then width else 0) → was ≡ taken_if (marked p marks t h) (width_of p t)
    unfolding taken_if
    was-there was is = is ∙ ap₂ (λ k x. if get_or marks k false then x else 0) num wide

    pub was-counted : (was : ℕ) → was ≡ (if get_or marks n false then width else 0) → was ≤ get_or sums w 0
    was-counted was is = omega (arith, sum-there, was-there was is, holds-mark p t h lt low marks true are.items)

    pub sum-small : get_or sums w 0 ≤ 4096 * (17 * 16)
    sum-small = omega (arith, sum-there, entries-most p net (marked p marks) (switch_of p t h))

    pub taken-small : (mark : Bool) (more : ℕ) → more ≡ (if mark then width else 0) → more ≤ 16
    unfolding taken_if
    taken-small mark more is = omega (arith, is, taken_if-most mark width 16 (omega (arith, wide, (net.tunnels t lt).width.most)))

    pub mark-counted : (mark : Bool) (was more : ℕ) → was ≡ (if get_or marks n false then width else 0) → more ≡ (if mark then width else 0) → AreTallies p (set marks n mark) (set sums w (get_or sums w 0 - was + more))
    unfolding taken_if
    mark-counted mark was more is_was is_more =
        let now : more ≡ taken_if mark (width_of p t) = is_more ∙ ap (λ x. if mark then x else 0) wide in
        let all = tallied p t h lt low marks mark are.items sums are inside in
        rw (here-switch, num, was-there was is_was, now) all
