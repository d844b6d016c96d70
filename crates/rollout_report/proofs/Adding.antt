-- A tunnel's rate changes, and with it the sums of the links that it crosses.
use Rattle.std.proofs.Common.{◌≡◌, ℕ, zero, suc, ◌+◌, ◌-◌, ◌*◌, ◌<◌, ◌≤◌, Bool, true, false, ◌==◌, if◌then◌else◌, List, [], ◌∷◌, length, get_or, set, inl, inr, refl, sym, ap, ◌∙◌, subst, arith, eqb-true, eq-eqb, get_or-set_same, get_or-set_other}
use Rattle.std.proofs.lemmas.Bool.{cases_Bool, cases_lt}
use Rattle.std.proofs.Math.ListN.{length-set}
use Rattle.std.specs.List.{list_any}
use Rattle.lists.proofs.Conditions.{or_second, not_both}
use Rattle.rollout_rules.specs.Wan.{Problem, tunnel_at, link_at, crosses}
use Rattle.rollout_rules.specs.Items.{load}
use Rattle.rollout_rules.specs.Network.{IsNetwork}
use Rattle.rollout_rules.proofs.Below.{sum_below-but, sum_below-at, sum_below-most}
use Rattle.rollout_report.specs.Loads.{AreSums}

-- the sums in the middle of a change: the first k links of the tunnel have the new rate, the others the old
pub record IsPartly (p : Problem) (rates links : List ℕ) (old new : ℕ) (sums : List ℕ) (k : ℕ) : Type 0 where
  pub count : length sums ≡ length p.links
  pub changed : (g : ℕ) → g < k → get_or sums (get_or links g 0) 0 + old ≡ load p (λ t. get_or rates t 0) (get_or links g 0) + new
  pub rest : (l : ℕ) → l < length p.links → ((g : ℕ) → g < k → get_or links g 0 ≡ l → ⊥) → get_or sums l 0 ≡ load p (λ t. get_or rates t 0) l

-- a number among others stands at a place
pub found : (x : ℕ) (xs : List ℕ) → list_any (λ k. k == x) xs ≡ true → (g : ℕ) × (g < length xs) × (get_or xs g 0 ≡ x)
found x [] e = cc
found x (y ∷ xs) e = elim (cases_Bool (y == x)) as (λ c. (g : ℕ) × (g < length (y ∷ xs)) × (get_or (y ∷ xs) g 0 ≡ x)) [
  | inl here ↦ (0, omega arith, eqb-true y x here)
  | inr past ↦ let there = found x xs (rw past at e) in (suc there.0, omega (arith, there.1), there.2)
]

among : (x : ℕ) (xs : List ℕ) (g : ℕ) → g < length xs → get_or xs g 0 ≡ x → list_any (λ k. k == x) xs ≡ true
among x [] g lt e = absurd (omega arith)
among x (y ∷ xs) zero lt e = let here : (y == x) ≡ true = eq-eqb y x e in rw here refl
among x (y ∷ xs) (suc g) lt e = or_second (y == x) _ (among x xs g (omega arith) e)

-- a tunnel has no link twice
pub links_apart : (p : Problem) (t g k : ℕ) → IsNetwork p → t < length p.tunnels → g < k → k < length (tunnel_at p t).links → get_or (tunnel_at p t).links g 0 ≡ get_or (tunnel_at p t).links k 0 → ⊥
links_apart p t g k net lt less top e =
    let path = (net.tunnels t lt).path in
    let same : get_or (tunnel_at p t).path g 0 ≡ get_or (tunnel_at p t).path k 0 = sym (path.from g (omega arith)) ∙ ap (λ l. (link_at p l).from) e ∙ path.from k top in
    let at : g ≡ k = path.once g k (omega (arith, path.between)) (omega (arith, path.between)) same in
    omega arith

pub link_below : (p : Problem) (t g : ℕ) → IsNetwork p → t < length p.tunnels → g < length (tunnel_at p t).links → get_or (tunnel_at p t).links g 0 < length p.links
link_below p t g net lt low = (net.tunnels t lt).path.links g low

module _ (p : Problem) (net : IsNetwork p) (rates : List ℕ) (t : ℕ) (lt : t < length p.tunnels) where
  -- what a link of the tunnel carries is at least the tunnel's rate, and it is small
  pub carried-in : (l : ℕ) → list_any (λ k. k == l) (tunnel_at p t).links ≡ true → get_or rates t 0 ≤ load p (λ u. get_or rates u 0) l
  carried-in l e = subst (λ x. x ≤ load p (λ u. get_or rates u 0) l) (rw e refl) (sum_below-at (length p.tunnels) (λ u. if crosses p u l then get_or rates u 0 else 0) t lt)

  pub load-most : (l : ℕ) → ((u : ℕ) → get_or rates u 0 ≤ 18446744073709551615) → load p (λ u. get_or rates u 0) l ≤ 4096 * 18446744073709551615
  load-most l each = omega (arith, net.few, sum_below-most (length p.tunnels) 18446744073709551615 (λ u. if crosses p u l then get_or rates u 0 else 0) (λ u _. small (crosses p u l) (get_or rates u 0) (each u)))
    where
      small : (b : Bool) (x : ℕ) → x ≤ 18446744073709551615 → (if b then x else 0) ≤ 18446744073709551615
      small true x le = le
      small false x le = omega arith

  module _ (all : length rates ≡ length p.tunnels) (rate : ℕ) where
    load-set : (l : ℕ) → load p (λ u. get_or (set rates t rate) u 0) l + (if crosses p t l then get_or rates t 0 else 0) ≡ load p (λ u. get_or rates u 0) l + (if crosses p t l then rate else 0)
    load-set l =
        let lt' : t < length rates = omega arith in
        let at : get_or (set rates t rate) t 0 ≡ rate = get_or-set_same rates t rate 0 lt' in
        sum_below-but (length p.tunnels) t (λ u. if crosses p u l then get_or (set rates t rate) u 0 else 0) (λ u. if crosses p u l then get_or rates u 0 else 0) lt
        (λ u low other. ap (λ x. if crosses p u l then x else 0) (get_or-set_other rates t u rate 0 other))
        ∙ ap (λ x. load p (λ u. get_or rates u 0) l + (if crosses p t l then x else 0)) at

    pub summed : (sums : List ℕ) → IsPartly p rates (tunnel_at p t).links (get_or rates t 0) rate sums (length (tunnel_at p t).links) → AreSums p (set rates t rate) sums
    summed sums part = record {
      tunnels = length-set rates t rate ∙ all;
      links = part.count;
      each = λ l low. elim (cases_Bool (crosses p t l)) as (λ c. get_or sums l 0 ≡ load p (λ u. get_or (set rates t rate) u 0) l) [
        | inl yes' ↦
            let there = found l (tunnel_at p t).links yes' in
            let new : get_or sums l 0 + get_or rates t 0 ≡ load p (λ u. get_or rates u 0) l + rate = subst (λ x. get_or sums x 0 + get_or rates t 0 ≡ load p (λ u. get_or rates u 0) x + rate) there.2 (part.changed there.0 there.1) in
            let moved = rw yes' at (load-set l) in
            omega (arith, new, moved)
        | inr not' ↦
            let same = part.rest l low (λ g less e. not_both (list_any (λ k. k == l) (tunnel_at p t).links) (among l (tunnel_at p t).links g less e) not') in
            let moved = rw not' at (load-set l) in
            omega (arith, same, moved)
      ];
    }

module _ (p : Problem) (net : IsNetwork p) (rates : List ℕ) (t : ℕ) (lt : t < length p.tunnels) (rate : ℕ) where
  pub partly-start : (sums : List ℕ) → AreSums p rates sums → IsPartly p rates (tunnel_at p t).links (get_or rates t 0) rate sums 0
  partly-start sums are = record { count = are.links; changed = λ g less. absurd (omega arith); rest = λ l low _. are.each l low }

  module _ (sums : List ℕ) (k : ℕ) (top : k < length (tunnel_at p t).links) (part : IsPartly p rates (tunnel_at p t).links (get_or rates t 0) rate sums k) where
    pub sum-here : get_or sums (get_or (tunnel_at p t).links k 0) 0 ≡ load p (λ u. get_or rates u 0) (get_or (tunnel_at p t).links k 0)
    sum-here = part.rest (get_or (tunnel_at p t).links k 0) (link_below p t k net lt top) (λ g less e. links_apart p t g k net lt less top e)

    pub sum-holds : get_or rates t 0 ≤ get_or sums (get_or (tunnel_at p t).links k 0) 0
    sum-holds = omega (arith, sum-here, carried-in p net rates t lt (get_or (tunnel_at p t).links k 0) (among (get_or (tunnel_at p t).links k 0) (tunnel_at p t).links k top refl))

    pub partly-step : IsPartly p rates (tunnel_at p t).links (get_or rates t 0) rate (set sums (get_or (tunnel_at p t).links k 0) (get_or sums (get_or (tunnel_at p t).links k 0) 0 - get_or rates t 0 + rate)) (k + 1)
    partly-step =
        let x = get_or (tunnel_at p t).links k 0 in
        let low : x < length sums = omega (arith, part.count, link_below p t k net lt top) in
        let v = get_or sums x 0 - get_or rates t 0 + rate in
        let new : get_or (set sums x v) x 0 ≡ v = get_or-set_same sums x v 0 low in
        record {
          count = length-set sums x v ∙ part.count;
          changed = λ g less. elim (cases_lt g k) as (λ c. get_or (set sums x v) (get_or (tunnel_at p t).links g 0) 0 + get_or rates t 0 ≡ load p (λ u. get_or rates u 0) (get_or (tunnel_at p t).links g 0) + rate) [
            | inl before ↦ ap (λ y. y + get_or rates t 0) (get_or-set_other sums x (get_or (tunnel_at p t).links g 0) v 0 (λ e. links_apart p t g k net lt before top e)) ∙ part.changed g before
            | inr at ↦
                let same : g ≡ k = omega arith in
                subst (λ j. get_or (set sums x v) (get_or (tunnel_at p t).links j 0) 0 + get_or rates t 0 ≡ load p (λ u. get_or rates u 0) (get_or (tunnel_at p t).links j 0) + rate) (sym same) (omega (arith, new, sum-holds, sum-here))
          ];
          rest = λ l small apart. get_or-set_other sums x l v 0 (λ e. apart k (omega arith) (sym e)) ∙ part.rest l small (λ g less. apart g (omega arith));
        }

-- the same, of a list that is the tunnel's links
module _ (p : Problem) (net : IsNetwork p) (rates : List ℕ) (t : ℕ) (lt : t < length p.tunnels) (rate : ℕ) (links : List ℕ) (is : links ≡ (tunnel_at p t).links) where
  module _ (sums : List ℕ) (k : ℕ) where
    pub holds : k < length links → IsPartly p rates links (get_or rates t 0) rate sums k → get_or rates t 0 ≤ get_or sums (get_or links k 0) 0
    holds = subst (λ ls. k < length ls → IsPartly p rates ls (get_or rates t 0) rate sums k → get_or rates t 0 ≤ get_or sums (get_or ls k 0) 0) (sym is) (sum-holds p net rates t lt rate sums k)

    pub stays_small : ((u : ℕ) → get_or rates u 0 ≤ 18446744073709551615) → k < length links → IsPartly p rates links (get_or rates t 0) rate sums k → get_or sums (get_or links k 0) 0 ≤ 4096 * 18446744073709551615
    stays_small each = subst (λ ls. k < length ls → IsPartly p rates ls (get_or rates t 0) rate sums k → get_or sums (get_or ls k 0) 0 ≤ 4096 * 18446744073709551615) (sym is)
        (λ top part. omega (arith, sum-here p net rates t lt rate sums k top part, load-most p net rates t lt (get_or (tunnel_at p t).links k 0) each))

    pub steps : k < length links → IsPartly p rates links (get_or rates t 0) rate sums k
        → IsPartly p rates links (get_or rates t 0) rate (set sums (get_or links k 0) (get_or sums (get_or links k 0) 0 - get_or rates t 0 + rate)) (k + 1)
    steps = subst (λ ls. k < length ls → IsPartly p rates ls (get_or rates t 0) rate sums k → IsPartly p rates ls (get_or rates t 0) rate (set sums (get_or ls k 0) (get_or sums (get_or ls k 0) 0 - get_or rates t 0 + rate)) (k + 1)) (sym is) (partly-step p net rates t lt rate sums k)

    pub ends : length rates ≡ length p.tunnels → k ≡ length links → IsPartly p rates links (get_or rates t 0) rate sums k → AreSums p (set rates t rate) sums
    ends all at part =
        summed p net rates t lt all rate sums
        (subst (λ ls. IsPartly p rates ls (get_or rates t 0) rate sums (length ls)) is (subst (λ j. IsPartly p rates links (get_or rates t 0) rate sums j) at part))
