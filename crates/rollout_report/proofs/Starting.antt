-- What is counted at the start of a history, before any entry.
use Rattle.std.proofs.Common.{◌≡◌, ℕ, zero, suc, Bool, false, ◌==◌, if◌then◌else◌, List, length, get_or, refl, sym, ap, ◌∙◌, arith}
use Rattle.std.specs.Prelude.{replicate}
use Rattle.std.proofs.Math.Seq.{take-length}
use Rattle.lists.proofs.Conditions.{uncounted_second}
use Rattle.rollout_rules.specs.Wan.{Problem, hops, switch_of, width_of, crosses}
use Rattle.rollout_rules.specs.Items.{item_count, number_of}
use Rattle.rollout_rules.specs.History.{History}
use Rattle.rollout_rules.specs.declared.item.Item.TheVariants as item
use Rattle.rollout_rules.proofs.Below.{sum_below-zero}
use Rattle.rollout_report.specs.Peaks.{front}
use Rattle.rollout_report.specs.Loads.{AreSums}
use Rattle.rollout_report.specs.Fills.{marked, AreTallies}

all_same : {A : Type 0} → (n k : ℕ) (x : A) → get_or (replicate n x) k x ≡ x
all_same zero k x = refl
all_same (suc n) zero x = refl
all_same (suc n) (suc k) x = all_same n k x

many : {A : Type 0} → (n : ℕ) (x : A) → length (replicate n x) ≡ n
many zero x = refl
many (suc n) x = ap suc (many n x) ∙ omega arith

-- a history up to all of its entries
pub front-all : (h : History) → front h (length h.entries) ≡ h
front-all h = let whole = take-length h.entries in λ i. record { start = h.start; entries = whole i }

pub no_sums : (p : Problem) (rates sums : List ℕ) → rates ≡ replicate (length p.tunnels) 0 → sums ≡ replicate (length p.links) 0 → AreSums p rates sums
no_sums p rates sums er es = record {
  tunnels = ap length er ∙ many (length p.tunnels) 0;
  links = ap length es ∙ many (length p.links) 0;
  each = λ l lt. ap (λ x. get_or x l 0) es ∙ all_same (length p.links) l 0 ∙ sym (sum_below-zero (length p.tunnels) (λ t. if crosses p t l then get_or rates t 0 else 0) (λ t low. none (crosses p t l) (get_or rates t 0) (ap (λ x. get_or x t 0) er ∙ all_same (length p.tunnels) t 0)));
}
  where
    none : (b : Bool) (x : ℕ) → x ≡ 0 → (if b then x else 0) ≡ 0
    none b x e = grind arith

pub no_tallies : (p : Problem) (marks : List Bool) (sums : List ℕ) → marks ≡ replicate (item_count p) false → sums ≡ replicate (length p.switches) 0 → AreTallies p marks sums
no_tallies p marks sums em es = record {
  items = ap length em ∙ many (item_count p) false;
  switches = ap length es ∙ many (length p.switches) 0;
  each = λ w lt. ap (λ x. get_or x w 0) es ∙ all_same (length p.switches) w 0
      ∙ sym (sum_below-zero (length p.tunnels) _ (λ t low. sum_below-zero (hops p t) _ (λ n small. uncounted_second (switch_of p t n == w) (marked p marks t n) (width_of p t) (ap (λ x. get_or x (number_of p (item.Entry t n)) false) em ∙ all_same (item_count p) (number_of p (item.Entry t n)) false))));
}
