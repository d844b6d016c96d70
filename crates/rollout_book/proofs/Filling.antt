-- Rates in the sixteen places of a command.
use Rattle.std.proofs.Common.{◌≡◌, ℕ, suc, ◌+◌, ◌-◌, ◌<◌, ◌≤◌, List, [], ◌∷◌, ◌++◌, length, take, drop, set, replicate, sym, ap, ◌∙◌, arith, append_assoc, length-append}
use Rattle.std.proofs.lemmas.List.{length-replicate, set-append_right}
use Rattle.std.proofs.Math.Seq.{take-append_seam, drop-append_seam}
use Rattle.rollout_rules.specs.Sums.{list_below}
use Rattle.rollout_rules.proofs.Rows.{list_below-length}
use Rattle.wire_frames.specs.Contents.{IsFilled, content_of, rates_of}

-- one rate more
pub one-more : (k : ℕ) (f : ℕ → ℕ) (x : ℕ) → k < 16 → x ≡ f k → set (rates_of (list_below k f)) k x ≡ rates_of (list_below (k + 1) f)
one-more k f x few is =
    let long : length (list_below k f) ≡ k = list_below-length k f in
    let longer : length (list_below (suc k) f) ≡ suc k = list_below-length (suc k) f in
    let next : suc k ≡ k + 1 = omega arith in
    let left : ℕ = 16 - (k + 1) in
    let whole : 16 - length (list_below k f) ≡ suc left = omega (arith, long, few) in
    let rest : left ≡ 16 - length (list_below (suc k) f) = omega (arith, longer) in
    let here : k - k ≡ 0 = omega arith in
    ap (λ (n : ℕ). set (list_below k f ++ replicate n 0) k x) whole
    ∙ set-append_right (list_below k f) (replicate (suc left) 0) k k x long (omega arith)
    ∙ ap (λ (n : ℕ). list_below k f ++ set (replicate (suc left) 0) n x) here
    ∙ ap (λ (y : ℕ). list_below k f ++ (y ∷ replicate left 0)) is
    ∙ ap (λ (n : ℕ). list_below k f ++ (f k ∷ replicate n 0)) rest
    ∙ sym (append_assoc (list_below k f) (f k ∷ []) (replicate (16 - length (list_below (suc k) f)) 0))
    ∙ ap (λ (n : ℕ). rates_of (list_below n f)) next

-- what stands in the places is the content
pub content-back : (content : List ℕ) (count : ℕ) → length content ≡ count → content_of count (rates_of content) ≡ content
content-back content count is = ap (λ n. take n (rates_of content)) (sym is) ∙ take-append_seam content (replicate (16 - length content) 0)

pub are-filled : (content : List ℕ) (count : ℕ) → length content ≡ count → 0 < count → count ≤ 16 → IsFilled count (rates_of content)
are-filled content count is some few = record {
  some = omega (arith, some);
  few = few;
  places = omega (arith, length-append content (replicate (16 - length content) 0), length-replicate {A = ℕ} (16 - length content) 0, is, few);
  zeros = ap (λ n. drop n (rates_of content)) (sym is) ∙ drop-append_seam content (replicate (16 - length content) 0) ∙ ap (λ (n : ℕ). replicate (16 - n) 0) is;
}
