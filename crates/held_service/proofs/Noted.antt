-- What is noted, answer by answer, and what isn't told yet.
use Rattle.std.proofs.Common.{◌≡◌, ℕ, ◌+◌, ◌<◌, ◌≤◌, Bool, true, false, cond, not, List, [], ◌∷◌, ◌++◌, length, take, drop, get_or, Some, None, refl, sym, ap, ◌∙◌, length-set}
use Rattle.std.proofs.lemmas.List.{drop_all, drop_more, take_more}
use Rattle.std.proofs.lemmas.List.Elements.{filter-append}
use Rattle.std.specs.Prelude.{is_some}
use Rattle.wan_edge.specs.Frames.{AnswerFrame}
use Rattle.wan_edge.specs.Switches.{pair_given}
use Rattle.held_service.specs.Noting.{Notes, first_of, is_untold, noted_at, untold, with_answer, with_answers}

pub length-with : (notes : Notes) (answers : List AnswerFrame) → length (with_answers notes answers) ≡ length notes
length-with notes [] = refl
length-with notes (a ∷ later) = length-with (with_answer notes a) later ∙ length-set notes a.1.item (Some (pair_given a))

-- answers after others
pub with-append : (notes : Notes) (earlier later : List AnswerFrame) → with_answers notes (earlier ++ later) ≡ with_answers (with_answers notes earlier) later
with-append notes [] later = refl
with-append notes (a ∷ earlier) later = with-append (with_answer notes a) earlier later

-- one item more
pub untold-more : (notes : Notes) (items : List ℕ) (at : ℕ) → at < length items → untold notes (take (at + 1) items) ≡ untold notes (take at items) ++ untold notes (get_or items at 0 ∷ [])
untold-more notes items at inside = ap (untold notes) (take_more items at 0 inside) ∙ filter-append (is_untold notes) (take at items) (get_or items at 0 ∷ [])

module _ (notes : Notes) (items : List ℕ) (at : ℕ) (inside : at < length items) where
  abbrev behind : List ℕ
  behind = untold notes (drop (at + 1) items)

  -- what isn't told from a place on, by whether the item there is told
  parted : (told : Bool) → is_some (noted_at notes (get_or items at 0)) ≡ told → untold notes (drop at items) ≡ cond (not told) (get_or items at 0 ∷ behind) behind
  parted told is = ap (untold notes) (drop_more items at 0 inside) ∙ ap (λ (b : Bool). cond (not b) (get_or items at 0 ∷ behind) behind) is

  -- an item that was told is passed over
  pub skip-told : is_some (noted_at notes (get_or items at 0)) ≡ true → untold notes (drop at items) ≡ untold notes items → untold notes (drop (at + 1) items) ≡ untold notes items
  skip-told told so_far = sym (parted true told) ∙ so_far

  -- the first one that wasn't
  pub found-untold : is_some (noted_at notes (get_or items at 0)) ≡ false → untold notes (drop at items) ≡ untold notes items → Some (get_or items at 0) ≡ first_of (untold notes items)
  found-untold none so_far = sym (ap first_of (sym so_far ∙ parted false none))

-- after the last one
pub none-untold : (notes : Notes) (items : List ℕ) (at : ℕ) → length items ≤ at → untold notes (drop at items) ≡ untold notes items → None ≡ first_of (untold notes items)
none-untold notes items at past so_far = sym (ap first_of (sym so_far ∙ ap (untold notes) (drop_all at items past)))

-- where there is no first one there is none
pub none-left : (items : List ℕ) → first_of items ≡ None → items ≡ []
none-left [] is = refl
none-left (n ∷ items) is = cc
