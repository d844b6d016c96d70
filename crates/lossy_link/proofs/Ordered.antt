-- Answers in order: what they say is at most what is held, and a stream splits into frames in one way.
use Rattle.std.proofs.Common.{◌≡◌, ℕ, ◌==◌, ◌<◌, ◌^◌, Bool, true, false, List, [], ◌∷◌, ◌++◌, length, refl, sym, ap, ap₂, subst, ◌∙◌, append_assoc, arith, length-append}
use Rattle.std.specs.List.{All, flat_map}
use Rattle.std.proofs.lemmas.List.{append-nil}
use Rattle.std.proofs.lemmas.List.Elements.{All-cons, All-head, All-nil, All-tail}
use Rattle.rollout_rules.specs.Agent.{is_at_most, is_next_command}
use Rattle.rollout_rules.specs.declared.held.Held.{Held}
use Rattle.rollout_rules.proofs.Pairs.{after-more, at_most-refl, at_most-trans}
use Rattle.wan_edge.specs.Frames.{AnswerFrame, CommandFrame, IsAnswer, IsCommand, IsCutCommand, answer_bytes, command_bytes}
use Rattle.wan_edge.specs.Ports.{AnswersHeld, BeginsNoCommand}
use Rattle.wan_edge.specs.Switches.{Holdings, after_command, after_commands, answer_to, answers_to, pair_asked}
use Rattle.wan_edge.proofs.Sizes.{answer-length}
use Rattle.wan_edge.proofs.Commands.{IsHeld}
use Rattle.wire_frames.proofs.OneSpelling.{one_answer, one_command}

-- ---- pairs only grow

pair_grows : (h : Holdings) (c : CommandFrame) (item : ℕ) (same : Bool) → (item == c.1.item) ≡ same → is_at_most (h item).held (after_command h c item).held ≡ true
pair_grows h c item true is = rw is (after-more (h item) (pair_asked c) c.1.content)
pair_grows h c item false is = rw is (at_most-refl (h item).held)

pub pairs_grow : (h : Holdings) (cs : List CommandFrame) (item : ℕ) → is_at_most (h item).held (after_commands h cs item).held ≡ true
pairs_grow h [] item = at_most-refl (h item).held
pairs_grow h (c ∷ cs) item = at_most-trans (h item).held (after_command h c item).held (after_commands h (c ∷ cs) item).held (pair_grows h c item (item == c.1.item) refl) (pairs_grow (after_command h c) cs item)

-- each answer says at most what is held at the end
pub answers_below : (h : Holdings) (cs : List CommandFrame) → All (IsHeld (after_commands h cs)) (answers_to h cs)
answers_below h [] = All-nil (IsHeld (after_commands h []))
answers_below h (c ∷ cs) = All-cons (IsHeld (after_commands h (c ∷ cs))) (answer_to h c) (answers_to (after_command h c) cs) (pairs_grow (after_command h c) cs c.1.item) (answers_below (after_command h c) cs)

-- ---- one way to split

pub record Continues (all front : List AnswerFrame) : Type 0 where
  pub others : List AnswerFrame
  pub parts : all ≡ front ++ others

-- whole answers at the front of a row of answers are the first of the row
pub front_answers : (front all : List AnswerFrame) (rest more : List ℕ) → All IsAnswer front → All IsAnswer all → flat_map answer_bytes all ≡ (flat_map answer_bytes front ++ rest) ++ more → Continues all front
front_answers [] all rest more front_fit all_fit e = record { others = all; parts = refl }
front_answers (a ∷ front) [] rest more front_fit all_fit e =
    absurd (omega (arith, ap length e, length-append (flat_map answer_bytes (a ∷ front) ++ rest) more, length-append (flat_map answer_bytes (a ∷ front)) rest, length-append (answer_bytes a) (flat_map answer_bytes front), answer-length a))
front_answers (a ∷ front) (b ∷ all) rest more front_fit all_fit e =
    let regrouped : answer_bytes b ++ flat_map answer_bytes all ≡ answer_bytes a ++ ((flat_map answer_bytes front ++ rest) ++ more)
    = e ∙ ap (λ (xs : List ℕ). xs ++ more) (append_assoc (answer_bytes a) (flat_map answer_bytes front) rest) ∙ append_assoc (answer_bytes a) (flat_map answer_bytes front ++ rest) more in
    let parts = one_answer b a (flat_map answer_bytes all) ((flat_map answer_bytes front ++ rest) ++ more) (All-head IsAnswer b all all_fit) (All-head IsAnswer a front front_fit) regrouped in
    let on = front_answers front all rest more (All-tail IsAnswer a front front_fit) (All-tail IsAnswer b all all_fit) parts.1 in
    record { others = on.others; parts = ap₂ (λ (x : AnswerFrame) (xs : List AnswerFrame). x ∷ xs) parts.0 on.parts }

pub front_of_all : (P : AnswerFrame → Type 0) (front others : List AnswerFrame) → All P (front ++ others) → All P front
front_of_all P [] others each = All-nil P
front_of_all P (a ∷ front) others each = All-cons P a front (All-head P a (front ++ others) each) (front_of_all P front others (All-tail P a (front ++ others) each))

-- ---- what is held fits, and so do the answers

pub record HasPairs (h : Holdings) : Type 0 where
  pub migrations : (item : ℕ) → (h item).held.migration < 2 ^ 32
  pub numbers : (item : ℕ) → (h item).held.number < 2 ^ 32

Fits : Held → Type 0
Fits p = (p.migration < 2 ^ 32) × (p.number < 2 ^ 32)

fits_at : (h : Holdings) (c : CommandFrame) → IsCommand c → HasPairs h → (item : ℕ) (same : Bool) → (item == c.1.item) ≡ same → (next : Bool) → is_next_command (h item).held (pair_asked c) ≡ next → Fits (after_command h c item).held
unfolding Fits
fits_at h c fits has item false is next next_is = rw is (has.migrations item, has.numbers item)
fits_at h c fits has item true is true next_is = rw (is, next_is) (fits.migration, fits.number)
fits_at h c fits has item true is false next_is = rw (is, next_is) (has.migrations item, has.numbers item)

fits_after : (h : Holdings) (c : CommandFrame) → IsCommand c → HasPairs h → HasPairs (after_command h c)
unfolding Fits
fits_after h c fits has = record {
  migrations = λ item. (fits_at h c fits has item (item == c.1.item) refl (is_next_command (h item).held (pair_asked c)) refl).0;
  numbers = λ item. (fits_at h c fits has item (item == c.1.item) refl (is_next_command (h item).held (pair_asked c)) refl).1;
}

pub answers_fit : (h : Holdings) (cs : List CommandFrame) → HasPairs h → All IsCommand cs → All IsAnswer (answers_to h cs)
answers_fit h [] has fit = All-nil IsAnswer
answers_fit h (c ∷ cs) has fit =
    let first = All-head IsCommand c cs fit in
    let after = fits_after h c first has in
    All-cons IsAnswer (answer_to h c) (answers_to (after_command h c) cs) (record { migration = after.migrations c.1.item; item = first.item; held = after.numbers c.1.item }) (answers_fit (after_command h c) cs after (All-tail IsCommand c cs fit))

-- what was heard is a front of the answers to commands that were carried out: none says more than is held
pub answers_held : (h now : Holdings) (cs : List CommandFrame) (heard to_come : List ℕ) → HasPairs h → All IsCommand cs → now ≡ after_commands h cs → flat_map answer_bytes (answers_to h cs) ≡ heard ++ to_come → AnswersHeld heard now
answers_held h now cs heard to_come has fit now_is e answers rest split =
    let front = front_answers answers (answers_to h cs) rest to_come split.fit (answers_fit h cs has fit) (e ∙ ap (λ (xs : List ℕ). xs ++ to_come) split.parts) in
    let below = subst (λ (as_said : List AnswerFrame). All (IsHeld (after_commands h cs)) as_said) front.parts (answers_below h cs) in
    let mine = front_of_all (IsHeld (after_commands h cs)) answers front.others below in
    subst (λ (holding : Holdings). All (IsHeld holding) answers) (sym now_is) mine

-- ---- what begins no command

pub cut_begins_none : (rest : List ℕ) → IsCutCommand rest → BeginsNoCommand rest
cut_begins_none rest cut c behind fits e =
    let whole : command_bytes cut.frame ++ [] ≡ command_bytes c ++ (behind ++ cut.missing)
    = append-nil (command_bytes cut.frame) ∙ cut.begins ∙ ap (λ (xs : List ℕ). xs ++ cut.missing) e ∙ append_assoc (command_bytes c) behind cut.missing in
    let parts = one_command cut.frame c [] (behind ++ cut.missing) cut.fits fits whole in
    let some = cut.some in
    omega (arith, ap length parts.1, length-append behind cut.missing)

-- two ways to split are one
pub one_split : (xs ys : List CommandFrame) (rest others : List ℕ) → All IsCommand xs → All IsCommand ys → BeginsNoCommand rest → BeginsNoCommand others → flat_map command_bytes xs ++ rest ≡ flat_map command_bytes ys ++ others → xs ≡ ys
one_split [] [] rest others xs_fit ys_fit none none_else e = refl
one_split [] (y ∷ ys) rest others xs_fit ys_fit none none_else e =
    absurd (none y (flat_map command_bytes ys ++ others) (All-head IsCommand y ys ys_fit) (e ∙ append_assoc (command_bytes y) (flat_map command_bytes ys) others))
one_split (x ∷ xs) [] rest others xs_fit ys_fit none none_else e =
    absurd (none_else x (flat_map command_bytes xs ++ rest) (All-head IsCommand x xs xs_fit) (sym e ∙ append_assoc (command_bytes x) (flat_map command_bytes xs) rest))
one_split (x ∷ xs) (y ∷ ys) rest others xs_fit ys_fit none none_else e =
    let apart = sym (append_assoc (command_bytes x) (flat_map command_bytes xs) rest) ∙ e ∙ append_assoc (command_bytes y) (flat_map command_bytes ys) others in
    let parts = one_command x y (flat_map command_bytes xs ++ rest) (flat_map command_bytes ys ++ others) (All-head IsCommand x xs xs_fit) (All-head IsCommand y ys ys_fit) apart in
    ap₂ (λ (c : CommandFrame) (cs : List CommandFrame). c ∷ cs) parts.0 (one_split xs ys rest others (All-tail IsCommand x xs xs_fit) (All-tail IsCommand y ys ys_fit) none none_else parts.1)
