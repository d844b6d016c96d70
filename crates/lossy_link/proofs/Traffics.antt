-- What deliveries, answers that set out and answers that arrive add up to.
use Rattle.std.proofs.Common.{◌≡◌, ℕ, zero, suc, ◌+◌, ◌<◌, true, false, List, [], ◌∷◌, ◌++◌, length, get_or, take, drop, map, replicate, refl, sym, ap, ap₂, subst, ◌∙◌, append_assoc, add-one, arith}
use Rattle.std.specs.List.{All, filter, flat_map}
use Rattle.std.proofs.Math.ListN.{set}
use Rattle.std.proofs.Math.Seq.{take-add}
use Rattle.std.proofs.lemmas.Grind.{flat_map-append}
use Rattle.std.proofs.lemmas.List.{append-nil, drop-drop, replicate-append-replicate, take-append-drop, take-append-le, take_all, take_more}
use Rattle.std.proofs.lemmas.List.Elements.{All-append, All-cons, All-filter, All-head, All-map, All-nil, All-tail, All-take, filter-append}
use Rattle.rollout_rules.proofs.Pairs.{at_most-trans}
use Rattle.wan_edge.specs.Frames.{AnswerFrame, CommandFrame, IsAnswer, answer_bytes}
use Rattle.wan_edge.specs.Ports.{AnswersHeld}
use Rattle.wan_edge.specs.Switches.{Holdings, after_command, after_commands, pair_given}
use Rattle.wan_edge.proofs.Commands.{IsHeld}
use Rattle.lossy_link.specs.Traffic.{IsAnswered, SaysAtMost, arriving, is_late, is_there, less_late}
use Rattle.lossy_link.specs.WayBack.{Back, after_hearing, with_due}
use Rattle.lossy_link.specs.declared.waiting.Waiting.{Waiting}
use Rattle.lossy_link.proofs.Ordered.{front_answers, front_of_all, pairs_grow}

-- one delivery more
pub after-replicate : (held : Holdings) (n : ℕ) (c : CommandFrame) → after_command (after_commands held (replicate n c)) c ≡ after_commands held (replicate (n + 1) c)
after-replicate held n c = at_suc held n ∙ ap (λ (k : ℕ). after_commands held (replicate k c)) (sym (add-one n))
  where
    at_suc : (h : Holdings) (k : ℕ) → after_command (after_commands h (replicate k c)) c ≡ after_commands h (replicate (suc k) c)
    at_suc h zero = refl
    at_suc h (suc k) = at_suc (after_command h c) k

-- one more of the same after the others
pub append-replicate : {T : Type 0} (xs : List T) (n : ℕ) (x : T) → (xs ++ replicate n x) ++ x ∷ [] ≡ xs ++ replicate (n + 1) x
append-replicate {T} xs n x = append_assoc xs (replicate n x) (x ∷ []) ∙ ap (λ (ys : List T). xs ++ ys) (replicate-append-replicate n 1 x)

bytes_of : Waiting → List ℕ
bytes_of w = answer_bytes w.answer

arriving-append : (xs ys : List Waiting) → arriving (xs ++ ys) ≡ arriving xs ++ arriving ys
arriving-append xs ys = ap (flat_map (λ (w : Waiting). answer_bytes w.answer)) (filter-append is_there xs ys) ∙ flat_map-append (λ (w : Waiting). answer_bytes w.answer) (filter is_there xs) (filter is_there ys)

only_there : (w : Waiting) → is_there w ≡ true → arriving (w ∷ []) ≡ answer_bytes w.answer
only_there w is = rw is (append-nil (answer_bytes w.answer))

only_late : (w : Waiting) → is_there w ≡ false → arriving (w ∷ []) ≡ []
only_late w is = rw is refl

-- one answer more is looked at
module _ (ws : List Waiting) (i : ℕ) (w : Waiting) (inside : i < length ws) (here : w ≡ get_or ws i w) where
  looked : take (i + 1) ws ≡ take i ws ++ w ∷ []
  looked = take_more ws i w inside ∙ ap (λ (x : Waiting). take i ws ++ x ∷ []) (sym here)

  pub one_there : is_there w ≡ true → arriving (take i ws) ++ answer_bytes w.answer ≡ arriving (take (i + 1) ws)
  one_there is = ap (λ (xs : List ℕ). arriving (take i ws) ++ xs) (sym (only_there w is)) ∙ sym (arriving-append (take i ws) (w ∷ [])) ∙ ap arriving (sym looked)

  pub one_late : is_there w ≡ false → arriving (take i ws) ≡ arriving (take (i + 1) ws)
  one_late is = sym (append-nil (arriving (take i ws))) ∙ ap (λ (xs : List ℕ). arriving (take i ws) ++ xs) (sym (only_late w is)) ∙ sym (arriving-append (take i ws) (w ∷ [])) ∙ ap arriving (sym looked)

-- bytes that were given go on after those that were before
pub given_further : (bytes : List ℕ) (given n : ℕ) (b : Back) → take given bytes ≡ b.heard → drop given bytes ≡ b.due → (n_heard : take (given + n) bytes ≡ b.heard ++ take n b.due) × (drop (given + n) bytes ≡ drop n b.due)
given_further bytes given n b heard due =
    (take-add given n bytes ∙ ap₂ (λ (xs ys : List ℕ). xs ++ take n ys) heard due, sym (drop-drop n given bytes) ∙ ap (λ (xs : List ℕ). drop n xs) due)

-- the first i wait less already
partly : List Waiting → ℕ → List Waiting
partly ws i = map less_late (take i ws) ++ drop i ws

less_step : (ws : List Waiting) (i : ℕ) (d : Waiting) → i < length ws → set (partly ws i) i (less_late (get_or (partly ws i) i d)) ≡ partly ws (suc i)
unfolding partly
less_step [] i d inside = absurd (omega arith)
less_step (w ∷ ws) zero d inside = refl
less_step (w ∷ ws) (suc i) d inside = ap (λ (xs : List Waiting). less_late w ∷ xs) (less_step ws i d (omega arith))

pub one_less : (ws items : List Waiting) (i : ℕ) (w : Waiting) → items ≡ map less_late (take i ws) ++ drop i ws → i < length ws → w ≡ get_or items i w → set items i (less_late w) ≡ map less_late (take (i + 1) ws) ++ drop (i + 1) ws
unfolding partly
one_less ws items i w is inside here =
    ap₂ (λ (xs : List Waiting) (x : Waiting). set xs i (less_late x)) is (here ∙ ap (λ (xs : List Waiting). get_or xs i w) is) ∙ less_step ws i w inside ∙ ap (λ (k : ℕ). map less_late (take k ws) ++ drop k ws) (sym (add-one i))

-- ---- answers say at most what is held

fit_of : (held : Holdings) (answers : List AnswerFrame) → All (SaysAtMost held) answers → All IsAnswer answers
fit_of held [] each = All-nil IsAnswer
fit_of held (a ∷ answers) each = All-cons IsAnswer a answers (All-head (SaysAtMost held) a answers each).fits (fit_of held answers (All-tail (SaysAtMost held) a answers each))

below_of : (held : Holdings) (answers : List AnswerFrame) → All (SaysAtMost held) answers → All (IsHeld held) answers
below_of held [] each = All-nil (IsHeld held)
below_of held (a ∷ answers) each = All-cons (IsHeld held) a answers (All-head (SaysAtMost held) a answers each).below (below_of held answers (All-tail (SaysAtMost held) a answers each))

pub answered_held : (held : Holdings) (waiting : List Waiting) (back : Back) → IsAnswered held waiting back → AnswersHeld back.heard held
answered_held held waiting back is answers rest split =
    let front = front_answers answers is.came rest back.due split.fit (fit_of held is.came is.each) (is.parts ∙ ap (λ (xs : List ℕ). xs ++ back.due) split.parts) in
    let below = subst (λ (as_said : List AnswerFrame). All (IsHeld held) as_said) front.parts (below_of held is.came is.each) in
    front_of_all (IsHeld held) answers front.others below

pub nothing_answered : (held : Holdings) → IsAnswered held [] (record { heard = []; due = [] })
nothing_answered held = record { came = []; parts = refl; each = All-nil (SaysAtMost held); each_waiting = All-nil (λ (w : Waiting). SaysAtMost held w.answer) }

pub answered_heard : (held : Holdings) (waiting : List Waiting) (back : Back) (n : ℕ) → IsAnswered held waiting back → IsAnswered held waiting (after_hearing back n)
answered_heard held waiting back n is = record {
  came = is.came;
  parts = is.parts ∙ ap (λ (xs : List ℕ). back.heard ++ xs) (sym (take-append-drop n back.due)) ∙ sym (append_assoc back.heard (take n back.due) (drop n back.due));
  each = is.each;
  each_waiting = is.each_waiting;
}

answers_in : List Waiting → List AnswerFrame
answers_in ws = map (λ (w : Waiting). w.answer) (filter is_there ws)

arriving_are : (ws : List Waiting) → flat_map answer_bytes (answers_in ws) ≡ arriving ws
unfolding answers_in
arriving_are ws = of (filter is_there ws)
  where
    of : (xs : List Waiting) → flat_map answer_bytes (map (λ (w : Waiting). w.answer) xs) ≡ flat_map (λ (w : Waiting). answer_bytes w.answer) xs
    of [] = refl
    of (x ∷ xs) = ap (λ (ys : List ℕ). answer_bytes x.answer ++ ys) (of xs)

-- more answers arrived
pub answered_arrived : (held : Holdings) (waiting arrived : List Waiting) (back : Back) → All (λ w. SaysAtMost held w.answer) arrived → IsAnswered held waiting back → IsAnswered held waiting (with_due back (arriving arrived))
unfolding answers_in
answered_arrived held waiting arrived back says is = record {
  came = is.came ++ answers_in arrived;
  parts = flat_map-append answer_bytes is.came (answers_in arrived) ∙ ap₂ (λ (xs ys : List ℕ). xs ++ ys) is.parts (arriving_are arrived) ∙ append_assoc back.heard back.due (arriving arrived);
  each = All-append (SaysAtMost held) is.came (answers_in arrived) is.each (All-map (SaysAtMost held) (λ (w : Waiting). w.answer) (filter is_there arrived) (All-filter is_there (λ (w : Waiting). SaysAtMost held w.answer) arrived says));
  each_waiting = is.each_waiting;
}

module _ (held : Holdings) (waiting seen : List Waiting) (back back_now : Back) (seen_is : seen ≡ waiting) (is : IsAnswered held waiting back) where
  -- memory ran out when some of them had arrived
  pub answered_front : (n : ℕ) → back_now ≡ with_due back (arriving (take n seen)) → IsAnswered held waiting back_now
  answered_front n now_is =
      subst (IsAnswered held waiting) (sym now_is)
      (subst (λ (ws : List Waiting). IsAnswered held waiting (with_due back (arriving (take n ws)))) (sym seen_is)
      (answered_arrived held waiting (take n waiting) back (All-take (λ (w : Waiting). SaysAtMost held w.answer) n waiting is.each_waiting) is))

  -- all that wait no further hears have arrived
  pub answered_turned : (waiting_now : List Waiting) → waiting_now ≡ map less_late (filter is_late waiting) → back_now ≡ with_due back (arriving seen) → IsAnswered held waiting_now back_now
  answered_turned waiting_now waiting_is back_is =
      let arrived : IsAnswered held waiting back_now = subst (IsAnswered held waiting) (sym back_is) (subst (λ (ws : List Waiting). IsAnswered held waiting (with_due back (arriving ws))) (sym seen_is) (answered_arrived held waiting waiting back is.each_waiting is)) in
      record {
        came = arrived.came;
        parts = arrived.parts;
        each = arrived.each;
        each_waiting = subst (All (λ (w : Waiting). SaysAtMost held w.answer)) (sym waiting_is) (All-map (λ (w : Waiting). SaysAtMost held w.answer) less_late (filter is_late waiting) (All-filter is_late (λ (w : Waiting). SaysAtMost held w.answer) waiting is.each_waiting));
      }

-- pairs held only grow
says_still : (held held_now : Holdings) (n : ℕ) (c : CommandFrame) → held_now ≡ after_commands held (replicate n c) → (a : AnswerFrame) → SaysAtMost held a → SaysAtMost held_now a
says_still held held_now n c is a says =
    record {
      fits = says.fits;
      below =
          subst (λ (h : Holdings). IsHeld h a) (sym is)
          (at_most-trans (pair_given a) (held a.1.item).held (after_commands held (replicate n c) a.1.item).held says.below (pairs_grow held (replicate n c) a.1.item));
    }

each_still : {T : Type 0} (P Q : T → Type 0) → ((x : T) → P x → Q x) → (xs : List T) → All P xs → All Q xs
each_still P Q to [] each = All-nil Q
each_still P Q to (x ∷ xs) each = All-cons Q x xs (to x (All-head P x xs each)) (each_still P Q to xs (All-tail P x xs each))

pub answered_delivered : (held held_now : Holdings) (n : ℕ) (c : CommandFrame) (waiting : List Waiting) (back : Back) → held_now ≡ after_commands held (replicate n c) → IsAnswered held waiting back → IsAnswered held_now waiting back
answered_delivered held held_now n c waiting back now_is is = record {
  came = is.came;
  parts = is.parts;
  each = each_still (SaysAtMost held) (SaysAtMost held_now) (says_still held held_now n c now_is) is.came is.each;
  each_waiting = each_still (λ (w : Waiting). SaysAtMost held w.answer) (λ (w : Waiting). SaysAtMost held_now w.answer) (λ w. says_still held held_now n c now_is w.answer) waiting is.each_waiting;
}

pub each_replicate : {T : Type 0} (P : T → Type 0) (n : ℕ) (x : T) → P x → All P (replicate n x)
each_replicate P zero x p = All-nil P
each_replicate P (suc n) x p = All-cons P x (replicate n x) p (each_replicate P n x p)

pub answered_set_out : (held : Holdings) (waiting waiting_now : List Waiting) (back : Back) (n : ℕ) (w : Waiting) → waiting_now ≡ waiting ++ replicate n w → SaysAtMost held w.answer → IsAnswered held waiting back → IsAnswered held waiting_now back
answered_set_out held waiting waiting_now back n w now_is says is = record {
  came = is.came;
  parts = is.parts;
  each = is.each;
  each_waiting = subst (All (λ (w : Waiting). SaysAtMost held w.answer)) (sym now_is) (All-append (λ (w : Waiting). SaysAtMost held w.answer) waiting (replicate n w) is.each_waiting (each_replicate (λ (w : Waiting). SaysAtMost held w.answer) n w says));
}

-- all of a list was written over
pub written_over : {T : Type 0} (items over : List T) (n : ℕ) → length over ≡ length items → n ≡ length items → take n (over ++ drop (length over) items) ≡ over
written_over items over n long all =
    take-append-le n over (drop (length over) items) (omega arith) ∙ take_all n over (omega arith)
