-- The batch of a round has the form of one.
use Rattle.std.proofs.Common.{◌≡◌, ℕ, zero, suc, ◌+◌, ◌<◌, ◌≤◌, Bool, true, false, not, ◌&&◌, ◌==◌, nat_le, if◌then◌else◌, List, [], ◌∷◌, ◌++◌, map, filter, All, refl, sym, ap, ap₂, ◌∙◌, subst, arith, eq-eqb, le-leb}
use Rattle.std.proofs.lemmas.Bool.{and_from, cond_both}
use Rattle.std.proofs.lemmas.List.Elements.{All-head, All-tail}
use Rattle.rollout_rules.specs.Sums.{list_below}
use Rattle.rollout_rules.specs.Wan.{Problem, Plan}
use Rattle.rollout_rules.specs.Items.{item_count}
use Rattle.rollout_rules.specs.History.{History, with_entries}
use Rattle.rollout_rules.specs.Legal.{may_begin, may_follow}
use Rattle.rollout_rules.specs.Release.{next_op, begin_each, is_covered, dones, release, batch}
use Rattle.rollout_rules.specs.declared.op.Op.{Op}
use Rattle.rollout_rules.specs.declared.op.OpView.{OpView}
use Rattle.rollout_rules.specs.declared.op.Entry.{Entry}
use Rattle.rollout_rules.specs.declared.op.Entry.TheVariants.{Begin, Done}
use Rattle.rollout_laws.proofs.Rounds.{numbers_below, batch_follows}
use Rattle.shared_book.specs.Batches.{same_op, same_entry, same_entries, dones_ahead, behind_dones, ends, items_rise, is_batch}

-- ---- a list is the same as itself
op-itself : (op : Op) → same_op op op ≡ true
op-itself op = and_from (op.item == op.item) (op.number == op.number) (eq-eqb op.item op.item refl) (eq-eqb op.number op.number refl)

entry-itself : (e : Entry) → same_entry e e ≡ true
entry-itself (Begin op) = op-itself op
entry-itself (Done op) = op-itself op

pub entries-themselves : (es : List Entry) → same_entries es es ≡ true
entries-themselves [] = refl
entries-themselves (e ∷ es) = and_from (same_entry e e) (same_entries es es) (entry-itself e) (entries-themselves es)

-- ---- numbers that rise
abbrev Rise : ℕ → List ℕ → Type 0
Rise from [] = Unit {0}
Rise from (n ∷ ns) = (from ≤ n) × Rise (n + 1) ns

rise-weaker : (from least : ℕ) (ns : List ℕ) → least ≤ from → Rise from ns → Rise least ns
rise-weaker from least [] le rise = tt
rise-weaker from least (n ∷ ns) le rise = (let r = rise.0 in omega arith, rise.1)

rise-snoc : (from : ℕ) (ns : List ℕ) (n : ℕ) → Rise from ns → All (λ m. m < n) ns → from ≤ n → Rise from (ns ++ n ∷ [])
rise-snoc from [] n rise below le = (le, tt)
rise-snoc from (m ∷ ns) n rise below le =
    let less : m < n = All-head (λ k. k < n) m ns below in
    (rise.0, rise-snoc (m + 1) ns n rise.1 (All-tail (λ k. k < n) m ns below) (omega arith))

numbers-rise : (n : ℕ) → Rise 0 (list_below n (λ k. k))
numbers-rise zero = tt
numbers-rise (suc n) = rise-snoc 0 (list_below n (λ k. k)) n (numbers-rise n) (numbers_below n) (omega arith)

filter-rise : (test : ℕ → Bool) (from : ℕ) (ns : List ℕ) → Rise from ns → Rise from (filter test ns)
filter-rise test from [] rise = tt
filter-rise test from (n ∷ ns) rise =
    cond_both (test n) (n ∷ filter test ns) (filter test ns) (Rise from) (λ _. (rise.0, filter-rise test (n + 1) ns rise.1))
    (λ _. let r = rise.0 in rise-weaker (n + 1) from (filter test ns) (omega arith) (filter-rise test (n + 1) ns rise.1))

items-rise : (h : History) (from : ℕ) (ns : List ℕ) → Rise from ns → items_rise from (map (next_op h) ns) ≡ true
items-rise h from [] rise = refl
items-rise h from (n ∷ ns) rise = and_from (nat_le from n) (items_rise (n + 1) (map (next_op h) ns)) (le-leb from n rise.0) (items-rise h (n + 1) ns rise.1)

-- ---- Dones, and then Begins
pub ahead-of : (f : ℕ → Op) (ns : List ℕ) (rest : List Entry) → dones_ahead rest ≡ [] → dones_ahead (map (λ n. Done (f n)) ns ++ rest) ≡ map f ns
ahead-of f [] rest none = none
ahead-of f (n ∷ ns) rest none = ap (λ ops. f n ∷ ops) (ahead-of f ns rest none)

pub behind-of : (f : ℕ → Op) (ns : List ℕ) (rest : List Entry) → behind_dones (map (λ n. Done (f n)) ns ++ rest) ≡ behind_dones rest
behind-of f [] rest = refl
behind-of f (n ∷ ns) rest = behind-of f ns rest

ends-of : (f : ℕ → Op) (ns : List ℕ) → ends (map f ns) ≡ map (λ n. Done (f n)) ns
ends-of f [] = refl
ends-of f (n ∷ ns) = ap (λ es. Done (f n) ∷ es) (ends-of f ns)

-- no Done is ahead of Begins
record NoneAhead (es : List Entry) : Type 0 where
  ahead : dones_ahead es ≡ []
  behind : behind_dones es ≡ es

module _ (p : Problem) (plan : Plan) where
  begins-only : (h : History) (ns : List ℕ) → NoneAhead (begin_each p plan h ns)
  begins-only h [] = record { ahead = refl; behind = refl }
  begins-only h (n ∷ ns) =
      cond_both (may_begin p plan h (next_op h n)) (Begin (next_op h n) ∷ begin_each p plan (with_entries h (Begin (next_op h n) ∷ [])) ns) (begin_each p plan h ns)
      NoneAhead (λ _. record { ahead = refl; behind = refl }) (λ _. begins-only h ns)

  module _ (policy : OpView → ℕ) (h : History) (answers : List Op) where
    -- the items of which an answer covers the operation in flight
    abbrev covered : List ℕ
    covered = filter (is_covered h answers) (list_below (item_count p) (λ n. n))

    release-only : NoneAhead (release p plan policy (with_entries h (dones p h answers)))
    release-only = begins-only (with_entries h (dones p h answers)) _

    pub batch-ahead : dones_ahead (batch p plan policy h answers) ≡ map (next_op h) covered
    batch-ahead = ahead-of (next_op h) covered (release p plan policy (with_entries h (dones p h answers))) release-only.ahead

    pub batch-behind : behind_dones (batch p plan policy h answers) ≡ release p plan policy (with_entries h (dones p h answers))
    batch-behind = behind-of (next_op h) covered (release p plan policy (with_entries h (dones p h answers))) ∙ release-only.behind

    pub batch-is : is_batch p plan policy h (batch p plan policy h answers) ≡ true
    batch-is =
        let es = batch p plan policy h answers in
        let after : List Op → List Entry = λ ops. release p plan policy (with_entries h (ends ops)) in
        let rises = ap (items_rise 0) batch-ahead ∙ items-rise h 0 covered (filter-rise (is_covered h answers) 0 (list_below (item_count p) (λ n. n)) (numbers-rise (item_count p))) in
        let released : after (dones_ahead es) ≡ release p plan policy (with_entries h (dones p h answers)) =
        ap after batch-ahead ∙ ap (λ ds. release p plan policy (with_entries h ds)) (ends-of (next_op h) covered) in
        and_from (items_rise 0 (dones_ahead es) && may_follow p plan h es) (same_entries (behind_dones es) (after (dones_ahead es)))
        (and_from (items_rise 0 (dones_ahead es)) (may_follow p plan h es) rises (batch_follows p plan policy h answers))
        (ap₂ same_entries batch-behind released ∙ entries-themselves (release p plan policy (with_entries h (dones p h answers))))
