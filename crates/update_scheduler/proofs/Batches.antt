-- The parts of a round's batch: Dones alone, and Begins alone, of each item at most one.
use Rattle.std.proofs.Common.{◌≡◌, ℕ, zero, suc, ◌+◌, ◌<◌, ◌≤◌, Bool, true, not, ◌&&◌, nat_lt, List, [], ◌∷◌, ◌++◌, map, filter, length, length-append, refl, ap, arith, eqb-true}
use Rattle.std.specs.List.{All}
use Rattle.std.proofs.lemmas.Bool.{cond_both}
use Rattle.std.proofs.lemmas.List.Elements.{All-nil, All-cons, All-head, All-tail}
use Rattle.rollout_rules.specs.Wan.{Problem, Plan}
use Rattle.rollout_rules.specs.Items.{item_count, item_at}
use Rattle.rollout_rules.specs.Operations.{operations}
use Rattle.rollout_rules.specs.History.{History, with_entries, begins_in, dones_in, begun, settled, flies}
use Rattle.rollout_rules.specs.Legal.{may_begin, is_legal}
use Rattle.rollout_rules.specs.World.{in_flight}
use Rattle.rollout_rules.specs.Release.{next_op, view_of, is_held_back, is_covered, waiting, released, insert_by, in_order_of, begin_each, release, dones, batch}
use Rattle.rollout_rules.specs.declared.op.Op.{Op}
use Rattle.rollout_rules.specs.declared.op.OpView.{OpView}
use Rattle.rollout_rules.specs.declared.op.Entry.{Entry}
use Rattle.rollout_rules.specs.declared.op.Entry.TheVariants.{Begin, Done}
use Rattle.rollout_laws.specs.Batches.{BeginsNext}
use Rattle.rollout_laws.proofs.Histories.{is_counted}
use Rattle.rollout_laws.proofs.Rounds.{release_begins_next}
use Rattle.update_scheduler.specs.Benches.{ops_of}
use Rattle.update_scheduler.specs.Counts.{count_done, count_begun}
use Rattle.update_scheduler.specs.Rows.{times, numbers}
use Rattle.update_scheduler.specs.InFlight.{items_of}

-- ---- how many items there can be
numbers-long : (k : ℕ) → length (numbers k) ≡ k
numbers-long zero = refl
numbers-long (suc k) = omega (arith, length-append (numbers k) (k ∷ []), numbers-long k)

filter-short : (test : ℕ → Bool) (ns : List ℕ) → length (filter test ns) ≤ length ns
filter-short test [] = omega arith
filter-short test (n ∷ ns) = cond_both (test n) (n ∷ filter test ns) (filter test ns) (λ ms. length ms ≤ suc (length ns)) (λ _. omega (arith, filter-short test ns)) (λ _. omega (arith, filter-short test ns))

inserted-long : (rank : ℕ → ℕ) (n : ℕ) (ms : List ℕ) → length (insert_by rank n ms) ≡ length ms + 1
inserted-long rank n [] = omega arith
inserted-long rank n (m ∷ ms) = cond_both _ (n ∷ m ∷ ms) (m ∷ insert_by rank n ms) (λ ks. length ks ≡ suc (length ms) + 1) (λ _. omega arith) (λ _. omega (arith, inserted-long rank n ms))

ordered-long : (rank : ℕ → ℕ) (ns : List ℕ) → length (in_order_of rank ns) ≡ length ns
ordered-long rank [] = refl
ordered-long rank (n ∷ ns) = omega (arith, inserted-long rank n (in_order_of rank ns), ordered-long rank ns)

begun-short : (p : Problem) (plan : Plan) (h : History) (ns : List ℕ) → length (begin_each p plan h ns) ≤ length ns
begun-short p plan h [] = omega arith
begun-short p plan h (n ∷ ns) =
    cond_both (may_begin p plan h (next_op h n)) _ _ (λ es. length es ≤ suc (length ns)) (λ _. omega (arith, begun-short p plan (with_entries h (Begin (next_op h n) ∷ [])) ns)) (λ _. omega (arith, begun-short p plan h ns))

release-short : (p : Problem) (plan : Plan) (policy : OpView → ℕ) (h : History) → length (release p plan policy h) ≤ item_count p
release-short p plan policy h =
    omega (
      arith,
      begun-short p plan h (in_order_of (λ n. policy (view_of p plan h n)) (released p plan policy h)),
      ordered-long (λ n. policy (view_of p plan h n)) (released p plan policy h),
      filter-short (λ n. not (is_held_back policy (view_of p plan h n))) (waiting p plan h),
      filter-short (λ n. not (flies h n) && nat_lt (settled h n) (operations p plan (item_at p n))) (numbers (item_count p)),
      numbers-long (item_count p),
    )

ends-long : (h : History) (ns : List ℕ) → length (map (λ n. Done (next_op h n)) ns) ≡ length ns
ends-long h [] = refl
ends-long h (n ∷ ns) = omega (arith, ends-long h ns)

pub dones-short : (p : Problem) (h : History) (answers : List Op) → length (dones p h answers) ≤ item_count p
dones-short p h answers = omega (arith, ends-long h (filter (is_covered h answers) (numbers (item_count p))), filter-short (is_covered h answers) (numbers (item_count p)), numbers-long (item_count p))

pub covered-short : (p : Problem) (h : History) (answers : List Op) → length (filter (is_covered h answers) (numbers (item_count p))) ≤ item_count p
covered-short p h answers = omega (arith, filter-short (is_covered h answers) (numbers (item_count p)), numbers-long (item_count p))

nexts-long : (h : History) (ns : List ℕ) → length (map (next_op h) ns) ≡ length ns
nexts-long h [] = refl
nexts-long h (n ∷ ns) = omega (arith, nexts-long h ns)

pub flying-short : (p : Problem) (h : History) → length (in_flight p h) ≤ item_count p
flying-short p h = omega (arith, nexts-long h (filter (flies h) (numbers (item_count p))), filter-short (flies h) (numbers (item_count p)), numbers-long (item_count p))

-- an operation in flight exists
pub flying-left : (p : Problem) (plan : Plan) (h : History) → is_legal p plan h ≡ true → (n : ℕ) → n < item_count p → flies h n ≡ true → settled h n < operations p plan (item_at p n)
flying-left p plan h legal n lt flying = omega (arith, (is_counted p plan h legal n).exist lt, eqb-true (begun h n) (settled h n + 1) flying)

-- ---- Dones alone
ends-begin : (h : History) (ns : List ℕ) (n : ℕ) → begins_in (map (λ m. Done (next_op h m)) ns) n ≡ 0
ends-begin h [] n = refl
ends-begin h (m ∷ ns) n = ends-begin h ns n

pub dones-begin : (p : Problem) (h : History) (answers : List Op) (n : ℕ) → begins_in (dones p h answers) n ≡ 0
dones-begin p h answers n = ends-begin h (filter (is_covered h answers) (numbers (item_count p))) n

ends-counted : (h : History) (ns : List ℕ) → (count_done (map (λ m. Done (next_op h m)) ns) ≡ length ns) × (count_begun (map (λ m. Done (next_op h m)) ns) ≡ 0)
ends-counted h [] = (refl, refl)
ends-counted h (n ∷ ns) = (omega (arith, (ends-counted h ns).0), (ends-counted h ns).1)

-- ---- Begins alone
module _ (h : History) where
  pub begins-all : (es : List Entry) → All (BeginsNext h) es → map (λ op. Begin op) (ops_of es) ≡ es
  begins-all [] all = refl
  begins-all (Begin op ∷ es) all = ap (λ os. Begin op ∷ os) (begins-all es (All-tail (BeginsNext h) (Begin op) es all))
  begins-all (Done op ∷ es) all = absurd (All-head (BeginsNext h) (Done op) es all)

  pub begins-times : (es : List Entry) → All (BeginsNext h) es → (n : ℕ) → times n (items_of (ops_of es)) ≡ begins_in es n
  begins-times [] all n = refl
  begins-times (Begin op ∷ es) all n = omega (arith, begins-times es (All-tail (BeginsNext h) (Begin op) es all) n)
  begins-times (Done op ∷ es) all n = absurd (All-head (BeginsNext h) (Done op) es all)

  pub begins-end : (es : List Entry) → All (BeginsNext h) es → (n : ℕ) → dones_in es n ≡ 0
  begins-end [] all n = refl
  begins-end (Begin op ∷ es) all n = begins-end es (All-tail (BeginsNext h) (Begin op) es all) n
  begins-end (Done op ∷ es) all n = absurd (All-head (BeginsNext h) (Done op) es all)

  pub begins-next : (es : List Entry) → All (BeginsNext h) es → All (λ op. op.number ≡ settled h op.item + 1) (ops_of es)
  begins-next [] all = All-nil (λ op. op.number ≡ settled h op.item + 1)
  begins-next (Begin op ∷ es) all =
      All-cons (λ o. o.number ≡ settled h o.item + 1) op (ops_of es) (ap (λ o. o.number) (All-head (BeginsNext h) (Begin op) es all)) (begins-next es (All-tail (BeginsNext h) (Begin op) es all))
  begins-next (Done op ∷ es) all = absurd (All-head (BeginsNext h) (Done op) es all)

  begins-counted : (es : List Entry) → All (BeginsNext h) es → (count_done es ≡ 0) × (count_begun es ≡ length (ops_of es))
  begins-counted [] all = (refl, refl)
  begins-counted (Begin op ∷ es) all = let rest = begins-counted es (All-tail (BeginsNext h) (Begin op) es all) in (rest.0, omega (arith, rest.1))
  begins-counted (Done op ∷ es) all = absurd (All-head (BeginsNext h) (Done op) es all)

ops-long : (es : List Entry) → length (ops_of es) ≡ length es
ops-long [] = refl
ops-long (e ∷ es) = omega (arith, ops-long es)

pub begun-few : (p : Problem) (plan : Plan) (policy : OpView → ℕ) (h : History) → length (ops_of (release p plan policy h)) ≤ item_count p
begun-few p plan policy h = omega (arith, ops-long (release p plan policy h), release-short p plan policy h)

-- ---- both
counts-append : (xs ys : List Entry) → (count_done (xs ++ ys) ≡ count_done xs + count_done ys) × (count_begun (xs ++ ys) ≡ count_begun xs + count_begun ys)
counts-append [] ys = (omega arith, omega arith)
counts-append (Begin op ∷ xs) ys = let rest = counts-append xs ys in (rest.0, omega (arith, rest.1))
counts-append (Done op ∷ xs) ys = let rest = counts-append xs ys in (omega (arith, rest.0), rest.1)

pub counts-long : (es : List Entry) → count_done es + count_begun es ≡ length es
counts-long [] = omega arith
counts-long (Begin op ∷ es) = omega (arith, counts-long es)
counts-long (Done op ∷ es) = omega (arith, counts-long es)

module _ (p : Problem) (plan : Plan) (policy : OpView → ℕ) (h : History) (answers : List Op) where
  abbrev between : History
  between = with_entries h (dones p h answers)

  pub batch-begins : length (ops_of (release p plan policy (with_entries h (dones p h answers)))) ≡ count_begun (batch p plan policy h answers)
  batch-begins =
      omega (
        arith,
        (counts-append (dones p h answers) (release p plan policy between)).1,
        (begins-counted between (release p plan policy between) (release_begins_next p plan policy between)).1,
        (ends-counted h (filter (is_covered h answers) (numbers (item_count p)))).1,
      )

  pub batch-few_begins : count_begun (batch p plan policy h answers) ≤ item_count p
  batch-few_begins = omega (arith, batch-begins, begun-few p plan policy between)

  pub batch-few_dones : count_done (batch p plan policy h answers) ≤ item_count p
  batch-few_dones =
      omega (
        arith,
        (counts-append (dones p h answers) (release p plan policy between)).0,
        (begins-counted between (release p plan policy between) (release_begins_next p plan policy between)).0,
        (ends-counted h (filter (is_covered h answers) (numbers (item_count p)))).0,
        filter-short (is_covered h answers) (numbers (item_count p)),
        numbers-long (item_count p),
      )
