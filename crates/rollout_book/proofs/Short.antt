-- A legal history has at most two entries of each operation.
use Rattle.std.proofs.Common.{◌≡◌, ℕ, ◌+◌, ◌*◌, ◌<◌, ◌≤◌, true, List, [], ◌∷◌, length, refl, sym, arith, eq-eqb, ne_eqb}
use Rattle.rollout_rules.specs.Sums.{sum_below}
use Rattle.rollout_rules.specs.Wan.{Rollout}
use Rattle.rollout_rules.specs.Items.{item_count}
use Rattle.rollout_rules.specs.History.{History}
use Rattle.rollout_rules.specs.Legal.{is_legal}
use Rattle.rollout_rules.specs.declared.op.Entry.{Entry}
use Rattle.rollout_rules.specs.declared.op.Entry.TheVariants.{Begin, Done}
use Rattle.rollout_rules.proofs.Below.{sum_below-mono, sum_below-but, sum_below-plus, sum_below-zero}
use Rattle.rollout_laws.proofs.Histories.{is_counted}
use Rattle.dependency_graph.specs.Graph.{count_of, op_total, entries_of}
use Rattle.dependency_graph.proofs.Followed.{item_of}

-- an entry is one of its item's, and no other's
one-here : (e : Entry) (es : List Entry) → entries_of (e ∷ es) (item_of e) ≡ entries_of es (item_of e) + 1
one-here (Begin op) es = let same = eq-eqb op.item op.item refl in rw same (omega arith)
one-here (Done op) es = let same = eq-eqb op.item op.item refl in rw same (omega arith)

none-there : (e : Entry) (es : List Entry) (n : ℕ) → (item_of e ≡ n → ⊥) → entries_of (e ∷ es) n ≡ entries_of es n
none-there (Begin op) es n other = let no = ne_eqb op.item n other in rw no (omega arith)
none-there (Done op) es n other = let no = ne_eqb op.item n other in rw no (omega arith)

no-fewer : (e : Entry) (es : List Entry) (n : ℕ) → entries_of es n ≤ entries_of (e ∷ es) n
no-fewer (Begin op) es n = omega arith
no-fewer (Done op) es n = omega arith

-- entries of items below a bound, counted by item
by-item : (m : ℕ) (es : List Entry) → ((n : ℕ) → 0 < entries_of es n → n < m) → length es ≡ sum_below m (entries_of es)
by-item m [] inside = sym (sum_below-zero m (entries_of []) (λ k lt. refl))
by-item m (e ∷ es) inside =
    let n = item_of e in
    let here = one-here e es in
    let but = sum_below-but m n (entries_of es) (entries_of (e ∷ es)) (inside n (omega (arith, here))) (λ j lt other. sym (none-there e es j (λ q. other (sym q)))) in
    let rest = by-item m es (λ k some. inside k (omega (arith, some, no-fewer e es k))) in
    omega (arith, but, here, rest)

pub legal-short : (r : Rollout) (h : History) → is_legal r.problem r.plan h ≡ true → length h.entries ≤ 2 * op_total r
legal-short r h legal =
    let p = r.problem in
    let counted = is_counted p r.plan h legal in
    let all = by-item (item_count p) h.entries (λ n some. (counted n).within (omega (arith, some, (counted n).settled_begun))) in
    omega (
      arith,
      all,
      sum_below-mono (item_count p) (entries_of h.entries) (λ n. count_of r n + count_of r n) (λ n lt. omega (arith, (counted n).exist lt, (counted n).settled_begun)),
      sum_below-plus (item_count p) (count_of r) (count_of r),
    )
