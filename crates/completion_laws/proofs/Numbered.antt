-- What a switch answers to commands that bring each item's next operation.
use Rattle.std.proofs.Common.{◌≡◌, ◌⊎◌, ℕ, ◌+◌, ◌<◌, ◌≤◌, ◌==◌, true, List, [], ◌∷◌, map, slice_index_or, inl, inr, refl, sym, ap, ap₂, ◌∙◌, subst, ⊎_elim, arith, eqb-true, eq-eqb}
use Rattle.std.proofs.lemmas.Bool.{cases_eq, cond_both}
use Rattle.std.proofs.lemmas.List.Elements.{All-cons, All-head, All-nil, All-tail, All-weaker}
use Rattle.std.specs.List.{All, Contains}
use Rattle.rollout_rules.specs.Agent.{Holding, held_after, is_next_command, pair_of}
use Rattle.rollout_rules.specs.declared.held.Held.{Held}
use Rattle.rollout_laws.proofs.Pairs.{after-next}
use Rattle.wan_edge.specs.Frames.{Answer, AnswerFrame, Command, IsAnswer, IsCommand}
use Rattle.wan_edge.specs.Switches.{Holdings, after_command, after_commands, answer_of, answers_to}
use Rattle.port_session.specs.Reading.{answers_of}
use Rattle.switch_laws.proofs.Offered.{framed}
use Rattle.controller_run.proofs.Elements.{inside-cons, none-inside}
use Rattle.completion_laws.specs.Answering.{answer_for}

-- What is held takes up this operation of a migration: it is the one before, or this one, or a pair of an earlier migration.
abbrev pub TakesUp : ℕ → ℕ → Held → Type 0
TakesUp migration number held = ((held.migration ≡ migration) × (number ≤ held.number + 1) × (held.number ≤ number)) ⊎ (held.migration < migration)

same-pair : (held : Held) (migration number : ℕ) → held.migration ≡ migration → held.number ≡ number → held ≡ pair_of migration number
same-pair held migration number m n = λ k. record { migration = m k; number = n k }

-- then it is held
pub taken-up : (migration number : ℕ) (holding : Holding) (content : List ℕ) → 1 ≤ number → TakesUp migration number holding.held → (held_after holding (pair_of migration number) content).held ≡ pair_of migration number
taken-up migration number holding content some (inr earlier) =
    ap (λ (h : Holding). h.held) (after-next holding (pair_of migration number) content (inr (earlier, some)))
taken-up migration number holding content some (inl (m, low, high)) =
    ⊎_elim
    (λ (next : number ≡ holding.held.number + 1). ap (λ (h : Holding). h.held) (after-next holding (pair_of migration number) content (inl (sym m, next))))
    (λ (other : number ≡ holding.held.number + 1 → ⊥).
    let same = same-pair holding.held migration number m (omega (arith, low, high, other)) in
    cond_both (is_next_command holding.held (pair_of migration number)) (record { held = pair_of migration number; content = content }) holding (λ h. h.held ≡ pair_of migration number) (λ _. refl) (λ _. same))
    (cases_eq number (holding.held.number + 1))

pub all-by : {X : Type 0} (P : X → Type 0) → ((x : X) → P x) → (xs : List X) → All P xs
all-by P each xs = λ k d inside. each (slice_index_or xs k d)

module _ (migration : ℕ) (next : ℕ → ℕ) where
  -- a command that brings its item's next operation
  pub record IsNext (c : Command) : Type 0 where
    pub number : c.number ≡ next c.item
    pub some : 1 ≤ c.number

  -- its item is held so that this is taken up
  abbrev pub Takes : Holdings → Command → Type 0
  Takes holdings c = TakesUp migration (next c.item) (holdings c.item).held

  took : (holdings : Holdings) (c : Command) → IsNext c → Takes holdings c → (held_after (holdings c.item) (pair_of migration c.number) c.content).held ≡ pair_of migration c.number
  took holdings c is takes = taken-up migration c.number (holdings c.item) c.content is.some (subst (λ (k : ℕ). TakesUp migration k (holdings c.item).held) (sym is.number) takes)

  -- what holds of an item's pair, by a relation that holds of the next operation
  module _ (R : ℕ → Held → Type 0) where
    pub on-one : (holdings : Holdings) (c : Command) → IsNext c → Takes holdings c → R c.item (pair_of migration (next c.item)) → (n : ℕ) → R n (holdings n).held → R n (after_command holdings (migration, c) n).held
    on-one holdings c is takes next_is n was =
        cond_both (n == c.item) (held_after (holdings n) (pair_of migration c.number) c.content) (holdings n) (λ h. R n h.held)
        (λ same.
        let item : n ≡ c.item = eqb-true n c.item same in
        let pair : (held_after (holdings n) (pair_of migration c.number) c.content).held ≡ pair_of migration (next c.item) = ap (λ (k : ℕ). (held_after (holdings k) (pair_of migration c.number) c.content).held) item ∙ took holdings c is takes ∙ ap (pair_of migration) is.number in
        subst (R n) (sym pair) (subst (λ (k : ℕ). R k (pair_of migration (next c.item))) (sym item) next_is))
        (λ _. was)

  takes-next : (number : ℕ) → TakesUp migration number (pair_of migration number)
  takes-next number = inl (refl, omega arith, omega arith)

  -- another command is taken up still
  takes-on : (holdings : Holdings) (c d : Command) → IsNext c → Takes holdings c → Takes holdings d → Takes (after_command holdings (migration, c)) d
  takes-on holdings c d is takes was = on-one (λ (n : ℕ) (held : Held). TakesUp migration (next n) held) holdings c is takes (takes-next (next c.item)) d.item was

  all-on : (holdings : Holdings) (c : Command) (cs : List Command) → IsNext c → Takes holdings c → All (Takes holdings) cs → All (Takes (after_command holdings (migration, c))) cs
  all-on holdings c cs is takes all = All-weaker (Takes holdings) (Takes (after_command holdings (migration, c))) (λ d was. takes-on holdings c d is takes was) cs all

  module _ (R : ℕ → Held → Type 0) where
    -- what holds of the items and of each next operation holds after all
    pub on-all : (cs : List Command) (holdings : Holdings) → All IsNext cs → All (Takes holdings) cs → All (λ c. R c.item (pair_of migration (next c.item))) cs → (n : ℕ) → R n (holdings n).held → R n (after_commands holdings (framed migration cs) n).held
    on-all [] holdings are take next_is n was = was
    on-all (c ∷ cs) holdings are take next_is n was =
        let is = All-head IsNext c cs are in
        let takes = All-head (Takes holdings) c cs take in
        on-all cs (after_command holdings (migration, c)) (All-tail IsNext c cs are) (all-on holdings c cs is takes (All-tail (Takes holdings) c cs take)) (All-tail (λ d. R d.item (pair_of migration (next d.item))) c cs next_is) n
        (on-one R holdings c is takes (All-head (λ d. R d.item (pair_of migration (next d.item))) c cs next_is) n was)

  held-at : (holdings : Holdings) (c : Command) → IsNext c → Takes holdings c → (after_command holdings (migration, c) c.item).held ≡ pair_of migration c.number
  held-at holdings c is takes =
      let here : (c.item == c.item) ≡ true = eq-eqb c.item c.item refl in
      rw here (took holdings c is takes)

  -- each command's item is held with its operation in the end
  pub all-held : (cs : List Command) (holdings : Holdings) → All IsNext cs → All (Takes holdings) cs → (c : Command) → Contains cs c → (after_commands holdings (framed migration cs) c.item).held ≡ pair_of migration c.number
  all-held [] holdings are take c at = absurd (none-inside c at)
  all-held (d ∷ cs) holdings are take c at =
      let is = All-head IsNext d cs are in
      let takes = All-head (Takes holdings) d cs take in
      let more = All-tail IsNext d cs are in
      let on = all-on holdings d cs is takes (All-tail (Takes holdings) d cs take) in
      ⊎_elim
      (λ (same : d ≡ c).
      let here : (after_command holdings (migration, d) d.item).held ≡ pair_of migration (next d.item) = held-at holdings d is takes ∙ ap (pair_of migration) is.number in
      let kept = on-all (λ (n : ℕ) (held : Held). held ≡ pair_of migration (next n)) cs (after_command holdings (migration, d)) more on (all-by (λ e. pair_of migration (next e.item) ≡ pair_of migration (next e.item)) (λ e. refl) cs) d.item here in
      subst (λ (e : Command). (after_commands (after_command holdings (migration, d)) (framed migration cs) e.item).held ≡ pair_of migration e.number) same (kept ∙ ap (pair_of migration) (sym is.number)))
      (λ (later : Contains cs c). all-held cs (after_command holdings (migration, d)) more on c later)
      (inside-cons d c cs at)

  -- and each is answered by its own number
  abbrev pub own_answer : Command → AnswerFrame
  own_answer c = (migration, answer_for c)

  pub own-answers : (cs : List Command) (holdings : Holdings) → All IsNext cs → All (Takes holdings) cs → answers_to holdings (framed migration cs) ≡ map own_answer cs
  own-answers [] holdings are take = refl
  own-answers (c ∷ cs) holdings are take =
      let is = All-head IsNext c cs are in
      let takes = All-head (Takes holdings) c cs take in
      ap₂ (λ (a : AnswerFrame) (us : List AnswerFrame). a ∷ us)
      (ap (answer_of c.item) (held-at holdings c is takes))
      (own-answers cs (after_command holdings (migration, c)) (All-tail IsNext c cs are) (all-on holdings c cs is takes (All-tail (Takes holdings) c cs take)))

  -- such answers have bytes where the commands have, and are all of the migration
  pub answers-fit : (cs : List Command) → All (λ c. IsCommand (migration, c)) cs → All IsAnswer (map own_answer cs)
  answers-fit [] fit = All-nil IsAnswer
  answers-fit (c ∷ cs) fit =
      let here = All-head (λ d. IsCommand (migration, d)) c cs fit in
      All-cons IsAnswer (own_answer c) (map own_answer cs) (record { migration = here.migration; item = here.item; held = here.number }) (answers-fit cs (All-tail (λ d. IsCommand (migration, d)) c cs fit))

  pub answers-told : (cs : List Command) → answers_of migration (map own_answer cs) ≡ map answer_for cs
  unfolding answers_of
  answers-told [] = refl
  answers-told (c ∷ cs) =
      let here : (migration == migration) ≡ true = eq-eqb migration migration refl in
      rw here (ap (λ (us : List Answer). answer_for c ∷ us) (answers-told cs))
