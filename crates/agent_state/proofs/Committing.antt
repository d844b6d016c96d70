-- What the two writes of a batch leave, whole and torn.
use Rattle.std.proofs.Common.{◌≡◌, inl, inr, ℕ, ◌+◌, ◌-◌, List, [], ◌∷◌, ◌++◌, length, drop, get_or, Option, Some, None, IfSome, Result, Ok, Err, OnOk, refl, sym, subst, ◌∙◌, ap, arith, length-append}
use Rattle.std.proofs.lemmas.Bool.{cases_eq}
use Rattle.std.proofs.lemmas.List.{append_assoc}
use Rattle.disk_model.specs.Crashes.{IsDurable, Only, Stepped}
use Rattle.disk_model.specs.Moments.{GoesOn, LeavesOnly}
use Rattle.disk_model.specs.Traces.{DiskTrace}
use Rattle.disk_model.specs.Writes.{Torn, Writes, written}
use Rattle.disk_model.proofs.Parting.{Torn-behind, Torn-byte, Torn-drop, written-behind, written-drop}
use Rattle.disk_model.proofs.Running.{LeavesOnly-goes_on, LeavesOnly-torn, Stepped-only}
use Rattle.disk_model.proofs.Tearing.{Torn-written, length-written}
use Rattle.disk_model.proofs.Telling.{at_told, told_by}
use Rattle.agent_state.specs.Batches.{IsBody, batch_body, open_gate}
use Rattle.agent_state.specs.Images.{batches_in}
use Rattle.agent_state.specs.States.{Home, IsAtRest, IsCommitted, IsEither, IsStaged}
use Rattle.agent_state.proofs.Heads.{long_image, part_apart, place_low, rest_reads}
use Rattle.agent_state.proofs.Reading.{Stands-more, length-body, length-longer, longer}

module _ (home : Home) (gate : ℕ) (kept : List (List ℕ)) (image : List ℕ) (rest : IsAtRest home gate kept image) where
  -- the front, the gate and what stands after it
  abbrev head : List ℕ
  head = rest.front ++ rest.mark ∷ []

  at_head : gate + 1 - home.start ≡ length head
  at_head = omega (arith, rest.at, length-append rest.front (rest.mark ∷ []))

  parted : drop home.start image ≡ head ++ rest.behind
  parted = rest.has.part ∙ sym (append_assoc rest.front (rest.mark ∷ []) rest.behind)

  -- a write after the gate leaves the file at rest, with the batches that it has
  pub torn_rest : (n : ℕ) (new : List ℕ) → Torn (gate + 1) n image new → IsAtRest home gate kept new
  torn_rest n new torn =
      let long = long_image home rest.front (rest.mark ∷ rest.behind) image rest.has in
      let at = gate + 1 - home.start in
      let inner = Torn-drop home.start (gate + 1) n image new (omega (arith, rest.at)) (omega (arith, long)) torn in
      let cut = Torn-behind head rest.behind (drop home.start new) at n at_head (subst (λ (l : List ℕ). Torn at n l (drop home.start new)) parted inner) in
      let part : drop home.start new ≡ rest.front ++ (rest.mark ∷ drop at (drop home.start new)) = cut ∙ append_assoc rest.front (rest.mark ∷ []) (drop at (drop home.start new)) in
      record {
        front = rest.front;
        mark = rest.mark;
        behind = drop at (drop home.start new);
        has = part_apart home rest.front (rest.mark ∷ rest.behind) (rest.mark ∷ drop at (drop home.start new)) image new (gate + 1) n rest.has torn
            (omega (arith, rest.at, rest.has.low)) (inl (omega (arith, rest.at, rest.has.low, place_low home.second))) (omega arith) part;
        stands = rest.stands;
        closed = rest.closed;
        at = rest.at;
        short = λ few. rest.short (omega (arith, few, torn.no_shorter));
      }

  -- and where it is done, the batch stands there
  pub staged : (batch body : List ℕ) → IsBody batch body → IsStaged home gate kept batch (written (gate + 1) body image)
  staged batch body is_body =
      let long = long_image home rest.front (rest.mark ∷ rest.behind) image rest.has in
      let at = gate + 1 - home.start in
      let more = drop (length body) rest.behind in
      let part : drop home.start (written (gate + 1) body image) ≡ rest.front ++ (rest.mark ∷ (batch_body batch ++ 0 ∷ more)) =
      written-drop home.start (gate + 1) body image (omega (arith, rest.at)) (omega (arith, long))
      ∙ ap (written at body) parted
      ∙ written-behind head rest.behind body at at_head
      ∙ append_assoc rest.front (rest.mark ∷ []) (body ++ more)
      ∙ ap (λ (l : List ℕ). rest.front ++ (rest.mark ∷ (l ++ more))) is_body.is
      ∙ ap (λ (l : List ℕ). rest.front ++ (rest.mark ∷ l)) (append_assoc (batch_body batch) (0 ∷ []) more) in
      record {
        front = rest.front;
        mark = rest.mark;
        more = more;
        has = part_apart home rest.front (rest.mark ∷ rest.behind) (rest.mark ∷ (batch_body batch ++ 0 ∷ more)) image (written (gate + 1) body image) (gate + 1) (length body) rest.has
            (Torn-written (gate + 1) body image) (omega (arith, rest.at, rest.has.low)) (inl (omega (arith, rest.at, rest.has.low, place_low home.second))) (omega arith) part;
        stands = rest.stands;
        at = rest.at;
        long = omega (arith, length-written (gate + 1) body image, length-body batch body is_body, rest.at, rest.has.low);
      }

module _ (home : Home) (gate : ℕ) (kept : List (List ℕ)) (batch body : List ℕ) (is_body : IsBody batch body) (image : List ℕ) (stage : IsStaged home gate kept batch image) where
  abbrev behind_gate : List ℕ
  behind_gate = batch_body batch ++ 0 ∷ stage.more

  -- the gate that is torn over is another, and all else stays
  pub torn_stage : (new : List ℕ) → Torn gate 1 image new → IsStaged home gate kept batch new
  torn_stage new torn =
      let long = long_image home stage.front (stage.mark ∷ behind_gate) image stage.has in
      let at = gate - home.start in
      let is : at ≡ length stage.front = omega (arith, stage.at) in
      let inner = Torn-drop home.start gate 1 image new (omega (arith, stage.at)) (omega (arith, long)) torn in
      let part = Torn-byte stage.front behind_gate (drop home.start new) stage.mark at is (subst (λ (l : List ℕ). Torn at 1 l (drop home.start new)) stage.has.part inner) in
      record {
        front = stage.front;
        mark = get_or (drop home.start new) at 0;
        more = stage.more;
        has = part_apart home stage.front (stage.mark ∷ behind_gate) (get_or (drop home.start new) at 0 ∷ behind_gate) image new gate 1 stage.has torn
            (omega (arith, stage.at, stage.has.low)) (inl (omega (arith, stage.at, stage.has.low, place_low home.second))) (omega arith) part;
        stands = stage.stands;
        at = stage.at;
        long = omega (arith, stage.long, torn.no_shorter);
      }

  -- after an open gate the batch counts, and the file is at rest after it
  pub opened_rest : stage.mark ≡ open_gate → IsAtRest home (gate + length body) (kept ++ batch ∷ []) image
  opened_rest is_open =
      let has = stage.has in
      let part : drop home.start image ≡ longer stage.front batch ++ (0 ∷ stage.more) =
      has.part ∙ ap (λ (m : ℕ). stage.front ++ (m ∷ behind_gate)) is_open ∙ sym (append_assoc stage.front (open_gate ∷ batch_body batch) (0 ∷ stage.more)) in
      record {
        front = longer stage.front batch;
        mark = 0;
        behind = stage.more;
        has = record { kind = has.kind; side = has.side; start = has.start; low = has.low; some = omega arith; part = part };
        stands = Stands-more stage.front kept batch stage.stands is_body.few;
        closed = λ zero. absurd (omega (arith, zero));
        at = omega (arith, stage.at, length-longer stage.front batch, length-body batch body is_body);
        short = λ few. absurd (omega (arith, few, stage.long));
      }

  -- what a staged file is read as: the batches that it had, or these with the new one
  pub stage_reads : IsEither kept (kept ++ batch ∷ []) image
  stage_reads = elim (cases_eq stage.mark open_gate) [
    | inl is_open ↦ inr (rest_reads home (gate + length body) (kept ++ batch ∷ []) image (opened_rest is_open))
    | inr shut ↦ inl (rest_reads home gate kept image (record {
      front = stage.front;
      mark = stage.mark;
      behind = behind_gate;
      has = stage.has;
      stands = stage.stands;
      closed = shut;
      at = stage.at;
      short = λ few. absurd (omega (arith, few, stage.long));
    }))
  ]

-- a crash in the first write leaves the batches that there were
pub first_crash : (home : Home) (gate n : ℕ) (kept : List (List ℕ)) (image c : List ℕ) → IsAtRest home gate kept image → Torn (gate + 1) n image c → batches_in c ≡ Some kept
first_crash home gate n kept image c rest torn = rest_reads home gate kept c (torn_rest home gate kept image rest n c torn)

-- a crash in the second leaves these, or these with the new one
pub second_crash : (home : Home) (gate : ℕ) (kept : List (List ℕ)) (batch body image c : List ℕ) → IsAtRest home gate kept image → IsBody batch body
    → Torn gate 1 (written (gate + 1) body image) c → IsEither kept (kept ++ batch ∷ []) c
second_crash home gate kept batch body image c rest is_body torn =
    let stage = staged home gate kept image rest batch body is_body in
    stage_reads home gate kept batch body is_body c (torn_stage home gate kept batch body is_body (written (gate + 1) body image) stage c torn)

-- with both the file is at rest after the new one
pub both_done : (home : Home) (gate : ℕ) (kept : List (List ℕ)) (batch body image : List ℕ) → IsAtRest home gate kept image → IsBody batch body
    → IsAtRest home (gate + length body) (kept ++ batch ∷ []) (written gate (open_gate ∷ []) (written (gate + 1) body image))
both_done home gate kept batch body image rest is_body =
    let between = written (gate + 1) body image in
    let now = written gate (open_gate ∷ []) between in
    let stage = staged home gate kept image rest batch body is_body in
    let long = long_image home stage.front (stage.mark ∷ (batch_body batch ++ 0 ∷ stage.more)) between stage.has in
    let is : gate - home.start ≡ length stage.front = omega (arith, stage.at) in
    let part : drop home.start now ≡ stage.front ++ (open_gate ∷ (batch_body batch ++ 0 ∷ stage.more)) =
    written-drop home.start gate (open_gate ∷ []) between (omega (arith, stage.at)) (omega (arith, long))
    ∙ ap (written (gate - home.start) (open_gate ∷ [])) stage.has.part
    ∙ written-behind stage.front (stage.mark ∷ (batch_body batch ++ 0 ∷ stage.more)) (open_gate ∷ []) (gate - home.start) is in
    let torn : Torn gate 1 between now = Torn-written gate (open_gate ∷ []) between in
    let after : IsStaged home gate kept batch now = record {
      front = stage.front;
      mark = open_gate;
      more = stage.more;
      has = part_apart home stage.front (stage.mark ∷ (batch_body batch ++ 0 ∷ stage.more)) (open_gate ∷ (batch_body batch ++ 0 ∷ stage.more)) between now gate 1 stage.has torn
          (omega (arith, stage.at, stage.has.low)) (inl (omega (arith, stage.at, stage.has.low, place_low home.second))) (omega arith) part;
      stands = stage.stands;
      at = stage.at;
      long = omega (arith, stage.long, torn.no_shorter);
    } in
    opened_rest home gate kept batch body is_body now after refl

-- ---- the two writes as one run

module _ {D : Type 0} (trace : D → DiskTrace) where
  -- the first, done or not
  pub first_run : (told : Option (List ℕ)) (old mid : D) (gate : ℕ) (body : List ℕ) → ((c : List ℕ) → (trace old).left_since (trace old).moment c → (trace old).may_leave c)
      → GoesOn (trace old) (trace mid) (Stepped (Torn (gate + 1) (length body)) (trace old).may_leave)
      → IfSome told (λ image. (home : Home) (kept : List (List ℕ)) (batch : List ℕ) → IsAtRest home gate kept image → IsBody batch body → Only image (trace old).may_leave
      → LeavesOnly trace old mid (IsEither kept (kept ++ batch ∷ [])))
  first_run None old mid gate body now time = tt
  first_run (Some image) old mid gate body now time = λ home kept batch rest is_body only.
      LeavesOnly-torn trace (trace old).may_leave old mid image (gate + 1) (length body) (IsEither kept (kept ++ batch ∷ [])) now only time
      (λ c torn. inl (first_crash home gate (length body) kept image c rest torn))

  -- and then the second, done or not
  pub second_run : (told told_mid : Option (List ℕ)) (old mid new : D) (gate : ℕ) (body : List ℕ) → ((c : List ℕ) → (trace old).left_since (trace old).moment c → (trace old).may_leave c)
      → GoesOn (trace old) (trace mid) (Stepped (Torn (gate + 1) (length body)) (trace old).may_leave)
      → Writes (gate + 1) body told told_mid → IsDurable told_mid (trace mid).may_leave
      → GoesOn (trace mid) (trace new) (Stepped (Torn gate 1) (trace mid).may_leave)
      → IfSome told (λ image. (home : Home) (kept : List (List ℕ)) (batch : List ℕ) → IsAtRest home gate kept image → IsBody batch body → Only image (trace old).may_leave
      → LeavesOnly trace old new (IsEither kept (kept ++ batch ∷ [])))
  second_run None told_mid old mid new gate body now time writes durable later = tt
  second_run (Some image) told_mid old mid new gate body now time writes durable later = λ home kept batch rest is_body only.
      let between = written (gate + 1) body image in
      let only_between : Only between (trace mid).may_leave = at_told (λ bytes. Only bytes (trace mid).may_leave) told_mid between writes durable in
      LeavesOnly-goes_on trace old mid new (IsEither kept (kept ++ batch ∷ [])) (Stepped (Torn gate 1) (trace mid).may_leave)
      (first_run (Some image) old mid gate body now time home kept batch rest is_body only) later
      (λ c stepped. second_crash home gate kept batch body image c rest is_body (Stepped-only (Torn gate 1) between (trace mid).may_leave only_between c stepped))

-- what both leave where both were done
pub done_run : {X E : Type 0} (told told_mid told_new : Option (List ℕ)) (left : List ℕ → Type 0) (gate : ℕ) (body : List ℕ) (result : Result X E)
    → Writes (gate + 1) body told told_mid → OnOk result (Writes gate (open_gate ∷ []) told_mid told_new) → OnOk result (IsDurable told_new left)
    → OnOk result (IfSome told (λ image. (home : Home) (kept : List (List ℕ)) (batch : List ℕ) → IsAtRest home gate kept image → IsBody batch body
    → IsCommitted home (gate + length body) (kept ++ batch ∷ []) told_new left))
done_run told told_mid told_new left gate body (Err e) first second durable = tt
done_run None told_mid told_new left gate body (Ok unit) first second durable = tt
done_run (Some image) told_mid told_new left gate body (Ok unit) first second durable = λ home kept batch rest is_body.
    let between = written (gate + 1) body image in
    let now = written gate (open_gate ∷ []) between in
    let is_told : told_new ≡ Some now = told_by gate (open_gate ∷ []) between told_mid told_new first second in
    record {
      now = now;
      is_told = is_told;
      durable = at_told (λ bytes. Only bytes left) told_new now is_told durable;
      rest = both_done home gate kept batch body image rest is_body;
    }
