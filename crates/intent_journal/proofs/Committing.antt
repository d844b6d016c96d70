-- What the two writes of an append leave, whole and torn.
use Rattle.std.proofs.Common.{◌≡◌, inl, inr, ◌⊎◌, ⊎_elim, ℕ, ◌+◌, ◌-◌, ◌<◌, ◌≤◌, List, [], ◌∷◌, ◌++◌, length, take, drop, get_or, Option, Some, refl, sym, subst, ◌∙◌, ap, arith, length-append}
use Rattle.std.proofs.lemmas.Bool.{cases_eq}
use Rattle.std.proofs.lemmas.List.{append_assoc, take-take}
use Rattle.disk_model.specs.Writes.{Torn, written}
use Rattle.disk_model.proofs.Parting.{Torn-behind, Torn-byte, Torn-drop, written-behind, written-drop}
use Rattle.disk_model.proofs.Tearing.{Torn-written}
use Rattle.intent_journal.specs.Parts.{Kept, batch_body, open_batch, size_of}
use Rattle.intent_journal.specs.Images.{journal_in}
use Rattle.intent_journal.specs.States.{Home, IsAlone, IsAtRest, IsBeforeOrAfter, IsBody, IsStaged, Stands, added, with_more}
use Rattle.intent_journal.proofs.Alone.{alone_keeps, alone_same, placed_start}
use Rattle.intent_journal.proofs.Batches.{batches_closed}
use Rattle.intent_journal.proofs.Fronts.{Stands-more, length-longer, longer, part_long, with_more-nothing}

-- a torn write after the slots leaves them
torn_alone : (home : Home) (image new : List ℕ) (at n : ℕ) → IsAlone home image → 35 ≤ at → at ≤ length image → Torn at n image new → IsAlone home new
torn_alone home image new at n alone behind inside torn =
    let same : take 35 new ≡ take 35 image =
    sym (take-take 35 at new behind) ∙ ap (take 35) (torn.before inside) ∙ take-take 35 at image behind in
    alone_same home image alone new (omega (arith, behind, inside)) (omega (arith, behind, inside, torn.no_shorter)) same

module _ (home : Home) (gate : ℕ) (image : List ℕ) (rest : IsAtRest home gate image) where
  rest_long : home.slot.start + length rest.front < length image
  rest_long = part_long home.slot.start image rest.front (rest.mark ∷ rest.behind) rest.part (omega arith)

  -- what a journal at rest keeps
  pub rest_keeps : journal_in image ≡ Some rest.kept
  rest_keeps =
      alone_keeps home image rest.alone rest.front (rest.mark ∷ rest.behind) rest.kept rest.stands rest.part (omega arith)
      ∙ ap (λ (more : List (List ℕ)). Some (with_more rest.kept more)) (batches_closed rest.mark (size_of home.slot - length rest.front) rest.behind rest.closed)
      ∙ ap Some (with_more-nothing rest.kept)

  -- a write after the gate leaves it at rest, and what it keeps
  pub torn_rest : (n : ℕ) (new : List ℕ) → Torn (gate + 1) n image new → (r : IsAtRest home gate new) × (r.kept ≡ rest.kept) × (r.front ≡ rest.front)
  torn_rest n new torn =
      let long = rest_long in
      let start = placed_start home.slot rest.alone.placed in
      let head = rest.front ++ rest.mark ∷ [] in
      let at = gate + 1 - home.slot.start in
      let is : at ≡ length head = omega (arith, rest.at, length-append rest.front (rest.mark ∷ [])) in
      let part : drop home.slot.start image ≡ head ++ rest.behind = rest.part ∙ sym (append_assoc rest.front (rest.mark ∷ []) rest.behind) in
      let inner = Torn-drop home.slot.start (gate + 1) n image new (omega (arith, rest.at)) (omega (arith, long)) torn in
      let cut = Torn-behind head rest.behind (drop home.slot.start new) at n is (subst (λ (l : List ℕ). Torn at n l (drop home.slot.start new)) part inner) in (
        record {
          alone = torn_alone home image new (gate + 1) n rest.alone (omega (arith, rest.at, start)) (omega (arith, rest.at, long)) torn;
          front = rest.front;
          mark = rest.mark;
          behind = drop at (drop home.slot.start new);
          kept = rest.kept;
          stands = rest.stands;
          part = cut ∙ append_assoc rest.front (rest.mark ∷ []) (drop at (drop home.slot.start new));
          closed = rest.closed;
          at = rest.at;
        },
        refl,
        refl,
      )

  -- and where it is done, the batch stands there
  pub staged : (batch : List (List ℕ)) (body : List ℕ) → IsBody home gate batch body → IsStaged home gate batch rest.kept (written (gate + 1) body image)
  staged batch body is_body =
      let long = rest_long in
      let start = placed_start home.slot rest.alone.placed in
      let head = rest.front ++ rest.mark ∷ [] in
      let at = gate + 1 - home.slot.start in
      let is : at ≡ length head = omega (arith, rest.at, length-append rest.front (rest.mark ∷ [])) in
      let part : drop home.slot.start image ≡ head ++ rest.behind = rest.part ∙ sym (append_assoc rest.front (rest.mark ∷ []) rest.behind) in
      let more = drop (length body) rest.behind in
      let stands_there : drop home.slot.start (written (gate + 1) body image) ≡ rest.front ++ (rest.mark ∷ (batch_body batch ++ 0 ∷ more)) =
      written-drop home.slot.start (gate + 1) body image (omega (arith, rest.at)) (omega (arith, long))
      ∙ ap (written at body) part
      ∙ written-behind head rest.behind body at is
      ∙ append_assoc rest.front (rest.mark ∷ []) (body ++ more)
      ∙ ap (λ (l : List ℕ). rest.front ++ (rest.mark ∷ (l ++ more))) is_body.is
      ∙ ap (λ (l : List ℕ). rest.front ++ (rest.mark ∷ l)) (append_assoc (batch_body batch) (0 ∷ []) more) in
      record {
        alone = torn_alone home image (written (gate + 1) body image) (gate + 1) (length body) rest.alone (omega (arith, rest.at, start)) (omega (arith, rest.at, long)) (Torn-written (gate + 1) body image);
        front = rest.front;
        mark = rest.mark;
        more = more;
        stands = rest.stands;
        part = stands_there;
        at = rest.at;
      }

module _ (home : Home) (gate : ℕ) (batch : List (List ℕ)) (body : List ℕ) (is_body : IsBody home gate batch body) (kept : Kept) (image : List ℕ) (stage : IsStaged home gate batch kept image) where
  stage_long : home.slot.start + length stage.front < length image
  stage_long = part_long home.slot.start image stage.front (stage.mark ∷ (batch_body batch ++ 0 ∷ stage.more)) stage.part (omega arith)

  room : 1 + length (batch_body batch) < size_of home.slot - length stage.front
  room = omega (arith, is_body.room, stage.at, ap length is_body.is, length-append (batch_body batch) (0 ∷ []))

  -- the gate that is torn over is another, and all else stays
  pub torn_stage : (new : List ℕ) → Torn gate 1 image new → IsStaged home gate batch kept new
  torn_stage new torn =
      let long = stage_long in
      let start = placed_start home.slot stage.alone.placed in
      let at = gate - home.slot.start in
      let is : at ≡ length stage.front = omega (arith, stage.at) in
      let behind = batch_body batch ++ 0 ∷ stage.more in
      let inner = Torn-drop home.slot.start gate 1 image new (omega (arith, stage.at)) (omega (arith, long)) torn in
      record {
        alone = torn_alone home image new gate 1 stage.alone (omega (arith, stage.at, start)) (omega (arith, stage.at, long)) torn;
        front = stage.front;
        mark = get_or (drop home.slot.start new) at 0;
        more = stage.more;
        stands = stage.stands;
        part = Torn-byte stage.front behind (drop home.slot.start new) stage.mark at is (subst (λ (l : List ℕ). Torn at 1 l (drop home.slot.start new)) stage.part inner);
        at = stage.at;
      }

  -- after an open gate the batch counts, and the journal is at rest after it
  pub opened_rest : (front more : List ℕ) → IsAlone home image → Stands home.slot front kept → drop home.slot.start image ≡ front ++ (open_batch ∷ (batch_body batch ++ 0 ∷ more))
      → gate ≡ home.slot.start + length front → (r : IsAtRest home (gate + length body) image) × (r.kept ≡ with_more kept batch)
  opened_rest front more alone stands part at =
      let long = length-longer front batch in
      let body_long : length body ≡ length (batch_body batch) + 1 = ap length is_body.is ∙ length-append (batch_body batch) (0 ∷ []) in (
        record {
          alone = alone;
          front = longer front batch;
          mark = 0;
          behind = more;
          kept = with_more kept batch;
          stands = Stands-more home.slot front kept batch stands is_body.are_rows is_body.few (omega (arith, long, body_long, is_body.room, at));
          part = part ∙ sym (append_assoc front (open_batch ∷ batch_body batch) (0 ∷ more));
          closed = λ zero. absurd (omega (arith, zero));
          at = omega (arith, at, long, body_long);
        },
        refl,
      )

  -- what a staged journal keeps: what it kept, or that with the batch
  pub stage_keeps : (journal_in image ≡ Some kept) ⊎ (journal_in image ≡ Some (with_more kept batch))
  stage_keeps = elim (cases_eq stage.mark open_batch) [
    | inl is_open ↦
        let opened = opened_rest stage.front stage.more stage.alone stage.stands (stage.part ∙ ap (λ (m : ℕ). stage.front ++ (m ∷ (batch_body batch ++ 0 ∷ stage.more))) is_open) stage.at in
        inr (rest_keeps home (gate + length body) image opened.0 ∙ ap Some opened.1)
    | inr shut ↦ inl (rest_keeps home gate image (record {
      alone = stage.alone;
      front = stage.front;
      mark = stage.mark;
      behind = batch_body batch ++ 0 ∷ stage.more;
      kept = kept;
      stands = stage.stands;
      part = stage.part;
      closed = shut;
      at = stage.at;
    }))
  ]

-- a crash in the first write leaves what was kept
pub first_crash : (home : Home) (gate n : ℕ) (image c : List ℕ) → IsAtRest home gate image → Torn (gate + 1) n image c → journal_in c ≡ journal_in image
first_crash home gate n image c rest torn =
    let there = torn_rest home gate image rest n c torn in
    rest_keeps home gate c there.0 ∙ ap Some there.1 ∙ sym (rest_keeps home gate image rest)

-- a crash in the second leaves that, or that with the batch
pub second_crash : (home : Home) (gate : ℕ) (batch : List (List ℕ)) (body image c : List ℕ) → IsAtRest home gate image → IsBody home gate batch body
    → Torn gate 1 (written (gate + 1) body image) c → IsBeforeOrAfter (journal_in image) batch c
second_crash home gate batch body image c rest is_body torn =
    let stage = staged home gate image rest batch body is_body in
    let before = rest_keeps home gate image rest in
    let after = torn_stage home gate batch body is_body rest.kept (written (gate + 1) body image) stage c torn in
    ⊎_elim
    (λ kept. inl (kept ∙ sym before))
    (λ kept. inr (kept ∙ sym (ap (λ (k : Option Kept). added k batch) before)))
    (stage_keeps home gate batch body is_body rest.kept c after)

-- a gate that is opened between what stood around it
opened_part : (start gate : ℕ) (image front rest : List ℕ) (mark : ℕ) → start ≤ gate → start ≤ length image → gate - start ≡ length front → drop start image ≡ front ++ (mark ∷ rest)
    → drop start (written gate (open_batch ∷ []) image) ≡ front ++ (open_batch ∷ rest)
opened_part start gate image front rest mark behind inside at part =
    written-drop start gate (open_batch ∷ []) image behind inside
    ∙ ap (written (gate - start) (open_batch ∷ [])) part
    ∙ written-behind front (mark ∷ rest) (open_batch ∷ []) (gate - start) at

-- with both the journal is at rest after the batch
pub both_done : (home : Home) (gate : ℕ) (batch : List (List ℕ)) (body image now : List ℕ) → IsAtRest home gate image → IsBody home gate batch body
    → now ≡ written gate (open_batch ∷ []) (written (gate + 1) body image)
    → IsAtRest home (gate + length body) now × (journal_in now ≡ added (journal_in image) batch)
both_done home gate batch body image now rest is_body is =
    let between = written (gate + 1) body image in
    let stage = staged home gate image rest batch body is_body in
    let start = placed_start home.slot rest.alone.placed in
    let long = stage_long home gate batch body is_body rest.kept between stage in
    let is_at : gate - home.slot.start ≡ length stage.front = omega (arith, stage.at) in
    let torn : Torn gate 1 between now = subst (Torn gate 1 between) (sym is) (Torn-written gate (open_batch ∷ []) between) in
    let after = torn_stage home gate batch body is_body rest.kept between stage now torn in
    let part : drop home.slot.start now ≡ stage.front ++ (open_batch ∷ (batch_body batch ++ 0 ∷ stage.more)) =
    ap (drop home.slot.start) is
    ∙ opened_part home.slot.start gate between stage.front (batch_body batch ++ 0 ∷ stage.more) stage.mark (omega (arith, stage.at)) (omega (arith, long)) is_at stage.part in
    let ended = opened_rest home gate batch body is_body rest.kept now after stage.front stage.more after.alone stage.stands part stage.at in (
      ended.0,
      rest_keeps home (gate + length body) now ended.0 ∙ ap Some ended.1 ∙ sym (ap (λ (k : Option Kept). added k batch) (rest_keeps home gate image rest)),
    )
