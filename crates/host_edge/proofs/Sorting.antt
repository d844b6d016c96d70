-- How the bytes of whole answers are told from the front of one that hasn't ended.
use Rattle.std.proofs.Common.{◌≡◌, ℕ, ◌+◌, ◌-◌, ◌≤◌, List, [], ◌∷◌, ◌++◌, length, take, drop, true, Option, None, Some, Result, Ok, Err, refl, sym, ap, subst, ◌∙◌, append_assoc, arith, inl, inr, length-drop}
use Rattle.std.proofs.lemmas.Bool.{true≢false}
use Rattle.std.proofs.lemmas.List.{append-nil, drop-drop, drop-take, drop_all, take-append-le, take-take, take_all, take_rest, take-append-drop, length-take-le}
use Rattle.std.proofs.lemmas.Slice.{take-put_mid}
use borrow.Rule.Slice.PartMut.{put_mid}
use Rattle.std.proofs.Math.Seq.{take-add, take-append-add}
use Rattle.std.proofs.lemmas.List.Elements.{All-append, All-cons, All-nil}
use Rattle.std.proofs.lemmas.Grind.{flat_map-append}
use Rattle.std.proofs.KnownBytes.{Consumes-trans, Keeps-refl}
use Rattle.std.specs.Io.KnownBytes.{Consumes, Keeps}
use Rattle.std.specs.List.{All, flat_map}
use Rattle.std.specs.Prelude.{IfSome, OnOk}
use Rattle.std.specs.Result.{IsErr}
use Rattle.wan_edge.specs.Frames.{AnswerFrame, HasOtherKind, IsAnswer, IsCutAnswer, answer_bytes, answer_kind}
use Rattle.wire_frames.proofs.Cuts.{cut_no_answer}
use Rattle.wire_frames.specs.Reading.{Ends, IsAnswerFault, Reader, ReadsAnswer}
use Rattle.wire_frames.specs.declared.fault.FrameFault.{FrameFault}
use Rattle.wire_frames.specs.declared.fault.FrameFault.TheVariants.{Count, Kind}
use Rattle.host_edge.proofs.Noting.{added_further}
use Rattle.host_edge.specs.Connections.{HearsOver, IsFresh, OffersOver, came_over, inbox_of, outbox_of}
use Rattle.host_edge.specs.Outboxes.{Offers}
use Rattle.host_edge.specs.Inboxes.{BeginsNone, Fronted, Fronts, GivesOn, Held, HoldsBack, IsCutFronted, IsFronted, fronted_bytes, is_empty_list, nothing_in}
use Rattle.host_edge.specs.declared.front.Front.{Front}
use Rattle.host_edge.specs.declared.front.Front.TheVariants.{Cut, Other, Whole}
use Rattle.host_edge.specs.declared.connection.Connection.{Connection}

abbrev pub held : List ℕ → List ℕ → Held
held ready cut = record { ready = ready; cut = cut }

-- no byte is the front of an answer
pub cut_none : IsCutFronted []
cut_none = inl cut_no_answer

-- bytes of whole answers alone
pub record AreWhole (bytes : List ℕ) : Type 0 where
  pub answers : List Fronted
  pub fit : All IsFronted answers
  pub parts : bytes ≡ flat_map fronted_bytes answers

pub none_whole : AreWhole []
none_whole = record { answers = []; fit = All-nil IsFronted; parts = refl }

one_more : (bytes piece : List ℕ) (frame : Fronted) → AreWhole bytes → IsFronted frame → fronted_bytes frame ≡ piece → AreWhole (bytes ++ piece)
one_more bytes piece frame w fits is = record {
  answers = w.answers ++ frame ∷ [];
  fit = All-append IsFronted w.answers (frame ∷ []) w.fit (All-cons IsFronted frame [] fits (All-nil IsFronted));
  parts =
      ap (λ (xs : List ℕ). xs ++ piece) w.parts ∙ ap (λ (xs : List ℕ). flat_map fronted_bytes w.answers ++ xs) (sym is ∙ sym (append-nil (fronted_bytes frame)))
      ∙ sym (flat_map-append fronted_bytes w.answers (frame ∷ []));
}

module _ (bytes : List ℕ) (done : ℕ) (within : done ≤ length bytes) (whole : AreWhole (take done bytes)) where
  abbrev rest : List ℕ
  rest = take (length bytes - done) (drop done bytes)

  rest_is : rest ≡ drop done bytes
  rest_is = take_rest bytes done

  -- something with which none begins stands first in what is left
  pub stops_alien : BeginsNone rest → HoldsBack bytes (held (take (length bytes) bytes) (drop (length bytes) bytes))
  stops_alien other = record {
    parts = sym (take-append-drop (length bytes) bytes);
    answers = whole.answers;
    behind = drop done bytes;
    whole = record {
      fit = whole.fit;
      parts = take_all (length bytes) bytes (omega arith) ∙ sym (take-append-drop done bytes) ∙ ap (λ (xs : List ℕ). xs ++ drop done bytes) whole.parts;
    };
    begun = subst IsCutFronted (sym (drop_all (length bytes) bytes (omega arith))) cut_none;
    all = inr (subst BeginsNone rest_is other, drop_all (length bytes) bytes (omega arith));
  }

  -- an answer ends in what is left
  pub reads_whole : (n : ℕ) → Fronts rest (Whole n) → record { within : done + n ≤ length bytes; whole : AreWhole (take (done + n) bytes) }
  reads_whole n read = record {
    within = omega (arith, within, read.3, ap length rest_is, length-drop done bytes);
    whole = subst AreWhole (ap (λ (xs : List ℕ). take done bytes ++ take n xs) rest_is ∙ sym (take-add done n bytes)) (one_more (take done bytes) (take n rest) read.0 whole read.1 read.4);
  }

  -- the front of one is all that is left
  pub stops_cut : IsCutFronted rest → HoldsBack bytes (held (take done bytes) (drop done bytes))
  stops_cut cut = record {
    parts = sym (take-append-drop done bytes);
    answers = whole.answers;
    behind = [];
    whole = record { fit = whole.fit; parts = whole.parts ∙ sym (append-nil (flat_map fronted_bytes whole.answers)) };
    begun = subst IsCutFronted rest_is cut;
    all = inl refl;
  }

  -- nothing is left
  pub stops_whole : length bytes ≤ done → HoldsBack bytes (held (take done bytes) (drop done bytes))
  stops_whole all = record {
    parts = sym (take-append-drop done bytes);
    answers = whole.answers;
    behind = [];
    whole = record { fit = whole.fit; parts = whole.parts ∙ sym (append-nil (flat_map fronted_bytes whole.answers)) };
    begun = subst IsCutFronted (sym (drop_all done bytes all)) cut_none;
    all = inl refl;
  }

-- where nothing came, nothing more is ready
pub holds_nothing : (before : Held) → before.ready ≡ [] → IsCutFronted before.cut → HoldsBack (before.cut ++ []) before
holds_nothing before empty cut = record {
  parts = append-nil before.cut ∙ ap (λ (xs : List ℕ). xs ++ before.cut) (sym empty);
  answers = [];
  behind = [];
  whole = record { fit = All-nil IsFronted; parts = empty };
  begun = cut;
  all = inl refl;
}

pub gives_nothing : (before : Held) → IsCutFronted before.cut → GivesOn before [] [] before
gives_nothing before cut = record {
  whole = [];
  sorted = record {
    parts = append-nil before.cut;
    answers = [];
    behind = [];
    whole = record { fit = All-nil IsFronted; parts = refl };
    begun = cut;
    all = inl refl;
  };
  next = append-nil before.ready;
}

-- the next bytes were copied over the front of others
pub given_front : (bytes into copied : List ℕ) (given whole n : ℕ) → n ≤ whole - given → length copied ≡ n → copied ≡ take n (drop given bytes)
    → take (whole - given) (drop given bytes) ≡ take n (copied ++ drop n into) ++ take (whole - (given + n)) (drop (given + n) bytes)
given_front bytes into copied given whole n few long is =
    let m : ℕ = whole - (given + n) in
    let total : n + m ≡ whole - given = omega (arith, few) in
    ap (λ (k : ℕ). take k (drop given bytes)) (sym total) ∙ take-add n m (drop given bytes)
    ∙ ap (λ (xs : List ℕ). xs ++ take m (drop n (drop given bytes))) (sym is ∙ sym (take_all n copied (omega (arith, long))) ∙ sym (take-append-le n copied (drop n into) (omega (arith, long))))
    ∙ ap (λ (xs : List ℕ). take n (copied ++ drop n into) ++ take m xs) (drop-drop n given bytes)

-- after the bytes that were there stand those that came
pub put_behind : (bytes into : List ℕ) (front room n : ℕ) → front ≤ length bytes → n ≤ length into → take (front + n) (put_mid front room bytes into) ≡ take front bytes ++ take n into
put_behind bytes into front room n inside few =
    sym (take-take (front + n) (front + length into) (put_mid front room bytes into) (omega (arith, few)))
    ∙ ap (take (front + n)) (take-put_mid front room bytes into (front + length into) refl inside)
    ∙ ap (λ (k : ℕ). take (k + n) (take front bytes ++ into)) (sym (length-take-le front bytes inside))
    ∙ take-append-add (take front bytes) into n

-- what is cut, by its place among all bytes
pub cut_is : (bytes : List ℕ) (whole end : ℕ) → whole ≤ end → drop whole (take end bytes) ≡ take (end - whole) (drop whole bytes)
cut_is bytes whole end within =
    let far : end ≡ whole + (end - whole) = omega (arith, within) in
    ap (λ (k : ℕ). drop whole (take k bytes)) far ∙ drop-take whole (end - whole) bytes

-- what is ready, and what is cut, by their places among all bytes
pub by_places : (bytes : List ℕ) (whole end : ℕ) → whole ≤ end → HoldsBack (take end bytes) (held (take whole (take end bytes)) (drop whole (take end bytes)))
    → HoldsBack (take end bytes) (held (take (whole - 0) (drop 0 bytes)) (take (end - whole) (drop whole bytes)))
by_places bytes whole end within sorted =
    let same : whole ≡ whole - 0 = omega arith in
    subst (λ (cut : List ℕ). HoldsBack (take end bytes) (held (take (whole - 0) (drop 0 bytes)) cut)) (cut_is bytes whole end within)
    (subst (λ (ready : List ℕ). HoldsBack (take end bytes) (held ready (drop whole (take end bytes)))) (take-take whole end bytes within ∙ ap (λ (k : ℕ). take k (drop 0 bytes)) same) sorted)

pub empty_list : (xs : List ℕ) → is_empty_list xs ≡ true → xs ≡ []
empty_list [] is = refl
empty_list (x ∷ xs) is = absurd (true≢false (sym is))

pub cut_only : (before now : Held) (piece : List ℕ) → HoldsBack (before.cut ++ piece) now → now.ready ≡ [] → before.cut ++ piece ≡ now.cut
cut_only before now piece sorted empty = sorted.parts ∙ ap (λ (xs : List ℕ). xs ++ now.cut) empty

pub Keeps-consumes : (a b : Option (List ℕ)) → Keeps a b → Consumes a b []
Keeps-consumes None b kept = tt
Keeps-consumes (Some xs) None kept = absurd kept
Keeps-consumes (Some xs) (Some ys) kept = sym kept

pub err_is_not_ok : {X E : Type 0} → (P : Type 0) (answer : Result X E) → IsErr answer → OnOk answer P
err_is_not_ok P (Ok x) err = absurd (true≢false (sym err))
err_is_not_ok P (Err e) err = tt

pub Keeps-same : {X : Type 0} → (known : X → Option (List ℕ)) (before now : X) → now ≡ before → Keeps (known before) (known now)
Keeps-same known before now same = subst (λ x. Keeps (known before) (known x)) (sym same) (Keeps-refl (known before))

-- nothing came
pub reads_nothing : (a b : Option (List ℕ)) (before now : Held) → Keeps a b → now ≡ before → before.ready ≡ [] → IsCutFronted before.cut → Consumes a b [] × HoldsBack (before.cut ++ []) now
reads_nothing a b before now kept same empty cut = (Keeps-consumes a b kept, subst (HoldsBack (before.cut ++ [])) (sym same) (holds_nothing before empty cut))

-- the bytes that came, and were noted, were the front of an answer all the time
pub record CutSoFar (a b : Option (List ℕ)) (before now : Held) (came came_now : List ℕ) : Type 0 where
  pub empty : now.ready ≡ []
  pub begun : IsCutFronted now.cut
  pub piece : List ℕ
  pub consumed : Consumes a b piece
  pub cut : before.cut ++ piece ≡ now.cut
  pub noted : came_now ≡ came ++ piece

pub cut_more : (a b c : Option (List ℕ)) (before mid now : Held) (came came_mid came_now more : List ℕ) → CutSoFar a b before mid came came_mid → Consumes b c more → HoldsBack (mid.cut ++ more) now
    → came_now ≡ came_mid ++ more → now.ready ≡ [] → CutSoFar a c before now came came_now
cut_more a b c before mid now came came_mid came_now more so then sorted noted empty = record {
  empty = empty;
  begun = sorted.begun;
  piece = so.piece ++ more;
  consumed = Consumes-trans a b c so.piece more so.consumed then;
  cut = sym (append_assoc before.cut so.piece more) ∙ ap (λ (xs : List ℕ). xs ++ more) so.cut ∙ cut_only mid now more sorted empty;
  noted = added_further came came_mid came_now so.piece more (so.piece ++ more) so.noted noted refl;
}

module _ (S : Type 0) where
  -- where nothing is held any more, nothing was given on
  pub hears_none : (before now : Option (Connection S)) → IsFresh now → HearsOver before [] now
  hears_none before now none = record {
    start = nothing_in;
    earlier = [];
    from = inr (refl, refl);
    piece = [];
    came = none.came;
    given_on = subst (GivesOn nothing_in [] []) (sym none.inbox) (gives_nothing nothing_in cut_none);
  }

  pub hears_nothing : (connection : Option (Connection S)) → connection ≡ None → HearsOver connection [] connection
  hears_nothing connection is = hears_none connection connection (record { inbox = ap inbox_of is; came = ap came_over is; outbox = ap outbox_of is })

  -- without a connection what is offered is lost
  pub offers_nothing : (connection : Option (Connection S)) (bytes : List ℕ) → connection ≡ None → OffersOver connection bytes connection
  offers_nothing connection bytes is = record {
    start = outbox_of connection;
    from = inl refl;
    offered = subst (λ c. IfSome c (λ there. Offers bytes (outbox_of connection) there.outbox)) (sym is) tt;
  }
