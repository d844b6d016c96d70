-- What a reader of commands with terms makes of a head, and of what stands after it.
use Rattle.std.proofs.Common.{◌≡◌, ◌≢◌, ◌⊎◌, ℕ, zero, suc, ◌+◌, ◌-◌, ◌<◌, ◌≤◌, ◌^◌, min, Bool, true, false, List, [], ◌∷◌, ◌++◌, length, slice_index, take, drop, replicate, Option, Some, None, inl, inr, refl, sym, ap, ap₂, subst, ◌∙◌, append_assoc, append-nil, arith, length-append}
use Rattle.std.proofs.lemmas.Bool.{cases_lt}
use Rattle.std.proofs.lemmas.List.{get_or-replicate, get_or_append_left, get_or_past, length-replicate, length-take-le, nil_from_length, take_all}
use Rattle.byteorder.specs.Endian.{big_number}
use Rattle.wan_edge.specs.Frames.{CommandFrame, IsCommand, IsCut, IsCutCommand, command_bytes, command_head, command_kind}
use Rattle.wire_frames.specs.Reading.{Breaks as BreaksCommand, Ends as EndsCommand, Gives as GivesCommand, GoesOn as GoesOnCommand, IsCommandFault, Reader, fresh as fresh_reader}
use Rattle.wire_frames.specs.declared.fault.FrameFault.{FrameFault}
use Rattle.wire_frames.proofs.Cuts.{IsBytes-append, cut_none}
use Rattle.wire_frames.proofs.Numbers.{IsBytes, IsBytes-take, number_at, number_fits}
use Rattle.fenced_agent.specs.Frames.{IsTermedCommand, TermedCommand, fence_bytes, fence_kind, term_of, termed_bytes}
use Rattle.fenced_wire.specs.Reading.{Breaks, Ends, GoesOn, IsHead, IsInBody, IsInHead, IsReady, IsStanding, IsTermIn, Termed, termed}

abbrev with : Option ℕ → CommandFrame → TermedCommand
with term c = record { term = term; command = c }

-- ---- a whole head

five : (head : List ℕ) → length head ≡ 5 → slice_index head 0 ∷ take 4 (drop 1 head) ≡ head
five (a ∷ b ∷ c ∷ d ∷ e ∷ []) long = refl
five _ long = absurd (omega (arith, long))

-- five bytes of which the first is the kind are the front of a frame with the term that the others make
pub whole-head : (head : List ℕ) (term : ℕ) → length head ≡ 5 → slice_index head 0 ≡ fence_kind → IsBytes head → term ≡ big_number 4 (take (length head - 1) (drop 1 head)) → (fence_bytes (Some term) ≡ head) × (term < 2 ^ 32)
whole-head head term long kind each is = (
  ap₂ (λ (k : ℕ) (xs : List ℕ). k ∷ xs) (sym kind) (number_at head 1 term each (omega (arith, long)) is) ∙ five head long,
  number_fits head 1 term each is,
)

-- where no part of one has come, or all of it, some term is in front
pub record HasTerm (head : List ℕ) (term : Option ℕ) : Type 0 where
  pub is : fence_bytes term ≡ head
  pub fits : term_of term < 2 ^ 32
  pub none : term ≡ None → head ≡ []

none-or-whole : (r : Termed) (piece : List ℕ) → IsHead r.head → IsReady r → IsInBody r.head r.begun piece → (r.head ≡ []) ⊎ (length r.head ≡ 5)
none-or-whole r piece front ready body =
    elim (cases_lt (length r.head) 5) [
      | inl short ↦ elim (cases_lt 0 (length r.head)) [
        | inl some ↦ elim body [
          | inl begun ↦ let both : true ≡ false = sym begun ∙ ready.apart some short in absurd (cc both)
          | inr other ↦ elim other [
            | inl long ↦ absurd (omega (arith, short, long))
            | inr nothing ↦ inl nothing.0
          ]
        ]
        | inr none ↦ inl (nil_from_length r.head (omega (arith, none)))
      ]
      | inr long ↦ inr (omega (arith, long, front.short))
    ]

pub term-in : (head : List ℕ) (term : Option ℕ) → IsHead head → (head ≡ []) ⊎ (length head ≡ 5) → IsTermIn head term → HasTerm head term
term-in head None is (inl nothing) found = record { is = sym nothing; fits = omega arith; none = λ none. nothing }
term-in head None is (inr long) found = absurd (omega (arith, long, found))
term-in head (Some term) is (inl nothing) found = absurd (omega (arith, found.0, ap length nothing))
term-in head (Some term) is (inr long) found =
    let whole = whole-head head term long (is.kind (omega (arith, long))) is.small found.1 in
    record { is = whole.0; fits = whole.1; none = λ none. absurd (cc none) }

some-term : (head : List ℕ) → IsHead head → (head ≡ []) ⊎ (length head ≡ 5) → (term : Option ℕ) × HasTerm head term
some-term head is (inl nothing) = (None, record { is = sym nothing; fits = omega arith; none = λ none. nothing })
some-term head is (inr long) =
    let term = big_number 4 (take (length head - 1) (drop 1 head)) in
    (Some term, term-in head (Some term) is (inr long) (omega (arith, long), refl))

-- ---- a part of a head

zeros-small : (n : ℕ) → IsBytes (replicate n 0)
zeros-small n i =
    elim (cases_lt i n) [
      | inl lt ↦ rw (get_or-replicate {A = ℕ} n i 0 0 lt) (omega arith)
      | inr le ↦ rw (get_or_past {X = ℕ} (replicate {A = ℕ} n 0) i 0 (omega (arith, length-replicate {A = ℕ} n 0))) (omega arith)
    ]

-- it is the front of some command with a term
pub cut-head : (head : List ℕ) → IsHead head → 0 < length head → IsCut termed_bytes IsTermedCommand head
cut-head head is some =
    let padding = replicate {A = ℕ} (5 - length head) 0 in
    let full = head ++ padding in
    let long : length full ≡ 5 = omega (arith, length-append head padding, length-replicate {A = ℕ} (5 - length head) 0, is.short) in
    let kind : slice_index full 0 ≡ fence_kind = get_or_append_left head padding 0 0 some ∙ is.kind some in
    let each : IsBytes full = IsBytes-append head padding is.small (zeros-small (5 - length head)) in
    let term = big_number 4 (take (length full - 1) (drop 1 full)) in
    let whole = whole-head full term long kind each refl in
    record {
      frame = with (Some term) cut_none.frame;
      fits = record { in_term = whole.1; whole = cut_none.fits };
      missing = padding ++ cut_none.missing;
      some = omega (arith, length-append padding cut_none.missing, cut_none.some);
      begins = ap₂ (λ (xs ys : List ℕ). xs ++ ys) whole.0 cut_none.begins ∙ append_assoc head padding cut_none.missing;
    }

-- ---- one piece

pub standing_fresh : (head : List ℕ) (r : Reader) (begun : Bool) → head ≡ [] → r ≡ fresh_reader → begun ≡ false → IsStanding (termed head r begun)
standing_fresh head r begun head_is r_is begun_is =
    let none : r.kept ≡ [] = ap (λ (q : Reader). q.kept) r_is in
    record {
      head = subst IsHead (sym head_is) (record { kind = λ some. absurd (omega (arith, some)); short = omega arith; small = λ i. omega arith });
      ready = λ live. record {
        idle = λ idle. none;
        apart = λ some short. begun_is;
        cut = subst IsCutCommand (sym none) cut_none;
        plain = λ is nothing. let both : true ≡ false = sym is ∙ begun_is in absurd (cc both);
      };
    }

module _ (r : Termed) (piece : List ℕ) (front : IsHead r.head) (ready : IsReady r) (live : r.live ≡ true) (some : 0 < length piece) where
  -- ---- further bytes of a head
  module _ (small : IsBytes piece) (place : IsInHead r.head r.begun piece) (n : ℕ) (head : List ℕ) (count : n ≡ min (5 - length r.head) (length piece)) (filled : head ≡ r.head ++ take n piece) where
    taken : length (take n piece) ≡ n
    taken = length-take-le n piece (omega (arith, count))

    long-head : length head ≡ length r.head + n
    long-head = ap length filled ∙ length-append r.head (take n piece) ∙ ap (λ (m : ℕ). length r.head + m) taken

    none-kept : r.kept ≡ []
    none-kept = ready.idle place.none

    first-of : (xs ys : List ℕ) (m : ℕ) → 0 < m → m ≤ length ys → (xs ≡ [] → slice_index ys 0 ≡ fence_kind) → (0 < length xs → slice_index xs 0 ≡ fence_kind) → slice_index (xs ++ take m ys) 0 ≡ fence_kind
    first-of [] [] m more within kind own = absurd (omega (arith, more, within))
    first-of [] (y ∷ ys) zero more within kind own = absurd (omega (arith, more))
    first-of [] (y ∷ ys) (suc m) more within kind own = kind refl
    first-of (x ∷ xs) ys m more within kind own = own (omega arith)

    head-is : IsHead head
    head-is = record {
      kind = λ any. ap (λ (xs : List ℕ). slice_index xs 0) filled ∙ first-of r.head piece n (omega (arith, count, some, place.short)) (omega (arith, count)) place.kind front.kind;
      short = omega (arith, long-head, count, place.short);
      small = subst IsBytes (sym filled) (IsBytes-append r.head (take n piece) front.small (IsBytes-take n piece small));
    }

    pub head-goes-on : GoesOn r piece n (record { head = head; kept = r.kept; begun = r.begun; live = r.live })
    head-goes-on =
        let all : head ++ r.kept ≡ head = ap (λ (xs : List ℕ). head ++ xs) none-kept ∙ append-nil head in
        record {
          some = omega (arith, count, some, place.short);
          within = omega (arith, count);
          longer = all ∙ filled ∙ ap (λ (xs : List ℕ). xs ++ take n piece) (sym (ap (λ (xs : List ℕ). r.head ++ xs) none-kept ∙ append-nil r.head));
          cut = subst (λ (xs : List ℕ). IsCut termed_bytes IsTermedCommand xs) (sym all) (cut-head head head-is (omega (arith, long-head, count, some, place.short)));
          live = live;
        }

    pub head-standing : IsStanding (record { head = head; kept = r.kept; begun = r.begun; live = r.live })
    head-standing = record {
      head = head-is;
      ready = λ still. record {
        idle = ready.idle;
        apart = λ any short. place.none;
        cut = ready.cut;
        plain = λ begun nothing. let both : true ≡ false = sym begun ∙ place.none in absurd (cc both);
      };
    }

  -- ---- after it
  module _ (body : IsInBody r.head r.begun piece) where
    either : (r.head ≡ []) ⊎ (length r.head ≡ 5)
    either = none-or-whole r piece front ready body

    -- a command ends in the piece
    pub body-ends : (n : ℕ) (c : CommandFrame) (term : Option ℕ) (now : Reader) → EndsCommand command_bytes IsCommand IsCommandFault r.kept piece n c now → IsTermIn r.head term → Ends r piece n (with term c) (termed [] now false)
    body-ends n c term now ends found =
        let has = term-in r.head term front either found in
        record {
          fits = record { in_term = has.fits; whole = ends.fits };
          some = ends.some;
          within = ends.within;
          whole = ap₂ (λ (xs ys : List ℕ). xs ++ ys) has.is ends.whole ∙ sym (append_assoc r.head r.kept (take n piece));
          none_kept = ap (λ (q : Reader). q.kept) ends.now_fresh;
          live = ap (λ (q : Reader). q.live) ends.now_fresh;
        }

    -- all of the piece was taken, and it ends none
    module _ (n : ℕ) (now : Reader) (on : GoesOnCommand command_bytes IsCommand IsCommandFault r.kept piece n now) where
      kept-now : now.kept ≡ r.kept ++ piece
      kept-now = ap (λ (q : Reader). q.kept) on.now_longer

      body-cut : IsCut termed_bytes IsTermedCommand (r.head ++ (r.kept ++ piece))
      body-cut =
          let has = some-term r.head front either in
          record {
            frame = with has.0 on.cut.frame;
            fits = record { in_term = has.1.fits; whole = on.cut.fits };
            missing = on.cut.missing;
            some = on.cut.some;
            begins = ap₂ (λ (xs ys : List ℕ). xs ++ ys) has.1.is on.cut.begins ∙ sym (append_assoc r.head (r.kept ++ piece) on.cut.missing);
          }

      pub body-goes-on : GoesOn r piece n (termed r.head now true)
      body-goes-on = record {
        some = omega (arith, on.all, some);
        within = omega (arith, on.all);
        longer =
            ap (λ (xs : List ℕ). r.head ++ xs) kept-now ∙ sym (append_assoc r.head r.kept piece)
            ∙ ap (λ (xs : List ℕ). (r.head ++ r.kept) ++ xs) (sym (take_all n piece (omega (arith, on.all))));
        cut = subst (λ (xs : List ℕ). IsCut termed_bytes IsTermedCommand (r.head ++ xs)) (sym kept-now) body-cut;
        live = ap (λ (q : Reader). q.live) on.now_longer;
      }

      never : 0 < length r.head → length r.head < 5 → (r.head ≡ []) ⊎ (length r.head ≡ 5) → ⊥
      never any short (inl nothing) = absurd (omega (arith, any, ap length nothing))
      never any short (inr long) = absurd (omega (arith, short, long))

      pub body-standing : IsStanding (termed r.head now true)
      body-standing = record {
        head = front;
        ready = λ still. record {
          idle = λ idle. absurd (cc idle);
          apart = λ any short. absurd (never any short either);
          cut = subst IsCutCommand (sym kept-now) on.cut;
          plain = λ begun nothing. omega (arith, ap length kept-now, length-append r.kept piece, some);
        };
      }

    -- no command begins so
    first-other : (kept : List ℕ) → (kept ≡ [] → slice_index piece 0 ≢ fence_kind) → IsCutCommand kept → slice_index (kept ++ piece) 0 ≢ fence_kind
    unfolding command_bytes command_head
    first-other [] other cut = other refl
    first-other (x ∷ kept) other cut = λ same. let kind : command_kind ≡ x = ap (λ (xs : List ℕ). slice_index xs 0) cut.begins in let both : command_kind ≡ fence_kind = kind ∙ same in absurd (omega (arith, both))

    no-head : r.head ≡ [] → r.kept ≡ [] → slice_index piece 0 ≢ fence_kind
    no-head nothing none =
        elim body [
          | inl begun ↦ absurd (omega (arith, ready.plain begun nothing, ap length none))
          | inr other ↦ elim other [
            | inl long ↦ absurd (omega (arith, long, ap length nothing))
            | inr plain ↦ plain.1
          ]
        ]

    pub body-breaks : (fault : FrameFault) (now : Reader) (begun : Bool) → BreaksCommand command_bytes IsCommand IsCommandFault r.kept piece fault now → Breaks r piece fault (termed r.head now begun)
    body-breaks fault now begun breaks =
        let has = some-term r.head front either in
        record {
          at_byte = record {
            term = has.0;
            in_term = has.1.fits;
            rest = r.kept ++ piece;
            parts = append_assoc r.head r.kept piece ∙ ap (λ (xs : List ℕ). xs ++ (r.kept ++ piece)) (sym has.1.is);
            at_byte = breaks.at_byte;
            plain = λ none. subst (λ (xs : List ℕ). slice_index ((xs ++ r.kept) ++ piece) 0 ≢ fence_kind) (sym (has.1.none none)) (first-other r.kept (no-head (has.1.none none)) ready.cut);
          };
          dead = breaks.now_dead;
        }

    pub broken-standing : (now : Reader) (begun : Bool) → now.live ≡ false → IsStanding (termed r.head now begun)
    broken-standing now begun dead = record { head = front; ready = λ still. let both : true ≡ false = sym still ∙ dead in absurd (cc both) }

-- what a reader gave, where it is known whether there is a command
pub gives-command : (kept piece : List ℕ) (n : ℕ) (found known : Option CommandFrame) (now : Reader) → found ≡ known → GivesCommand command_bytes IsCommand IsCommandFault kept piece n found now → GivesCommand command_bytes IsCommand IsCommandFault kept piece n known now
gives-command kept piece n found known now is given = subst (λ (f : Option CommandFrame). GivesCommand command_bytes IsCommand IsCommandFault kept piece n f now) is given

-- ---- which of both

pub in_body_begun : (head : List ℕ) (begun : Bool) (piece : List ℕ) → begun ≡ true → IsInBody head begun piece
in_body_begun head begun piece is = inl is

pub in_body_whole : (head : List ℕ) (begun : Bool) (piece : List ℕ) → 5 ≤ length head → IsInBody head begun piece
in_body_whole head begun piece long = inr (inl long)

pub in_body_plain : (head : List ℕ) (begun : Bool) (piece : List ℕ) → length head ≡ 0 → slice_index piece 0 ≢ fence_kind → IsInBody head begun piece
in_body_plain head begun piece none other = inr (inr (nil_from_length head none, other))

pub in_head_more : (head : List ℕ) (begun : Bool) (piece : List ℕ) → begun ≡ false → length head < 5 → 0 < length head → IsInHead head begun piece
in_head_more head begun piece none short some = record { none = none; short = short; kind = λ nothing. absurd (omega (arith, some, ap length nothing)) }

pub in_head_first : (head : List ℕ) (begun : Bool) (piece : List ℕ) → begun ≡ false → length head < 5 → slice_index piece 0 ≡ fence_kind → IsInHead head begun piece
in_head_first head begun piece none short kind = record { none = none; short = short; kind = λ nothing. kind }
