use Rattle.std.proofs.Common.{◌≡◌, ◌-◌, ◌<◌, [], ◌∷◌, ◌++◌, length, Some, None, refl, sym, ap, ap₂, ◌∙◌, arith, append_assoc, append-nil}
use Rattle.std.proofs.lemmas.Result.{on_ok_weaker}
use Rattle.json.specs.Token.{Token}
use Rattle.json.specs.Json.{parse_map, after_end_array, read_key, items, members, value}
use Rattle.json.specs.Reads.{token_of}
use Rattle.json.proofs.Grammar.{value_is, value-begin_array, value-begin_object, read_key-shorter}
use Rattle.serde_json.specs.Data.{null, boolean, number, string, array, object, no_members, put}
use Rattle.serde_json.specs.Read.{of_json, of_items, converted}
use Rattle.serde_json.specs.View.{number_view, items_of}
use Rattle.json_data.specs.declared.node.Node.TheVariants as a_node
use Rattle.json_data.specs.Nodes.{Null, Truth, Number, Text, entry}
use Rattle.json_data.specs.Growth.{items_before}
use Rattle.json_data.proofs.Reading.{converted-array, converted-object, item_read, item_refused, items_over, member_read, member_refused, key_refused, members_over, items_before-no_items, one_more_item, none_before}
use Rattle.json_data.proofs.Grown.{null_is, bool_is, number_is, text_is, no_elements, one_element_more, no_members_yet, one_member_more}
use Rattle.json_data.proofs.Spots.{pushed, array_closed, object_closed}
use Rattle.json_data.proofs.build.+read.Goals as goal

pub read-returns-in_err-token-clause-err : goal.read-returns-in_err-token-clause-err
read-returns-in_err-token-clause-err t c refused =
    let empty : c.args.reader.now ≡ [] = grind arith in
    ap (converted of_json) (ap (value c.args.depth) empty ∙ value_is c.args.depth [])

pub read-returns-then-depth-eq0-clause-err : goal.read-returns-then-depth-eq0-clause-err
unfolding value
read-returns-then-depth-eq0-clause-err t c never =
    let first : c.args.reader.now ≡ token_of c.in_ok-token.token ∷ c.next.new.self = grind arith in
    let none : c.args.depth ≡ 0 = omega arith in
    ap (converted of_json) (ap₂ value none (first ∙ ap (λ k. token_of k ∷ c.next.new.self) c.in-BeginArray.is))

pub read-returns-then-depth-eq0-2-clause-err : goal.read-returns-then-depth-eq0-2-clause-err
unfolding value
read-returns-then-depth-eq0-2-clause-err t c never =
    let first : c.args.reader.now ≡ token_of c.in_ok-token.token ∷ c.next.new.self = grind arith in
    let none : c.args.depth ≡ 0 = omega arith in
    ap (converted of_json) (ap₂ value none (first ∙ ap (λ k. token_of k ∷ c.next.new.self) c.in-BeginObject.is))

pub read-returns-else-depth-eq0-clause-err : goal.read-returns-else-depth-eq0-clause-err
read-returns-else-depth-eq0-clause-err t c refused =
    let first : c.args.reader.now ≡ token_of c.in_ok-token.token ∷ c.next.new.self = grind arith in
    let opened = ap (converted of_json) (ap (value c.args.depth) (first ∙ ap (λ k. token_of k ∷ c.next.new.self) c.in-BeginArray.is) ∙ value-begin_array c.args.depth c.next.new.self (omega arith)) ∙ converted-array (items (value (c.args.depth - 1)) (length c.next.new.self) c.next.new.self) in
    opened ∙ ap (parse_map array) (c.read_items.ensures.err refused)

pub read-returns-else-depth-eq0-2-clause-err : goal.read-returns-else-depth-eq0-2-clause-err
read-returns-else-depth-eq0-2-clause-err t c refused =
    let first : c.args.reader.now ≡ token_of c.in_ok-token.token ∷ c.next.new.self = grind arith in
    let opened = ap (converted of_json) (ap (value c.args.depth) (first ∙ ap (λ k. token_of k ∷ c.next.new.self) c.in-BeginObject.is) ∙ value-begin_object c.args.depth c.next.new.self (omega arith)) ∙ converted-object (members (value (c.args.depth - 1)) (length c.next.new.self) c.next.new.self) in
    opened ∙ ap (parse_map object) (c.read_members.ensures.err refused)

pub read-returns-in-String-clause-ok : goal.read-returns-in-String-clause-ok
read-returns-in-String-clause-ok t c =
    let first : c.args.reader.now ≡ token_of c.in_ok-token.token ∷ c.next.new.self = grind arith in
    let is : c.args.reader.now ≡ Token.string c.in-String.text.now ∷ c.next.new.self = grind (arith, first) in
    on_ok_weaker c.push.result (λ e. (string c.in-String.text.now, (Text c.in-String.text.now ∷ [], pushed entry _ _ _ e, text_is c.in-String.text.now), ap (converted of_json) (ap (value c.args.depth) is ∙ value_is c.args.depth _))) c.push.ensures.ok

pub read-returns-in-Bool-clause-ok : goal.read-returns-in-Bool-clause-ok
read-returns-in-Bool-clause-ok t c =
    let first : c.args.reader.now ≡ token_of c.in_ok-token.token ∷ c.next.new.self = grind arith in
    let is : c.args.reader.now ≡ Token.boolean c.in-Bool.b ∷ c.next.new.self = grind (arith, first) in
    on_ok_weaker c.push-in-Bool.result (λ e. (boolean c.in-Bool.b, (Truth c.in-Bool.b ∷ [], pushed entry _ _ _ e, bool_is c.in-Bool.b), ap (converted of_json) (ap (value c.args.depth) is ∙ value_is c.args.depth _))) c.push-in-Bool.ensures.ok

pub read-returns-in-Null-clause-ok : goal.read-returns-in-Null-clause-ok
read-returns-in-Null-clause-ok t c =
    let first : c.args.reader.now ≡ token_of c.in_ok-token.token ∷ c.next.new.self = grind arith in
    let is : c.args.reader.now ≡ Token.null ∷ c.next.new.self = grind (arith, first) in
    on_ok_weaker c.push-in-Null.result (λ e. (null, (Null ∷ [], pushed entry _ _ _ e, null_is), ap (converted of_json) (ap (value c.args.depth) is ∙ value_is c.args.depth _))) c.push-in-Null.ensures.ok

pub read-returns-in-Some-clause-ok : goal.read-returns-in-Some-clause-ok
read-returns-in-Some-clause-ok t c =
    let first : c.args.reader.now ≡ token_of c.in_ok-token.token ∷ c.next.new.self = grind arith in
    let is : c.args.reader.now ≡ Token.number c.in-Number.text.now ∷ c.next.new.self = grind (arith, first) in
    let read = ap (converted of_json) (ap (value c.args.depth) is ∙ value_is c.args.depth _) ∙ rw (← c.in-Some.ensures) in
    on_ok_weaker c.push-in-Some.result (λ e. (number (number_view c.in-Some.number), (Number (number_view c.in-Some.number) ∷ [], pushed entry _ _ _ e, number_is (number_view c.in-Some.number)), read)) c.push-in-Some.ensures.ok

pub read-returns-in-None-clause-err : goal.read-returns-in-None-clause-err
read-returns-in-None-clause-err t c refused =
    let first : c.args.reader.now ≡ token_of c.in_ok-token.token ∷ c.next.new.self = grind arith in
    let is : c.args.reader.now ≡ Token.number c.in-Number.text.now ∷ c.next.new.self = grind (arith, first) in
    ap (converted of_json) (ap (value c.args.depth) is ∙ value_is c.args.depth _) ∙ rw (← c.in-None.ensures)

pub read-returns-in-EndObject-clause-err : goal.read-returns-in-EndObject-clause-err
read-returns-in-EndObject-clause-err t c refused =
    let first : c.args.reader.now ≡ token_of c.in_ok-token.token ∷ c.next.new.self = grind arith in
    let none : value c.args.depth c.args.reader.now ≡ None = rw (value_is c.args.depth c.args.reader.now, first) (grind arith) in
    ap (converted of_json) none

pub read-returns-else-depth-eq0-clause-ok : goal.read-returns-else-depth-eq0-clause-ok
read-returns-else-depth-eq0-clause-ok t c =
    let first : c.args.reader.now ≡ token_of c.in_ok-token.token ∷ c.next.new.self = grind arith in
    let opened = ap (converted of_json) (ap (value c.args.depth) (first ∙ ap (λ k. token_of k ∷ c.next.new.self) c.in-BeginArray.is) ∙ value-begin_array c.args.depth c.next.new.self (omega arith)) ∙ converted-array (items (value (c.args.depth - 1)) (length c.next.new.self) c.next.new.self) in
    on_ok_weaker c.read_items.result (λ w. (array (items_of w.0), w.1, opened ∙ ap (parse_map array) w.2)) c.read_items.ensures.ok

pub read-returns-else-depth-eq0-2-clause-ok : goal.read-returns-else-depth-eq0-2-clause-ok
read-returns-else-depth-eq0-2-clause-ok t c =
    let first : c.args.reader.now ≡ token_of c.in_ok-token.token ∷ c.next.new.self = grind arith in
    let opened = ap (converted of_json) (ap (value c.args.depth) (first ∙ ap (λ k. token_of k ∷ c.next.new.self) c.in-BeginObject.is) ∙ value-begin_object c.args.depth c.next.new.self (omega arith)) ∙ converted-object (members (value (c.args.depth - 1)) (length c.next.new.self) c.next.new.self) in
    on_ok_weaker c.read_members.result (λ w. (object w.0, w.1, opened ∙ ap (parse_map object) w.2)) c.read_members.ensures.ok

pub read_items-items-init : goal.read_items-items-init
read_items-items-init t c =
    let all = converted of_items (items (value c.args.depth) (length c.args.reader.now) c.args.reader.now) in
    (length c.args.reader.now, [], omega arith, none_before all, ([], pushed entry _ _ _ c.in_ok-push.ensures.ok ∙ sym (append-nil _), no_elements), omega arith)

pub read_items-returns-in_err-read-clause-err : goal.read_items-returns-in_err-read-clause-err
read_items-returns-in_err-read-clause-err t c refused =
    let p = value c.args.depth in
    let l = c.items in
    let n = l.invariant.0 in
    let ds = l.invariant.1 in
    let going : (after_end_array l.reader ≡ None) × (c.take_end_array.new.self ≡ l.reader) = grind arith in
    l.invariant.3 ∙ ap (parse_map (items_before ds)) (item_refused p n l.reader going.0 (rw (← going.1) (c.read.ensures.err (grind arith))))

pub read_items-items-preserved : goal.read_items-items-preserved
read_items-items-preserved t c =
    let p = value c.args.depth in
    let l = c.items in
    let n = l.invariant.0 in
    let ds = l.invariant.1 in
    let grown = l.invariant.4 in
    let going : (after_end_array l.reader ≡ None) × (c.take_end_array.new.self ≡ l.reader) = grind arith in
    let done = c.in_ok-read.ensures in
    let d = done.ok.0 in
    let more = done.ok.1 in
    let r = c.read.new.reader in
    let less : length r < length l.reader = rw (← going.1) done.shorter in
    let turn = item_read p n l.reader r d (omega (arith, l.invariant.2)) going.0 (rw (← going.1) done.ok.2) in (
      n - 1,
      ds ++ d ∷ [],
      omega (arith, l.invariant.2),
      l.invariant.3 ∙ ap (parse_map (items_before ds)) turn ∙ one_more_item ds d (converted of_items (items p (n - 1) r)),
      (grown.0 ++ more.0, more.1 ∙ ap (λ ns. ns ++ more.0) grown.1 ∙ append_assoc _ grown.0 more.0, one_element_more ds l.count grown.0 d more.0 grown.2 more.2),
      omega (arith, l.invariant.5),
    )

pub read_items-returns-clause-ok : goal.read_items-returns-clause-ok
read_items-returns-clause-ok t c =
    let p = value c.args.depth in
    let l = c.items in
    let n = l.invariant.0 in
    let ds = l.invariant.1 in
    let grown = l.invariant.4 in
    let r = c.take_end_array.new.self in
    let read = l.invariant.3 ∙ ap (parse_map (items_before ds)) (items_over p n l.reader r l.invariant.2 (grind arith)) ∙ ap (λ es. Some (es, r)) (items_before-no_items ds) in
    (ds, array_closed entry c.args.nodes.now.items l.nodes.items (a_node.Array (c.len.result - c.len-first.result - 1) l.count) grown.0 ds l.count c.len-first.result c.len.result grown.1 grown.2 (grind arith) (grind arith) refl, read)

pub read_members-members-init : goal.read_members-members-init
read_members-members-init t c =
    let all = members (value c.args.depth) (length c.args.reader.now) c.args.reader.now in
    (length c.args.reader.now, no_members, omega arith, refl, ([], pushed entry _ _ _ c.in_ok-push.ensures.ok ∙ sym (append-nil _), no_members_yet), omega arith)

pub read_members-returns-in_err-name-clause-err : goal.read_members-returns-in_err-name-clause-err
read_members-returns-in_err-name-clause-err t c refused =
    let p = value c.args.depth in
    let l = c.members in
    let n = l.invariant.0 in
    l.invariant.3 ∙ key_refused p l.invariant.1 n l.reader c.in_err-name.ensures.value

pub read_members-returns-in_err-read-clause-err : goal.read_members-returns-in_err-read-clause-err
read_members-returns-in_err-read-clause-err t c refused =
    let p = value c.args.depth in
    let l = c.members in
    let n = l.invariant.0 in
    let k = c.in-Some.name.now in
    let s = c.next_key.new.self in
    let named : read_key l.reader ≡ Some (Some k, s) = grind arith in
    l.invariant.3 ∙ member_refused p l.invariant.1 n k l.reader s named (c.read.ensures.err (grind arith))

pub read_members-members-preserved : goal.read_members-members-preserved
read_members-members-preserved t c =
    let p = value c.args.depth in
    let l = c.members in
    let n = l.invariant.0 in
    let old = l.invariant.1 in
    let grown = l.invariant.4 in
    let key = c.in-Some.name in
    let k = key.now in
    let s = c.next_key.new.self in
    let named : read_key l.reader ≡ Some (Some k, s) = grind arith in
    let done = c.in_ok-read.ensures in
    let d = done.ok.0 in
    let more = done.ok.1 in
    let r = c.read.new.reader in
    let less = read_key-shorter l.reader (Some k) s named in
    let lesser = done.shorter in
    let named_so = pushed entry _ _ _ c.in_ok-push-2.ensures.ok in
    let text = Text k ∷ [] in (
      n - 1,
      put k d old,
      omega (arith, l.invariant.2),
      l.invariant.3 ∙ member_read p old n k l.reader s r d (omega (arith, l.invariant.2)) named done.ok.2,
      (
        (grown.0 ++ text) ++ more.0,
        more.1 ∙ ap (λ ns. ns ++ more.0) (named_so ∙ ap (λ ns. ns ++ text) grown.1 ∙ append_assoc _ grown.0 text) ∙ append_assoc _ (grown.0 ++ text) more.0,
        one_member_more old l.count grown.0 k d more.0 grown.2 more.2,
      ),
      omega (arith, l.invariant.5),
    )

pub read_members-returns-clause-ok : goal.read_members-returns-clause-ok
read_members-returns-clause-ok t c =
    let p = value c.args.depth in
    let l = c.members in
    let n = l.invariant.0 in
    let old = l.invariant.1 in
    let grown = l.invariant.4 in
    (old, object_closed entry c.args.nodes.now.items l.nodes.items (a_node.Object (c.len.result - c.len-first.result - 1) l.count) grown.0 old l.count c.len-first.result c.len.result grown.1 grown.2 (grind arith) (grind arith) refl, l.invariant.3 ∙ members_over p old n l.reader c.next_key.new.self l.invariant.2 (grind arith))
