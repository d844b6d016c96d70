use Rattle.std.proofs.Common.{ℕ, List, subst, ap, ◌∙◌, arith}
use Rattle.intent_journal.specs.Parts.{is_whole}
use Rattle.intent_journal.specs.Reading.{IsRead}
use Rattle.intent_journal.proofs.Blanks.{side_whole}
use Rattle.intent_journal.proofs.Recoveries.{end_small, other_small}
use Rattle.intent_journal.proofs.placing.find_at.Goals as goal

pub read_list-requires : goal.read_list-requires
read_list-requires c =
    ap (is_whole c.at-slot.result) c.part_of.ensures ∙ side_whole c.args.image.now c.args.side c.at-slot.result c.requires.side c.at-slot.ensures

pub returns-clause-found : goal.returns-clause-found
returns-clause-found c =
    c.found_at-found.ensures _ (subst (λ (p : List ℕ). IsRead c.at-slot.result p c.in_ok-gate.field-0-0 c.in_ok-gate.gate) c.part_of.ensures c.in_ok-gate.ensures)

pub returns-clause-small : goal.returns-clause-small
returns-clause-small c =
    let found = c.found_at-found.ensures _ (subst (λ (p : List ℕ). IsRead c.at-slot.result p c.in_ok-gate.field-0-0 c.in_ok-gate.gate) c.part_of.ensures c.in_ok-gate.ensures) in
    end_small c.found_at-found.result c.args.image.now found (omega arith)

pub returns-clause-side : goal.returns-clause-side
returns-clause-side c =
    let found = c.found_at-found.ensures _ (subst (λ (p : List ℕ). IsRead c.at-slot.result p c.in_ok-gate.field-0-0 c.in_ok-gate.gate) c.part_of.ensures c.in_ok-gate.ensures) in
    other_small c.found_at-found.result c.args.image.now found
