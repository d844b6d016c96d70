use Rattle.std.proofs.Common.{◌≤◌, length, sym, subst}
use Rattle.json_data.specs.Plain.{IsGapUpTo}
use Rattle.json_data.proofs.plain_token.gap_end.Goals as goal

pub blanks_end-requires : goal.blanks_end-requires
blanks_end-requires c = subst (λ xs. c.args.from ≤ length xs) (sym c.as_bytes-bytes.ensures.value) c.requires

pub returns : goal.returns
returns c = subst (λ xs. IsGapUpTo xs c.args.from c.blanks_end.result) c.as_bytes-bytes.ensures.value c.blanks_end.ensures
