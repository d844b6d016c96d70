use Rattle.std.proofs.Common.{rules, [], ◌++◌, ◌==◌, codes, decimal, sym}
use Rattle.std.proofs.lemmas.Bool.{cond-false, ne_eqb}
use Rattle.text_writer.proofs.Pushing.{at_value, said_so, both}
use Rattle.problem_json.proofs.writing.problem.push_format.Goals as goal

pub returns : goal.returns
returns g c =
    said_so g.P.Pieces.pushes (sym (cond-false (c.args.format == 1) [] (codes ",\"format\":" ++ decimal c.args.format) (ne_eqb c.args.format 1 (search rules))))
    (both g.P.Pieces.pushes g.met.P.Pieces.pushed_further c.push_str.ensures (at_value g.P.Pieces.pushes decimal c.from.ensures c.push_number.ensures))
