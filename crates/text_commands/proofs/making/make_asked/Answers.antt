use Rattle.text_commands.proofs.KeptTexts.{text-promised}
use Rattle.text_commands.proofs.making.make_asked.Goals as goal

pub returns : goal.returns
returns g c =
    text-promised _ _ _ _ _ _ _ _ _ c.run_text-ending.result _ c.run_text-ending.ensures.runs c.run_text-ending.ensures.read_fault c.run_text-ending.ensures.write_fault c.run_text-ending.ensures.no_disk
    c.run_text-ending.ensures.no_guest c.run_text-ending.ensures.no_rollout c.run_text-ending.ensures.ran c.note.ensures.told c.note.ensures.quiet
