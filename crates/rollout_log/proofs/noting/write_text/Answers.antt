use Rattle.std.proofs.Common.{rules, ◌≡◌, ◌∙◌}
use Rattle.rollout_log.proofs.Going.{wrote_all, wrote_part}
use Rattle.rollout_log.proofs.noting.write_text.Goals as goal

pub returns-in-Ok : goal.returns-in-Ok
returns-in-Ok g c =
    let same : c.as_bytes.result.now ≡ c.args.text.now = search rules in
    λ first found ms entries is. wrote_all first found ms entries c.as_bytes.result.now _ _ (same ∙ is) c.in-Ok.ensures.all

pub returns-in-Err : goal.returns-in-Err
returns-in-Err g c =
    let same : c.as_bytes.result.now ≡ c.args.text.now = search rules in
    λ first found ms entries is. wrote_part first found ms entries c.as_bytes.result.now _ _ (same ∙ is) c.in-Err.ensures.part
