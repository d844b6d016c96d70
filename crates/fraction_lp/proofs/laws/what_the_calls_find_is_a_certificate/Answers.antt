use Rattle.fraction_lp.proofs.Excluded.{excluded-certificate, excluded-formed, certificate-excludes}
use Rattle.fraction_lp.proofs.laws.what_the_calls_find_is_a_certificate.Goals as goal

pub returns-clause-sound : goal.returns-clause-sound
returns-clause-sound c p ys whole accepted = excluded-certificate p ys whole accepted

pub returns-clause-formed : goal.returns-clause-formed
returns-clause-formed c p ys accepted = excluded-formed p ys accepted

pub returns-clause-complete : goal.returns-clause-complete
returns-clause-complete c p ys certificate formed = certificate-excludes p ys certificate formed
