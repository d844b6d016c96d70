use Rattle.rollout_report.proofs.Fullness.{link-fits, table-fits}
use Rattle.rollout_report.proofs.peak_laws.every_peak_fits.Goals as goal

pub returns : goal.returns
returns c = record { links = link-fits; tables = table-fits }
