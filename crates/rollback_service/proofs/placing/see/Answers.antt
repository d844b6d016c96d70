use Rattle.rollback_service.proofs.placing.see.Goals as goal

pub returns : goal.returns
returns g c = record { shows = g.met.D.Disk.shows_one c.args.disk.now; counts = g.met.D.Disk.counts_now c.args.disk.now }
