use Rattle.trailed_box.proofs.log.Log.before.Given as goal

abbrev pub decreases-back : goal.decreases-back
decreases-back l = l.count
