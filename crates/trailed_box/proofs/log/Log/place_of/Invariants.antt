use Rattle.trailed_box.proofs.log.Log.place_of.Given as goal

abbrev pub decreases-back : goal.decreases-back
decreases-back l = l.count
