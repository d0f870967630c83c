use Rattle.hipe_stop.proofs.stack.+written.Given as goal

abbrev pub decreases-written : goal.decreases-written
decreases-written l = l.pages
