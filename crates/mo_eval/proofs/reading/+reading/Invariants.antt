use Rattle.mo_eval.proofs.reading.+reading.Given as goal

abbrev pub decreases-reading : goal.decreases-reading
decreases-reading l = l.n
