use Rattle.mo_symdiff.proofs.reduce.pay_bytes.Goals as goal

pub returns : goal.returns
returns c = rw (← c.in_ok-cost.ensures) c.spend.ensures
