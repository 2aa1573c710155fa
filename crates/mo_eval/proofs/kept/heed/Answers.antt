use Rattle.mo_eval.proofs.kept.heed.Goals as goal

pub returns : goal.returns
returns c = λ world kept. record { values = kept.values; conditions = kept.conditions; dims = kept.dims; bindings = kept.bindings }
