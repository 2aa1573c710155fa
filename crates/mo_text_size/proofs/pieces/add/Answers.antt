use Rattle.mo_text_size.proofs.Lengths.{joined}
use Rattle.mo_text_size.proofs.pieces.add.Goals as goal

pub returns : goal.returns
returns c = λ s t h k. joined s t _ _ _ h k c.saturating_add.ensures
