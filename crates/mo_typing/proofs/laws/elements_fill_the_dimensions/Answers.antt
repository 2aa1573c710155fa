use Rattle.mo_typing.proofs.ShapeLaw.{dims_agree}
use Rattle.mo_typing.proofs.laws.elements_fill_the_dimensions.Goals as goal

pub returns : goal.returns
returns c = λ e d asked. dims_agree e d asked
