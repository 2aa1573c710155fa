use Rattle.mo_grammar.proofs.Classless.{alike}
use Rattle.mo_grammar.proofs.laws.classes_leave_alone.Goals as goal

pub returns : goal.returns
returns c = λ x e n j k a b w. alike x e n j k a b w
