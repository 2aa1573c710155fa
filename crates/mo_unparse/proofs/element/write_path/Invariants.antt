-- What is written so far.
use Rattle.std.proofs.Common.{◌≡◌, ◌++◌, [], ◌∷◌, take, eqb}
use Rattle.std.specs.Prelude.{codes}
use Rattle.mo_pieces.specs.Pieces.{a_mark}
use Rattle.mo_pieces.specs.Gathered.{gathered}
use Rattle.mo_pieces.specs.ShownExpressions.{joined_by}
use Rattle.mo_pieces.specs.ShownModifiers.{pieces_of_name}
use Rattle.mo_unparse.proofs.element.write_path.Given as goal

abbrev pub invariant-loop-name : goal.invariant-loop-name
invariant-loop-name l = (gathered l.out ≡ gathered l.initial.out ++ joined_by (a_mark (codes ".") ∷ []) pieces_of_name (take l.name-index l.path.0)) × (l.first ≡ eqb l.name-index 0)
