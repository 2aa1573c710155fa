-- What is written so far.
use Rattle.std.proofs.Common.{◌≡◌, ◌++◌, take, eqb}
use Rattle.mo_pieces.specs.Gathered.{gathered}
use Rattle.mo_pieces.specs.ShownExpressions.{commas}
use Rattle.mo_pieces.specs.ShownModifiers.{pieces_of_name}
use Rattle.mo_unparse.proofs.element.write_names.Given as goal

abbrev pub invariant-loop-name : goal.invariant-loop-name
invariant-loop-name l = (gathered l.out ≡ gathered l.initial.out ++ commas pieces_of_name (take l.name-index l.names)) × (l.first ≡ eqb l.name-index 0)
