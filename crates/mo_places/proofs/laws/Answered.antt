-- What the equations of instances give stands, where what the calls that read values, names and ends answer does.
use Rattle.mo_syntax.specs.declared.expr.Expr.{Expr}
use Rattle.mo_syntax.specs.declared.expr.ReferenceOf.{ReferenceOf}
use Rattle.mo_syntax.specs.declared.place.Place.{Place}
use Rattle.mo_scope.specs.Frames.{Scope}
use Rattle.mo_equations.specs.Leaves.{Tree, place_of_root}
use Rattle.mo_equations.specs.Ends.{connect_of}
use Rattle.mo_equations.specs.Expansion.{expansion_of}
use Rattle.mo_places.specs.Written.{Written, At}
use Rattle.mo_places.specs.Pieces.{in_name}
use Rattle.mo_places.specs.Stands.{Every, Answers, FrameStands, TableStands}
use Rattle.mo_places.specs.InFiles.{Descends}
use Rattle.mo_places.specs.MadeStands.{ConnectStands, ExpandedStands, InstanceStands}
use Rattle.mo_places.proofs.laws.Equations.{CallsStand}
use Rattle.mo_places.proofs.laws.Layers.{LayersStand}
use Rattle.mo_places.proofs.laws.Chosen.{Reads}
use Rattle.mo_places.proofs.laws.Declaring.{all_declared_answer}
use Rattle.mo_places.proofs.laws.Equating.{assert_answer, condition_answer, equalities_answer, index_answer, known_answer}
use Rattle.mo_places.proofs.laws.Expansion.{expansion_stands}

-- a connect stands with its ends, where its names stand
abbrev pub ConnectsStand : (Written → Type 0) → Tree → Type 0
ConnectsStand P tree =
    (scope : Scope) (place : Place) (left right : ReferenceOf Expr) → FrameStands P scope.frame → P (At place) → Every P (in_name left) → Every P (in_name right) →
    Answers P (Every (ConnectStands P)) (connect_of tree scope place left right)

module _ (P : Written → Type 0) (descends : Descends P) (layers : LayersStand P) (tree : Tree) (stands : TableStands P tree.classes) (reads : Reads P tree.classes) (connects : ConnectsStand P tree) where
  calls_stand : CallsStand P tree
  calls_stand = record {
    equalities = equalities_answer P layers descends tree stands reads;
    assert = assert_answer P layers descends tree stands reads;
    connect = connects;
    numbers = index_answer P layers descends tree stands reads;
    known = known_answer P layers descends tree stands reads;
    condition = condition_answer P layers descends tree stands reads;
    declared = all_declared_answer P descends layers tree stands reads;
  }

  pub expansion_answers : P (At (place_of_root tree)) → Every (InstanceStands P) tree.instances → Answers P (ExpandedStands P) (expansion_of tree)
  expansion_answers asked instances = expansion_stands P tree stands descends calls_stand asked instances
