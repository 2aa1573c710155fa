-- What is asked of the kind, the dimensions, the subscripts and the value of a resolved expression stands where the expression does.
use Rattle.mo_places.specs.Written.{Written}
use Rattle.mo_places.proofs.laws.Dims.{dims_answers}
use Rattle.mo_places.proofs.laws.Kinds.{kind_answers}
use Rattle.mo_places.proofs.laws.Layers.{LayersStand}
use Rattle.mo_places.proofs.laws.Subscripting.{subscripts_of_answers}
use Rattle.mo_places.proofs.laws.Walking.{division_answers}
use Rattle.mo_places.proofs.laws.values.Knowing.{known_at_answers}

pub layers_stand : (P : Written → Type 0) → LayersStand P
layers_stand P = record {
  kind = kind_answers P;
  dims = dims_answers P;
  subscripts = subscripts_of_answers P;
  division = division_answers P;
  known = λ read reads resolved h index. known_at_answers P read reads resolved h index;
}
