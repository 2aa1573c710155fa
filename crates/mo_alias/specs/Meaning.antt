-- What satisfies a model, and how a choice of numbers for the model without aliases is one for the model: each unknown that is another
-- gets, at every order, the number of that other, or its negation.
use Rattle.std.specs.Prelude.{◌≡◌, ◌↔◌, ℕ, Bool, Contains, ℤ}
use Rattle.mo_flat.specs.declared.model.FlatEquation.{FlatEquation}
use Rattle.mo_flat.specs.declared.model.FlatModel.{FlatModel}
use Rattle.mo_symdiff.specs.Carried.{carried}
use Rattle.mo_symdiff.specs.Dual.{Interpretation, signed, value_in}
use Rattle.mo_alias.specs.declared.found.Aliases.{Aliases}
use Rattle.mo_alias.specs.declared.found.Gone.{Gone}
use Rattle.mo_alias.specs.Numbers.{variable_of}
use Rattle.mo_alias.specs.Without.{place, without}

-- both sides of each equation, with derivatives carried out, have one value
abbrev pub Satisfies : Interpretation → FlatModel → Type 0
Satisfies I m = (q : FlatEquation) → Contains m.equations q → value_in I (carried m.vars q.left) ≡ value_in I (carried m.vars q.right)

-- the numbers of variables by those of what stands in their places
abbrev pub number_at : Interpretation → Bool × ℕ → ℕ → ℤ
number_at I at order = signed at.0 (I.variable at.1 order)

-- an interpretation of the model without aliases as one of the model, by signs
abbrev pub extended : FlatModel → Aliases → Interpretation → Interpretation
extended m a I = record {
  time = I.time;
  variable = λ variable order. number_at I (place m.vars a.gone variable) order;
  decimal = I.decimal;
  string = I.string;
  literal = I.literal;
  function = I.function;
  power = I.power;
  reciprocal = I.reciprocal;
}

-- it gives each unknown that is gone, at every order, the number of the other with its sign
abbrev pub Follows : FlatModel → Aliases → Interpretation → Type 0
Follows m a I = (g : Gone) (order : ℕ) → Contains a.gone g →
    I.variable (variable_of m.vars g.unknown) order ≡ signed g.minus (I.variable (variable_of m.vars g.of) order)

-- it satisfies the model without aliases exactly where its extension satisfies the model
abbrev pub MeansTheSame : FlatModel → Aliases → Interpretation → Type 0
MeansTheSame m a I = Satisfies I (without m a) ↔ Satisfies (extended m a I) m

-- where it satisfies the model and follows the aliases, it is the extension of one that satisfies the model without them
abbrev pub IsExtension : FlatModel → Aliases → Interpretation → Type 0
IsExtension m a J = Satisfies J m → Follows m a J → (I : Interpretation) × (extended m a I ≡ J) × Satisfies I (without m a)
