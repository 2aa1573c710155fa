-- Where instances, what they give, and flat models stand.
use Rattle.std.specs.Prelude.{◌≡◌, ◌⊎◌, map}
use Rattle.mo_flat.specs.declared.connect.Connect.{Connect}
use Rattle.mo_flat.specs.declared.connect.End.{End}
use Rattle.mo_flat.specs.declared.connect.EndLeaf.{EndLeaf}
use Rattle.mo_flat.specs.declared.connect.Expanded.{Expanded}
use Rattle.mo_flat.specs.declared.model.FlatEquation.{FlatEquation}
use Rattle.mo_flat.specs.declared.model.FlatModel.{FlatModel}
use Rattle.mo_scope.specs.Instances.{Chosen, Instance, Leaf}
use Rattle.mo_equations.specs.Gathering.{Made}
use Rattle.mo_equations.specs.Sections.{Section, Equations, Left_out}
use Rattle.mo_equations.specs.Variables.{Declared}
use Rattle.mo_equations.specs.Expansion.{Placed}
use Rattle.mo_places.specs.Written.{Written, At, Stated}
use Rattle.mo_places.specs.TreeWritten.{nowhere}
use Rattle.mo_places.specs.Stands.{Every, IfAny, Answers, FrameStands, PickedStands}
use Rattle.mo_syntax.specs.Outcome.{Outcome, breaks}
use Rattle.mo_syntax.specs.declared.rules.TheConstants.{CLASS_NOT_FOUND}

abbrev pub EquationStands : (Written → Type 0) → FlatEquation → Type 0
EquationStands P equation = P (At equation.place)

-- an end with the declarations of its leaves
pub record EndStands (P : Written → Type 0) (end : End) : Type 0 where
  pub place : P (At end.place)
  pub leaves : Every (Every (λ (leaf : EndLeaf). P (At leaf.place))) end.elements

pub record ConnectStands (P : Written → Type 0) (connect : Connect) : Type 0 where
  pub place : P (At connect.place)
  pub left : EndStands P connect.left
  pub right : EndStands P connect.right

pub record MadeStands (P : Written → Type 0) (made : Made) : Type 0 where
  pub equations : Every (EquationStands P) made.equations
  pub connects : Every (ConnectStands P) made.connects

-- the equations of a section
abbrev pub SectionStands : (Written → Type 0) → Section → Type 0
SectionStands P (Equations initial equations) = Every P (map Stated equations)
SectionStands P Left_out = Unit {0}

pub record PlacedStands (P : Written → Type 0) (placed : Placed) : Type 0 where
  pub frame : FrameStands P placed.frame
  pub name : P (At placed.name)
  pub section : SectionStands P placed.section

-- ---- instances

-- what is chosen for an attribute or a binding
abbrev pub ChosenStands : (Written → Type 0) → Chosen → Type 0
ChosenStands P chosen = PickedStands P chosen

pub record LeafStands (P : Written → Type 0) (leaf : Leaf) : Type 0 where
  pub attributes : Every (λ attribute. ChosenStands P attribute.1) leaf.attributes
  pub binding : IfAny (ChosenStands P) leaf.binding

pub record InstanceStands (P : Written → Type 0) (instance : Instance) : Type 0 where
  pub frame : FrameStands P instance.frame
  pub place : P (At instance.place)
  pub leaf : IfAny (LeafStands P) instance.leaf

-- ---- the whole

pub record DeclaredStands (P : Written → Type 0) (declared : Declared) : Type 0 where
  pub place : P (At declared.variable.place)
  pub equations : Every (EquationStands P) declared.equations

pub record ExpandedStands (P : Written → Type 0) (e : Expanded) : Type 0 where
  pub place : P (At e.place)
  pub variables : Every (λ v. P (At v.place)) e.vars
  pub first : Every (EquationStands P) e.first
  pub equations : Every (EquationStands P) e.equations
  pub connects : Every (ConnectStands P) e.connects.list
  pub flows : Every (λ flow. P (At flow.1)) e.connects.flows

-- a flat model: its name, its variables and its equations
pub record ModelStands (P : Written → Type 0) (m : FlatModel) : Type 0 where
  pub place : P (At m.place)
  pub variables : Every (λ v. P (At v.place)) m.vars
  pub first : Every (EquationStands P) m.first
  pub equations : Every (EquationStands P) m.equations

-- What is told of a path stands; or it is the name of no class, which breaks rule 11 on the command line.
abbrev pub ToldStands : (Written → Type 0) → Outcome FlatModel → Type 0
ToldStands P told = Answers P (ModelStands P) told ⊎ (told ≡ breaks CLASS_NOT_FOUND nowhere)
