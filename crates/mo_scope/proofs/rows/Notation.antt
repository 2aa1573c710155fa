-- Tables of classes in a notation that reads like the model: each name with its byte in the one file.
use Rattle.std.proofs.Common.{ℕ, pos, Bool, true, false, List, [], ◌∷◌, map, Option, Some, None, Ok, codes}
use Prim.Native.String.{String}
use Rattle.mo_syntax.specs.Outcome.{Outcome, and_then}
use Rattle.mo_syntax.specs.declared.expr.Expr.{Expr, roll-Expr}
use Rattle.mo_syntax.specs.declared.expr.Node.TheVariants.{Whole}
use Rattle.mo_syntax.specs.declared.expr.PartOf.{PartOf}
use Rattle.mo_syntax.specs.declared.expr.ReferenceOf.{ReferenceOf}
use Rattle.mo_syntax.specs.declared.class.ArgumentOf.{ArgumentOf}
use Rattle.mo_syntax.specs.declared.class.Body.{Body}
use Rattle.mo_syntax.specs.declared.class.Body.TheVariants.{Long}
use Rattle.mo_syntax.specs.declared.class.Causal.TheVariants.{None as NoCausality}
use Rattle.mo_syntax.specs.declared.class.ClassDefOf.{ClassDefOf}
use Rattle.mo_syntax.specs.declared.class.ClassKind.TheVariants.{Plain}
use Rattle.mo_syntax.specs.declared.class.ComponentOf.{ComponentOf}
use Rattle.mo_syntax.specs.declared.class.Element.{roll-Element}
use Rattle.mo_syntax.specs.declared.class.ElementFlags.{ElementFlags}
use Rattle.mo_syntax.specs.declared.class.Give.{Give}
use Rattle.mo_syntax.specs.declared.class.Give.TheVariants.{Modify, Redeclare}
use Rattle.mo_syntax.specs.declared.class.Import.{Import}
use Rattle.mo_syntax.specs.declared.class.Vary.{Vary}
use Rattle.mo_syntax.specs.declared.class.Vary.TheVariants.{Free, Constant}
use Rattle.mo_syntax.specs.declared.class.What.TheVariants.{Component}
use Rattle.mo_syntax.specs.declared.place.Place.{Place}
use Rattle.mo_syntax.specs.Classes.{Under}
use Rattle.mo_scope.specs.Rows.{Row, Part, Element_of, Base_of, A_class, A_component, Constraint, Long_class, no_flags, no_modifiers}
use Rattle.mo_scope.specs.Frames.{Frame, Top, In, No_source, Scope, class_of}
use Rattle.mo_scope.specs.Lookup as lookup

-- ---- names

abbrev pub byte : ℕ → Place
byte n = record { file = 1; byte = n }

-- an identifier at a byte
abbrev pub id : String → ℕ → PartOf Expr
id name at = record { name = codes name; place = byte at; subs = [] }

abbrev pub name : List (PartOf Expr) → ReferenceOf Expr
name parts = record { top = false; parts = parts }

-- ---- flags

abbrev pub hidden_flags : ElementFlags
hidden_flags = record { redeclare = false; last = false; inner = false; outer = false; replaceable = false; hidden = true }

abbrev pub replaceable_flags : ElementFlags
replaceable_flags = record { redeclare = false; last = false; inner = false; outer = false; replaceable = true; hidden = false }

-- ---- modifiers

-- NAME = NUMBER
abbrev pub sets : String → ℕ → ℕ → ArgumentOf Give
sets name at value = record {
  each = false;
  last = false;
  name = record { 0 = codes name ∷ [] };
  place = byte at;
  give = Modify (record { 0 = [] }) (Some (roll-Expr (record { place = byte at; node = Whole (pos value) })));
}

abbrev pub typed : Vary → ReferenceOf Expr → String → ℕ → List (ArgumentOf Give) → ComponentOf Give
typed vary type name at arguments = record {
  prefix = record { flow = false; stream = false; vary = vary; causal = NoCausality };
  base = type;
  base_subs = [];
  name = codes name;
  place = byte at;
  subs = [];
  mods = record { 0 = arguments };
  binding = None;
  condition = None;
}

-- redeclare TYPE NAME(ARGUMENTS)
abbrev pub redeclares : ℕ → ReferenceOf Expr → String → ℕ → List (ArgumentOf Give) → ArgumentOf Give
redeclares first type name at arguments = record {
  each = false;
  last = false;
  name = record { 0 = codes name ∷ [] };
  place = byte first;
  give = Redeclare (roll-Element (record { flags = no_flags; what = Component (typed Free type name at arguments); limit = None }));
}

-- ---- the parts of a class

abbrev pub component_by : ElementFlags → Option Constraint → Vary → ReferenceOf Expr → String → ℕ → List (ArgumentOf Give) → Part
component_by flags limit vary type name at arguments = Element_of (record {
  name = codes name;
  place = byte at;
  flags = flags;
  sort = A_component (typed vary type name at arguments);
  own = record { list = arguments; value = None };
  limit = limit;
})

-- TYPE NAME, and constant TYPE NAME
abbrev pub component : ReferenceOf Expr → String → ℕ → Part
component type name at = component_by no_flags None Free type name at []

abbrev pub constant : ReferenceOf Expr → String → ℕ → Part
constant type name at = component_by no_flags None Constant type name at []

abbrev pub class_by : ElementFlags → String → ℕ → ℕ → Part
class_by flags name at number = Element_of (record {
  name = codes name;
  place = byte at;
  flags = flags;
  sort = A_class number false;
  own = no_modifiers;
  limit = None;
})

abbrev pub class : String → ℕ → ℕ → Part
class = class_by no_flags

abbrev pub extends_with : ReferenceOf Expr → List (ArgumentOf Give) → Part
extends_with base arguments = Base_of (record { base = base; mods = record { 0 = arguments }; hidden = false })

abbrev pub extends : ReferenceOf Expr → Part
extends base = extends_with base []

-- ---- classes

abbrev pub class_at : String → ℕ → ClassDefOf Body
class_at name at = record {
  kind = Plain;
  flags = record { encapsulated = false; partial = false; operator = false; expandable = false; purity = None };
  name = codes name;
  place = byte at;
  body = Long None [] false;
}

-- a class by its number, the names of the classes around it, its name with its byte, its imports and its parts
abbrev pub row : ℕ → List String → String → ℕ → List Import → List Part → Row
row number around name at clauses parts = record {
  number = number;
  home = Under (map codes around);
  outermost = is_outermost around;
  class = class_at name at;
  form = Long_class;
  parts = parts;
  replacing = [];
  imports = clauses;
}
  where
    is_outermost : List String → Bool
    is_outermost [] = true
    is_outermost names = false

-- ---- frames

abbrev pub plain : ℕ → Frame → Frame
plain number outer = In number No_source outer None Top

abbrev pub text_of : Frame → Scope
text_of frame = record { frame = frame; iterations = [] }

-- the number of the class that was found
abbrev pub class_found : Outcome lookup.Found → Outcome (Option ℕ)
class_found outcome = and_then outcome (λ found. Ok (number_of found))
  where
    number_of : lookup.Found → Option ℕ
    number_of (lookup.Class frame replaceable) = Some (class_of frame)
    number_of found = None

-- the name of the component that was found
abbrev pub component_found : Outcome lookup.Found → Outcome (Option (List ℕ))
component_found outcome = and_then outcome (λ found. Ok (name_of found))
  where
    name_of : lookup.Found → Option (List ℕ)
    name_of (lookup.Component frame member) = Some member.name
    name_of found = None
