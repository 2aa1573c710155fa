-- Worked examples of connects, by computation.
use Rattle.std.proofs.Common.{◌≡◌, ℕ, Bool, true, false, List, [], ◌∷◌, Option, Some, None, Ok, codes, refl, ap, ◌∙◌}
use Prim.Native.String.{String}
use Rattle.mo_syntax.specs.declared.class.Body.TheVariants.{Long}
use Rattle.mo_syntax.specs.declared.class.Causal.TheVariants.{None as NoCausality}
use Rattle.mo_syntax.specs.declared.class.ClassKind.TheVariants.{Connector}
use Rattle.mo_syntax.specs.declared.class.ElementFlags.{ElementFlags}
use Rattle.mo_syntax.specs.declared.class.Vary.TheVariants.{Free}
use Rattle.mo_syntax.specs.declared.equation.EquationKind.TheVariants.{Connect}
use Rattle.mo_syntax.specs.declared.expr.Expr.{Expr}
use Rattle.mo_syntax.specs.declared.expr.ReferenceOf.{ReferenceOf}
use Rattle.mo_syntax.specs.declared.meaning.Kind.TheVariants.{Real}
use Rattle.mo_syntax.specs.declared.meaning.Role.TheVariants.{Unknown}
use Rattle.mo_syntax.specs.Classes.{Under}
use Rattle.mo_flat.specs.declared.connect.End.{End}
use Rattle.mo_flat.specs.declared.connect.EndLeaf.{EndLeaf}
use Rattle.mo_flat.specs.declared.connect.Side.{Side}
use Rattle.mo_flat.specs.declared.connect.Side.TheVariants.{Inside, Outside, Neither}
use Rattle.mo_scope.specs.Rows.{Row, Part, Element_of, A_component, Long_class, no_flags, no_modifiers}
use Rattle.mo_scope.specs.Frames.{Frame, Top, In, No_source, Indexed}
use Rattle.mo_scope.specs.Lookup.{walked}
use Rattle.mo_scope.specs.Sizes.{sizes_from}
use Rattle.mo_scope.specs.Instances.{Instance, Leaf}
use Rattle.mo_syntax.specs.declared.rules.TheConstants.{CONDITION_NOT_BOOLEAN}
use Rattle.mo_values.specs.Asked.{for_value, only_scalar, only_truth}
use Rattle.mo_eval.specs.Values.{reading}
use Rattle.mo_equations.specs.Leaves.{Tree}
use Rattle.mo_equations.specs.Connectors.{all_flows}
use Rattle.mo_equations.specs.Equations.{made_kind}
use Rattle.mo_scope.proofs.rows.Notation.{byte, id, name, component, component_by, row}
use Rattle.mo_equations.proofs.EachForm.{at_Connect}
use Rattle.mo_equations.proofs.Scalars.{known_truth, layers, truth_has}
use Rattle.mo_equations.proofs.rows.Notation.{in_class, made_never, never, root}

-- ---- notation

-- flow TYPE NAME
abbrev pub flow_component : ReferenceOf Expr → String → ℕ → Part
flow_component type name at = Element_of (record {
  name = codes name;
  place = byte at;
  flags = no_flags;
  sort = A_component (record {
    prefix = record { flow = true; stream = false; vary = Free; causal = NoCausality };
    base = type;
    base_subs = [];
    name = codes name;
    place = byte at;
    subs = [];
    mods = record { 0 = [] };
    binding = None;
    condition = None;
  });
  own = no_modifiers;
  limit = None;
})

abbrev pub connector : ℕ → String → ℕ → List Part → Row
connector number name at parts = record {
  number = number;
  home = Under [];
  outermost = true;
  class = record {
    kind = Connector;
    flags = record { encapsulated = false; partial = false; operator = false; expandable = false; purity = None };
    name = codes name;
    place = byte at;
    body = Long None [] false;
  };
  form = Long_class;
  parts = parts;
  replacing = [];
  imports = [];
}

abbrev pub at_path : List String → Indexed
at_path [] = []
at_path (name ∷ names) = (codes name, []) ∷ at_path names

-- an element of a component of a class that is declared in this frame
abbrev pub part_of : ℕ → List String → ℕ → Option Leaf → Frame → Instance
part_of class names at leaf owner = record {
  frame = In class No_source Top (Some (at_path names)) owner;
  path = at_path names;
  place = byte at;
  dims = [];
  leaf = leaf;
}

abbrev pub frame_of : ℕ → List String → Frame → Frame
frame_of class names owner = In class No_source Top (Some (at_path names)) owner

abbrev pub number : Option Leaf
number = Some (record { kind = Real; role = Unknown; attributes = []; binding = None })

-- ---- two pins

--     connector Pin Real v; flow Real i; end Pin; model Part Pin a; end Part; model M Pin p; Part q; equation connect(p, q.a); end M;
pub with_pins : Tree
with_pins = record {
  classes =
      connector 6 "Pin" 10 (component (name (id "Real" 14 ∷ [])) "v" 19 ∷ flow_component (name (id "Real" 27 ∷ [])) "i" 32 ∷ []) ∷
      row 7 [] "Part" 50 [] (component (name (id "Pin" 55 ∷ [])) "a" 59 ∷ []) ∷
      row 8 [] "M" 78 [] (component (name (id "Pin" 80 ∷ [])) "p" 84 ∷ component (name (id "Part" 87 ∷ [])) "q" 92 ∷ []) ∷ [];
  instances =
      record { frame = root 8; path = []; place = byte 78; dims = []; leaf = None } ∷
      part_of 6 ("p" ∷ []) 84 None (root 8) ∷
      part_of 0 ("p" ∷ "v" ∷ []) 19 number (frame_of 6 ("p" ∷ []) (root 8)) ∷
      part_of 0 ("p" ∷ "i" ∷ []) 32 number (frame_of 6 ("p" ∷ []) (root 8)) ∷
      part_of 7 ("q" ∷ []) 92 None (root 8) ∷
      part_of 6 ("q" ∷ "a" ∷ []) 59 None (frame_of 7 ("q" ∷ []) (root 8)) ∷
      part_of 0 ("q" ∷ "a" ∷ "v" ∷ []) 19 number (frame_of 6 ("q" ∷ "a" ∷ []) (frame_of 7 ("q" ∷ []) (root 8))) ∷
      part_of 0 ("q" ∷ "a" ∷ "i" ∷ []) 32 number (frame_of 6 ("q" ∷ "a" ∷ []) (frame_of 7 ("q" ∷ []) (root 8))) ∷ [];
}

abbrev pub leaf : String → Bool → ℕ → ℕ → EndLeaf
leaf name flow variable at = record { below = record { 0 = at_path (name ∷ []) }; flow = flow; variable = variable; place = byte at }

-- a pin whose leaves have these numbers
abbrev pub pin : ℕ → Side → ℕ → ℕ → End
pin at side v i = record { place = byte at; side = side; dims = []; elements = (leaf "v" false v 19 ∷ leaf "i" true i 32 ∷ []) ∷ [] }

-- the connector of the class itself is outside, that of its part inside
pub pins_are_connected :
    made_kind with_pins (Connect (name (id "p" 112 ∷ [])) (name (id "q" 115 ∷ id "a" 117 ∷ []))) (byte 104) (in_class 8) 0
    ≡ Ok (record { equations = []; asserts = []; connects = record { place = byte 104; left = pin 112 Outside 1 2; right = pin 115 Inside 3 4 } ∷ [] }, 0)
unfolding walked sizes_from reading with_pins
pins_are_connected =
    ap (λ former. former (byte 104) (in_class 8) 0) (at_Connect with_pins (name (id "p" 112 ∷ [])) (name (id "q" 115 ∷ id "a" 117 ∷ [])))

-- a part is neither
pub parts_are_no_connectors :
    made_kind with_pins (Connect (name (id "p" 112 ∷ [])) (name (id "q" 115 ∷ []))) (byte 104) (in_class 8) 0
    ≡ Ok (
      record {
        equations = [];
        asserts = [];
        connects = record { place = byte 104; left = pin 112 Outside 1 2; right = record { place = byte 115; side = Neither; dims = []; elements = [] } } ∷ [];
      },
      0,
    )
unfolding walked sizes_from reading with_pins
parts_are_no_connectors =
    ap (λ former. former (byte 104) (in_class 8) 0) (at_Connect with_pins (name (id "p" 112 ∷ [])) (name (id "q" 115 ∷ [])))

pub flow_leaves : all_flows with_pins ≡ (2, byte 32) ∷ (4, byte 32) ∷ []
unfolding with_pins
flow_leaves = refl

-- ---- a component that its condition removes

-- TYPE NAME if false
abbrev pub removed_component : ReferenceOf Expr → String → ℕ → ℕ → Part
removed_component type name at at' = Element_of (record {
  name = codes name;
  place = byte at;
  flags = no_flags;
  sort = A_component (record {
    prefix = record { flow = false; stream = false; vary = Free; causal = NoCausality };
    base = type;
    base_subs = [];
    name = codes name;
    place = byte at;
    subs = [];
    mods = record { 0 = [] };
    binding = None;
    condition = Some (never at');
  });
  own = no_modifiers;
  limit = None;
})

--     .. model M Part q if false; equation connect(q.a, q); end M;
pub with_removed : Tree
with_removed = record {
  classes =
      connector 6 "Pin" 10 [] ∷
      row 7 [] "Part" 30 [] (component (name (id "Pin" 35 ∷ [])) "a" 39 ∷ []) ∷
      row 8 [] "M" 58 [] (removed_component (name (id "Part" 60 ∷ [])) "q" 65 70 ∷ []) ∷ [];
  instances = record { frame = root 8; path = []; place = byte 58; dims = []; leaf = None } ∷ [];
}

-- the connect is removed, and its right end is not asked
pub removed_connect :
    made_kind with_removed (Connect (name (id "q" 95 ∷ id "a" 97 ∷ [])) (name (id "z" 100 ∷ []))) (byte 87) (in_class 8) 0
    ≡ Ok (record { equations = []; asserts = []; connects = [] }, 0)
unfolding walked sizes_from reading with_removed
removed_connect =
    ap (λ former. former (byte 87) (in_class 8) 0) (at_Connect with_removed (name (id "q" 95 ∷ id "a" 97 ∷ [])) (name (id "z" 100 ∷ [])))
    ∙ rw (
      made_never with_removed.classes (reading with_removed.classes 255) (in_class 8).scope 70 for_value,
      layers (only_truth CONDITION_NOT_BOOLEAN (byte 70)) (only_scalar CONDITION_NOT_BOOLEAN (byte 70)) _ (truth_has (byte 70) false) refl refl,
      known_truth _ (byte 70) false,
    ) refl

-- ---- an outer component

abbrev pub flags_of : Bool → Bool → ElementFlags
flags_of inner outer = record { redeclare = false; last = false; inner = inner; outer = outer; replaceable = false; hidden = false }

abbrev pub component_flagged : ElementFlags → ReferenceOf Expr → String → ℕ → Part
component_flagged flags type name at = component_by flags None Free type name at []

--     connector Pin Real v; flow Real i; end Pin; model Rail Pin a; end Rail; model Load outer Rail r; Pin p; equation connect(r.a, p); end Load;
--     model M inner Rail r; Load l; end M;
abbrev pub load : Frame
load = frame_of 8 ("l" ∷ []) (root 9)

pub with_rail : Tree
with_rail = record {
  classes =
      connector 6 "Pin" 10 (component (name (id "Real" 14 ∷ [])) "v" 19 ∷ flow_component (name (id "Real" 27 ∷ [])) "i" 32 ∷ []) ∷
      row 7 [] "Rail" 50 [] (component (name (id "Pin" 55 ∷ [])) "a" 59 ∷ []) ∷
      row 8 [] "Load" 77 [] (component_flagged (flags_of false true) (name (id "Rail" 88 ∷ [])) "r" 93 ∷ component (name (id "Pin" 96 ∷ [])) "p" 100 ∷ []) ∷
      row 9 [] "M" 145 [] (component_flagged (flags_of true false) (name (id "Rail" 153 ∷ [])) "r" 158 ∷ component (name (id "Load" 161 ∷ [])) "l" 166 ∷ []) ∷ [];
  instances =
      record { frame = root 9; path = []; place = byte 145; dims = []; leaf = None } ∷
      part_of 7 ("r" ∷ []) 158 None (root 9) ∷
      part_of 6 ("r" ∷ "a" ∷ []) 59 None (frame_of 7 ("r" ∷ []) (root 9)) ∷
      part_of 0 ("r" ∷ "a" ∷ "v" ∷ []) 19 number (frame_of 6 ("r" ∷ "a" ∷ []) (frame_of 7 ("r" ∷ []) (root 9))) ∷
      part_of 0 ("r" ∷ "a" ∷ "i" ∷ []) 32 number (frame_of 6 ("r" ∷ "a" ∷ []) (frame_of 7 ("r" ∷ []) (root 9))) ∷
      part_of 8 ("l" ∷ []) 166 None (root 9) ∷
      part_of 6 ("l" ∷ "p" ∷ []) 100 None load ∷
      part_of 0 ("l" ∷ "p" ∷ "v" ∷ []) 19 number (frame_of 6 ("l" ∷ "p" ∷ []) load) ∷
      part_of 0 ("l" ∷ "p" ∷ "i" ∷ []) 32 number (frame_of 6 ("l" ∷ "p" ∷ []) load) ∷ [];
}

-- the rail of the outer component is a part of the inner one, and inside
pub rail_is_connected :
    made_kind with_rail (Connect (name (id "r" 120 ∷ id "a" 122 ∷ [])) (name (id "p" 125 ∷ []))) (byte 112) (record { scope = record { frame = load; iterations = [] }; undecided = false }) 0
    ≡ Ok (record { equations = []; asserts = []; connects = record { place = byte 112; left = pin 120 Inside 1 2; right = pin 125 Outside 3 4 } ∷ [] }, 0)
unfolding walked sizes_from reading with_rail
rail_is_connected =
    ap (λ former. former (byte 112) (record { scope = record { frame = load; iterations = [] }; undecided = false }) 0)
    (at_Connect with_rail (name (id "r" 120 ∷ id "a" 122 ∷ [])) (name (id "p" 125 ∷ [])))
