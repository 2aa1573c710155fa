-- The declared dimensions of a component, and those of its type (Modelica Language Specification 3.5, sections 4.5.1, 7.3 and 10.1).
use Rattle.std.specs.Prelude.{ℕ, zero, suc, Bool, true, false, ◌||◌, List, [], ◌∷◌, ◌++◌, length, sum_by, Option, Some, None, Ok, Err, is_some, unwrap_or, if◌then◌else◌}
use Rattle.mo_syntax.specs.Outcome.{Outcome}
use Rattle.mo_syntax.specs.declared.expr.Expr.{Expr}
use Rattle.mo_syntax.specs.declared.class.Causal.{Causal}
use Rattle.mo_syntax.specs.declared.class.Causal.TheVariants.{None as NoCausality}
use Rattle.mo_syntax.specs.declared.class.ComponentOf.{ComponentOf}
use Rattle.mo_syntax.specs.declared.class.Give.{Give}
use Rattle.mo_syntax.specs.declared.class.Prefix.{Prefix}
use Rattle.mo_syntax.specs.declared.class.Vary.{Vary}
use Rattle.mo_syntax.specs.declared.class.Vary.TheVariants.{Free}
use Rattle.mo_scope.specs.Rows.{Table, Row, row_at, number_of_classes, Form, Short_class, Long_class, component_of, Clause}
use Rattle.mo_scope.specs.Frames.{Frame, Scope, Member, class_of}
use Rattle.mo_scope.specs.Parts.{Redeclaration}
use Rattle.mo_scope.specs.Lookup.{Walked, contains, with_busy}
use Rattle.mo_scope.specs.Names.{walk_of, clauses_of, base_frame_of, scope_of_home}

-- dimensions with the scope of their text, None for `:`
pub record Sizes : Type 0 where
  pub subscripts : List (Option Expr)
  pub scope : Scope

abbrev pub is_nothing : {A : Type 0} → List A → Bool
is_nothing [] = true
is_nothing (x ∷ xs) = false

abbrev pub sizes_if : List (Option Expr) → Scope → List Sizes
sizes_if subscripts scope = if is_nothing subscripts then [] else record { subscripts = subscripts; scope = scope } ∷ []

-- The dimensions behind a component's name, then those behind its type's name.
abbrev pub sizes_in : Option (ComponentOf Give) → Scope → List Sizes
sizes_in None scope = []
sizes_in (Some component) scope = sizes_if component.subs scope ++ sizes_if component.base_subs scope

abbrev pub or_original : List Sizes → List Sizes → List Sizes
or_original [] original = original
or_original (sizes ∷ others) original = sizes ∷ others

-- The dimensions of a redeclaration, if it has any, are in place of those of the original.
abbrev pub declared_sizes : Member → Option Redeclaration → List Sizes
declared_sizes member None = sizes_in (component_of member.declares) (scope_of_home member)
declared_sizes member (Some redeclaration) =
    or_original (sizes_in (component_of redeclaration.declares) redeclaration.source.scope)
    (sizes_in (component_of member.declares) (scope_of_home member))

-- ---- the dimensions of a type

abbrev pub is_leaf : Outcome Walked → Bool
is_leaf (Ok walked) = is_some walked.leaf
is_leaf (Err broken) = false

-- the first base of leaf type
abbrev pub leaf_base : Table → Frame → List Clause → Option Frame
leaf_base table frame [] = None
leaf_base table frame (clause ∷ clauses) = base_or (leaf_base table frame clauses) (base_frame_of table frame clause)
  where
    base_or : Option Frame → Outcome Frame → Option Frame
    base_or others (Ok base) = if is_leaf (walk_of table base) then Some base else others
    base_or others (Err broken) = others

-- those of a class, then those behind its base
abbrev pub behind_own : List Sizes → Option (List Sizes) → Option (List Sizes)
behind_own own None = None
behind_own own (Some sizes) = Some (own ++ sizes)

abbrev pub sizes_of_base : (Frame → Option (List Sizes)) → Option Frame → Option (List Sizes)
sizes_of_base next None = Some []
sizes_of_base next (Some base) = next base

-- Where the base of a short class breaks a rule the class adds no dimensions.
abbrev pub sizes_of_short : (Frame → Option (List Sizes)) → List Sizes → Outcome Frame → Option (List Sizes)
sizes_of_short next own (Ok base) = behind_own own (next base)
sizes_of_short next own (Err broken) = Some []

abbrev pub first_base : Table → Frame → List Clause → Outcome Frame
first_base table frame [] = Ok frame
first_base table frame (clause ∷ clauses) = base_frame_of table frame clause

-- The way goes through a short class to its base, and through a long class of leaf type to its first base of leaf type.
abbrev pub sizes_of_form : Table → (Frame → Option (List Sizes)) → Frame → Form → Option (List Sizes)
sizes_of_form table next frame (Short_class causal subs) =
    sizes_of_short next (sizes_if subs (record { frame = frame; iterations = [] })) (first_base table frame (clauses_of table frame))
sizes_of_form table next frame Long_class =
    if is_leaf (walk_of table frame) then sizes_of_base next (leaf_base table frame (clauses_of table frame)) else Some []
sizes_of_form table next frame other = Some []

abbrev pub sizes_by : Table → (Frame → Option (List Sizes)) → Frame → Option Row → Option (List Sizes)
sizes_by table next frame None = Some []
sizes_by table next frame (Some row) = sizes_of_form table next frame row.form

-- None where the way comes back to a class that stands on it, which breaks rule 18. The number tells how many classes may still be on the
-- way.
unfoldable pub sizes_from : Table → ℕ → List ℕ → Frame → Option (List Sizes)
sizes_from table zero busy frame = None
sizes_from table (suc left) busy frame =
    if contains busy (class_of frame) then None else
    sizes_by table (sizes_from table left (with_busy busy frame)) frame (row_at table (class_of frame))

-- Where the way comes back the type adds no dimensions.
abbrev pub type_sizes : Table → Frame → List Sizes
type_sizes table frame = unwrap_or (sizes_from table (number_of_classes table) [] frame) []

abbrev pub count_sizes : List Sizes → ℕ
count_sizes sizes = sum_by (λ one. length one.subscripts) sizes

-- ---- prefixes

abbrev pub or_vary : Vary → Vary → Vary
or_vary Free original = original
or_vary vary original = vary

abbrev pub or_causal : Causal → Causal → Causal
or_causal NoCausality original = original
or_causal causal original = causal

-- Prefixes that a redeclaration leaves out are those of the original.
abbrev pub prefix_over : Prefix → Prefix → Prefix
prefix_over new original = record {
  flow = new.flow || original.flow;
  stream = new.stream || original.stream;
  vary = or_vary new.vary original.vary;
  causal = or_causal new.causal original.causal;
}
