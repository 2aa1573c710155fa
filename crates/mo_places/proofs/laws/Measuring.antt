-- What is asked of the conditions and the dimensions of components stands.
use Rattle.std.proofs.Common.{◌≡◌, ℕ, ◌+◌, refl, List, [], ◌∷◌, ◌++◌, map, length, Option, Some, None}
use Rattle.std.specs.Prelude.{nat_eq, take}
use Rattle.mo_syntax.specs.Outcome.{Outcome}
use Rattle.mo_syntax.specs.declared.class.ComponentOf.{ComponentOf}
use Rattle.mo_syntax.specs.declared.class.Give.{Give}
use Rattle.mo_syntax.specs.declared.expr.Expr.{Expr}
use Rattle.mo_syntax.specs.declared.place.Place.{Place}
use Rattle.mo_scope.specs.Frames.{Frame, Scope, Member}
use Rattle.mo_scope.specs.Names.{child_of_member, scope_of_home}
use Rattle.mo_scope.specs.Parts.{Redeclaration}
use Rattle.mo_scope.specs.Rows.{Table, Sort, A_class, A_component, Declares, component_of}
use Rattle.mo_scope.specs.Sizes.{Sizes, declared_sizes, or_original, sizes_if, sizes_in, type_sizes}
use Rattle.mo_typing.specs.Dims.{Dims}
use Rattle.mo_typing.specs.Indices.{Index, is_index}
use Rattle.mo_eval.specs.Components.{binding_dims, binding_of, dim_at, dims_behind, dims_from, dims_of_component, each_dim, is_there, place_of, reader, written_dim}
use Rattle.mo_values.specs.Asked.{any_kind, for_value}
use Rattle.mo_eval.specs.Contexts.{whole_of}
use Rattle.mo_eval.specs.Resolving.{resolved_in}
use Rattle.mo_eval.specs.Virtuals.{Ask}
use Rattle.mo_places.specs.InFiles.{Descends}
use Rattle.mo_places.specs.Resolved.{AskStands, ResolvedStands}
use Rattle.mo_places.specs.Stands.{ChildStands, Answers, Anything, Every, FrameStands, IfAny, MemberStands, PickedStands, RedeclarationStands, SortStands, TableStands, ValueStands}
use Rattle.mo_places.specs.TreeWritten.{in_component, in_subs, in_value}
use Rattle.mo_places.specs.Written.{Written, At, Valued}
use Rattle.mo_places.proofs.laws.Dims.{size_answers}
use Rattle.mo_places.proofs.laws.Layers.{LayersStand, layered_answers, whole_of_answers}
use Rattle.mo_places.proofs.laws.Naming.{child_of_member_stands}
use Rattle.mo_places.proofs.laws.Reading.{ResolvesIn, binds, condition_answers, value_place}
use Rattle.mo_places.proofs.laws.Resolving.{reads_stand}
use Rattle.mo_places.proofs.laws.Standing.{every_append, every_back, every_front, if_answers, then_answers}

-- ---- the expressions of a component

pub component_parts : (P : Written → Type 0) (declares : Declares) → SortStands P declares.sort → IfAny (λ (component : ComponentOf Give). Every P (in_component component)) (component_of declares)
component_parts P declares h = by declares.sort refl h
  where
    by : (sort : Sort) → declares.sort ≡ sort → SortStands P sort → IfAny (λ (component : ComponentOf Give). Every P (in_component component)) (component_of declares)
    by (A_class number encapsulated) is h = rw is tt
    by (A_component component) is h = rw is h.1

pub subs_values : (P : Written → Type 0) (subs : List (Option Expr)) → Every P (in_subs subs) → Every (ValueStands P) subs
subs_values P [] h = tt
subs_values P (None ∷ subs) h = (tt, subs_values P subs h)
subs_values P (Some e ∷ subs) h = (h.0, subs_values P subs h.1)

condition_stands : (P : Written → Type 0) (component : ComponentOf Give) → Every P (in_component component) → ValueStands P component.condition
condition_stands P component h =
    by component.condition (every_back P (in_subs component.base_subs ++ in_subs component.subs ++ in_value component.binding) (in_value component.condition) h)
  where
    by : (condition : Option Expr) → Every P (in_value condition) → ValueStands P condition
    by None h = tt
    by (Some e) h = h.0

-- ---- declared dimensions

pub record SizesStand (P : Written → Type 0) (sizes : Sizes) : Type 0 where
  pub subscripts : Every (ValueStands P) sizes.subscripts
  pub scope : FrameStands P sizes.scope.frame

pub sizes_if_stand : (P : Written → Type 0) (subs : List (Option Expr)) (scope : Scope) → Every (ValueStands P) subs → FrameStands P scope.frame → Every (SizesStand P) (sizes_if subs scope)
sizes_if_stand P [] scope h hf = tt
sizes_if_stand P (sub ∷ subs) scope h hf = (record { subscripts = h; scope = hf }, tt)

sizes_in_stand : (P : Written → Type 0) (component : Option (ComponentOf Give)) (scope : Scope) → IfAny (λ (component : ComponentOf Give). Every P (in_component component)) component → FrameStands P scope.frame → Every (SizesStand P) (sizes_in component scope)
sizes_in_stand P None scope h hf = tt
sizes_in_stand P (Some component) scope h hf =
    let base = in_subs component.base_subs in
    let own = in_subs component.subs in
    let sizes = every_front P (base ++ own) (in_value component.binding) (every_front P (base ++ own ++ in_value component.binding) (in_value component.condition) h) in
    every_append (SizesStand P) (sizes_if component.subs scope) (sizes_if component.base_subs scope)
    (sizes_if_stand P component.subs scope (subs_values P component.subs (every_back P base own sizes)) hf)
    (sizes_if_stand P component.base_subs scope (subs_values P component.base_subs (every_front P base own sizes)) hf)

or_original_stand : (P : Written → Type 0) (sizes original : List Sizes) → Every (SizesStand P) sizes → Every (SizesStand P) original → Every (SizesStand P) (or_original sizes original)
or_original_stand P [] original h ho = ho
or_original_stand P (x ∷ xs) original h ho = h

declared_sizes_stand : (P : Written → Type 0) (member : Member) (wins : Option Redeclaration) → MemberStands P member → IfAny (RedeclarationStands P) wins → Every (SizesStand P) (declared_sizes member wins)
declared_sizes_stand P member None hm h = sizes_in_stand P (component_of member.declares) (scope_of_home member) (component_parts P member.declares hm.declares.sort) hm.home
declared_sizes_stand P member (Some redeclaration) hm h =
    or_original_stand P (sizes_in (component_of redeclaration.declares) redeclaration.source.scope) (sizes_in (component_of member.declares) (scope_of_home member))
    (sizes_in_stand P (component_of redeclaration.declares) redeclaration.source.scope (component_parts P redeclaration.declares h.declares.sort) h.source.1)
    (sizes_in_stand P (component_of member.declares) (scope_of_home member) (component_parts P member.declares hm.declares.sort) hm.home)

-- the dimensions of types: a law of class rows, whose forms hold the dimensions of short classes
abbrev pub TypeSizesStand : (Written → Type 0) → Table → Type 0
TypeSizesStand P table = (frame : Frame) → FrameStands P frame → Every (SizesStand P) (type_sizes table frame)

-- a dimension in its scope
abbrev DimStands : (Written → Type 0) → Scope × Option Expr → Type 0
DimStands P dim = FrameStands P dim.0.frame × ValueStands P dim.1

each_dim_stands : (P : Written → Type 0) (sizes : List Sizes) → Every (SizesStand P) sizes → Every (DimStands P) (each_dim sizes)
each_dim_stands P [] h = tt
each_dim_stands P (one ∷ sizes) h = every_append (DimStands P) (map (λ dim. (one.scope, dim)) one.subscripts) (each_dim sizes) (scoped one.subscripts h.0.subscripts) (each_dim_stands P sizes h.1)
  where
    scoped : (subs : List (Option Expr)) → Every (ValueStands P) subs → Every (DimStands P) (map (λ dim. (one.scope, dim)) subs)
    scoped [] hs = tt
    scoped (sub ∷ subs) hs = ((h.0.scope, hs.0), scoped subs hs.1)

dims_behind_answers : (P : Written → Type 0) (place : Place) → P (At place) → (index : Index) (count : ℕ) (dims : Dims) → Answers P Anything (dims_behind place index count dims)
dims_behind_answers P place hp [] count [] = if_answers P Anything (nat_eq count 0) _ _ (record { holds = tt }) (record { holds = hp })
dims_behind_answers P place hp (k ∷ index) count [] = record { holds = hp }
dims_behind_answers P place hp [] count (n ∷ dims) =
    if_answers P Anything (nat_eq (0 + count) (length (n ∷ dims))) _ _ (record { holds = tt }) (record { holds = hp })
dims_behind_answers P place hp (k ∷ index) count (n ∷ dims) =
    if_answers P Anything (nat_eq (length (k ∷ index) + count) (length (n ∷ dims))) _ _
    (if_answers P Anything (is_index (take (length (k ∷ index)) (n ∷ dims)) (k ∷ index)) _ _ (record { holds = tt }) (record { holds = hp })) (record { holds = hp })

module _ (P : Written → Type 0) (descends : Descends P) (layers : LayersStand P) (table : Table) (stands : TableStands P table) (types : TypeSizesStand P table) (ask : Ask) (asks : AskStands P ask) (resolves : ResolvesIn P table ask) where
  pub is_there_answers : (member : Member) → MemberStands P member → Answers P Anything (is_there table ask member)
  is_there_answers member h = by (component_of member.declares) refl (component_parts P member.declares h.declares.sort)
    where
      among : (component : ComponentOf Give) → component_of member.declares ≡ Some component → (condition : Option Expr) → component.condition ≡ condition → ValueStands P condition → Answers P Anything (is_there table ask member)
      among component is None at hc = rw (is, at) (record { holds = tt })
      among component is (Some e) at hc = rw (is, at) (condition_answers P descends layers table stands ask asks resolves (scope_of_home member) e h.home hc)

      by : (component : Option (ComponentOf Give)) → component_of member.declares ≡ component → IfAny (λ (component : ComponentOf Give). Every P (in_component component)) component → Answers P Anything (is_there table ask member)
      by None is hc = rw is (record { holds = tt })
      by (Some component) is hc = among component is component.condition refl (condition_stands P component hc)

  written_dim_answers : (scope : Scope) (e : Expr) → FrameStands P scope.frame → P (Valued e) → Answers P Anything (written_dim table ask scope e)
  written_dim_answers scope e hf he =
      let hp = value_place P descends e he in
      then_answers P (ResolvedStands P) Anything (resolved_in table ask scope for_value e) _ (resolves scope hf for_value e he) (λ resolved hr.
      then_answers P Anything Anything (whole_of (reader ask) (place_of e) resolved) _ (whole_of_answers P layers (reader ask) (reads_stand P ask asks) (place_of e) hp resolved hr)
      (λ n _. size_answers P (place_of e) n hp))

  binding_dims_answers : (member : Member) (count : ℕ) → MemberStands P member → Answers P Anything (binding_dims table ask member count)
  binding_dims_answers member count h =
      then_answers P (IfAny (PickedStands P)) Anything (binding_of table member []) _ (binds P table stands member [] h)
      (elim [
        | None ↦ λ _. record { holds = h.declares.place }
        | Some binding ↦ λ hb. then_answers P (ResolvedStands P) Anything (resolved_in table ask binding.scope for_value binding.value) _ (resolves binding.scope hb.scope for_value binding.value hb.value) (λ resolved hr.
            layered_answers P layers Anything any_kind (dims_behind (place_of binding.value) binding.pending count) resolved.expression hr.expression (λ kind. record { holds = tt })
            (dims_behind_answers P (place_of binding.value) (value_place P descends binding.value hb.value) binding.pending count))
      ])

  dim_at_answers : (bound : Outcome Dims) (scope : Scope) (place : ℕ) (dim : Option Expr) → Answers P Anything bound → FrameStands P scope.frame → ValueStands P dim → Answers P Anything (dim_at table ask bound scope place dim)
  dim_at_answers bound scope place None hb hf h = then_answers P Anything Anything bound _ hb (λ dims _. record { holds = tt })
  dim_at_answers bound scope place (Some e) hb hf h = written_dim_answers scope e hf h

  dims_from_answers : (bound : Outcome Dims) (place : ℕ) (dims : List (Scope × Option Expr)) → Answers P Anything bound → Every (DimStands P) dims → Answers P Anything (dims_from table ask bound place dims)
  dims_from_answers bound place [] hb h = record { holds = tt }
  dims_from_answers bound place (dim ∷ others) hb h =
      then_answers P Anything Anything (dim_at table ask bound dim.0 place dim.1) _ (dim_at_answers bound dim.0 place dim.1 hb h.0.0 h.0.1) (λ n _.
      then_answers P Anything Anything (dims_from table ask bound (place + 1) others) _ (dims_from_answers bound (place + 1) others hb h.1) (λ ns _. record { holds = tt }))

  pub dims_answer : (member : Member) → MemberStands P member → Answers P Anything (dims_of_component table ask member)
  dims_answer member h =
      then_answers P (ChildStands P) Anything (child_of_member table member []) _ (child_of_member_stands P table stands member [] h) (λ child hc.
      dims_from_answers (binding_dims table ask member (length (each_dim (declared_sizes member child.redeclared ++ type_sizes table child.class)))) 0 (each_dim (declared_sizes member child.redeclared ++ type_sizes table child.class))
      (binding_dims_answers member (length (each_dim (declared_sizes member child.redeclared ++ type_sizes table child.class))) h)
      (each_dim_stands P (declared_sizes member child.redeclared ++ type_sizes table child.class)
      (every_append (SizesStand P) (declared_sizes member child.redeclared) (type_sizes table child.class) (declared_sizes_stand P member child.redeclared h hc.redeclared) (types child.class hc.class))))
