-- What is made of calls stands.
use Rattle.std.proofs.Common.{ℕ, ℤ, ◌&&◌, List, [], ◌∷◌, map, length, Option, Some, None, Ok, if◌then◌else◌}
use Rattle.std.specs.Prelude.{fold, nat_eq}
use Rattle.std.specs.List.{list_all}
use Rattle.mo_syntax.specs.Outcome.{Outcome}
use Rattle.mo_syntax.specs.declared.expr.CalleeOf.{CalleeOf}
use Rattle.mo_syntax.specs.declared.expr.CalleeOf.TheVariants.{Named, Der as der, Initial, Pure}
use Rattle.mo_syntax.specs.declared.expr.Expr.{Expr}
use Rattle.mo_syntax.specs.declared.expr.PartOf.{PartOf}
use Rattle.mo_syntax.specs.declared.expr.ReferenceOf.{ReferenceOf}
use Rattle.mo_syntax.specs.declared.meaning.Kind.TheVariants.{Whole as whole_kind}
use Rattle.mo_syntax.specs.declared.place.Place.{Place}
use Rattle.mo_syntax.specs.declared.rules.TheConstants.{OUTSIDE_PROFILE, WRONG_TYPE}
use Rattle.mo_tables.specs.declared.functions.TheConstants.{DIV, FILL, IDENTITY, MOD, NDIMS, ONES, REM, SIZE, ZEROS}
use Rattle.mo_flat.specs.declared.array.ArrayExpr.{ArrayExpr}
use Rattle.mo_flat.specs.declared.array.ArrayNode.TheVariants.{Vars, Call, Size, Sized}
use Rattle.mo_scope.specs.Frames.{Scope}
use Rattle.mo_scope.specs.Lookup.{Found, Component, Class, Literal, Iteration, Function, Time}
use Rattle.mo_scope.specs.Names.{found_reference}
use Rattle.mo_scope.specs.Rows.{Table}
use Rattle.mo_scope.specs.Sizes.{is_nothing}
use Rattle.mo_typing.specs.Dims.{Dims, dims_of, is_scalar, scalars, with_scalar}
use Rattle.mo_typing.specs.Kinds.{is_among, kind_of}
use Rattle.mo_typing.specs.Outcome.{each}
use Rattle.mo_typing.specs.Subscripts.{Checked, fine, subscripts_of}
use Rattle.mo_values.specs.Asked.{checked_operands, is_whole, argument_of_size, operand, read_in}
use Rattle.mo_values.specs.Made.{derivative_of, known_number, takes}
use Rattle.mo_eval.specs.Calls.{division_variable, function_found, function_named, has_subscripts, known_of_operands, last_identifier, made_call, made_division, made_fill, made_function, made_ndims, made_size, made_sized, make_arguments, plain_arguments, read_size, read_sizes, value_of_division}
use Rattle.mo_eval.specs.Contexts.{Part, alone, place_of, whole_of}
use Rattle.mo_eval.specs.References.{identifier}
use Rattle.mo_values.specs.Scalars.{Known}
use Rattle.mo_eval.specs.Virtuals.{Division, Element, Virtual, make_from, make_variables, known_at}
use Rattle.mo_values.specs.declared.context.Context.{Context}
use Rattle.mo_values.specs.declared.value.Scalar.TheVariants.{Whole as whole_scalar, Truth as truth_scalar, Literal as literal_scalar}
use Rattle.mo_places.specs.InFiles.{Descends}
use Rattle.mo_places.specs.Resolved.{ArrayNodeStands, ArrayStands, Makes, PartStands, ReadStands, ResolvedStands, VirtualsStand}
use Rattle.mo_places.specs.Stands.{Answers, Anything, Every, FoundStands, FrameStands, IfAny, TableStands}
use Rattle.mo_places.specs.TreeWritten.{places_of_parts}
use Rattle.mo_places.specs.Written.{Written, At}
use Rattle.mo_places.proofs.laws.Forming.{call_stands, der_stands, size_stands, sized_stands, vars_stand, whole_stands}
use Rattle.mo_places.proofs.laws.Layers.{LayersStand, whole_of_answers}
use Rattle.mo_places.proofs.laws.Making.{alone_stands, broken_makes, each_answers, each_makes, from_makes, if_makes, makes, then_makes, variables_make}
use Rattle.mo_places.proofs.laws.Naming.{found_reference_stands}
use Rattle.mo_places.proofs.laws.Referring.{IdentifierStands, IdentifiersStand}
use Rattle.mo_places.proofs.laws.Standing.{every_map, every_weaker, if_answers, then_answers}

abbrev pub CalleePartStands : (Written → Type 0) → CalleeOf Part → Type 0
CalleePartStands P (Named reference) = IdentifiersStand P reference.parts
CalleePartStands P callee = Unit {0}

abbrev pub SizeStands : (Written → Type 0) → Place × ℤ → Type 0
SizeStands P size = P (At size.0)

-- ---- the function

last_identifier_stands : (P : Written → Type 0) (parts : List (PartOf Part)) → IdentifiersStand P parts → P (At (last_identifier parts))
last_identifier_stands P [] h = h
last_identifier_stands P (part ∷ []) h = h.0.0
last_identifier_stands P (part ∷ next ∷ parts) h = last_identifier_stands P (next ∷ parts) h.1

names_stand : (P : Written → Type 0) (parts : List (PartOf Part)) → IdentifiersStand P parts → Every P (places_of_parts (map identifier parts))
names_stand P [] h = (h, tt)
names_stand P (part ∷ parts) h = (h.0.0, rest parts h.1)
  where
    rest : (parts : List (PartOf Part)) → Every (IdentifierStands P) parts → Every P (map (λ (other : PartOf Expr). At other.place) (map identifier parts))
    rest [] h = tt
    rest (part ∷ parts) h = (h.0.0, rest parts h.1)

function_found_answers : (P : Written → Type 0) (place : Place) (reference : ReferenceOf Part) (found : Found) → P (At place) → IdentifiersStand P reference.parts → Answers P Anything (function_found place reference found)
function_found_answers P place reference (Function code) hp h = if_answers P Anything (has_subscripts reference.parts) _ _ (record { holds = hp }) (record { holds = tt })
function_found_answers P place reference (Class frame replaceable) hp h = record { holds = hp }
function_found_answers P place reference (Component frame member) hp h = record { holds = last_identifier_stands P reference.parts h }
function_found_answers P place reference (Literal class n) hp h = record { holds = last_identifier_stands P reference.parts h }
function_found_answers P place reference (Iteration value) hp h = record { holds = last_identifier_stands P reference.parts h }
function_found_answers P place reference Time hp h = record { holds = last_identifier_stands P reference.parts h }

function_named_answers : (P : Written → Type 0) (table : Table) → TableStands P table → (scope : Scope) → FrameStands P scope.frame → (place : Place) → P (At place) → (reference : ReferenceOf Part) → IdentifiersStand P reference.parts →
    Answers P Anything (function_named table scope place reference)
function_named_answers P table stands scope hf place hp reference h =
    then_answers P (FoundStands P) Anything (found_reference table scope (record { top = reference.top; parts = map identifier reference.parts })) _
    (found_reference_stands P table stands scope (record { top = reference.top; parts = map identifier reference.parts }) (names_stand P reference.parts h) hf)
    (λ found _. function_found_answers P place reference found hp h)

plain_stand : (P : Written → Type 0) (place : Place) (arguments : Option (List Part)) → P (At place) → IfAny (Every (PartStands P)) arguments → Answers P (Every (PartStands P)) (plain_arguments place arguments)
plain_stand P place None hp h = record { holds = hp }
plain_stand P place (Some arguments) hp h = record { holds = h }

-- ---- two scalars

scalars_fold : (P : Written → Type 0) (place : Place) → P (At place) → (dims : List Dims) (so_far : Outcome Dims) → Answers P Anything so_far → Answers P Anything (fold (with_scalar place) so_far dims)
scalars_fold P place hp [] so_far h = h
scalars_fold P place hp (d ∷ dims) so_far h =
    scalars_fold P place hp dims (with_scalar place so_far d)
    (then_answers P Anything Anything so_far _ h (λ _ _. if_answers P Anything (is_scalar d) _ _ (record { holds = tt }) (record { holds = hp })))

module _ (P : Written → Type 0) (descends : Descends P) (layers : LayersStand P) (read : Element → Outcome Known) (reads : ReadStands P read) where
  part_place : (part : Part) → PartStands P part → P (At (place_of part))
  part_place part h = (descends.expression part.0 h.0).0

  pub arguments_make : (context : Context) (arguments : List Part) → Every (PartStands P) arguments → Makes P (Every (ArrayStands P)) (make_arguments context arguments)
  arguments_make context arguments h =
      each_makes P (ArrayStands P) (λ (argument : Part). argument.1 (operand context)) arguments
      (every_weaker (PartStands P) (λ (argument : Part). Makes P (ArrayStands P) (argument.1 (operand context))) (λ argument ha. ha.1 (operand context)) arguments h)

  read_size_answers : (context : Context) (argument : Part) → PartStands P argument → Answers P (SizeStands P) (read_size read context argument)
  read_size_answers context argument h =
      then_answers P (ResolvedStands P) (SizeStands P) (alone argument (read_in context)) _ (alone_stands P argument (read_in context) h) (λ resolved hr.
      then_answers P Anything (SizeStands P) (whole_of read (place_of argument) resolved) _ (whole_of_answers P layers read reads (place_of argument) (part_place argument h) resolved hr)
      (λ n _. record { holds = part_place argument h }))

  read_sizes_answer : (context : Context) (arguments : List Part) → Every (PartStands P) arguments → Answers P (Every (SizeStands P)) (read_sizes read context arguments)
  read_sizes_answer context arguments h =
      each_answers P (SizeStands P) (read_size read context) arguments
      (every_weaker (PartStands P) (λ (argument : Part). Answers P (SizeStands P) (read_size read context argument)) (read_size_answers context) arguments h)

  -- ---- functions of arrays

  size_makes : (context : Context) (place : Place) → P (At place) → (arguments : List Part) → Every (PartStands P) arguments → Makes P (ArrayNodeStands P) (made_size read context place arguments)
  size_makes context place hp [] h = broken_makes P (ArrayNodeStands P) WRONG_TYPE place hp
  size_makes context place hp (array ∷ []) h =
      then_makes P (ArrayStands P) (ArrayNodeStands P) (array.1 (argument_of_size context)) _ (h.0.1 (argument_of_size context)) (λ a ha. makes P (ArrayNodeStands P) (Size a None) (size_stands P a None ha tt))
  size_makes context place hp (array ∷ number ∷ []) h =
      then_makes P (ArrayStands P) (ArrayNodeStands P) (array.1 (argument_of_size context)) _ (h.0.1 (argument_of_size context)) (λ a ha.
      then_makes P (SizeStands P) (ArrayNodeStands P) (make_from (read_size read context number)) _ (from_makes P (SizeStands P) (read_size read context number) (read_size_answers context number h.1.0))
      (λ n hn. makes P (ArrayNodeStands P) (Size a (Some n)) (size_stands P a (Some n) ha hn)))
  size_makes context place hp (array ∷ number ∷ other ∷ others) h =
      then_makes P (ArrayStands P) (ArrayNodeStands P) (array.1 (argument_of_size context)) _ (h.0.1 (argument_of_size context)) (λ a ha.
      then_makes P (SizeStands P) (ArrayNodeStands P) (make_from (read_size read context number)) _ (from_makes P (SizeStands P) (read_size read context number) (read_size_answers context number h.1.0)) (λ n hn.
      then_makes P (Every (ArrayStands P)) (ArrayNodeStands P) (make_arguments context (other ∷ others)) _ (arguments_make context (other ∷ others) h.1.1) (λ made _. broken_makes P (ArrayNodeStands P) WRONG_TYPE place hp)))

  ndims_makes : (context : Context) (place : Place) → P (At place) → (arguments : List Part) → Every (PartStands P) arguments → Makes P (ArrayNodeStands P) (made_ndims context place arguments)
  ndims_makes context place hp [] h = then_makes P (Every (ArrayStands P)) (ArrayNodeStands P) (make_arguments context []) _ (arguments_make context [] h) (λ made _. broken_makes P (ArrayNodeStands P) WRONG_TYPE place hp)
  ndims_makes context place hp (array ∷ []) h =
      then_makes P (ArrayStands P) (ArrayNodeStands P) (array.1 (argument_of_size context)) _ (h.0.1 (argument_of_size context)) (λ a ha. makes P (ArrayNodeStands P) (Call NDIMS (a ∷ [])) (call_stands P NDIMS (a ∷ []) (ha, tt)))
  ndims_makes context place hp (array ∷ other ∷ others) h =
      then_makes P (Every (ArrayStands P)) (ArrayNodeStands P) (make_arguments context (array ∷ other ∷ others)) _ (arguments_make context (array ∷ other ∷ others) h) (λ made _. broken_makes P (ArrayNodeStands P) WRONG_TYPE place hp)

  fill_makes : (context : Context) (place : Place) → P (At place) → (arguments : List Part) → Every (PartStands P) arguments → Makes P (ArrayNodeStands P) (made_fill read context place arguments)
  fill_makes context place hp [] h = broken_makes P (ArrayNodeStands P) WRONG_TYPE place hp
  fill_makes context place hp (filling ∷ sizes) h =
      then_makes P (ArrayStands P) (ArrayNodeStands P) (filling.1 (operand context)) _ (h.0.1 (operand context)) (λ a ha.
      then_makes P (Every (SizeStands P)) (ArrayNodeStands P) (make_from (read_sizes read context sizes)) _ (from_makes P (Every (SizeStands P)) (read_sizes read context sizes) (read_sizes_answer context sizes h.1)) (λ ns hn.
      if_makes P (ArrayNodeStands P) (is_nothing ns) _ _ (broken_makes P (ArrayNodeStands P) WRONG_TYPE place hp) (makes P (ArrayNodeStands P) (Sized FILL (Some a) ns) (sized_stands P FILL (Some a) ns ha hn))))

  sized_makes : (context : Context) (place : Place) → P (At place) → (function : ℕ) (arguments : List Part) → Every (PartStands P) arguments → Makes P (ArrayNodeStands P) (made_sized read context place function arguments)
  sized_makes context place hp function arguments h =
      then_makes P (Every (SizeStands P)) (ArrayNodeStands P) (make_from (read_sizes read context arguments)) _ (from_makes P (Every (SizeStands P)) (read_sizes read context arguments) (read_sizes_answer context arguments h)) (λ ns hn.
      if_makes P (ArrayNodeStands P) (takes function (length ns)) _ _ (makes P (ArrayNodeStands P) (Sized function None ns) (sized_stands P function None ns tt hn)) (broken_makes P (ArrayNodeStands P) WRONG_TYPE place hp))

  -- ---- `div`, `mod` and `rem`

  checked_operands_answer : (place : Place) → P (At place) → (operands : List ArrayExpr) → Every (ArrayStands P) operands → Answers P Anything (checked_operands place operands)
  checked_operands_answer place hp operands h =
      then_answers P (Every Anything) Anything (each kind_of operands) _
      (each_answers P Anything kind_of operands (every_weaker (ArrayStands P) (λ (e : ArrayExpr). Answers P Anything (kind_of e)) layers.kind operands h)) (λ kinds _.
      then_answers P Anything Anything (if nat_eq (length kinds) 2 && list_all is_whole kinds then fine else _) _ (if_answers P Anything (nat_eq (length kinds) 2 && list_all is_whole kinds) fine _ (record { holds = tt }) (record { holds = hp })) (λ _ _.
      then_answers P (Every Anything) Anything (each dims_of operands) _
      (each_answers P Anything dims_of operands (every_weaker (ArrayStands P) (λ (e : ArrayExpr). Answers P Anything (dims_of e)) layers.dims operands h)) (λ dims _.
      then_answers P Anything Anything (scalars place dims) _ (scalars_fold P place hp dims (Ok []) (record { holds = tt })) (λ _ _.
      then_answers P (Every Anything) Anything (each (λ (c : Checked). c) (map subscripts_of operands)) _
      (each_answers P Anything (λ (c : Checked). c) (map subscripts_of operands)
      (every_map (λ (c : Checked). Answers P Anything c) subscripts_of operands (every_weaker (ArrayStands P) (λ (e : ArrayExpr). Answers P Anything (subscripts_of e)) layers.subscripts operands h)))
      (λ _ _. record { holds = tt })))))

  known_of_operands_answers : (place : Place) → P (At place) → (function : ℕ) (operands : List ArrayExpr) (virtuals : List Virtual) → Every (ArrayStands P) operands → VirtualsStand P virtuals →
      Answers P Anything (known_of_operands read place function operands virtuals)
  known_of_operands_answers place hp function [] virtuals h hv = record { holds = hp }
  known_of_operands_answers place hp function (a ∷ []) virtuals h hv = record { holds = hp }
  known_of_operands_answers place hp function (a ∷ b ∷ []) virtuals h hv =
      then_answers P Anything Anything (known_at read (record { expression = a; virtuals = virtuals }) []) _ (layers.known read reads (record { expression = a; virtuals = virtuals }) (record { expression = h.0; virtuals = hv }) []) (λ x _.
      then_answers P Anything Anything (known_at read (record { expression = b; virtuals = virtuals }) []) _ (layers.known read reads (record { expression = b; virtuals = virtuals }) (record { expression = h.1.0; virtuals = hv }) []) (λ y _.
      layers.division place hp function x y))
  known_of_operands_answers place hp function (a ∷ b ∷ c ∷ more) virtuals h hv = record { holds = hp }

  known_number_answers : (place : Place) → P (At place) → (known : Known) → Answers P (ArrayNodeStands P) (known_number place known)
  known_number_answers place hp (Some (whole_scalar n)) = record { holds = whole_stands P n }
  known_number_answers place hp (Some (truth_scalar b)) = record { holds = hp }
  known_number_answers place hp (Some (literal_scalar class n)) = record { holds = hp }
  known_number_answers place hp None = record { holds = hp }

  value_of_division_answers : (context : Context) (place : Place) → P (At place) → (function : ℕ) (arguments : List Part) → Every (PartStands P) arguments → Answers P (ArrayNodeStands P) (value_of_division read context place function arguments)
  value_of_division_answers context place hp function arguments h =
      then_answers P (λ made. Every (ArrayStands P) made.0 × VirtualsStand P made.1) (ArrayNodeStands P) (make_arguments (read_in context) arguments []) _ (arguments_make (read_in context) arguments h [] tt) (λ made hm.
      then_answers P Anything (ArrayNodeStands P) (checked_operands place made.0) _ (checked_operands_answer place hp made.0 hm.0) (λ _ _.
      then_answers P Anything (ArrayNodeStands P) (known_of_operands read place function made.0 made.1) _ (known_of_operands_answers place hp function made.0 made.1 hm.0 hm.1) (λ known _. known_number_answers place hp known)))

  division_variable_makes : (place : Place) → P (At place) → (function : ℕ) (operands : List ArrayExpr) → Every (ArrayStands P) operands → Makes P (ArrayNodeStands P) (division_variable place function operands)
  division_variable_makes place hp function [] h = broken_makes P (ArrayNodeStands P) WRONG_TYPE place hp
  division_variable_makes place hp function (a ∷ []) h = broken_makes P (ArrayNodeStands P) WRONG_TYPE place hp
  division_variable_makes place hp function (a ∷ b ∷ []) h =
      then_makes P Anything (ArrayNodeStands P) (make_variables (Division place function a b ∷ [])) _ (variables_make P (Division place function a b ∷ []) ((hp, h.0, h.1.0), tt))
      (λ variables _. makes P (ArrayNodeStands P) (Vars variables whole_kind [] []) (vars_stand P variables whole_kind [] [] tt))
  division_variable_makes place hp function (a ∷ b ∷ c ∷ more) h = broken_makes P (ArrayNodeStands P) WRONG_TYPE place hp

  division_makes : (context : Context) (place : Place) → P (At place) → (function : ℕ) (arguments : List Part) → Every (PartStands P) arguments → Makes P (ArrayNodeStands P) (made_division read context place function arguments)
  division_makes context place hp function arguments h =
      if_makes P (ArrayNodeStands P) context.flat _ _ (from_makes P (ArrayNodeStands P) (value_of_division read context place function arguments) (value_of_division_answers context place hp function arguments h))
      (then_makes P (Every (ArrayStands P)) (ArrayNodeStands P) (make_arguments (read_in context) arguments) _ (arguments_make (read_in context) arguments h) (λ operands ho.
      then_makes P Anything (ArrayNodeStands P) (make_from (checked_operands place operands)) _ (from_makes P Anything (checked_operands place operands) (checked_operands_answer place hp operands ho))
      (λ _ _. division_variable_makes place hp function operands ho)))

  -- ---- all functions

  function_makes : (context : Context) (place : Place) → P (At place) → (function : ℕ) (arguments : List Part) → Every (PartStands P) arguments → Makes P (ArrayNodeStands P) (made_function read context place function arguments)
  function_makes context place hp function arguments h =
      if_makes P (ArrayNodeStands P) (nat_eq function SIZE) _ _ (size_makes context place hp arguments h)
      (if_makes P (ArrayNodeStands P) (nat_eq function NDIMS) _ _ (ndims_makes context place hp arguments h)
      (if_makes P (ArrayNodeStands P) (nat_eq function FILL) _ _ (fill_makes context place hp arguments h)
      (if_makes P (ArrayNodeStands P) (is_among (IDENTITY ∷ ONES ∷ ZEROS ∷ []) function) _ _ (sized_makes context place hp function arguments h)
      (if_makes P (ArrayNodeStands P) (is_among (DIV ∷ MOD ∷ REM ∷ []) function) _ _ (division_makes context place hp function arguments h)
      (then_makes P (Every (ArrayStands P)) (ArrayNodeStands P) (make_arguments context arguments) _ (arguments_make context arguments h)
      (λ made hm. makes P (ArrayNodeStands P) (Call function made) (call_stands P function made hm)))))))

  derivative_answers : (place : Place) → P (At place) → (arguments : List ArrayExpr) → Every (ArrayStands P) arguments → Answers P (ArrayNodeStands P) (derivative_of place arguments)
  derivative_answers place hp [] h = record { holds = hp }
  derivative_answers place hp (argument ∷ []) h = record { holds = der_stands P argument h.0 }
  derivative_answers place hp (argument ∷ other ∷ others) h = record { holds = hp }

  pub call_makes : (table : Table) → TableStands P table → (scope : Scope) → FrameStands P scope.frame → (context : Context) (place : Place) → P (At place) → (callee : CalleeOf Part) → CalleePartStands P callee →
      (arguments : Option (List Part)) → IfAny (Every (PartStands P)) arguments → Makes P (ArrayNodeStands P) (made_call table scope read context place callee arguments)
  call_makes table stands scope hf context place hp (Named reference) hc arguments h =
      then_makes P Anything (ArrayNodeStands P) (make_from (function_named table scope place reference)) _ (from_makes P Anything (function_named table scope place reference) (function_named_answers P table stands scope hf place hp reference hc)) (λ function _.
      then_makes P (Every (PartStands P)) (ArrayNodeStands P) (make_from (plain_arguments place arguments)) _ (from_makes P (Every (PartStands P)) (plain_arguments place arguments) (plain_stand P place arguments hp h))
      (λ plain hs. function_makes context place hp function plain hs))
  call_makes table stands scope hf context place hp der hc arguments h =
      then_makes P (Every (PartStands P)) (ArrayNodeStands P) (make_from (plain_arguments place arguments)) _ (from_makes P (Every (PartStands P)) (plain_arguments place arguments) (plain_stand P place arguments hp h)) (λ plain hs.
      then_makes P (Every (ArrayStands P)) (ArrayNodeStands P) (make_arguments context plain) _ (arguments_make context plain hs)
      (λ made hm. from_makes P (ArrayNodeStands P) (derivative_of place made) (derivative_answers place hp made hm)))
  call_makes table stands scope hf context place hp Initial hc arguments h = broken_makes P (ArrayNodeStands P) OUTSIDE_PROFILE place hp
  call_makes table stands scope hf context place hp Pure hc arguments h = broken_makes P (ArrayNodeStands P) OUTSIDE_PROFILE place hp
