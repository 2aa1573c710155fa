-- Functions of arrays by their arguments, one after another.
use Rattle.std.proofs.Common.{◌≡◌, ℕ, ℤ, Bool, true, false, List, [], ◌∷◌, Option, Some, None, Ok, Err, refl, ap, sym, ◌∙◌}
use Rattle.std.specs.Prelude.{◌&&◌, is_some, if◌then◌else◌}
use Rattle.mo_syntax.specs.Outcome.{Outcome, and_then, breaks}
use Rattle.mo_syntax.specs.declared.expr.Args.{Args, out-Args}
use Rattle.mo_syntax.specs.declared.expr.CalleeOf.TheVariants.{Named, Der}
use Rattle.mo_syntax.specs.declared.expr.ReferenceOf.{ReferenceOf}
use Rattle.mo_syntax.specs.declared.place.Place.{Place}
use Rattle.mo_syntax.specs.declared.place.Stop.{Stop}
use Rattle.mo_syntax.specs.declared.place.Stop.TheVariants.{Broken as broken_by, NoMemory as no_memory}
use Rattle.mo_flat.specs.declared.array.ArrayExpr.{ArrayExpr}
use Rattle.mo_flat.specs.declared.array.ArrayNode.{ArrayNode}
use Rattle.mo_scope.specs.Rows.{Table}
use Rattle.mo_scope.specs.Frames.{Scope}
use Rattle.mo_scope.specs.Sizes.{is_nothing}
use Rattle.mo_scope.specs.Worlds.{World}
use Rattle.mo_syntax.specs.declared.rules.TheConstants.{WRONG_TYPE, OUTSIDE_PROFILE}
use Rattle.mo_tables.specs.declared.functions.TheConstants.{FILL}
use Rattle.mo_flat.specs.declared.array.ArrayNode.TheVariants.{Sized}
use Rattle.mo_typing.specs.Outcome.{Gives}
use Rattle.mo_values.specs.declared.context.Context.{Context}
use Rattle.mo_eval.specs.declared.virtuals.Virtual.{Virtual as VirtualAt}
use Rattle.mo_values.specs.Scalars.{Known}
use Rattle.mo_eval.specs.Virtuals.{Ask, Element, Virtual, make, make_from}
use Rattle.mo_eval.specs.Contexts.{Part}
use Rattle.mo_values.specs.Asked.{operand}
use Rattle.mo_eval.specs.Calls.{function_named, made_call, made_fill, made_function, made_ndims, make_arguments, read_size, read_sizes}
use Rattle.mo_eval.specs.Resolving.{is_empty}
use Rattle.mo_eval.specs.steps.Sites.{IsMade}
use Rattle.mo_eval.specs.steps.Parts.{made_arguments}
use Rattle.mo_eval.specs.steps.Calling.{filled_with, is_lone, made_derivative, number_of_size, plain}
use Rattle.mo_eval.proofs.Calling.{not_plain, only_plain}

-- ---- the number of a dimension

pub number_halts : (world : World) (stop : Stop) (virtuals : List VirtualAt) (read : Element → Outcome Known) (context : Context) (place : Place) (number : Part) (others : List Part) (before : List Virtual) →
    Gives {T = Place × ℤ} (Err stop) (read_size read context number) →
    IsMade {A = Option (Place × ℤ)} world (Err stop) virtuals (number_of_size read context place (number ∷ others) before)
number_halts world (broken_by broken) virtuals read context place number [] before h = record { is = rw h refl }
number_halts world (broken_by broken) virtuals read context place number (other ∷ others) before h = record { is = rw h refl }
number_halts world no_memory virtuals read context place number others before h = record { is = tt }

pub number_alone : (read : Element → Outcome Known) (context : Context) (place : Place) (number : Part) (before : List Virtual) (n : Place × ℤ) → read_size read context number ≡ Ok n →
    number_of_size read context place (number ∷ []) before ≡ Ok (Some n, before)
number_alone read context place number before n h = rw h refl

pub number_more_halts : (world : World) (stop : Stop) (virtuals : List VirtualAt) (read : Element → Outcome Known) (context : Context) (place : Place) (number : Part) (parts : List Part) {other : Part} {others : List Part} (before : List Virtual) (n : Place × ℤ) →
    parts ≡ other ∷ others → read_size read context number ≡ Ok n → IsMade {A = List ArrayExpr} world (Err stop) virtuals (make_arguments context parts before) →
    IsMade {A = Option (Place × ℤ)} world (Err stop) virtuals (number_of_size read context place (number ∷ parts) before)
number_more_halts world stop virtuals read context place number [] {other} {others} before n is h k = absurd (let clash : ◌≡◌ {A = List Part} [] (other ∷ others) = is in cc)
number_more_halts world (broken_by broken) virtuals read context place number (x ∷ xs) before n is h k = record { is = rw (h, k.is) refl }
number_more_halts world no_memory virtuals read context place number (x ∷ xs) before n is h k = record { is = tt }

pub number_more : (read : Element → Outcome Known) (context : Context) (place : Place) (number : Part) (parts : List Part) {other : Part} {others : List Part} (before after : List Virtual) (n : Place × ℤ) (made : List ArrayExpr) →
    parts ≡ other ∷ others → read_size read context number ≡ Ok n → make_arguments context parts before ≡ Ok (made, after) →
    number_of_size read context place (number ∷ parts) before ≡ breaks WRONG_TYPE place
number_more read context place number [] {other} {others} before after n made is h k = absurd (let clash : ◌≡◌ {A = List Part} [] (other ∷ others) = is in cc)
number_more read context place number (x ∷ xs) before after n made is h k = rw (h, k) refl

-- ---- `ndims`

pub no_lone : (context : Context) (place : Place) (parts : List Part) (before : List Virtual) → is_lone parts ≡ false →
    made_ndims context place parts before ≡ and_then {B = ArrayNode × List Virtual} (make_arguments context parts before) (λ made. breaks WRONG_TYPE place)
no_lone context place [] before e = refl
no_lone context place (part ∷ []) before e = absurd (cc)
no_lone context place (part ∷ other ∷ others) before e = refl

-- ---- `fill`

pub fill_by : (read : Element → Outcome Known) (context : Context) (place : Place) (filling : Part) (sizes : List Part) (before : List Virtual) →
    made_fill read context place (filling ∷ sizes) before
    ≡ and_then {B = ArrayNode × List Virtual} (filling.1 (operand context) before) (λ made. and_then (read_sizes read context sizes) (λ numbers. and_then (filled_with place made.0 numbers) (λ node. Ok (node, made.1))))
fill_by read context place filling sizes before = first (filling.1 (operand context) before)
  where
    second : (made : ArrayExpr × List Virtual) (o : Outcome (List (Place × ℤ))) →
        and_then {B = ArrayNode × List Virtual} (and_then {B = List (Place × ℤ) × List Virtual} o (λ numbers. Ok (numbers, made.1))) (λ numbers. (if is_nothing numbers.0 then make_from {A = ArrayNode} (breaks WRONG_TYPE place) else make (Sized FILL (Some made.0) numbers.0)) numbers.1)
        ≡ and_then o (λ numbers. and_then (filled_with place made.0 numbers) (λ node. Ok (node, made.1)))
    second made (Ok []) = refl
    second made (Ok (n ∷ ns)) = refl
    second made (Err broken) = refl

    first : (o : Outcome (ArrayExpr × List Virtual)) → and_then {B = ArrayNode × List Virtual} o (λ made. and_then (and_then {B = List (Place × ℤ) × List Virtual} (read_sizes read context sizes) (λ numbers. Ok (numbers, made.1))) (λ numbers. (if is_nothing numbers.0 then make_from {A = ArrayNode} (breaks WRONG_TYPE place) else make (Sized FILL (Some made.0) numbers.0)) numbers.1))
        ≡ and_then o (λ made. and_then (read_sizes read context sizes) (λ numbers. and_then (filled_with place made.0 numbers) (λ node. Ok (node, made.1))))
    first (Ok made) = second made (read_sizes read context sizes)
    first (Err broken) = refl

-- ---- the arguments

module _ (table : Table) (ask : Ask) (scope : Scope) where
  pub are_plain : (args : Args) → is_some (made_arguments table ask scope args) ≡ true → made_arguments table ask scope args ≡ plain table ask scope (out-Args args).plain
  are_plain args e = go (is_empty (out-Args args).named && is_empty (out-Args args).iters) refl
    where
      go : (b : Bool) → (is_empty (out-Args args).named && is_empty (out-Args args).iters) ≡ b → made_arguments table ask scope args ≡ plain table ask scope (out-Args args).plain
      go true is = only_plain table ask scope args is
      go false is = absurd (let clash : ◌≡◌ {A = Bool} true false = sym e ∙ not_plain table ask scope args is in cc)

  pub record ArePlain (args : Args) : Type 0 where
    pub parts : List Part
    pub made : made_arguments table ask scope args ≡ Some parts
    pub is : plain table ask scope (out-Args args).plain ≡ Some parts

  pub plain_parts : (args : Args) → is_some (made_arguments table ask scope args) ≡ true → ArePlain args
  plain_parts args e = go (made_arguments table ask scope args) refl e
    where
      go : (o : Option (List Part)) → made_arguments table ask scope args ≡ o → is_some (made_arguments table ask scope args) ≡ true → ArePlain args
      go (Some parts) is h = record { parts = parts; made = is; is = sym (are_plain args h) ∙ is }
      go None is h = absurd (let clash : ◌≡◌ {A = Bool} false true = sym (ap is_some is) ∙ h in cc)

-- what is read breaks a rule
pub read_halts : {A B : Type 0} (world : World) (stop : Stop) (virtuals : List VirtualAt) (told : Outcome A) (f : A → Outcome (B × List Virtual)) → Gives {T = A} (Err stop) told →
    IsMade {A = B} world (Err stop) virtuals (and_then told f)
read_halts world (broken_by broken) virtuals told f h = record { is = rw h refl }
read_halts world no_memory virtuals told f h = record { is = tt }

-- ---- calls

module _ (table : Table) (scope : Scope) (read : Element → Outcome Known) (context : Context) (place : Place) (reference : ReferenceOf Part) (function : ℕ) where
  pub called_partly : (arguments : Option (List Part)) (before : List Virtual) → function_named table scope place reference ≡ Ok function → arguments ≡ None →
      made_call table scope read context place (Named reference) arguments before ≡ breaks OUTSIDE_PROFILE place
  called_partly arguments before h k = rw (h, k) refl

  pub called_plain : (arguments : Option (List Part)) (parts : List Part) (before : List Virtual) → function_named table scope place reference ≡ Ok function → arguments ≡ Some parts →
      made_call table scope read context place (Named reference) arguments before ≡ made_function read context place function parts before
  called_plain arguments parts before h k = rw (h, k) refl

pub derived_partly : (table : Table) (scope : Scope) (read : Element → Outcome Known) (context : Context) (place : Place) (arguments : Option (List Part)) (before : List Virtual) → arguments ≡ None →
    made_call table scope read context place Der arguments before ≡ breaks OUTSIDE_PROFILE place
derived_partly table scope read context place arguments before k = rw k refl

pub derived_plain : (table : Table) (scope : Scope) (read : Element → Outcome Known) (context : Context) (place : Place) (arguments : Option (List Part)) (parts : List Part) (before : List Virtual) → arguments ≡ Some parts →
    made_call table scope read context place Der arguments before ≡ made_derivative context place parts before
derived_plain table scope read context place arguments parts before k = rw k refl
