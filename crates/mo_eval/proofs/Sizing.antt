-- `size` by the array and what stands behind it.
use Rattle.std.proofs.Common.{◌≡◌, ℤ, List, [], ◌∷◌, Option, Some, Ok, Err, refl, ap, ◌∙◌}
use Rattle.mo_syntax.specs.Outcome.{Outcome, and_then}
use Rattle.mo_syntax.specs.declared.place.Place.{Place}
use Rattle.mo_flat.specs.declared.array.ArrayExpr.{ArrayExpr}
use Rattle.mo_flat.specs.declared.array.ArrayNode.{ArrayNode}
use Rattle.mo_flat.specs.declared.array.ArrayNode.TheVariants.{Size}
use Rattle.mo_scope.specs.Rows.{Table, table_of}
use Rattle.mo_scope.specs.Frames.{Scope}
use Rattle.mo_scope.specs.Worlds.{World, Grows, IsFrame, table_in}
use Rattle.mo_scope.proofs.Numbered.{frames_stay}
use Rattle.mo_syntax.specs.declared.expr.Arg.{Arg}
use Rattle.mo_syntax.specs.declared.rules.TheConstants.{WRONG_TYPE}
use Rattle.mo_values.specs.declared.context.Context.{Context}
use Rattle.mo_eval.specs.declared.resolve.Site.{Site}
use Rattle.mo_values.specs.Scalars.{Known}
use Rattle.mo_eval.specs.Virtuals.{Element, Virtual}
use Rattle.mo_eval.specs.Values.{reading}
use Rattle.mo_eval.specs.Contexts.{Part}
use Rattle.mo_values.specs.Asked.{argument_of_size}
use Rattle.mo_eval.specs.Calls.{made_size, make_arguments, read_size}
use Rattle.mo_eval.specs.steps.Sites.{plain_in, scope_of}
use Rattle.mo_eval.specs.steps.Calling.{number_of_size, plain}

then_same : {A B : Type 0} (o : Outcome A) (f g : A → Outcome B) → ((a : A) → f a ≡ g a) → and_then o f ≡ and_then o g
then_same (Ok a) f g same = same a
then_same (Err broken) f g same = refl

pub size_by : (read : Element → Outcome Known) (context : Context) (place : Place) (array : Part) (others : List Part) (before : List Virtual) →
    made_size read context place (array ∷ others) before
    ≡ and_then {B = ArrayNode × List Virtual} (array.1 (argument_of_size context) before) (λ a. and_then (number_of_size read context place others a.1) (λ n. Ok (Size a.0 n.0, n.1)))
size_by read context place array [] before = refl
size_by read context place array (n ∷ []) before = then_same (array.1 (argument_of_size context) before) _ _ (λ a. one a (read_size read context n))
  where
    one : (a : ArrayExpr × List Virtual) (o : Outcome (Place × ℤ)) →
        and_then {B = ArrayNode × List Virtual} (and_then {B = (Place × ℤ) × List Virtual} o (λ v. Ok (v, a.1))) (λ made. Ok (Size a.0 (Some made.0), made.1))
        ≡ and_then (and_then {B = Option (Place × ℤ) × List Virtual} (and_then {B = (Place × ℤ) × List Virtual} o (λ v. Ok (v, a.1))) (λ m. Ok (Some m.0, m.1))) (λ n. Ok (Size a.0 n.0, n.1))
    one a (Ok v) = refl
    one a (Err broken) = refl
size_by read context place array (n ∷ m ∷ others) before = then_same (array.1 (argument_of_size context) before) _ _ (λ a. many a (read_size read context n))
  where
    rest : (a : ArrayExpr × List Virtual) (o : Outcome (List ArrayExpr × List Virtual)) →
        and_then {B = ArrayNode × List Virtual} o (λ made. Err (record { rule = WRONG_TYPE; place = place }))
        ≡ and_then (and_then {B = Option (Place × ℤ) × List Virtual} o (λ made. Err (record { rule = WRONG_TYPE; place = place }))) (λ n. Ok (Size a.0 n.0, n.1))
    rest a (Ok made) = refl
    rest a (Err broken) = refl

    many : (a : ArrayExpr × List Virtual) (o : Outcome (Place × ℤ)) →
        and_then {B = ArrayNode × List Virtual} (and_then {B = (Place × ℤ) × List Virtual} o (λ v. Ok (v, a.1))) (λ v. and_then (make_arguments context (m ∷ others) v.1) (λ made. Err (record { rule = WRONG_TYPE; place = place })))
        ≡ and_then (and_then {B = Option (Place × ℤ) × List Virtual} (and_then {B = (Place × ℤ) × List Virtual} o (λ v. Ok (v, a.1))) (λ v. and_then (make_arguments context (m ∷ others) v.1) (λ made. Err (record { rule = WRONG_TYPE; place = place })))) (λ n. Ok (Size a.0 n.0, n.1))
    many a (Ok v) = rest a (make_arguments context (m ∷ others) a.1)
    many a (Err broken) = refl

plain_by : Site → Table → Scope → List Arg → Option (List Part)
plain_by site table scope args = plain table (reading table site.left) scope args

-- arguments at a place whose frame is older
pub same_plain : (old new : World) (site : Site) → Grows old new → IsFrame old site.at.now.frame.0 → (args : List Arg) → plain_in new site args ≡ plain_in old site args
unfolding plain_by
same_plain old new site grows is args =
    ap (λ table. plain_by site table (scope_of new site) args) (ap table_of grows.files)
    ∙ ap (λ frame. plain_by site (table_in old) (record { frame = frame; iterations = site.at.now.iters }) args) (frames_stay old new grows site.at.now.frame.0 is)
