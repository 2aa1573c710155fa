-- The arguments of asserts.
use Rattle.std.proofs.Common.{◌≡◌, ℕ, ℤ, zero, suc, ◌+◌, ◌<◌, ◌≤◌, List, [], ◌∷◌, ◌++◌, drop, get_or, length, Option, Some, None, Result, Ok, Err, refl, ap, subst, sym, ◌∙◌, inl, inr, arith}
use Rattle.std.specs.Borrow.{Bor}
use Rattle.std.specs.Prelude.{◌⊎◌, IfErr, IfOk, IsOk, option_map}
use Rattle.std.proofs.lemmas.List.{append-nil, append_assoc, drop_more}
use Rattle.mo_syntax.specs.declared.expr.Arg.{Arg}
use Rattle.mo_syntax.specs.declared.expr.Arg.TheVariants.{Value, Partial, outs-Value, outs-Partial}
use Rattle.mo_syntax.specs.declared.expr.Expr.{Expr}
use Rattle.mo_syntax.specs.declared.expr.ReferenceOf.{ReferenceOf}
use Rattle.mo_syntax.specs.declared.meaning.Kind.{Kind}
use Rattle.mo_syntax.specs.declared.meaning.Kind.TheVariants.{Truth, Str}
use Rattle.mo_syntax.specs.Outcome.{Outcome, and_then}
use Rattle.mo_syntax.specs.declared.place.NoMemory.{NoMemory}
use Rattle.mo_syntax.specs.declared.place.Stop.{Stop}
use Rattle.mo_syntax.specs.declared.place.Stop.TheVariants.{Broken as broken_by, NoMemory as no_memory}
use Rattle.mo_flat.specs.declared.expr.FlatExpr.{FlatExpr}
use Rattle.mo_scope.specs.Frames.{Frame, Scope}
use Rattle.mo_scope.specs.Worlds.{World, Grows, IsFrame, frames_of, scope_in}
use Rattle.mo_names.proofs.Later.{frame_later}
use Rattle.mo_equations.specs.declared.desk.Desk.{Desk}
use Rattle.mo_equations.specs.declared.flat.Flat.{Flat}
use Rattle.mo_equations.specs.declared.made.Made.{Made as MadeAt}
use Rattle.mo_equations.specs.Asserts.{assertion_level, flat_argument, value_of_argument, values_of, with_value}
use Rattle.mo_equations.specs.Gathering.{made_assert}
use Rattle.mo_equations.specs.Leaves.{Tree}
use Rattle.mo_equations.specs.steps.Asserts.{GivesAssert, IsRest, assert_with_level, level_of, made_with, rest_of, values_seen}
use Rattle.mo_equations.specs.steps.Desks.{Goes, IsDesk}
use Rattle.mo_equations.specs.steps.Standing.{tree_in}
use Rattle.mo_equations.specs.steps.Flats.{Answers, IsFlat}
use Rattle.mo_equations.specs.steps.Makings.{IsFlatOption, IsMade}
use Rattle.mo_equations.proofs.Staying.{same_tree}

-- ---- values

-- the values so far, with those that are left
abbrev pub ValuesLeft : List Arg → ℕ → List (Bor Expr) → Option (List Expr)
ValuesLeft arguments i values = option_map (λ more. values_seen values ++ more) (values_of (drop i arguments))

pub values_start : (arguments : List Arg) → ValuesLeft arguments 0 [] ≡ values_of arguments
values_start arguments = go (values_of arguments)
  where
    go : (o : Option (List Expr)) → option_map (λ more. [] ++ more) o ≡ o
    go (Some more) = refl
    go None = refl

dropped : (arguments : List Arg) (i : ℕ) (argument : Arg) → i < length arguments → argument ≡ get_or arguments i argument → drop i arguments ≡ argument ∷ drop (i + 1) arguments
dropped arguments i argument small at = drop_more arguments i argument small ∙ ap (λ x. x ∷ drop (i + 1) arguments) (sym at)

seen_more : (values : List (Bor Expr)) (e : Bor Expr) → values_seen (values ++ e ∷ []) ≡ values_seen values ++ e.now ∷ []
seen_more [] e = refl
seen_more (x ∷ xs) e = ap (λ es. x.now ∷ es) (seen_more xs e)

pub values_more : (arguments : List Arg) (i : ℕ) (argument : Arg) (values : List (Bor Expr)) (e : Bor Expr) → i < length arguments → argument ≡ get_or arguments i argument → argument ≡ Value e.now →
    ValuesLeft arguments (i + 1) (values ++ e ∷ []) ≡ ValuesLeft arguments i values
values_more arguments i argument values e small at is =
    ap (λ vs. option_map (λ more. vs ++ more) (values_of (drop (i + 1) arguments))) (seen_more values e)
    ∙ go (values_of (drop (i + 1) arguments))
    ∙ sym (ap (λ args. option_map (λ more. values_seen values ++ more) (values_of args)) (dropped arguments i argument small at)
    ∙ ap (λ o. option_map (λ more. values_seen values ++ more) (with_value o (values_of (drop (i + 1) arguments)))) value)
  where
    value : value_of_argument argument ≡ Some e.now
    value = ap value_of_argument is ∙ rw (outs-Value e.now) refl

    go : (o : Option (List Expr)) → option_map (λ more. (values_seen values ++ e.now ∷ []) ++ more) o ≡ option_map (λ more. values_seen values ++ more) (with_value (Some e.now) o)
    go (Some more) = ap (λ es. Some es) (append_assoc (values_seen values) (e.now ∷ []) more)
    go None = refl

pub values_stop : (arguments : List Arg) (i : ℕ) (argument : Arg) (values : List (Bor Expr)) → i < length arguments → argument ≡ get_or arguments i argument → value_of_argument argument ≡ None →
    ValuesLeft arguments i values ≡ None
values_stop arguments i argument values small at none =
    ap (λ args. option_map (λ more. values_seen values ++ more) (values_of args)) (dropped arguments i argument small at)
    ∙ ap (λ o. option_map (λ more. values_seen values ++ more) (with_value o (values_of (drop (i + 1) arguments)))) none

pub partial_none : (function : ReferenceOf Expr) (named : List (List ℕ × Arg)) → value_of_argument (Partial function named) ≡ None
partial_none function named = rw (outs-Partial function named) refl

none_left : (arguments : List Arg) (i : ℕ) → length arguments ≤ i → drop i arguments ≡ []
none_left [] zero above = refl
none_left [] (suc i) above = refl
none_left (x ∷ xs) zero above = let h : suc (length xs) ≤ 0 = above in absurd (omega (arith, h))
none_left (x ∷ xs) (suc i) above = none_left xs i (omega (arith, above))

pub values_end : (arguments : List Arg) (i : ℕ) (values : List (Bor Expr)) → length arguments ≤ i → ValuesLeft arguments i values ≡ Some (values_seen values)
values_end arguments i values above =
    ap (λ args. option_map (λ more. values_seen values ++ more) (values_of args)) (none_left arguments i above) ∙ ap (λ es. Some es) (append-nil (values_seen values))

-- ---- later worlds

pub scope_later : (u v : World) (frame : ℕ) (iters : List (List ℕ × ℤ)) → Grows u v → IsFrame u frame → scope_in (frames_of v) frame iters ≡ scope_in (frames_of u) frame iters
scope_later u v frame iters g is = ap (λ (f : Frame). record { frame = f; iterations = iters }) (frame_later u v frame g is)

pub argument_later : (u v : World) (before after : Desk) (frame : ℕ) (iters : List (List ℕ × ℤ)) (kind : Kind) (e : Expr) → IsDesk u before → Goes u v before after → IsFrame u frame →
    flat_argument (tree_in v after.leaves) (scope_in (frames_of v) frame iters) kind e ≡ flat_argument (tree_in u before.leaves) (scope_in (frames_of u) frame iters) kind e
argument_later u v before after frame iters kind e is goes stands =
    ap (λ (tree : Tree). flat_argument tree (scope_in (frames_of v) frame iters) kind e) (same_tree u v before after is goes)
    ∙ ap (λ (scope : Scope). flat_argument (tree_in u before.leaves) scope kind e) (scope_later u v frame iters goes.grows stands)

pub level_later : (u v : World) (before after : Desk) (frame : ℕ) (iters : List (List ℕ × ℤ)) (e : Option Expr) → IsDesk u before → Goes u v before after → IsFrame u frame →
    level_of (tree_in v after.leaves) (scope_in (frames_of v) frame iters) e ≡ level_of (tree_in u before.leaves) (scope_in (frames_of u) frame iters) e
level_later u v before after frame iters e is goes stands =
    ap (λ (tree : Tree). level_of tree (scope_in (frames_of v) frame iters) e) (same_tree u v before after is goes)
    ∙ ap (λ (scope : Scope). level_of (tree_in u before.leaves) scope e) (scope_later u v frame iters goes.grows stands)

pub rest_later : (u v : World) (before after : Desk) (frame : ℕ) (iters : List (List ℕ × ℤ)) (message : Expr) (level : Option Expr) → IsDesk u before → Goes u v before after → IsFrame u frame →
    rest_of (tree_in v after.leaves) (scope_in (frames_of v) frame iters) message level ≡ rest_of (tree_in u before.leaves) (scope_in (frames_of u) frame iters) message level
rest_later u v before after frame iters message level is goes stands =
    ap (λ (tree : Tree). rest_of tree (scope_in (frames_of v) frame iters) message level) (same_tree u v before after is goes)
    ∙ ap (λ (scope : Scope). rest_of (tree_in u before.leaves) scope message level) (scope_later u v frame iters goes.grows stands)

-- ---- asserts

pub stop_condition : (tree : Tree) (scope : Scope) (condition message : Expr) (level : Option Expr) (stop : Stop) → Answers {T = Flat} IsFlat (Err stop) (flat_argument tree scope Truth condition) →
    GivesAssert (Err stop) (assert_with_level tree scope condition message level)
stop_condition tree scope condition message level (broken_by broken) h = rw h refl
stop_condition tree scope condition message level no_memory h = tt

-- behind a condition that is known
pub assert_by : (tree : Tree) (scope : Scope) (condition message : Expr) (level : Option Expr) (c : FlatExpr) → flat_argument tree scope Truth condition ≡ Ok c →
    and_then (rest_of tree scope message level) (made_with c) ≡ and_then (assert_with_level tree scope condition message level) (λ assert. Ok (made_assert assert))
assert_by tree scope condition message level c p = rw p (go (flat_argument tree scope Str message) (level_of tree scope level))
  where
    go : (m : Outcome FlatExpr) (l : Outcome (Option FlatExpr)) →
        and_then (and_then m (λ m. and_then l (λ l. Ok (m, l)))) (made_with c)
        ≡ and_then (and_then m (λ m. and_then l (λ l. Ok (record { condition = c; message = m; level = l })))) (λ assert. Ok (made_assert assert))
    go (Ok m) (Ok l) = refl
    go (Ok m) (Err broken) = refl
    go (Err broken) l = refl

-- ---- what stands behind the condition

pub rest_halts : {T U A B : Type 0} (P : T → A → Type 0) (Q : U → B → Type 0) (stop : Stop) (told : Outcome A) (f : A → Outcome B) → Answers P (Err stop) told → Answers Q (Err stop) (and_then told f)
rest_halts P Q (broken_by broken) told f h = ap (λ o. and_then o f) h
rest_halts P Q no_memory told f h = tt

pub rest_both : (message : Flat) (level : Result (Option Flat) Stop) (result : Result (Flat × Option Flat) Stop) (m : FlatExpr) (told : Outcome (Option FlatExpr)) →
    IfOk result (λ pair. (◌≡◌ {A = Result Flat Stop} (Ok message) (Ok pair.0)) × (level ≡ Ok pair.1)) → IfErr result (λ error. (◌≡◌ {A = Result Flat Stop} (Ok message) (Err error)) ⊎ (IsOk {T = Flat} {E = Stop} (Ok message) × (level ≡ Err error))) →
    IsFlat message m → Answers IsFlatOption level told → Answers IsRest result (and_then told (λ l. Ok (m, l)))
rest_both message level (Ok pair) m told values error is gives =
    let of = subst (λ (r : Result (Option Flat) Stop). Answers IsFlatOption r told) values.1 gives in
    ((m, of.0), ap (λ o. and_then o (λ l. Ok (m, l))) of.1, (subst (λ (r : Result Flat Stop). IfOk r (λ x. IsFlat x m)) values.0 is, of.2))
rest_both message level (Err stop) m told values (inl clash) is gives = absurd (let no : ◌≡◌ {A = Result Flat Stop} (Ok message) (Err stop) = clash in cc)
rest_both message level (Err stop) m told values (inr e) is gives = rest_halts IsFlatOption IsRest stop told (λ l. Ok (m, l)) (subst (λ (r : Result (Option Flat) Stop). Answers IsFlatOption r told) e.1 gives)

pub rest_made : (result : Result MadeAt Stop) (made : Result MadeAt NoMemory) (c : FlatExpr) (rest : FlatExpr × Option FlatExpr) (told : Outcome (FlatExpr × Option FlatExpr)) →
    IfOk result (λ value. made ≡ Ok value) → IfErr result (λ stop. stop ≡ no_memory) → told ≡ Ok rest →
    IfOk made (λ held. IsMade held (made_assert (record { condition = c; message = rest.0; level = rest.1 }))) → Answers IsMade result (and_then told (made_with c))
rest_made (Ok value) made c rest told same error is held = (
  made_assert (record { condition = c; message = rest.0; level = rest.1 }),
  ap (λ o. and_then o (made_with c)) is,
  subst (λ r. IfOk r (λ held. IsMade held (made_assert (record { condition = c; message = rest.0; level = rest.1 })))) same held,
)
rest_made (Err stop) made c rest told same error is held = rw error tt

pub level_stop : (tree : Tree) (scope : Scope) (e : Expr) (stop : Stop) → Answers {T = Flat} IsFlat (Err stop) (flat_argument tree scope assertion_level e) →
    Answers {T = Option Flat} IsFlatOption (Err stop) (level_of tree scope (Some e))
level_stop tree scope e (broken_by broken) h = rw h refl
level_stop tree scope e no_memory h = tt

pub level_some : (tree : Tree) (scope : Scope) (e : Expr) (flat : Flat) → Answers IsFlat (Ok flat) (flat_argument tree scope assertion_level e) → Answers IsFlatOption (Ok (Some flat)) (level_of tree scope (Some e))
level_some tree scope e flat h = (Some h.0, rw h.1 refl, h.2)
