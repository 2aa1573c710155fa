-- Expressions for the flat model break a rule only where what they are resolved to and what their names stand for break it.
use Rattle.std.proofs.Common.{ℕ, Bool, List, [], ◌∷◌, map, Ok, sym, subst}
use Rattle.mo_syntax.specs.Outcome.{Outcome, and_then}
use Rattle.mo_syntax.specs.declared.expr.Expr.{Expr}
use Rattle.mo_syntax.specs.declared.meaning.Kind.{Kind}
use Rattle.mo_syntax.specs.declared.place.Place.{Place}
use Rattle.mo_flat.specs.declared.expr.FlatExpr.{FlatExpr, FlatExpr-F, fold-roll-FlatExpr, ind-FlatExpr, map-FlatExpr, roll-FlatExpr}
use Rattle.mo_flat.specs.declared.expr.FlatExpr as flat
use Rattle.mo_scope.specs.Frames.{Scope}
use Rattle.mo_scope.specs.Rows.{Table}
use Rattle.mo_typing.specs.Outcome.{each}
use Rattle.mo_typing.specs.Dims.{Dims}
use Rattle.mo_typing.specs.Kinds.{accepts, is_accepted}
use Rattle.mo_typing.specs.Subscripts.{Checked}
use Rattle.mo_typing.specs.Indices.{Index}
use Rattle.mo_arrays.specs.Elements.{element_of}
use Rattle.mo_eval.specs.Virtuals.{Resolved}
use Rattle.mo_values.specs.Asked.{layered}
use Rattle.mo_eval.specs.Values.{resolved}
use Rattle.mo_equations.specs.Replacing.{Replacing, branch_of, flat_at, flat_element, in_list, marked, of_variable, on_two, replaced_node, with_variables}
use Rattle.mo_places.specs.Written.{Written, At, Valued}
use Rattle.mo_places.specs.Stands.{Anything, Every, Answers, FrameStands}
use Rattle.mo_places.proofs.laws.Standing.{if_answers, then_answers}
use Rattle.mo_places.proofs.laws.Making.{any_each, any_ok, any_then}

module _ (P : Written → Type 0) where
  module _ (variable : ℕ → Outcome FlatExpr) (answers : (n : ℕ) → Answers P (Anything {A = FlatExpr}) (variable n)) where
    abbrev Holds : FlatExpr → Type 0
    Holds e = Answers P (Anything {A = FlatExpr}) (with_variables variable e)

    abbrev Kept : Type 0
    Kept = (e : FlatExpr) × Holds e

    abbrev replaced : FlatExpr → Outcome FlatExpr
    replaced = with_variables variable

    abbrev term_of : Bool × FlatExpr → Bool × Outcome FlatExpr
    term_of t = (t.0, replaced t.1)

    abbrev bare_term : Bool × Kept → Bool × FlatExpr
    bare_term t = (t.0, t.1.0)

    abbrev branch_at : FlatExpr × FlatExpr → Outcome FlatExpr × Outcome FlatExpr
    branch_at b = (replaced b.0, replaced b.1)

    abbrev bare_branch : Kept × Kept → FlatExpr × FlatExpr
    bare_branch b = (b.0.0, b.1.0)

    terms_answer : (terms : List (Bool × Kept)) → Every (λ t. Answers P (Anything {A = Bool × FlatExpr}) (marked t)) (map term_of (map bare_term terms))
    terms_answer [] = tt
    terms_answer (t ∷ terms) = (any_then P (replaced t.1.0) (λ e. Ok (t.0, e)) t.1.1 (λ e. any_ok P (t.0, e)), terms_answer terms)

    parts_answer : (parts : List Kept) → Every (λ (part : Outcome FlatExpr). Answers P (Anything {A = FlatExpr}) part) (map replaced (map (λ t. t.0) parts))
    parts_answer [] = tt
    parts_answer (t ∷ parts) = (t.1, parts_answer parts)

    branches_answer : (branches : List (Kept × Kept)) → Every (λ b. Answers P (Anything {A = FlatExpr × FlatExpr}) (branch_of b)) (map branch_at (map bare_branch branches))
    branches_answer [] = tt
    branches_answer (b ∷ branches) = (
      any_then P (replaced b.0.0) (λ condition. and_then (replaced b.1.0) (λ value. Ok (condition, value))) b.0.1 (λ condition.
          any_then P (replaced b.1.0) (λ value. Ok (condition, value)) b.1.1 (λ value. any_ok P (condition, value))),
      branches_answer branches,
    )

    two_answer : (join : FlatExpr → FlatExpr → FlatExpr) (a b : Kept) → Answers P (Anything {A = FlatExpr}) (on_two join (replaced a.0) (replaced b.0))
    two_answer join a b = any_then P (replaced a.0) (λ x. and_then (replaced b.0) (λ y. Ok (join x y))) a.1 (λ x. any_then P (replaced b.0) (λ y. Ok (join x y)) b.1 (λ y. any_ok P (join x y)))

    list_answers : (join : List FlatExpr → FlatExpr) (parts : List Kept) → Answers P (Anything {A = FlatExpr}) (in_list join (map replaced (map (λ t. t.0) parts)))
    list_answers join parts =
        any_then P (each (λ (part : Outcome FlatExpr). part) (map replaced (map (λ t. t.0) parts))) (λ es. Ok (join es)) (any_each P (λ (part : Outcome FlatExpr). part) (map replaced (map (λ t. t.0) parts)) (parts_answer parts)) (λ es. any_ok P (join es))

    node_answers : (y : FlatExpr-F Kept) → Answers P (Anything {A = FlatExpr}) (replaced_node variable (map-FlatExpr FlatExpr (Outcome FlatExpr) replaced (map-FlatExpr Kept FlatExpr (λ t. t.0) y)))
    node_answers (FlatExpr-F.Whole n) = any_ok P (flat.Whole n)
    node_answers (FlatExpr-F.Decimal text) = any_ok P (flat.Decimal text)
    node_answers (FlatExpr-F.Str text) = any_ok P (flat.Str text)
    node_answers (FlatExpr-F.Truth b) = any_ok P (flat.Truth b)
    node_answers (FlatExpr-F.Literal text) = any_ok P (flat.Literal text)
    node_answers FlatExpr-F.Time = any_ok P flat.Time
    node_answers (FlatExpr-F.Var n order) = answers n
    node_answers (FlatExpr-F.Der inner) = any_then P (replaced inner.0) (λ e. Ok (flat.Der e)) inner.1 (λ e. any_ok P (flat.Der e))
    node_answers (FlatExpr-F.Sum terms) =
        any_then P (each marked (map term_of (map bare_term terms))) (λ terms. Ok (flat.Sum terms)) (any_each P marked (map term_of (map bare_term terms)) (terms_answer terms)) (λ terms. any_ok P (flat.Sum terms))
    node_answers (FlatExpr-F.Product factors) =
        any_then P (each marked (map term_of (map bare_term factors))) (λ factors. Ok (flat.Product factors)) (any_each P marked (map term_of (map bare_term factors)) (terms_answer factors)) (λ factors. any_ok P (flat.Product factors))
    node_answers (FlatExpr-F.Power base exponent) = two_answer flat.Power base exponent
    node_answers (FlatExpr-F.Call function args) = list_answers (flat.Call function) args
    node_answers (FlatExpr-F.Relation op left right) = two_answer (flat.Relation op) left right
    node_answers (FlatExpr-F.Not inner) = any_then P (replaced inner.0) (λ e. Ok (flat.Not e)) inner.1 (λ e. any_ok P (flat.Not e))
    node_answers (FlatExpr-F.All parts) = list_answers flat.All parts
    node_answers (FlatExpr-F.Any parts) = list_answers flat.Any parts
    node_answers (FlatExpr-F.If branches other) =
        any_then P (each branch_of (map branch_at (map bare_branch branches))) (λ branches. and_then (replaced other.0) (λ other. Ok (flat.If branches other)))
        (any_each P branch_of (map branch_at (map bare_branch branches)) (branches_answer branches))
        (λ bs. any_then P (replaced other.0) (λ e. Ok (flat.If bs e)) other.1 (λ e. any_ok P (flat.If bs e)))

    rolled : (y : FlatExpr-F Kept) → Holds (roll-FlatExpr (map-FlatExpr Kept FlatExpr (λ t. t.0) y))
    rolled y = subst (Answers P (Anything {A = FlatExpr})) (sym (fold-roll-FlatExpr (Outcome FlatExpr) (replaced_node variable) (map-FlatExpr Kept FlatExpr (λ t. t.0) y))) (node_answers y)

    pub variables_answer : (e : FlatExpr) → Holds e
    variables_answer = ind-FlatExpr Holds (λ x y is. subst (λ z. Holds (roll-FlatExpr z)) is (rolled y))

  -- ---- what is asked of kinds and dimensions

  pub accepts_answers : (want got : Kind) (place : Place) → P (At place) → Answers P (Anything {A = Unit {0}}) (accepts want got place)
  accepts_answers want got place hp = if_answers P (Anything {A = Unit {0}}) (is_accepted want got) _ _ (any_ok P tt) (record { holds = hp })

  -- ---- expressions, over what mo_eval answers of them

  module _ (table : Table) (left : ℕ) (replace : Replacing) (ResolvedStands : Resolved → Type 0)
      (resolved_answers : (scope : Scope) (e : Expr) → FrameStands P scope.frame → P (Valued e) → Answers P ResolvedStands (resolved table left scope e))
      (layered_answers : (wanted : Kind → Checked) (fit : Dims → Checked) (r : Resolved) → ResolvedStands r → ((kind : Kind) → Answers P (Anything {A = Unit {0}}) (wanted kind)) →
      ((dims : Dims) → Answers P (Anything {A = Unit {0}}) (fit dims)) → Answers P (Anything {A = Unit {0}}) (layered wanted fit r.expression))
      (virtuals_answer : (r : Resolved) → ResolvedStands r → (n : ℕ) → Answers P (Anything {A = FlatExpr}) (of_variable replace r.virtuals n)) where
    pub flat_answers : (wanted : Kind → Checked) (fit : Dims → Checked) (scope : Scope) (e : Expr) (index : Index) → FrameStands P scope.frame → P (Valued e) →
        ((kind : Kind) → Answers P (Anything {A = Unit {0}}) (wanted kind)) → ((dims : Dims) → Answers P (Anything {A = Unit {0}}) (fit dims)) →
        Answers P (Anything {A = FlatExpr}) (flat_at table left replace wanted fit scope e index)
    flat_answers wanted fit scope e index hf he hw hd =
        then_answers P ResolvedStands (Anything {A = FlatExpr}) (resolved table left scope e) (λ r. and_then (layered wanted fit r.expression) (λ _. flat_element replace r index)) (resolved_answers scope e hf he)
        (λ r hr. any_then P (layered wanted fit r.expression) (λ _. flat_element replace r index) (layered_answers wanted fit r hr hw hd)
        (λ u. variables_answer (of_variable replace r.virtuals) (virtuals_answer r hr) (element_of r.expression index)))
