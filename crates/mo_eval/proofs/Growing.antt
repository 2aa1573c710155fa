-- Frames that are only added leave what is resolved as it is.
use Rattle.std.proofs.Common.{◌≡◌, ℕ, List, [], ◌∷◌, ◌++◌, map, Result, Ok, Err, subst, refl, ap, sym, ◌∙◌, append_assoc}
use Rattle.mo_syntax.specs.Outcome.{Outcome, and_then}
use Rattle.mo_syntax.specs.declared.expr.Expr.{Expr}
use Rattle.mo_syntax.specs.declared.place.Stop.{Stop}
use Rattle.mo_syntax.specs.declared.place.Stop.TheVariants.{Broken as broken_by, NoMemory as no_memory}
use Rattle.mo_flat.specs.declared.array.ArrayExpr.{ArrayExpr}
use Rattle.mo_scope.specs.Rows.{Table, table_of}
use Rattle.mo_scope.specs.Frames.{Scope}
use Rattle.mo_scope.specs.Worlds.{World, Grows, IsFrame, frames_of, table_in}
use Rattle.mo_scope.proofs.Numbered.{frames_stay}
use Rattle.mo_typing.specs.Outcome.{Gives}
use Rattle.mo_values.specs.declared.context.Context.{Context}
use Rattle.mo_eval.specs.declared.resolve.Site.{Site}
use Rattle.mo_eval.specs.declared.virtuals.Virtual.{Virtual as VirtualAt}
use Rattle.mo_eval.specs.Virtuals.{Element, Virtual, Making, make_then, make_each, known_of_virtuals}
use Rattle.mo_eval.specs.Contexts.{Part}
use Rattle.mo_eval.specs.Resolving.{made, make_part, make_parts}
use Rattle.mo_eval.specs.Components.{reader}
use Rattle.mo_values.specs.Scalars.{Known}
use Rattle.mo_eval.specs.Values.{reading}
use Rattle.mo_eval.specs.Seen.{AreThere, virtuals_seen}
use Rattle.mo_eval.specs.steps.Sites.{scope_of, part_in, elements_in, IsMade}
use Rattle.mo_eval.specs.steps.Parts.{made_two}
use Rattle.mo_eval.proofs.Grown.{same_virtuals}

part_by : Site → Table → Scope → Expr → Part
part_by site table scope e = (e, made table (reading table site.left) scope e)

-- expressions at a place whose frame is older
pub same_parts : (old new : World) (site : Site) → Grows old new → IsFrame old site.at.now.frame.0 → part_in new site ≡ part_in old site
unfolding part_by
same_parts old new site grows is =
    ap (λ table. part_by site table (scope_of new site)) (ap table_of grows.files)
    ∙ ap (λ frame. part_by site (table_in old) (record { frame = frame; iterations = site.at.now.iters })) (frames_stay old new grows site.at.now.frame.0 is)

pub same_part : (old new : World) (site : Site) → Grows old new → IsFrame old site.at.now.frame.0 → (e : Expr) → part_in new site e ≡ part_in old site e
same_part old new site grows is e = ap (λ (part : Expr → Part). part e) (same_parts old new site grows is)

-- ---- virtual variables

elements_by : ℕ → Table → Element → Outcome Known
elements_by left table = reader (reading table left)

pub same_elements : (old new : World) (left : ℕ) → Grows old new → elements_in new left ≡ elements_in old left
unfolding elements_by
same_elements old new left grows = ap (elements_by left) (ap table_of grows.files)

pub same_known : (old new : World) (left : ℕ) → Grows old new → (virtuals : List VirtualAt) → AreThere old virtuals →
    known_of_virtuals (elements_in new left) (virtuals_seen (frames_of new) virtuals) ≡ known_of_virtuals (elements_in old left) (virtuals_seen (frames_of old) virtuals)
same_known old new left grows virtuals are =
    ap (λ read. known_of_virtuals read (virtuals_seen (frames_of new) virtuals)) (same_elements old new left grows)
    ∙ ap (λ seen. known_of_virtuals (elements_in old left) seen) (same_virtuals old new grows virtuals are)

-- what is asked of expressions with what elements have
pub same_asked : {X : Type 0} (f : (Element → Outcome Known) → (Expr → Part) → X) (old new : World) (site : Site) → Grows old new → IsFrame old site.at.now.frame.0 →
    f (elements_in new site.left) (part_in new site) ≡ f (elements_in old site.left) (part_in old site)
same_asked f old new site grows is =
    ap (λ read. f read (part_in new site)) (same_elements old new site.left grows) ∙ ap (f (elements_in old site.left)) (same_parts old new site grows is)

-- what is made of expressions
pub same_making : {A : Type 0} (f : (Element → Outcome Known) → (Expr → Part) → Making A) (old new : World) (site : Site) → Grows old new → IsFrame old site.at.now.frame.0 → (virtuals : List VirtualAt) → AreThere old virtuals →
    f (elements_in new site.left) (part_in new site) (virtuals_seen (frames_of new) virtuals) ≡ f (elements_in old site.left) (part_in old site) (virtuals_seen (frames_of old) virtuals)
same_making f old new site grows is virtuals are =
    same_asked (λ read part. f read part (virtuals_seen (frames_of new) virtuals)) old new site grows is
    ∙ ap (f (elements_in old site.left) (part_in old site)) (same_virtuals old new grows virtuals are)

-- a broken rule stays
pub gives_halt : {A B : Type 0} (stop : Stop) (told : Outcome A) (f : A → Outcome B) → Gives {T = A} (Err stop) told → Gives {T = B} (Err stop) (and_then told f)
gives_halt (broken_by broken) told f h = rw h refl
gives_halt no_memory told f h = tt

pub gives_as : {A : Type 0} (answer : Result A Stop) (a b : Outcome A) → a ≡ b → Gives answer a → Gives answer b
gives_as answer a b e h = subst (Gives answer) e h

-- ---- operands one after another

-- what is made so far, with what is made of the others
abbrev pub behind : List ArrayExpr → List ArrayExpr × List Virtual → Outcome (List ArrayExpr × List Virtual)
behind so_far more = Ok (so_far ++ more.0, more.1)

pub parts_go_on : (context : Context) (f : Expr → Part) (so_far : List ArrayExpr) (x : Expr) (xs : List Expr) (before : List Virtual) (y : ArrayExpr) (after : List Virtual) →
    make_part context (f x) before ≡ Ok (y, after) →
    and_then (make_parts context (f x ∷ map f xs) before) (behind so_far) ≡ and_then (make_parts context (map f xs) after) (behind (so_far ++ y ∷ []))
parts_go_on context f so_far x xs before y after h = rw h (go (make_parts context (map f xs) after))
  where
    go : (o : Outcome (List ArrayExpr × List Virtual)) →
        and_then (and_then {B = List ArrayExpr × List Virtual} o (λ ys. Ok (y ∷ ys.0, ys.1))) (behind so_far) ≡ and_then o (behind (so_far ++ y ∷ []))
    go (Ok ys) = ap (λ zs. Ok (zs, ys.1)) (sym (append_assoc so_far (y ∷ []) ys.0))
    go (Err broken) = refl

pub parts_halt : (world : World) (stop : Stop) (virtuals : List VirtualAt) (context : Context) (f : Expr → Part) (so_far : List ArrayExpr) (x : Expr) (xs : List Expr) (before : List Virtual) →
    IsMade {A = ArrayExpr} world (Err stop) virtuals (make_part context (f x) before) →
    IsMade {A = List ArrayExpr} world (Err stop) virtuals (and_then (make_parts context (f x ∷ map f xs) before) (behind so_far))
parts_halt world (broken_by broken) virtuals context f so_far x xs before h = record { is = rw h.is refl }
parts_halt world no_memory virtuals context f so_far x xs before h = record { is = tt }

pub two_halt : (world : World) (stop : Stop) (virtuals : List VirtualAt) (context : Context) (a b : Part) (before between : List Virtual) (x : ArrayExpr) →
    make_part context a before ≡ Ok (x, between) → IsMade {A = ArrayExpr} world (Err stop) virtuals (make_part context b between) →
    IsMade {A = ArrayExpr × ArrayExpr} world (Err stop) virtuals (made_two context a b before)
two_halt world (broken_by broken) virtuals context a b before between x h t = record { is = rw (h, t.is) refl }
two_halt world no_memory virtuals context a b before between x h t = record { is = tt }

pub two_made : (context : Context) (a b : Part) (before between after : List Virtual) (x y : ArrayExpr) →
    make_part context a before ≡ Ok (x, between) → make_part context b between ≡ Ok (y, after) → made_two context a b before ≡ Ok ((x, y), after)
two_made context a b before between after x y h k = rw (h, k) refl

pub made_as : {A : Type 0} (world : World) (answer : Result A Stop) (virtuals : List VirtualAt) (a b : Outcome (A × List Virtual)) → a ≡ b → IsMade world answer virtuals a → IsMade world answer virtuals b
made_as world answer virtuals a b e h = subst (IsMade world answer virtuals) e h

-- the same operand at a place whose frame is older
pub same_made : (world : World) (answer : Result ArrayExpr Stop) (virtuals : List VirtualAt) (context : Context) (p q : Part) (before : List Virtual) → p ≡ q →
    IsMade world answer virtuals (make_part context p before) → IsMade world answer virtuals (make_part context q before)
same_made world answer virtuals context p q before e h = subst (λ (part : Part). IsMade world answer virtuals (make_part context part before)) e h

-- two operands, and what is made of them
pub two_then : {C : Type 0} (context : Context) (a b : Part) (before : List Virtual) (k : ArrayExpr → ArrayExpr → Making C) →
    and_then (made_two context a b before) (λ made. k made.0.0 made.0.1 made.1) ≡ make_then (make_part context a) (λ x. make_then (make_part context b) (λ y. k x y)) before
two_then {C} context a b before k = first (make_part context a before)
  where
    second : (x : ArrayExpr) (o : Outcome (ArrayExpr × List Virtual)) →
        and_then (and_then {B = (ArrayExpr × ArrayExpr) × List Virtual} o (λ n. Ok ((x, n.0), n.1))) (λ made. k made.0.0 made.0.1 made.1) ≡ and_then o (λ n. k x n.0 n.1)
    second x (Ok n) = refl
    second x (Err broken) = refl

    first : (o : Outcome (ArrayExpr × List Virtual)) →
        and_then (and_then {B = (ArrayExpr × ArrayExpr) × List Virtual} o (λ m. and_then (make_part context b m.1) (λ n. Ok ((m.0, n.0), n.1)))) (λ made. k made.0.0 made.0.1 made.1)
        ≡ and_then o (λ m. and_then (make_part context b m.1) (λ n. k m.0 n.0 n.1))
    first (Ok m) = second m.0 (make_part context b m.1)
    first (Err broken) = refl

-- an outcome that makes no variable
pub given_made : {A : Type 0} (world : World) (answer : Result A Stop) (virtuals : List VirtualAt) (told : Outcome A) → Gives answer told →
    IsMade world answer virtuals (and_then told (λ a. Ok (a, virtuals_seen (frames_of world) virtuals)))
given_made world (Ok a) virtuals told h = record { is = rw h refl }
given_made world (Err (broken_by broken)) virtuals told h = record { is = rw h refl }
given_made world (Err no_memory) virtuals told h = record { is = tt }

-- ---- anything one after another

abbrev pub behind_made : {Y : Type 0} → List Y → List Y × List Virtual → Outcome (List Y × List Virtual)
behind_made so_far more = Ok (so_far ++ more.0, more.1)

pub each_go_on : {X Y : Type 0} (g : X → Making Y) (so_far : List Y) (x : X) (xs : List X) (before : List Virtual) (y : Y) (after : List Virtual) →
    g x before ≡ Ok (y, after) →
    and_then (make_each g (x ∷ xs) before) (behind_made so_far) ≡ and_then (make_each g xs after) (behind_made (so_far ++ y ∷ []))
each_go_on {Y = Y} g so_far x xs before y after h = rw h (go (make_each g xs after))
  where
    go : (o : Outcome (List Y × List Virtual)) →
        and_then (and_then {B = List Y × List Virtual} o (λ ys. Ok (y ∷ ys.0, ys.1))) (behind_made so_far) ≡ and_then o (behind_made (so_far ++ y ∷ []))
    go (Ok ys) = ap (λ zs. Ok (zs, ys.1)) (sym (append_assoc so_far (y ∷ []) ys.0))
    go (Err broken) = refl

pub each_halt : {X Y : Type 0} (world : World) (stop : Stop) (virtuals : List VirtualAt) (g : X → Making Y) (so_far : List Y) (x : X) (xs : List X) (before : List Virtual) →
    IsMade {A = Y} world (Err stop) virtuals (g x before) →
    IsMade {A = List Y} world (Err stop) virtuals (and_then (make_each g (x ∷ xs) before) (behind_made so_far))
each_halt world (broken_by broken) virtuals g so_far x xs before h = record { is = rw h.is refl }
each_halt world no_memory virtuals g so_far x xs before h = record { is = tt }

pub halts_through : {A B : Type 0} (world : World) (stop : Stop) (virtuals : List VirtualAt) (told : Outcome (A × List Virtual)) (f : A × List Virtual → Outcome (B × List Virtual)) →
    IsMade {A = A} world (Err stop) virtuals told → IsMade {A = B} world (Err stop) virtuals (and_then told f)
halts_through world (broken_by broken) virtuals told f h = record { is = rw h.is refl }
halts_through world no_memory virtuals told f h = record { is = tt }
