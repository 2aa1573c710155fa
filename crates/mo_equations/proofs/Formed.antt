-- The equations of a section, form by form and one after another.
use Rattle.std.proofs.Common.{◌≡◌, ℕ, ℤ, ◌+◌, ◌<◌, ◌≤◌, Bool, true, false, List, [], ◌∷◌, ◌++◌, map, take, length, get_or, Result, Ok, Err, nat_lt, ltb-true, ltb-false, refl, ap, sym, subst, ◌∙◌, arith}
use Rattle.std.proofs.lemmas.List.{take_more}
use Rattle.mo_syntax.specs.Outcome.{IfBroken, Outcome, and_then, breach, breaks}
use Rattle.mo_syntax.specs.declared.equation.EquationKind.{EquationKind}
use Rattle.mo_syntax.specs.declared.equation.EquationOf.{EquationOf}
use Rattle.mo_syntax.specs.declared.expr.Expr.{Expr}
use Rattle.mo_syntax.specs.declared.expr.IndexOf.{IndexOf}
use Rattle.mo_syntax.specs.declared.expr.ReferenceOf.{ReferenceOf}
use Rattle.mo_syntax.specs.declared.place.Broken.{Broken}
use Rattle.mo_syntax.specs.declared.place.Place.{Place}
use Rattle.mo_syntax.specs.declared.place.Stop.{Stop}
use Rattle.mo_syntax.specs.declared.place.Stop.TheVariants.{Broken as broken_by, NoMemory as no_memory}
use Rattle.mo_flat.specs.declared.expr.FlatExpr.{FlatExpr}
use Rattle.mo_scope.specs.Frames.{Frame}
use Rattle.mo_flat.specs.declared.connect.Connect.{Connect}
use Rattle.mo_scope.specs.Outcome as seen
use Rattle.mo_scope.specs.declared.source.ScopeAt.{ScopeAt}
use Rattle.mo_scope.specs.Worlds.{World, Grows, IsFrame, frames_of, scope_in}
use Rattle.mo_names.proofs.Later.{frame_later}
use Rattle.mo_typing.specs.Outcome as told
use Rattle.mo_syntax.specs.declared.rules.TheConstants.{FLAT_MODEL_TOO_LARGE}
use Rattle.mo_equations.specs.declared.desk.Desk.{Desk}
use Rattle.mo_equations.specs.declared.flat.Flat.{Flat}
use Rattle.mo_equations.specs.declared.forms.Site.{Site as SiteAt}
use Rattle.mo_equations.specs.declared.made.Made.{Made as MadeAt}
use Rattle.mo_equations.specs.Ends.{connect_of}
use Rattle.mo_equations.specs.Equations.{Site, flat_condition, in_branch, made_connect, made_loop, numbers_of_index, with_iteration}
use Rattle.mo_equations.specs.Gathering.{Made, Turning, gathered, made_connects, most_turns, one_turn, turn_each, turn_none, turn_then}
use Rattle.mo_equations.specs.Joining.{Choice, made_if}
use Rattle.mo_equations.specs.Leaves.{Tree, place_of_root}
use Rattle.mo_equations.specs.steps.Flats.{Answers, IsFlat}
use Rattle.mo_equations.specs.steps.Makings.{IsMade}
use Rattle.mo_equations.specs.steps.Turns.{GivesBranch, GivesChoice, GivesMade, all_made_at, site_in, undecided_at}
use Rattle.mo_equations.specs.steps.Desks.{Goes, IsDesk}
use Rattle.mo_equations.specs.steps.Standing.{tree_in}
use Rattle.mo_equations.proofs.Staying.{same_tree}
use Rattle.mo_equations.proofs.Turning.{Gathers, turn_halts}

-- ---- later worlds

pub same_site : (u v : World) (site : SiteAt) → Grows u v → IsFrame u site.at.now.frame.0 → site_in (frames_of v) site ≡ site_in (frames_of u) site
same_site u v site g is =
    ap (λ (frame : Frame). record { scope = record { frame = frame; iterations = site.at.now.iters }; undecided = site.undecided }) (frame_later u v site.at.now.frame.0 g is)

-- ---- answers

pub made_as : (result : Result MadeAt Stop) (desk : Desk) (o o' : Outcome (Made × ℕ)) → o ≡ o' → GivesMade result desk o → GivesMade result desk o'
made_as result desk o o' e h = subst (GivesMade result desk) e h

-- what takes no turn
pub made_none : (result : Result MadeAt Stop) (desk : Desk) (o : Outcome Made) (turns : ℕ) → desk.turns ≡ turns → Answers IsMade result o → GivesMade result desk (turn_none o turns)
made_none (Ok held) desk o turns same h = (h.0, rw h.1 (ap (λ (t : ℕ). Ok (h.0, t)) (sym same)), h.2)
made_none (Err (broken_by broken)) desk o turns same h = rw h refl
made_none (Err no_memory) desk o turns same h = tt

-- a stop before anything was made
pub made_halts : {T A : Type 0} (Is : T → A → Type 0) (desk : Desk) (o : Outcome A) (f : A → Turning Made) (turns : ℕ) (stop : Stop) → Answers {T = T} Is (Err stop) o →
    GivesMade (Err stop) desk (turn_then (turn_none o) f turns)
made_halts Is desk o f turns (broken_by broken) h = rw h refl
made_halts Is desk o f turns no_memory h = tt

pub made_stops : {T A : Type 0} (view : T → A) (desk : Desk) (o : Outcome A) (f : A → Turning Made) (turns : ℕ) (stop : Stop) →
    told.Gives {T = A} (Err stop) o → GivesMade (Err stop) desk (turn_then (turn_none o) f turns)
made_stops view desk o f turns (broken_by broken) h = rw h refl
made_stops view desk o f turns no_memory h = tt

-- ---- one after another

module _ {A : Type 0} (make : A → Turning Made) (xs ys : List A) (x : A) (turns after : ℕ) (made : Made) (g : Gathers make xs turns made after) where
  halted : (broken : Broken) → make x after ≡ Err broken → gathered make (xs ++ x ∷ ys) turns ≡ Err broken
  halted broken h =
      let one : turn_each make (x ∷ ys) after ≡ Err broken = rw h refl in
      let all : turn_each make (xs ++ x ∷ ys) turns ≡ Err broken = turn_halts make xs (x ∷ ys) turns after g.each broken g.is one in
      rw all refl

  pub gathers_stop : (before desk : Desk) (stop : Stop) → GivesMade (Err stop) before (make x after) → GivesMade (Err stop) desk (gathered make (xs ++ x ∷ ys) turns)
  gathers_stop before desk (broken_by broken) h = halted broken h
  gathers_stop before desk no_memory h = tt

-- mapped up to a place, and the one there
pub mapped_taken : {A B : Type 0} (f : A → B) (xs : List A) (i : ℕ) (x d : A) → i < length xs → x ≡ get_or xs i d → map f (take (i + 1) xs) ≡ map f (take i xs) ++ f x ∷ []
mapped_taken {A} {B} f xs i x d small is =
    ap (map f) (take_more xs i d small ∙ ap (λ (y : A). take i xs ++ y ∷ []) (sym is)) ∙ go (take i xs)
  where
    go : (zs : List A) → map f (zs ++ x ∷ []) ≡ map f zs ++ f x ∷ []
    go [] = refl
    go (z ∷ zs) = ap (λ (bs : List B). f z ∷ bs) (go zs)

pub mapped_split : {A B : Type 0} (f : A → B) (xs ys : List A) (x : A) → map f (xs ++ x ∷ ys) ≡ map f xs ++ f x ∷ map f ys
mapped_split f [] ys x = refl
mapped_split {A} {B} f (z ∷ zs) ys x = ap (λ (bs : List B). f z ∷ bs) (mapped_split f zs ys x)

-- ---- forms

-- an if-equation, where a choice is left
pub if_made : (result : Result MadeAt Stop) (desk : Desk) (o : Outcome (Choice × ℕ)) (place : Place) (choice : Choice) → o ≡ Ok (choice, desk.turns) →
    Answers IsMade result (made_if place choice) → GivesMade result desk (and_then o (λ c. turn_none (made_if place c.0) c.1))
if_made (Ok held) desk o place choice e h = (h.0, rw (e, h.1) refl, h.2)
if_made (Err (broken_by broken)) desk o place choice e h = rw (e, h) refl
if_made (Err no_memory) desk o place choice e h = tt

pub if_halts : (desk later : Desk) (o : Outcome (Choice × ℕ)) (place : Place) (stop : Stop) → GivesChoice (Err stop) later o →
    GivesMade (Err stop) desk (and_then o (λ c. turn_none (made_if place c.0) c.1))
if_halts desk later o place (broken_by broken) h = rw h refl
if_halts desk later o place no_memory h = tt

-- ---- loops

module _ (tree : Tree) (place : Place) (index : IndexOf Expr) (indices : List (IndexOf Expr)) (body : Site → Turning Made) (site : Site) (turns : ℕ) where
  abbrev turned : List ℤ → Turning Made
  turned numbers = gathered (λ n. one_turn (place_of_root tree) (made_loop tree place indices body (with_iteration site index.name n))) numbers

  pub loop_then : (result : Result MadeAt Stop) (desk : Desk) (numbers : List ℤ) → numbers_of_index tree place site.scope index.range ≡ Ok numbers →
      GivesMade result desk (turned numbers turns) → GivesMade result desk (made_loop tree place (index ∷ indices) body site turns)
  loop_then result desk numbers h next = subst (GivesMade result desk) (sym (rw h refl)) next

-- one more turn
pub turn_taken : (asked : Place) (turn : Turning Made) (turns : ℕ) → turns < most_turns → one_turn asked turn turns ≡ turn (turns + 1)
turn_taken asked turn turns small = go (nat_lt turns most_turns) refl
  where
    go : (b : Bool) → nat_lt turns most_turns ≡ b → one_turn asked turn turns ≡ turn (turns + 1)
    go true is = rw is refl
    go false is = absurd (omega (arith, small, ltb-false turns most_turns is))

pub turn_refused : (asked : Place) (turn : Turning Made) (turns : ℕ) → most_turns ≤ turns → one_turn asked turn turns ≡ breaks FLAT_MODEL_TOO_LARGE asked
turn_refused asked turn turns above = go (nat_lt turns most_turns) refl
  where
    go : (b : Bool) → nat_lt turns most_turns ≡ b → one_turn asked turn turns ≡ breaks FLAT_MODEL_TOO_LARGE asked
    go true is = absurd (omega (arith, above, ltb-true turns most_turns is))
    go false is = rw is refl

-- ---- branches that no value decides

module _ (tree : Tree) (site : Site) (condition : Expr) (equations : List (EquationOf EquationKind)) (turns : ℕ) where
  pub branch_halts : {T : Type 0} (Is : T → FlatExpr → Type 0) (desk : Desk) (stop : Stop) → Answers {T = T} Is (Err stop) (flat_condition tree site.scope condition) →
      GivesBranch (Err stop) desk (undecided_at tree site condition equations turns)
  branch_halts Is desk (broken_by broken) h = rw h refl
  branch_halts Is desk no_memory h = tt

  pub branch_stops : (later desk : Desk) (e : FlatExpr) (stop : Stop) → flat_condition tree site.scope condition ≡ Ok e →
      GivesMade (Err stop) later (all_made_at tree equations (in_branch site) turns) → GivesBranch (Err stop) desk (undecided_at tree site condition equations turns)
  branch_stops later desk e (broken_by broken) h k = rw (h, k) refl
  branch_stops later desk e no_memory h k = tt

  pub branch_made : (desk : Desk) (flat : Flat) (held : MadeAt) (e : FlatExpr) → flat_condition tree site.scope condition ≡ Ok e → IsFlat flat e →
      GivesMade (Ok held) desk (all_made_at tree equations (in_branch site) turns) → GivesBranch (Ok (flat, held)) desk (undecided_at tree site condition equations turns)
  branch_made desk flat held e h is k = ((e, k.0), rw (h, k.1) refl, (is, k.2))

-- ---- connects

module _ (tree : Tree) (place : Place) (site : Site) (left right : ReferenceOf Expr) (decided : site.undecided ≡ false) where
  pub connect_made : (held : MadeAt) (connects : List Connect) → connect_of tree site.scope place left right ≡ Ok connects → IsMade held (made_connects connects) →
      Answers IsMade (Ok held) (made_connect tree place site left right)
  connect_made held connects h is = (made_connects connects, rw (decided, h) refl, is)

  pub connect_halts : {T : Type 0} (view : T → List Connect) (stop : Stop) → seen.Gives view (Err stop) (connect_of tree site.scope place left right) →
      Answers {T = MadeAt} IsMade (Err stop) (made_connect tree place site left right)
  connect_halts view (broken_by broken) h = rw (decided, h) refl
  connect_halts view no_memory h = tt

-- ---- later worlds and desks

-- what is told of the tree and of a place is told later too
pub same_told : {A : Type 0} (f : Tree → Site → A) (u v : World) (before after : Desk) (site : SiteAt) → IsDesk u before → Goes u v before after → IsFrame u site.at.now.frame.0 →
    f (tree_in v after.leaves) (site_in (frames_of v) site) ≡ f (tree_in u before.leaves) (site_in (frames_of u) site)
same_told f u v before after site is g frame =
    ap (λ (tree : Tree). f tree (site_in (frames_of v) site)) (same_tree u v before after is g)
    ∙ ap (f (tree_in u before.leaves)) (same_site u v site g.grows frame)

-- a turn that is taken
pub goes_turned : (u v : World) (a b : Desk) (n : ℕ) → Goes u v a b → Goes u v a (record b { turns = n })
goes_turned u v a b n g = record {
  grows = g.grows;
  leaves = g.leaves;
  asked = g.asked;
  desk = record { reader = g.desk.reader; leaves = g.desk.leaves; constants = g.desk.constants; binding = g.desk.binding; read = g.desk.read; shared = g.desk.shared; asked = g.desk.asked };
}

pub goes_taken : (u v : World) (a b c : Desk) → Goes u v a b → c ≡ record b { turns = b.turns + 1 } → Goes u v a c
goes_taken u v a b c g is = subst (Goes u v a) (sym is) (goes_turned u v a b (b.turns + 1) g)

-- the place of a turn
pub inner_site : (frames : List Frame) (site : SiteAt) (at : ScopeAt) (name : List ℕ) (n : ℤ) → at.frame ≡ site.at.now.frame → at.iters ≡ (name, n) ∷ site.at.now.iters →
    ◌≡◌ {A = Site} (record { scope = scope_in frames at.frame.0 at.iters; undecided = site.undecided }) (with_iteration (site_in frames site) name n)
inner_site frames site at name n f i = rw (f, i) refl

-- one turn too many
pub turn_stops : (T : Type 0) (asked : Place) (turn : Turning Made) (turns : ℕ) (desk : Desk) (from : Place) (stop : Stop) → from ≡ asked →
    IfBroken {T = T} (Err stop) (λ broken. (most_turns ≤ turns) × (broken ≡ breach FLAT_MODEL_TOO_LARGE from)) → GivesMade (Err stop) desk (one_turn asked turn turns)
turn_stops T asked turn turns desk from (broken_by broken) same h = turn_refused asked turn turns h.0 ∙ rw (h.1, same) refl
turn_stops T asked turn turns desk from no_memory same h = tt

-- a loop of no variable is its body
pub loop_body : (tree : Tree) (place : Place) (indices : List (IndexOf Expr)) (body : Site → Turning Made) (site : Site) (turns : ℕ) (result : Result MadeAt Stop) (desk : Desk) → indices ≡ [] →
    GivesMade result desk (body site turns) → GivesMade result desk (made_loop tree place indices body site turns)
loop_body tree place indices body site turns result desk none h = subst (λ (is : List (IndexOf Expr)). GivesMade result desk (made_loop tree place is body site turns)) (sym none) h

pub loop_halts : {T : Type 0} (view : T → List ℤ) (tree : Tree) (place : Place) (index : IndexOf Expr) (indices : List (IndexOf Expr)) (body : Site → Turning Made) (site : Site) (turns : ℕ)
    (desk : Desk) (stop : Stop) → seen.Gives view (Err stop) (numbers_of_index tree place site.scope index.range) → GivesMade (Err stop) desk (made_loop tree place (index ∷ indices) body site turns)
loop_halts view tree place index indices body site turns desk (broken_by broken) h = rw h refl
loop_halts view tree place index indices body site turns desk no_memory h = tt
