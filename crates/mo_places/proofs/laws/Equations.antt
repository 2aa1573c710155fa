-- What the equations of sections give stands where the sections stand, and a rule that they break is broken at such a place, or at the name
-- of the asked class.
use Rattle.std.proofs.Common.{ℕ, ◌+◌, Bool, true, false, ◌&&◌, not, List, [], ◌∷◌, map, flat_map, Option, Some, None, Ok, sym, subst, nat_lt}
use Rattle.mo_syntax.specs.Outcome.{Outcome, and_then, breaks}
use Rattle.mo_syntax.specs.declared.equation.EquationKind.{EquationKind, EquationKind-F, fold-roll-EquationKind, ind-EquationKind, map-EquationKind, out-EquationKind, out-roll-EquationKind, roll-EquationKind}
use Rattle.mo_syntax.specs.declared.equation.EquationOf.{EquationOf}
use Rattle.mo_syntax.specs.declared.expr.Args.{Args}
use Rattle.mo_syntax.specs.declared.expr.Expr.{Expr}
use Rattle.mo_syntax.specs.declared.expr.IndexOf.{IndexOf}
use Rattle.mo_syntax.specs.declared.expr.ReferenceOf.{ReferenceOf}
use Rattle.mo_syntax.specs.declared.place.Place.{Place}
use Rattle.mo_scope.specs.Frames.{Scope}
use Rattle.mo_syntax.specs.declared.rules.TheConstants.{OUTSIDE_PROFILE}
use Rattle.mo_values.specs.declared.value.Scalar.TheVariants.{Literal, Truth, Whole}
use Rattle.mo_values.specs.Scalars.{Known}
use Rattle.mo_equations.specs.Leaves.{Tree, place_of_root}
use Rattle.mo_equations.specs.Gathering.{Made, Turning, all_beside, gathered, made_assert, made_connects, made_equations, most_turns, one_turn, turn_each, turn_none, turn_then}
use Rattle.mo_equations.specs.Ends.{connect_of}
use Rattle.mo_equations.specs.Equalities.{equalities}
use Rattle.mo_equations.specs.Asserts.{assert_of, is_assert, plain_values}
use Rattle.mo_equations.specs.Joining.{Choice, Joined, have_equal_counts, joined_branches, joined_equation, made_if}
use Rattle.mo_equations.specs.Equations.{Former, Site, all_made, condition_known, flat_condition, in_branch, made_call, made_choice, made_connect, made_form, made_kind, made_loop, made_section, numbers_of_index, undecided_branch, with_iteration}
use Rattle.mo_equations.specs.Sections.{Section, Equations, Left_out}
use Rattle.mo_equations.specs.Variables.{all_declared}
use Rattle.mo_equations.specs.Expansion.{Parts, Placed, made_placed, parts_of}
use Rattle.mo_places.specs.Written.{Written, At, Valued, Stated}
use Rattle.mo_places.specs.TreeWritten.{in_value}
use Rattle.mo_places.specs.Pieces.{in_arguments_of_call, in_kind, in_name, in_ranges}
use Rattle.mo_places.specs.Stands.{Anything, Every, Answers, FrameStands}
use Rattle.mo_places.specs.InFiles.{Descends}
use Rattle.mo_places.specs.MadeStands.{ConnectStands, DeclaredStands, EquationStands, InstanceStands, MadeStands, PlacedStands, SectionStands}
use Rattle.mo_places.proofs.laws.Standing.{every_append, every_back, every_front, every_of, if_answers, then_answers}

-- ---- what is asked of the calls

-- What is asked of the calls that read expressions and names: where these stand, what they answer stands.
pub record CallsStand (P : Written → Type 0) (tree : Tree) : Type 0 where
  pub equalities : (scope : Scope) (place : Place) (left right : Expr) → FrameStands P scope.frame → P (At place) → P (Valued left) → P (Valued right) →
      Answers P (Every (EquationStands P)) (equalities tree scope place left right)
  pub assert : (scope : Scope) (place : Place) (arguments : Args) → FrameStands P scope.frame → P (At place) → Every P (in_arguments_of_call arguments) →
      Answers P Anything (assert_of tree scope place (plain_values arguments))
  pub connect : (scope : Scope) (place : Place) (left right : ReferenceOf Expr) → FrameStands P scope.frame → P (At place) → Every P (in_name left) → Every P (in_name right) →
      Answers P (Every (ConnectStands P)) (connect_of tree scope place left right)
  pub numbers : (place : Place) (scope : Scope) (range : Option Expr) → FrameStands P scope.frame → P (At place) → Every P (in_value range) →
      Answers P Anything (numbers_of_index tree place scope range)
  pub known : (scope : Scope) (e : Expr) → FrameStands P scope.frame → P (Valued e) → Answers P Anything (condition_known tree scope e)
  pub condition : (scope : Scope) (e : Expr) → FrameStands P scope.frame → P (Valued e) → Answers P Anything (flat_condition tree scope e)
  pub declared : Every (InstanceStands P) tree.instances → Answers P (Every (DeclaredStands P)) (all_declared tree)

-- ---- turns

module _ (P : Written → Type 0) where
  -- what is made stands, whatever turns were taken before
  pub record TurnStands {A : Type 0} (Q : A → Type 0) (t : Turning A) : Type 0 where
    pub holds : (turns : ℕ) → Answers P (λ (made : A × ℕ). Q made.0) (t turns)

  turn_outcome : {A : Type 0} (Q : A → Type 0) (o : Outcome A) → Answers P Q o → TurnStands Q (turn_none o)
  turn_outcome {A} Q o h = record { holds = λ turns. then_answers P Q (λ (made : A × ℕ). Q made.0) o (λ a. Ok (a, turns)) h (λ a q. record { holds = q }) }

  turn_behind : {A B : Type 0} (R : A → Type 0) (Q : B → Type 0) (first : Turning A) (f : A → Turning B) → TurnStands R first → ((a : A) → R a → TurnStands Q (f a)) → TurnStands Q (turn_then first f)
  turn_behind {A} {B} R Q first f r h = record {
    holds = λ turns. then_answers P (λ (made : A × ℕ). R made.0) (λ (made : B × ℕ). Q made.0) (first turns) (λ made. f made.0 made.1) (r.holds turns) (λ made q. (h made.0 q).holds made.1);
  }

  turn_stands : {A : Type 0} (Q : A → Type 0) (asked : Place) (t : Turning A) → P (At asked) → TurnStands Q t → TurnStands Q (one_turn asked t)
  turn_stands {A} Q asked t hp h = record { holds = λ turns. if_answers P (λ (made : A × ℕ). Q made.0) (nat_lt turns most_turns) _ _ (h.holds (turns + 1)) (record { holds = hp }) }

  pub each_stands : {A B : Type 0} (Q : B → Type 0) (make : A → Turning B) (xs : List A) → Every (λ x. TurnStands Q (make x)) xs → TurnStands (Every Q) (turn_each make xs)
  each_stands Q make [] h = turn_outcome (Every Q) (Ok []) (record { holds = tt })
  each_stands Q make (x ∷ xs) h =
      turn_behind Q (Every Q) (make x) (λ first. turn_then (turn_each make xs) (λ others. turn_none (Ok (first ∷ others)))) h.0 (λ first k.
      turn_behind (Every Q) (Every Q) (turn_each make xs) (λ others. turn_none (Ok (first ∷ others))) (each_stands Q make xs h.1) (λ others r.
      turn_outcome (Every Q) (Ok (first ∷ others)) (record { holds = (k, r) })))

  -- ---- what is gathered

  abbrev Made_stands : Made → Type 0
  Made_stands = MadeStands P

  pub all_stand : (mades : List Made) → Every Made_stands mades → Made_stands (all_beside mades)
  all_stand [] h = record { equations = tt; connects = tt }
  all_stand (made ∷ others) h =
      let rest = all_stand others h.1 in
      record {
        equations = every_append (EquationStands P) made.equations (all_beside others).equations h.0.equations rest.equations;
        connects = every_append (ConnectStands P) made.connects (all_beside others).connects h.0.connects rest.connects;
      }

  gathered_stands : {A : Type 0} (make : A → Turning Made) (xs : List A) → Every (λ x. TurnStands Made_stands (make x)) xs → TurnStands Made_stands (gathered make xs)
  gathered_stands make xs h =
      turn_behind (Every Made_stands) Made_stands (turn_each make xs) (λ made. turn_none (Ok (all_beside made))) (each_stands Made_stands make xs h) (λ mades r.
      turn_outcome Made_stands (Ok (all_beside mades)) (record { holds = all_stand mades r }))

  module _ (tree : Tree) (descends : Descends P) (calls : CallsStand P tree) (asked : P (At (place_of_root tree))) where
    abbrev BodyStands : (Site → Turning Made) → Type 0
    BodyStands body = (site : Site) → FrameStands P site.scope.frame → TurnStands Made_stands (body site)

    abbrev FormerStands : Former → Type 0
    FormerStands form = (place : Place) (site : Site) → P (At place) → FrameStands P site.scope.frame → TurnStands Made_stands (form place site)

    equal_stands : (place : Place) (site : Site) (left right : Expr) → P (At place) → FrameStands P site.scope.frame → P (Valued left) → P (Valued right) →
        TurnStands Made_stands (turn_none (and_then (equalities tree site.scope place left right) (λ equations. Ok (made_equations equations))))
    equal_stands place site left right hp hf hl hr =
        turn_outcome Made_stands (and_then (equalities tree site.scope place left right) (λ equations. Ok (made_equations equations)))
        (then_answers P (Every (EquationStands P)) Made_stands (equalities tree site.scope place left right) (λ equations. Ok (made_equations equations)) (calls.equalities site.scope place left right hf hp hl hr)
        (λ equations h. record { holds = record { equations = h; connects = tt } }))

    connect_stands : (place : Place) (site : Site) (left right : ReferenceOf Expr) → P (At place) → FrameStands P site.scope.frame → Every P (in_name left) → Every P (in_name right) →
        TurnStands Made_stands (turn_none (made_connect tree place site left right))
    connect_stands place site left right hp hf hl hr =
        turn_outcome Made_stands (made_connect tree place site left right)
        (if_answers P Made_stands site.undecided _ _ (record { holds = hp })
        (then_answers P (Every (ConnectStands P)) Made_stands (connect_of tree site.scope place left right) (λ connects. Ok (made_connects connects)) (calls.connect site.scope place left right hf hp hl hr)
        (λ connects h. record { holds = record { equations = tt; connects = h } })))

    call_stands : (place : Place) (site : Site) (called : ReferenceOf Expr) (arguments : Args) → P (At place) → FrameStands P site.scope.frame → Every P (in_arguments_of_call arguments) →
        TurnStands Made_stands (turn_none (made_call tree place site called arguments))
    call_stands place site called arguments hp hf h =
        turn_outcome Made_stands (made_call tree place site called arguments)
        (if_answers P Made_stands (is_assert called && not site.undecided) _ _
        (then_answers P Anything Made_stands (assert_of tree site.scope place (plain_values arguments)) (λ assert. Ok (made_assert assert)) (calls.assert site.scope place arguments hf hp h)
        (λ assert u. record { holds = record { equations = tt; connects = tt } }))
        (record { holds = hp }))

    -- ---- loops

    loop_stands : (place : Place) (indices : List (IndexOf Expr)) (body : Site → Turning Made) → P (At place) → Every P (in_ranges indices) → BodyStands body → BodyStands (made_loop tree place indices body)
    loop_stands place [] body hp hi h site hf = h site hf
    loop_stands place (index ∷ indices) body hp hi h site hf =
        turn_behind Anything Made_stands (turn_none (numbers_of_index tree place site.scope index.range)) (gathered (λ n. one_turn (place_of_root tree) (made_loop tree place indices body (with_iteration site index.name n))))
        (turn_outcome Anything (numbers_of_index tree place site.scope index.range) (calls.numbers place site.scope index.range hf hp (every_front P (in_value index.range) (in_ranges indices) hi)))
        (λ ns u. gathered_stands (λ n. one_turn (place_of_root tree) (made_loop tree place indices body (with_iteration site index.name n))) ns
        (every_of (λ n. TurnStands Made_stands (one_turn (place_of_root tree) (made_loop tree place indices body (with_iteration site index.name n))))
        (λ n. turn_stands Made_stands (place_of_root tree) (made_loop tree place indices body (with_iteration site index.name n)) asked
        (loop_stands place indices body hp (every_back P (in_value index.range) (in_ranges indices) hi) h (with_iteration site index.name n) hf)) ns))

    -- ---- branches

    abbrev ChoiceStands : Choice → Type 0
    ChoiceStands choice = Made_stands choice.1

    abbrev Branch : Type 0
    Branch = Expr × List (EquationOf Former)

    abbrev BranchStands : Branch → Type 0
    BranchStands branch = P (Valued branch.0) × BodyStands (all_made branch.1)

    abbrev decided_by : Site → Branch → (Site → Turning Choice) → Known → Turning Choice
    decided_by site branch further (Some (Truth true)) = turn_then (all_made branch.1 site) (λ made. turn_none (Ok ([], made)))
    decided_by site branch further (Some (Truth false)) = further site
    decided_by site branch further known =
        turn_then (undecided_branch tree site branch) (λ first.
        turn_then (further (in_branch site)) (λ choice. turn_none (Ok (first ∷ choice.0, choice.1))))

    last_stands : (equations : List (EquationOf Former)) (site : Site) → BodyStands (all_made equations) → FrameStands P site.scope.frame →
        TurnStands ChoiceStands (turn_then (all_made equations site) (λ made. turn_none (Ok ([], made))))
    last_stands equations site h hf =
        turn_behind Made_stands ChoiceStands (all_made equations site) (λ made. turn_none (Ok ([], made))) (h site hf) (λ made k.
        turn_outcome ChoiceStands (Ok ([], made)) (record { holds = k }))

    condition_stands : (site : Site) (branch : Branch) → BranchStands branch → FrameStands P site.scope.frame → TurnStands Anything (undecided_branch tree site branch)
    condition_stands site branch h hf =
        turn_behind Anything Anything (turn_none (flat_condition tree site.scope branch.0)) (λ condition. turn_then (all_made branch.1 (in_branch site)) (λ made. turn_none (Ok (condition, made))))
        (turn_outcome Anything (flat_condition tree site.scope branch.0) (calls.condition site.scope branch.0 hf h.0)) (λ condition u.
        turn_behind Made_stands Anything (all_made branch.1 (in_branch site)) (λ made. turn_none (Ok (condition, made))) (h.1 (in_branch site) hf) (λ made k.
        turn_outcome Anything (Ok (condition, made)) (record { holds = tt })))

    undecided_stands : (site : Site) (branch : Branch) (further : Site → Turning Choice) → BranchStands branch → ((at : Site) → FrameStands P at.scope.frame → TurnStands ChoiceStands (further at)) → FrameStands P site.scope.frame →
        TurnStands ChoiceStands (turn_then (undecided_branch tree site branch) (λ first. turn_then (further (in_branch site)) (λ choice. turn_none (Ok (first ∷ choice.0, choice.1)))))
    undecided_stands site branch further b h hf =
        turn_behind Anything ChoiceStands (undecided_branch tree site branch) (λ first. turn_then (further (in_branch site)) (λ choice. turn_none (Ok (first ∷ choice.0, choice.1))))
        (condition_stands site branch b hf) (λ first u.
        turn_behind ChoiceStands ChoiceStands (further (in_branch site)) (λ choice. turn_none (Ok (first ∷ choice.0, choice.1))) (h (in_branch site) hf) (λ choice k.
        turn_outcome ChoiceStands (Ok (first ∷ choice.0, choice.1)) (record { holds = k })))

    decided_stands : (site : Site) (branch : Branch) (further : Site → Turning Choice) → BranchStands branch → ((at : Site) → FrameStands P at.scope.frame → TurnStands ChoiceStands (further at)) → FrameStands P site.scope.frame →
        (known : Known) → TurnStands ChoiceStands (decided_by site branch further known)
    decided_stands site branch further b h hf (Some (Truth true)) = last_stands branch.1 site b.1 hf
    decided_stands site branch further b h hf (Some (Truth false)) = h site hf
    decided_stands site branch further b h hf (Some (Whole n)) = undecided_stands site branch further b h hf
    decided_stands site branch further b h hf (Some (Literal class n)) = undecided_stands site branch further b h hf
    decided_stands site branch further b h hf None = undecided_stands site branch further b h hf

    choice_stands : (branches : List Branch) (others : List (EquationOf Former)) → Every BranchStands branches → BodyStands (all_made others) → (site : Site) → FrameStands P site.scope.frame →
        TurnStands ChoiceStands (made_choice tree site branches others)
    choice_stands [] others h k site hf = last_stands others site k hf
    choice_stands (branch ∷ branches) others h k site hf =
        turn_behind Anything ChoiceStands (turn_none (condition_known tree site.scope branch.0)) (decided_by site branch (λ at. made_choice tree at branches others))
        (turn_outcome Anything (condition_known tree site.scope branch.0) (calls.known site.scope branch.0 hf h.0.0))
        (λ known u. decided_stands site branch (λ at. made_choice tree at branches others) h.0 (choice_stands branches others h.1 k) hf known)

    joined_stand : (place : Place) → P (At place) → (joined : List Joined) → Every (EquationStands P) (map (joined_equation place) joined)
    joined_stand place hp [] = tt
    joined_stand place hp (one ∷ joined) = (hp, joined_stand place hp joined)

    if_stands : (place : Place) (choice : Choice) → P (At place) → ChoiceStands choice → TurnStands Made_stands (turn_none (made_if place choice))
    if_stands place ([], other) hp h = turn_outcome Made_stands (Ok other) (record { holds = h })
    if_stands place (branch ∷ branches, other) hp h =
        turn_outcome Made_stands (made_if place (branch ∷ branches, other))
        (if_answers P Made_stands (have_equal_counts (branch ∷ branches) other) _ _
        (record { holds = record { equations = joined_stand place hp (joined_branches (branch ∷ branches) other); connects = tt } })
        (record { holds = hp }))

    -- ---- all forms

    abbrev KindStands : EquationKind → Type 0
    KindStands kind = Every P (in_kind (out-EquationKind kind)) → FormerStands (made_kind tree kind)

    abbrev Kept : Type 0
    Kept = (kind : EquationKind) × KindStands kind

    abbrev bare : EquationOf Kept → EquationOf EquationKind
    bare equation = record { place = equation.place; what = equation.what.0 }

    abbrev formed : EquationOf EquationKind → EquationOf Former
    formed equation = record { place = equation.place; what = made_kind tree equation.what }

    abbrev bare_branch : Expr × List (EquationOf Kept) → Expr × List (EquationOf EquationKind)
    bare_branch branch = (branch.0, map bare branch.1)

    abbrev formed_branch : Expr × List (EquationOf EquationKind) → Branch
    formed_branch branch = (branch.0, map formed branch.1)

    abbrev in_branches : List (Expr × List (EquationOf EquationKind)) → List Written
    in_branches branches = flat_map (λ branch. Valued branch.0 ∷ map Stated branch.1) branches

    equations_stand : (site : Site) → FrameStands P site.scope.frame → (equations : List (EquationOf Kept)) → Every P (map Stated (map bare equations)) →
        Every (λ equation. TurnStands Made_stands (equation.what equation.place site)) (map formed (map bare equations))
    equations_stand site hf [] h = tt
    equations_stand site hf (equation ∷ equations) h =
        let inside = descends.equation (bare equation) h.0 in
        (equation.what.1 inside.1 equation.place site inside.0 hf, equations_stand site hf equations h.1)

    list_stands : (equations : List (EquationOf Kept)) → Every P (map Stated (map bare equations)) → BodyStands (all_made (map formed (map bare equations)))
    list_stands equations h site hf = gathered_stands (λ equation. equation.what equation.place site) (map formed (map bare equations)) (equations_stand site hf equations h)

    branches_stand : (branches : List (Expr × List (EquationOf Kept))) → Every P (in_branches (map bare_branch branches)) → Every BranchStands (map formed_branch (map bare_branch branches))
    branches_stand [] h = tt
    branches_stand (branch ∷ branches) h =
        let own = map Stated (map bare branch.1) in
        let rest = in_branches (map bare_branch branches) in
        ((h.0, list_stands branch.1 (every_front P own rest h.1)), branches_stand branches (every_back P own rest h.1))

    form_stands : (y : EquationKind-F Kept) → Every P (in_kind (map-EquationKind Kept EquationKind (λ kept. kept.0) y)) →
        FormerStands (made_form tree (map-EquationKind EquationKind Former (made_kind tree) (map-EquationKind Kept EquationKind (λ kept. kept.0) y)))
    form_stands (EquationKind-F.Equal left right) h place site hp hf = equal_stands place site left right hp hf h.0 h.1.0
    form_stands (EquationKind-F.When branches) h place site hp hf = turn_outcome Made_stands (breaks OUTSIDE_PROFILE place) (record { holds = hp })
    form_stands (EquationKind-F.Connect left right) h place site hp hf =
        connect_stands place site left right hp hf (every_front P (in_name left) (in_name right) h) (every_back P (in_name left) (in_name right) h)
    form_stands (EquationKind-F.Call called arguments) h place site hp hf =
        call_stands place site called arguments hp hf (every_back P (in_name called) (in_arguments_of_call arguments) h)
    form_stands (EquationKind-F.For indices equations) h place site hp hf =
        let inside = map Stated (map bare equations) in
        loop_stands place indices (all_made (map formed (map bare equations))) hp (every_front P (in_ranges indices) inside h) (list_stands equations (every_back P (in_ranges indices) inside h)) site hf
    form_stands (EquationKind-F.If branches others) h place site hp hf =
        let first = in_branches (map bare_branch branches) in
        let last = map Stated (map bare others) in
        turn_behind ChoiceStands Made_stands (made_choice tree site (map formed_branch (map bare_branch branches)) (map formed (map bare others))) (λ choice. turn_none (made_if place choice))
        (choice_stands (map formed_branch (map bare_branch branches)) (map formed (map bare others)) (branches_stand branches (every_front P first last h)) (list_stands others (every_back P first last h)) site hf)
        (λ choice k. if_stands place choice hp k)

    rolled : (y : EquationKind-F Kept) → KindStands (roll-EquationKind (map-EquationKind Kept EquationKind (λ kept. kept.0) y))
    rolled y h =
        let node : EquationKind-F EquationKind = map-EquationKind Kept EquationKind (λ kept. kept.0) y in
        subst FormerStands (sym (fold-roll-EquationKind Former (made_form tree) node)) (form_stands y (subst (λ (k : EquationKind-F EquationKind). Every P (in_kind k)) (out-roll-EquationKind node) h))

    pub kind_stands : (kind : EquationKind) → KindStands kind
    kind_stands = ind-EquationKind KindStands (λ x y is. subst (λ z. KindStands (roll-EquationKind z)) is (rolled y))

    -- ---- sections

    each_equation : (site : Site) → FrameStands P site.scope.frame → (equations : List (EquationOf EquationKind)) → Every P (map Stated equations) →
        Every (λ equation. TurnStands Made_stands (made_kind tree equation.what equation.place site)) equations
    each_equation site hf [] h = tt
    each_equation site hf (equation ∷ equations) h =
        let inside = descends.equation equation h.0 in
        (kind_stands equation.what inside.1 equation.place site inside.0 hf, each_equation site hf equations h.1)

    pub section_stands : (scope : Scope) (equations : List (EquationOf EquationKind)) → FrameStands P scope.frame → Every P (map Stated equations) → TurnStands Made_stands (made_section tree scope equations)
    section_stands scope equations hf h =
        gathered_stands (λ equation. made_kind tree equation.what equation.place (record { scope = scope; undecided = false })) equations
        (each_equation (record { scope = scope; undecided = false }) hf equations h)

    pub record PartsStand (parts : Parts) : Type 0 where
      pub initial : Made_stands parts.initial
      pub usual : Made_stands parts.usual

    parts_stand : (initial : Bool) (made : Made) → Made_stands made → PartsStand (parts_of initial made)
    parts_stand true made h = record { initial = record { equations = h.equations; connects = tt }; usual = record { equations = tt; connects = h.connects } }
    parts_stand false made h = record { initial = record { equations = tt; connects = tt }; usual = h }

    abbrev placed_by : Placed → Section → Turning Parts
    placed_by placed Left_out = turn_none (breaks OUTSIDE_PROFILE placed.name)
    placed_by placed (Equations initial equations) =
        turn_then (made_section tree (record { frame = placed.frame; iterations = [] }) equations) (λ made. turn_none (Ok (parts_of initial made)))

    by_section : (placed : Placed) (section : Section) → FrameStands P placed.frame → P (At placed.name) → SectionStands P section → TurnStands PartsStand (placed_by placed section)
    by_section placed Left_out hf hn h = turn_outcome PartsStand (breaks OUTSIDE_PROFILE placed.name) (record { holds = hn })
    by_section placed (Equations initial equations) hf hn h =
        turn_behind Made_stands PartsStand (made_section tree (record { frame = placed.frame; iterations = [] }) equations) (λ made. turn_none (Ok (parts_of initial made)))
        (section_stands (record { frame = placed.frame; iterations = [] }) equations hf h)
        (λ made k. turn_outcome PartsStand (Ok (parts_of initial made)) (record { holds = parts_stand initial made k }))

    pub placed_stands : (placed : Placed) → PlacedStands P placed → TurnStands PartsStand (made_placed tree placed)
    placed_stands placed h = by_section placed placed.section h.frame h.name h.section
