-- What holds of each connect that equations give holds of all connects of a class.
use Rattle.std.proofs.Common.{◌≡◌, ℕ, ◌+◌, Bool, true, false, ◌&&◌, not, List, [], ◌∷◌, ◌++◌, map, Some, None, Ok, Err, sym, ap, subst, nat_lt, if◌then◌else◌}
use Rattle.mo_syntax.specs.Outcome.{Outcome, and_then}
use Rattle.mo_syntax.specs.declared.equation.EquationKind.{EquationKind, EquationKind-F, fold-roll-EquationKind, ind-EquationKind, map-EquationKind, roll-EquationKind}
use Rattle.mo_syntax.specs.declared.equation.EquationOf.{EquationOf}
use Rattle.mo_syntax.specs.declared.expr.Args.{Args}
use Rattle.mo_syntax.specs.declared.expr.Expr.{Expr}
use Rattle.mo_syntax.specs.declared.expr.IndexOf.{IndexOf}
use Rattle.mo_syntax.specs.declared.expr.ReferenceOf.{ReferenceOf}
use Rattle.mo_syntax.specs.declared.place.Broken.{Broken}
use Rattle.mo_syntax.specs.declared.place.Place.{Place}
use Rattle.mo_flat.specs.declared.connect.Connect.{Connect}
use Rattle.mo_flat.specs.declared.connect.Expanded.{Expanded}
use Rattle.mo_scope.specs.Frames.{Scope}
use Rattle.mo_scope.specs.Places.{Every}
use Rattle.mo_syntax.specs.declared.rules.TheConstants.{FLAT_MODEL_TOO_LARGE, CONNECT_UNDER_OPEN_CONDITION, OUTSIDE_PROFILE, BRANCH_COUNTS_DIFFER}
use Rattle.mo_values.specs.declared.value.Scalar.TheVariants.{Literal, Truth, Whole}
use Rattle.mo_values.specs.Scalars.{Known}
use Rattle.mo_equations.specs.Leaves.{Tree, place_of_root}
use Rattle.mo_equations.specs.Gathering.{Made, Turning, all_beside, gathered, made_assert, made_connects, made_equations, most_turns, one_turn, turn_each, turn_none, turn_then}
use Rattle.mo_equations.specs.Ends.{connect_of}
use Rattle.mo_equations.specs.Equalities.{equalities}
use Rattle.mo_equations.specs.Asserts.{assert_of, is_assert, plain_values}
use Rattle.mo_equations.specs.Joining.{Choice, have_equal_counts, joined_branches, joined_equation, made_if}
use Rattle.mo_equations.specs.Equations.{Former, Site, all_made, condition_known, in_branch, made_call, made_choice, made_connect, made_form, made_kind, made_loop, made_section, numbers_of_index, undecided_branch, with_iteration}
use Rattle.mo_equations.specs.Sections.{Section, Equations, Left_out}
use Rattle.mo_equations.specs.Variables.{Declared, all_declared}
use Rattle.mo_equations.specs.Expansion.{Parts, Placed, all_sections, expanded_with, expansion_of, made_placed, parts_of}
use Rattle.mo_equations.proofs.EndLemmas.{comes}

-- ---- turns

-- What is made has a property.
pub record Keeps {A : Type 0} (Q : A → Type 0) (t : Turning A) : Type 0 where
  pub holds : (turns : ℕ) (a : A) (then_turns : ℕ) → t turns ≡ Ok (a, then_turns) → Q a

abbrev pub good : {A : Type 0} → A → Outcome A
good a = Ok a

abbrev bad : (A : Type 0) → Broken → Outcome A
bad A broken = Err broken

err_is_ok : {A B : Type 0} (broken : Broken) (a : A) → bad A broken ≡ Ok a → B
err_is_ok {A} broken a e = absurd (subst is_err e tt)
  where
    is_err : Outcome A → Type 0
    is_err (Ok x) = ⊥
    is_err (Err x) = Unit {0}

pub ok_one : {A : Type 0} (a b : A) → good a ≡ good b → a ≡ b
ok_one {A} a b e = ap value_in e
  where
    value_in : Outcome A → A
    value_in (Ok x) = x
    value_in (Err x) = a

keeps_none : {A : Type 0} {Q : A → Type 0} (o : Outcome A) → ((a : A) → o ≡ Ok a → Q a) → Keeps Q (turn_none o)
keeps_none {A} {Q} o h = record {
  holds = λ turns a then_turns e.
      let one = comes o (λ x. Ok (x, turns)) (a, then_turns) e in
      subst Q (ap (λ p. p.0) (ok_one (one.value, turns) (a, then_turns) one.then_is)) (h one.value one.first);
}

keeps_then : {A B : Type 0} {R : A → Type 0} {Q : B → Type 0} (first : Turning A) (f : A → Turning B) → Keeps R first → ((a : A) → R a → Keeps Q (f a)) → Keeps Q (turn_then first f)
keeps_then first f r h = record {
  holds = λ turns b then_turns e.
      let one = comes (first turns) (λ p. f p.0 p.1) (b, then_turns) e in
      (h one.value.0 (r.holds turns one.value.0 one.value.1 one.first)).holds one.value.1 b then_turns one.then_is;
}

keeps_any : {A : Type 0} (t : Turning A) → Keeps (λ a. Unit {0}) t
keeps_any t = record { holds = λ turns a then_turns e. tt }

keeps_turn : {A : Type 0} {Q : A → Type 0} (asked : Place) (t : Turning A) → Keeps Q t → Keeps Q (one_turn asked t)
keeps_turn {A} {Q} asked t h = record { holds = λ turns a then_turns e. by (nat_lt turns most_turns) turns a then_turns e }
  where
    by : (b : Bool) (turns : ℕ) (a : A) (then_turns : ℕ) → (if b then t (turns + 1) else bad (A × ℕ) (record { rule = FLAT_MODEL_TOO_LARGE; place = asked })) ≡ Ok (a, then_turns) → Q a
    by true turns a then_turns e = h.holds (turns + 1) a then_turns e
    by false turns a then_turns e = err_is_ok (record { rule = FLAT_MODEL_TOO_LARGE; place = asked }) (a, then_turns) e

every_of : {A : Type 0} (R : A → Type 0) → ((a : A) → R a) → (xs : List A) → Every R xs
every_of R h [] = tt
every_of R h (x ∷ xs) = (h x, every_of R h xs)

every_twice : {A B C : Type 0} (R : C → Type 0) (g : B → C) (f : A → B) → ((a : A) → R (g (f a))) → (xs : List A) → Every R (map g (map f xs))
every_twice R g f h [] = tt
every_twice R g f h (x ∷ xs) = (h x, every_twice R g f h xs)

each_keeps : {A B : Type 0} {Q : B → Type 0} (make : A → Turning B) (xs : List A) → Every (λ x. Keeps Q (make x)) xs → Keeps (Every Q) (turn_each make xs)
each_keeps {Q = Q} make [] h = keeps_none (Ok []) (λ made e. subst (Every Q) (ok_one [] made e) tt)
each_keeps {Q = Q} make (x ∷ xs) h =
    keeps_then {Q = Every Q} (make x) (λ first. turn_then (turn_each make xs) (λ others. turn_none (Ok (first ∷ others)))) h.0 (λ first k.
    keeps_then {Q = Every Q} (turn_each make xs) (λ others. turn_none (Ok (first ∷ others))) (each_keeps make xs h.1) (λ others r.
    keeps_none (Ok (first ∷ others)) (λ made e. subst (Every Q) (ok_one (first ∷ others) made e) (k, r))))

-- ---- connects

module _ (P : Connect → Type 0) where
  abbrev KeepsMade : Made → Type 0
  KeepsMade made = Every P made.connects

  every_both : (xs ys : List Connect) → Every P xs → Every P ys → Every P (xs ++ ys)
  every_both [] ys h k = k
  every_both (x ∷ xs) ys h k = (h.0, every_both xs ys h.1 k)

  all_keep : (mades : List Made) → Every KeepsMade mades → KeepsMade (all_beside mades)
  all_keep [] h = tt
  all_keep (made ∷ others) h = every_both made.connects (all_beside others).connects h.0 (all_keep others h.1)

  gathered_keeps : {A : Type 0} (make : A → Turning Made) (xs : List A) → Every (λ x. Keeps KeepsMade (make x)) xs → Keeps KeepsMade (gathered make xs)
  gathered_keeps make xs h =
      keeps_then {Q = KeepsMade} (turn_each make xs) (λ made. turn_none (Ok (all_beside made))) (each_keeps make xs h) (λ mades r.
      keeps_none (Ok (all_beside mades)) (λ made e. subst KeepsMade (ok_one (all_beside mades) made e) (all_keep mades r)))

  module _ (tree : Tree) (connects_keep : (scope : Scope) (place : Place) (left right : ReferenceOf Expr) (connects : List Connect) → connect_of tree scope place left right ≡ Ok connects → Every P connects) where
    -- an equation whose connects have the property
    abbrev KeepsFormer : Former → Type 0
    KeepsFormer form = (place : Place) (site : Site) → Keeps KeepsMade (form place site)

    equations_keep : (place : Place) (site : Site) (left right : Expr) → Keeps KeepsMade (turn_none (and_then (equalities tree site.scope place left right) (λ equations. Ok (made_equations equations))))
    equations_keep place site left right = keeps_none {Q = KeepsMade} (and_then (equalities tree site.scope place left right) (λ equations. Ok (made_equations equations))) (λ made e.
        let one = comes (equalities tree site.scope place left right) (λ equations. Ok (made_equations equations)) made e in
        subst KeepsMade (ok_one (made_equations one.value) made one.then_is) tt)

    connect_keeps : (place : Place) (site : Site) (left right : ReferenceOf Expr) → Keeps KeepsMade (turn_none (made_connect tree place site left right))
    connect_keeps place site left right = keeps_none {Q = KeepsMade} (made_connect tree place site left right) (λ made e. by site.undecided made e)
      where
        by : (b : Bool) (made : Made)
            → (if b then bad Made (record { rule = CONNECT_UNDER_OPEN_CONDITION; place = place }) else and_then (connect_of tree site.scope place left right) (λ connects. Ok (made_connects connects))) ≡ Ok made
            → KeepsMade made
        by true made e = err_is_ok (record { rule = CONNECT_UNDER_OPEN_CONDITION; place = place }) made e
        by false made e =
            let one = comes (connect_of tree site.scope place left right) (λ connects. Ok (made_connects connects)) made e in
            subst KeepsMade (ok_one (made_connects one.value) made one.then_is) (connects_keep site.scope place left right one.value one.first)

    call_keeps : (place : Place) (site : Site) (called : ReferenceOf Expr) (arguments : Args) → Keeps KeepsMade (turn_none (made_call tree place site called arguments))
    call_keeps place site called arguments = keeps_none {Q = KeepsMade} (made_call tree place site called arguments) (λ made e. by (is_assert called && not site.undecided) made e)
      where
        by : (b : Bool) (made : Made)
            → (if b then and_then (assert_of tree site.scope place (plain_values arguments)) (λ assert. Ok (made_assert assert)) else bad Made (record { rule = OUTSIDE_PROFILE; place = place })) ≡ Ok made
            → KeepsMade made
        by false made e = err_is_ok (record { rule = OUTSIDE_PROFILE; place = place }) made e
        by true made e =
            let one = comes (assert_of tree site.scope place (plain_values arguments)) (λ assert. Ok (made_assert assert)) made e in
            subst KeepsMade (ok_one (made_assert one.value) made one.then_is) tt

    -- ---- what holds equations

    abbrev KeepsBody : (Site → Turning Made) → Type 0
    KeepsBody body = (site : Site) → Keeps KeepsMade (body site)

    loop_keeps : (place : Place) (indices : List (IndexOf Expr)) (body : Site → Turning Made) → KeepsBody body → KeepsBody (made_loop tree place indices body)
    loop_keeps place [] body h site = h site
    loop_keeps place (index ∷ indices) body h site =
        keeps_then {Q = KeepsMade} (turn_none (numbers_of_index tree place site.scope index.range))
        (gathered (λ n. one_turn (place_of_root tree) (made_loop tree place indices body (with_iteration site index.name n))))
        (keeps_any (turn_none (numbers_of_index tree place site.scope index.range)))
        (λ ns u. gathered_keeps (λ n. one_turn (place_of_root tree) (made_loop tree place indices body (with_iteration site index.name n))) ns
        (every_of (λ n. Keeps KeepsMade (one_turn (place_of_root tree) (made_loop tree place indices body (with_iteration site index.name n))))
        (λ n. keeps_turn (place_of_root tree) (made_loop tree place indices body (with_iteration site index.name n)) (loop_keeps place indices body h (with_iteration site index.name n))) ns))

    abbrev KeepsChoice : Choice → Type 0
    KeepsChoice choice = KeepsMade choice.1

    abbrev Branch : Type 0
    Branch = Expr × List (EquationOf Former)

    abbrev decided_by : Site → Branch → (Site → Turning Choice) → Known → Turning Choice
    decided_by site branch further (Some (Truth true)) = turn_then (all_made branch.1 site) (λ made. turn_none (Ok ([], made)))
    decided_by site branch further (Some (Truth false)) = further site
    decided_by site branch further known =
        turn_then (undecided_branch tree site branch) (λ first.
        turn_then (further (in_branch site)) (λ choice. turn_none (Ok (first ∷ choice.0, choice.1))))

    last_keeps : (equations : List (EquationOf Former)) (site : Site) → KeepsBody (all_made equations) → Keeps KeepsChoice (turn_then (all_made equations site) (λ made. turn_none (Ok ([], made))))
    last_keeps equations site h =
        keeps_then {Q = KeepsChoice} (all_made equations site) (λ made. turn_none (Ok ([], made))) (h site) (λ made k.
        keeps_none (Ok ([], made)) (λ choice e. subst KeepsChoice (ok_one ([], made) choice e) k))

    undecided_keeps : (site : Site) (branch : Branch) (further : Site → Turning Choice) → ((at : Site) → Keeps KeepsChoice (further at))
        → Keeps KeepsChoice (turn_then (undecided_branch tree site branch) (λ first. turn_then (further (in_branch site)) (λ choice. turn_none (Ok (first ∷ choice.0, choice.1)))))
    undecided_keeps site branch further h =
        keeps_then {Q = KeepsChoice} (undecided_branch tree site branch) (λ first. turn_then (further (in_branch site)) (λ choice. turn_none (Ok (first ∷ choice.0, choice.1))))
        (keeps_any (undecided_branch tree site branch)) (λ first u.
        keeps_then {Q = KeepsChoice} (further (in_branch site)) (λ choice. turn_none (Ok (first ∷ choice.0, choice.1))) (h (in_branch site)) (λ choice k.
        keeps_none (Ok (first ∷ choice.0, choice.1)) (λ other e. subst KeepsChoice (ok_one (first ∷ choice.0, choice.1) other e) k)))

    decided_keeps : (site : Site) (branch : Branch) (further : Site → Turning Choice) → KeepsBody (all_made branch.1) → ((at : Site) → Keeps KeepsChoice (further at))
        → (known : Known) → Keeps KeepsChoice (decided_by site branch further known)
    decided_keeps site branch further b h (Some (Truth true)) = last_keeps branch.1 site b
    decided_keeps site branch further b h (Some (Truth false)) = h site
    decided_keeps site branch further b h (Some (Whole n)) = undecided_keeps site branch further h
    decided_keeps site branch further b h (Some (Literal class n)) = undecided_keeps site branch further h
    decided_keeps site branch further b h None = undecided_keeps site branch further h

    choice_keeps : (branches : List Branch) (others : List (EquationOf Former)) → Every (λ b. KeepsBody (all_made b.1)) branches → KeepsBody (all_made others)
        → (site : Site) → Keeps KeepsChoice (made_choice tree site branches others)
    choice_keeps [] others h k site = last_keeps others site k
    choice_keeps (branch ∷ branches) others h k site =
        keeps_then {Q = KeepsChoice} (turn_none (condition_known tree site.scope branch.0)) (decided_by site branch (λ at. made_choice tree at branches others))
        (keeps_any (turn_none (condition_known tree site.scope branch.0)))
        (λ known u. decided_keeps site branch (λ at. made_choice tree at branches others) h.0 (choice_keeps branches others h.1 k) known)

    if_keeps : (place : Place) (choice : Choice) → KeepsChoice choice → Keeps KeepsMade (turn_none (made_if place choice))
    if_keeps place ([], other) h = keeps_none {Q = KeepsMade} (Ok other) (λ made e. subst KeepsMade (ok_one other made e) h)
    if_keeps place (branch ∷ branches, other) h = keeps_none {Q = KeepsMade} (made_if place (branch ∷ branches, other)) (λ made e. by (have_equal_counts (branch ∷ branches) other) made e)
      where
        by : (b : Bool) (made : Made)
            → (if b then Ok (made_equations (map (joined_equation place) (joined_branches (branch ∷ branches) other))) else bad Made (record { rule = BRANCH_COUNTS_DIFFER; place = place })) ≡ Ok made
            → KeepsMade made
        by true made e = subst KeepsMade (ok_one (made_equations (map (joined_equation place) (joined_branches (branch ∷ branches) other))) made e) tt
        by false made e = err_is_ok (record { rule = BRANCH_COUNTS_DIFFER; place = place }) made e

    -- ---- all forms

    abbrev KeepsKind : EquationKind → Type 0
    KeepsKind kind = KeepsFormer (made_kind tree kind)

    abbrev Kept : Type 0
    Kept = (kind : EquationKind) × KeepsKind kind

    -- equations whose parts have the property
    list_keeps : (g : EquationOf EquationKind → EquationOf Former) (f : EquationOf Kept → EquationOf EquationKind)
        → ((equation : EquationOf Kept) (site : Site) → Keeps KeepsMade ((g (f equation)).what (g (f equation)).place site)) → (equations : List (EquationOf Kept))
        → KeepsBody (all_made (map g (map f equations)))
    list_keeps g f h equations site =
        gathered_keeps (λ equation. equation.what equation.place site) (map g (map f equations))
        (every_twice (λ equation. Keeps KeepsMade (equation.what equation.place site)) g f (λ equation. h equation site) equations)

    form_keeps : (y : EquationKind-F Kept)
        → KeepsFormer (made_form tree (map-EquationKind EquationKind Former (made_kind tree) (map-EquationKind Kept EquationKind (λ kept. kept.0) y)))
    form_keeps (EquationKind-F.Equal left right) place site = equations_keep place site left right
    form_keeps (EquationKind-F.When branches) place site = keeps_none {Q = KeepsMade} (bad Made (record { rule = OUTSIDE_PROFILE; place = place })) (λ made e. err_is_ok (record { rule = OUTSIDE_PROFILE; place = place }) made e)
    form_keeps (EquationKind-F.Connect left right) place site = connect_keeps place site left right
    form_keeps (EquationKind-F.Call called arguments) place site = call_keeps place site called arguments
    form_keeps (EquationKind-F.For indices equations) place site = loop_keeps place indices _ (list_keeps _ _ (λ equation site. equation.what.1 equation.place site) equations) site
    form_keeps (EquationKind-F.If branches others) place site =
        keeps_then {R = KeepsChoice} {Q = KeepsMade} _ (λ choice. turn_none (made_if place choice))
        (choice_keeps _ _ (every_twice (λ branch. KeepsBody (all_made branch.1)) _ _ (λ branch. list_keeps _ _ (λ equation site. equation.what.1 equation.place site) branch.1) branches)
        (list_keeps _ _ (λ equation site. equation.what.1 equation.place site) others) site)
        (λ choice k. if_keeps place choice k)

    rolled : (y : EquationKind-F Kept) → KeepsKind (roll-EquationKind (map-EquationKind Kept EquationKind (λ kept. kept.0) y))
    rolled y = subst KeepsFormer (sym (fold-roll-EquationKind Former (made_form tree) (map-EquationKind Kept EquationKind (λ kept. kept.0) y))) (form_keeps y)

    pub kind_keeps : (kind : EquationKind) → KeepsKind kind
    kind_keeps = ind-EquationKind KeepsKind (λ x y is. subst (λ z. KeepsKind (roll-EquationKind z)) is (rolled y))

    -- ---- sections

    section_keeps : (scope : Scope) (equations : List (EquationOf EquationKind)) → Keeps KeepsMade (made_section tree scope equations)
    section_keeps scope equations =
        gathered_keeps (λ equation. made_kind tree equation.what equation.place (record { scope = scope; undecided = false })) equations
        (every_of (λ equation. Keeps KeepsMade (made_kind tree equation.what equation.place (record { scope = scope; undecided = false })))
        (λ equation. kind_keeps equation.what equation.place (record { scope = scope; undecided = false })) equations)

    abbrev KeepsParts : Parts → Type 0
    KeepsParts parts = KeepsMade parts.usual

    parts_keep : (initial : Bool) (made : Made) → KeepsMade made → KeepsParts (parts_of initial made)
    parts_keep true made h = h
    parts_keep false made h = h

    abbrev placed_by : Placed → Section → Turning Parts
    placed_by placed Left_out = turn_none (bad Parts (record { rule = OUTSIDE_PROFILE; place = placed.name }))
    placed_by placed (Equations initial equations) =
        turn_then (made_section tree (record { frame = placed.frame; iterations = [] }) equations) (λ made. turn_none (Ok (parts_of initial made)))

    section_of_keeps : (placed : Placed) (section : Section) → Keeps KeepsParts (placed_by placed section)
    section_of_keeps placed Left_out = keeps_none {Q = KeepsParts} (bad Parts (record { rule = OUTSIDE_PROFILE; place = placed.name })) (λ made e. err_is_ok (record { rule = OUTSIDE_PROFILE; place = placed.name }) made e)
    section_of_keeps placed (Equations initial equations) =
        keeps_then {Q = KeepsParts} (made_section tree (record { frame = placed.frame; iterations = [] }) equations) (λ made. turn_none (Ok (parts_of initial made)))
        (section_keeps (record { frame = placed.frame; iterations = [] }) equations)
        (λ made k. keeps_none {Q = KeepsParts} (Ok (parts_of initial made)) (λ parts e. subst KeepsParts (ok_one (parts_of initial made) parts e) (parts_keep initial made k)))

    placed_keeps : (placed : Placed) → Keeps KeepsParts (made_placed tree placed)
    placed_keeps placed = section_of_keeps placed placed.section

    usual_keep : (parts : List Parts) → Every KeepsParts parts → Every KeepsMade (map (λ one. one.usual) parts)
    usual_keep [] h = tt
    usual_keep (x ∷ xs) h = (h.0, usual_keep xs h.1)

    -- what holds of each connect that equations give holds of all connects of the class
    pub expansion_keeps : (e : Expanded) → expansion_of tree ≡ Ok e → Every P e.connects.list
    expansion_keeps e h =
        let declared = comes (all_declared tree) (λ declared. and_then (all_sections tree) (λ sections. and_then (turn_each (made_placed tree) sections 0) (λ made. Ok (whole declared made.0)))) e h in
        let sections = comes (all_sections tree) (λ sections. and_then (turn_each (made_placed tree) sections 0) (λ made. Ok (whole declared.value made.0))) e declared.then_is in
        let made = comes (turn_each (made_placed tree) sections.value 0) (λ made. Ok (whole declared.value made.0)) e sections.then_is in
        let parts = (each_keeps (made_placed tree) sections.value (every_of (λ placed. Keeps KeepsParts (made_placed tree placed)) placed_keeps sections.value)).holds 0 made.value.0 made.value.1 made.first in
        subst (λ x. Every P x.connects.list) (ok_one (whole declared.value made.value.0) e made.then_is)
        (all_keep (map (λ one. one.usual) made.value.0) (usual_keep made.value.0 parts))
      where
        whole : List Declared → List Parts → Expanded
        whole declared parts = expanded_with tree declared (all_beside (map (λ one. one.initial) parts)) (all_beside (map (λ one. one.usual) parts))
