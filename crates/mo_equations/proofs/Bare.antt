-- In a branch of an if-equation that no value decides there are no asserts (Modelica Language Specification 3.5, sections 8.3.4 and 8.3.7).
use Rattle.std.proofs.Common.{◌≡◌, ℕ, ℤ, ◌+◌, Bool, true, false, List, [], ◌∷◌, map, Some, None, Ok, Err, nat_lt, refl, ap, sym, ◌∙◌, subst}
use Rattle.mo_syntax.specs.Outcome.{Outcome, and_then, breach}
use Rattle.mo_syntax.specs.declared.equation.EquationKind.{EquationKind, EquationKind-F, fold-roll-EquationKind, ind-EquationKind, map-EquationKind}
use Rattle.mo_syntax.specs.declared.equation.EquationOf.{EquationOf}
use Rattle.mo_syntax.specs.declared.expr.Expr.{Expr}
use Rattle.mo_syntax.specs.declared.expr.IndexOf.{IndexOf}
use Rattle.mo_syntax.specs.declared.place.Broken.{Broken}
use Rattle.mo_syntax.specs.declared.place.Place.{Place}
use Rattle.mo_flat.specs.declared.expr.FlatExpr.{FlatExpr}
use Rattle.mo_scope.specs.Places.{Every}
use Rattle.mo_syntax.specs.declared.rules.TheConstants.{FLAT_MODEL_TOO_LARGE, BRANCH_COUNTS_DIFFER, OUTSIDE_PROFILE, CONNECT_UNDER_OPEN_CONDITION}
use Rattle.mo_values.specs.declared.value.Scalar.TheVariants.{Whole, Truth, Literal}
use Rattle.mo_values.specs.Scalars.{Known}
use Rattle.mo_equations.specs.Asserts.{is_assert}
use Rattle.mo_equations.specs.Equations.{Former, Site, all_made, condition_known, flat_condition, in_branch, made_choice, made_form, made_kind, made_loop, numbers_of_index, undecided_branch, with_iteration}
use Rattle.mo_equations.specs.Equalities.{equalities}
use Rattle.mo_equations.specs.Gathering.{Made, Turning, all_beside, gathered, made_equations, one_turn, turn_each, turn_none, turn_then}
use Rattle.mo_equations.specs.Joining.{Choice, have_equal_counts, joined_branches, joined_equation, made_if}
use Rattle.mo_equations.specs.Leaves.{Tree, place_of_root}
use Rattle.mo_equations.specs.steps.Choices.{IsBare}
use Rattle.mo_equations.specs.steps.Turns.{all_made_at, branch_at, choice_at, formed_at}

-- ---- outcomes

record After {A B : Type 0} (o : Outcome A) (f : A → Outcome B) (b : B) : Type 0 where
  value : A
  is : o ≡ Ok value
  gives : f value ≡ Ok b

after : {A B : Type 0} (o : Outcome A) (f : A → Outcome B) (b : B) → and_then o f ≡ Ok b → After o f b
after (Ok a) f b e = record { value = a; is = refl; gives = e }
after (Err broken) f b e = absurd (no e)
  where
    no : Err broken ≡ Ok b → ⊥
    no h = cc

same_ok : {A : Type 0} (a b : A) → ◌≡◌ {A = Outcome A} (Ok a) (Ok b) → a ≡ b
same_ok {A} a b e = ap held e
  where
    held : Outcome A → A
    held (Ok x) = x
    held (Err broken) = a

not_broken : {A B : Type 0} (broken : Broken) (a : A) → ◌≡◌ {A = Outcome A} (Err broken) (Ok a) → B
not_broken broken a e = absurd (no e)
  where
    no : Err broken ≡ Ok a → ⊥
    no h = cc

-- ---- turns

abbrev Bare : Made → Type 0
Bare made = made.asserts ≡ []

-- what is made in turn has no asserts
abbrev pub BareTurn : Turning Made → Type 0
BareTurn turn = (turns : ℕ) (made : Made) (later : ℕ) → turn turns ≡ Ok (made, later) → made.asserts ≡ []

abbrev pub BareFormer : Former → Type 0
BareFormer former = (place : Place) (site : Site) → site.undecided ≡ true → BareTurn (former place site)

each_bare : {A : Type 0} (make : A → Turning Made) (xs : List A) → Every (λ x. BareTurn (make x)) xs → (turns : ℕ) (made : List Made) (later : ℕ) → turn_each make xs turns ≡ Ok (made, later) → Every Bare made
each_bare make [] all turns made later e = subst (Every Bare) (ap (λ p. p.0) (same_ok ([], turns) (made, later) e)) tt
each_bare make (x ∷ xs) all turns made later e =
    let first = after (make x turns) (λ m. turn_then (turn_each make xs) (λ others. turn_none (Ok (m.0 ∷ others))) m.1) (made, later) e in
    let rest = after (turn_each make xs first.value.1) (λ others. turn_none (Ok (first.value.0 ∷ others.0)) others.1) (made, later) first.gives in
    subst (Every Bare) (ap (λ p. p.0) (same_ok (first.value.0 ∷ rest.value.0, rest.value.1) (made, later) rest.gives))
    (all.0 turns first.value.0 first.value.1 first.is, each_bare make xs all.1 first.value.1 rest.value.0 rest.value.1 rest.is)

beside_bare : (all : List Made) → Every Bare all → Bare (all_beside all)
beside_bare [] h = refl
beside_bare (made ∷ others) h = rw (h.0, beside_bare others h.1) refl

gathered_bare : {A : Type 0} (make : A → Turning Made) (xs : List A) → Every (λ x. BareTurn (make x)) xs → BareTurn (gathered make xs)
gathered_bare make xs all turns made later e =
    let parts = after (turn_each make xs turns) (λ m. turn_none (Ok (all_beside m.0)) m.1) (made, later) e in
    subst Bare (ap (λ p. p.0) (same_ok (all_beside parts.value.0, parts.value.1) (made, later) parts.gives))
    (beside_bare parts.value.0 (each_bare make xs all turns parts.value.0 parts.value.1 parts.is))

-- ---- equations, loops and branches

abbrev AreFormed : List (EquationOf Former) → Type 0
AreFormed equations = Every (λ (equation : EquationOf Former). BareFormer equation.what) equations

every_of : (equations : List (EquationOf Former)) (site : Site) → site.undecided ≡ true → AreFormed equations → Every (λ equation. BareTurn (equation.what equation.place site)) equations
every_of [] site h all = tt
every_of (q ∷ qs) site h all = (all.0 q.place site h, every_of qs site h all.1)

all_bare : (equations : List (EquationOf Former)) (site : Site) → AreFormed equations → site.undecided ≡ true → BareTurn (all_made equations site)
all_bare equations site all h = gathered_bare (λ equation. equation.what equation.place site) equations (every_of equations site h all)

turn_bare : (asked : Place) (turn : Turning Made) → BareTurn turn → BareTurn (one_turn asked turn)
turn_bare asked turn h turns made later e = at (nat_lt turns 4000000) refl
  where
    at : (b : Bool) → nat_lt turns 4000000 ≡ b → made.asserts ≡ []
    at true is = h (turns + 1) made later (sym (rw is refl) ∙ e)
    at false is = not_broken (breach FLAT_MODEL_TOO_LARGE asked) (made, later) (sym (rw is refl) ∙ e)

loop_bare : (tree : Tree) (place : Place) (indices : List (IndexOf Expr)) (body : Site → Turning Made) → ((site : Site) → site.undecided ≡ true → BareTurn (body site)) →
    (site : Site) → site.undecided ≡ true → BareTurn (made_loop tree place indices body site)
loop_bare tree place [] body bare site h turns made later e = bare site h turns made later e
loop_bare tree place (index ∷ indices) body bare site h turns made later e =
    let numbers = after (turn_none (numbers_of_index tree place site.scope index.range) turns)
    (λ ns. gathered (λ n. one_turn (place_of_root tree) (made_loop tree place indices body (with_iteration site index.name n))) ns.0 ns.1) (made, later) e in
    gathered_bare (λ n. one_turn (place_of_root tree) (made_loop tree place indices body (with_iteration site index.name n))) numbers.value.0 (every (loop_bare tree place indices body bare) numbers.value.0)
    numbers.value.1 made later numbers.gives
  where
    every : ((s : Site) → s.undecided ≡ true → BareTurn (made_loop tree place indices body s)) → (ns : List ℤ) →
        Every (λ n. BareTurn (one_turn (place_of_root tree) (made_loop tree place indices body (with_iteration site index.name n)))) ns
    every inner [] = tt
    every inner (n ∷ ns) = (turn_bare (place_of_root tree) (made_loop tree place indices body (with_iteration site index.name n)) (inner (with_iteration site index.name n) h), every inner ns)

-- branches that are left have no asserts, and the last one has none where no value decides or other branches are left
record BareChoice (undecided : Bool) (choice : Choice) : Type 0 where
  branches : Every (λ (one : FlatExpr × Made). one.1.asserts ≡ []) choice.0
  decided : undecided ≡ true → choice.1.asserts ≡ []
  bare : IsBare choice

abbrev AreBranches : List (Expr × List (EquationOf Former)) → Type 0
AreBranches branches = Every (λ (branch : Expr × List (EquationOf Former)). AreFormed branch.1) branches

module _ (tree : Tree) where
  choice_bare : (site : Site) (branches : List (Expr × List (EquationOf Former))) (others : List (EquationOf Former)) → AreBranches branches → AreFormed others →
      (turns : ℕ) (choice : Choice) (later : ℕ) → made_choice tree site branches others turns ≡ Ok (choice, later) → BareChoice site.undecided choice
  choice_bare site [] others all other turns choice later e =
      let made = after (all_made others site turns) (λ m. turn_none (Ok ([], m.0)) m.1) (choice, later) e in
      subst (BareChoice site.undecided) (ap (λ p. p.0) (same_ok (([], made.value.0), made.value.1) (choice, later) made.gives))
      (record { branches = tt; decided = λ h. all_bare others site other h turns made.value.0 made.value.1 made.is; bare = tt })
  choice_bare site (branch ∷ branches) others all other turns choice later e =
      at (choice_bare (in_branch site) branches others all.1 other) (choice_bare site branches others all.1 other) (condition_known tree site.scope branch.0) refl
    where
      Below : Site → Type 0
      Below below = (turns : ℕ) (choice : Choice) (later : ℕ) → made_choice tree below branches others turns ≡ Ok (choice, later) → BareChoice below.undecided choice

      last : (after_turns : ℕ) → and_then (all_made branch.1 site after_turns) (λ m. turn_none (Ok ([], m.0)) m.1) ≡ Ok (choice, later) → BareChoice site.undecided choice
      last after_turns h =
          let made = after (all_made branch.1 site after_turns) (λ m. turn_none (Ok ([], m.0)) m.1) (choice, later) h in
          subst (BareChoice site.undecided) (ap (λ p. p.0) (same_ok (([], made.value.0), made.value.1) (choice, later) made.gives))
          (record { branches = tt; decided = λ u. all_bare branch.1 site all.0 u after_turns made.value.0 made.value.1 made.is; bare = tt })

      kept : Below (in_branch site) → and_then (undecided_branch tree site branch turns) (λ first. turn_then (made_choice tree (in_branch site) branches others) (λ more. turn_none (Ok (first.0 ∷ more.0, more.1))) first.1) ≡ Ok (choice, later) →
          BareChoice site.undecided choice
      kept further h =
          let first = after (undecided_branch tree site branch turns) (λ first. turn_then (made_choice tree (in_branch site) branches others) (λ more. turn_none (Ok (first.0 ∷ more.0, more.1))) first.1) (choice, later) h in
          let more = after (made_choice tree (in_branch site) branches others first.value.1) (λ more. turn_none (Ok (first.value.0 ∷ more.0.0, more.0.1)) more.1) (choice, later) first.gives in
          let condition = after (turn_none (flat_condition tree site.scope branch.0) turns) (λ c. turn_then (all_made branch.1 (in_branch site)) (λ m. turn_none (Ok (c.0, m))) c.1) first.value first.is in
          let body = after (all_made branch.1 (in_branch site) condition.value.1) (λ m. turn_none (Ok (condition.value.0, m.0)) m.1) first.value condition.gives in
          let one : first.value.0.1.asserts ≡ [] =
          subst Bare (ap (λ p. p.0.1) (same_ok ((condition.value.0, body.value.0), body.value.1) first.value body.gives))
          (all_bare branch.1 (in_branch site) all.0 refl condition.value.1 body.value.0 body.value.1 body.is) in
          let rest = further first.value.1 more.value.0 more.value.1 more.is in
          subst (BareChoice site.undecided) (ap (λ p. p.0) (same_ok ((first.value.0 ∷ more.value.0.0, more.value.0.1), more.value.1) (choice, later) more.gives))
          (record { branches = (one, rest.branches); decided = λ u. rest.decided refl; bare = ((one, rest.branches), rest.decided refl) })

      at : Below (in_branch site) → Below site → (o : Outcome Known) → condition_known tree site.scope branch.0 ≡ o → BareChoice site.undecided choice
      at inner same (Err broken) is = not_broken broken (choice, later) (sym (rw is refl) ∙ e)
      at inner same (Ok None) is = kept inner (sym (rw is refl) ∙ e)
      at inner same (Ok (Some (Whole n))) is = kept inner (sym (rw is refl) ∙ e)
      at inner same (Ok (Some (Literal class n))) is = kept inner (sym (rw is refl) ∙ e)
      at inner same (Ok (Some (Truth true))) is = last turns (sym (rw is refl) ∙ e)
      at inner same (Ok (Some (Truth false))) is = same turns choice later (sym (rw is refl) ∙ e)

  joined_bare : (place : Place) (undecided : Bool) (choice : Choice) (made : Made) → BareChoice undecided choice → undecided ≡ true → made_if place choice ≡ Ok made → Bare made
  joined_bare place undecided ([], other) made bare u e = subst Bare (same_ok other made e) (bare.decided u)
  joined_bare place undecided (branch ∷ branches, other) made bare u e = at (have_equal_counts (branch ∷ branches) other) refl
    where
      at : (b : Bool) → have_equal_counts (branch ∷ branches) other ≡ b → Bare made
      at true is = subst Bare (same_ok (made_equations (map (joined_equation place) (joined_branches (branch ∷ branches) other))) made (sym (rw is refl) ∙ e)) refl
      at false is = not_broken (breach BRANCH_COUNTS_DIFFER place) made (sym (rw is refl) ∙ e)

  -- ---- all forms

  -- what holds of the parts of a form
  abbrev Holds : EquationKind-F Former → Type 0
  Holds (EquationKind-F.If branches others) = AreBranches branches × AreFormed others
  Holds (EquationKind-F.For indices equations) = AreFormed equations
  Holds node = Unit {0}

  form_bare : (node : EquationKind-F Former) → Holds node → BareFormer (made_form tree node)
  form_bare (EquationKind-F.Equal left right) h place site u turns made later e =
      let one = after (and_then (equalities tree site.scope place left right) (λ equations. Ok (made_equations equations))) (λ m. Ok (m, turns)) (made, later) e in
      let equations = after (equalities tree site.scope place left right) (λ equations. Ok (made_equations equations)) one.value one.is in
      subst Bare (same_ok (made_equations equations.value) one.value equations.gives ∙ ap (λ p. p.0) (same_ok (one.value, turns) (made, later) one.gives)) refl
  form_bare (EquationKind-F.If branches others) h place site u turns made later e =
      let choice = after (made_choice tree site branches others turns) (λ c. turn_none (made_if place c.0) c.1) (made, later) e in
      let one = after (made_if place choice.value.0) (λ m. Ok (m, choice.value.1)) (made, later) choice.gives in
      subst Bare (ap (λ p. p.0) (same_ok (one.value, choice.value.1) (made, later) one.gives))
      (joined_bare place site.undecided choice.value.0 one.value (choice_bare site branches others h.0 h.1 turns choice.value.0 choice.value.1 choice.is) u one.is)
  form_bare (EquationKind-F.For indices equations) h place site u turns made later e =
      loop_bare tree place indices (all_made equations) (λ site u. all_bare equations site h u) site u turns made later e
  form_bare (EquationKind-F.When branches) h place site u turns made later e = not_broken (breach OUTSIDE_PROFILE place) (made, later) e
  form_bare (EquationKind-F.Connect left right) h place site u turns made later e = not_broken (breach CONNECT_UNDER_OPEN_CONDITION place) (made, later) (sym (rw u refl) ∙ e)
  form_bare (EquationKind-F.Call called arguments) h place site u turns made later e = at (is_assert called) refl
    where
      at : (b : Bool) → is_assert called ≡ b → made.asserts ≡ []
      at true is = not_broken (breach OUTSIDE_PROFILE place) (made, later) (sym (rw (is, u) refl) ∙ e)
      at false is = not_broken (breach OUTSIDE_PROFILE place) (made, later) (sym (rw is refl) ∙ e)

  abbrev P : EquationKind → Type 0
  P kind = BareFormer (made_kind tree kind)

  abbrev T : Type 0
  T = (kind : EquationKind) × P kind

  abbrev kind_of : EquationOf T → EquationOf EquationKind
  kind_of equation = record { place = equation.place; what = equation.what.0 }

  formed_all : (equations : List (EquationOf T)) → AreFormed (map (formed_at tree) (map kind_of equations))
  formed_all [] = tt
  formed_all (q ∷ qs) = (q.what.1, formed_all qs)

  branches_all : (branches : List (Expr × List (EquationOf T))) → AreBranches (map (branch_at tree) (map (λ b. (b.0, map kind_of b.1)) branches))
  branches_all [] = tt
  branches_all (b ∷ bs) = (formed_all b.1, branches_all bs)

  parts_hold : (y : EquationKind-F T) → Holds (map-EquationKind EquationKind Former (made_kind tree) (map-EquationKind T EquationKind (λ t. t.0) y))
  parts_hold (EquationKind-F.Equal left right) = tt
  parts_hold (EquationKind-F.If branches others) = (branches_all branches, formed_all others)
  parts_hold (EquationKind-F.For indices equations) = formed_all equations
  parts_hold (EquationKind-F.When branches) = tt
  parts_hold (EquationKind-F.Connect left right) = tt
  parts_hold (EquationKind-F.Call called arguments) = tt

  -- equations of undecided sites make no asserts
  pub kind_bare : (kind : EquationKind) → BareFormer (made_kind tree kind)
  kind_bare = ind-EquationKind P (λ x y is.
      subst BareFormer (sym (fold-roll-EquationKind Former (made_form tree) x))
      (subst (λ z. BareFormer (made_form tree (map-EquationKind EquationKind Former (made_kind tree) z))) is
      (form_bare (map-EquationKind EquationKind Former (made_kind tree) (map-EquationKind T EquationKind (λ t. t.0) y)) (parts_hold y))))

  all_formed : (equations : List (EquationOf EquationKind)) → AreFormed (map (formed_at tree) equations)
  all_formed [] = tt
  all_formed (q ∷ qs) = (kind_bare q.what, all_formed qs)

  all_branches : (branches : List (Expr × List (EquationOf EquationKind))) → AreBranches (map (branch_at tree) branches)
  all_branches [] = tt
  all_branches (b ∷ bs) = (all_formed b.1, all_branches bs)

  pub all_made_bare : (equations : List (EquationOf EquationKind)) (site : Site) → site.undecided ≡ true → BareTurn (all_made_at tree equations site)
  all_made_bare equations site u = all_bare (map (formed_at tree) equations) site (all_formed equations) u

  -- the branches that are left
  pub choice_is_bare : (site : Site) (branches : List (Expr × List (EquationOf EquationKind))) (others : List (EquationOf EquationKind)) (turns : ℕ) (choice : Choice) (later : ℕ) →
      choice_at tree site branches others turns ≡ Ok (choice, later) → IsBare choice
  choice_is_bare site branches others turns choice later e =
      (choice_bare site (map (branch_at tree) branches) (map (formed_at tree) others) (all_branches branches) (all_formed others) turns choice later e).bare
