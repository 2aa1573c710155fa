-- A rule that the arguments of sources break is broken where the sources and the class table stand.
use Rattle.std.proofs.Common.{◌≡◌, ℕ, Bool, true, false, ◌||◌, List, [], ◌∷◌, ◌++◌, map, flat_map, Option, Some, None, is_some, nat_lt, refl, ap, sym, subst, ◌∙◌, if◌then◌else◌}
use Rattle.mo_syntax.specs.Outcome.{breach}
use Rattle.mo_syntax.specs.declared.rules.TheConstants.{MODIFIED_TWICE, FINAL_MODIFIED, WRONG_EACH}
use mathlib.Core.Path.{fun_ext}
use Rattle.mo_syntax.specs.declared.class.ArgumentOf.{ArgumentOf}
use Rattle.mo_syntax.specs.declared.class.Body.{Body}
use Rattle.mo_syntax.specs.declared.class.Element.{Element}
use Rattle.mo_syntax.specs.declared.class.Give.{Give, Give-F, out-Give, roll-Give, roll-out-Give, out-roll-Give, fold-roll-Give, map-Give, ind-Give}
use Rattle.mo_syntax.specs.declared.class.Item.{Item}
use Rattle.mo_syntax.specs.declared.class.What.{What}
use Rattle.mo_syntax.specs.declared.place.Broken.{Broken}
use Rattle.mo_syntax.specs.declared.place.Place.{Place}
use Rattle.mo_scope.specs.Outcome.{unless_broken}
use Rattle.mo_scope.specs.TreePlaces.{places_in_give}
use Rattle.mo_scope.specs.Places.{Every, IfAny, Answers, TableStands, ArgumentStands, DeclaresStand, SourceStands, GivenStands}
use Rattle.mo_scope.specs.Rows.{Table, Declares}
use Rattle.mo_scope.specs.Frames.{Given, Listed, Argued, Replacing, Listing, Source}
use Rattle.mo_scope.specs.Parts.{names_left, held, declared_in}
use Rattle.mo_scope.specs.Arguments.{Claim, Claims, claim, claims_in, claims_of, Asked, asked_argument, asked_rest, asked_element, asked_of, arguments_of, is_repeated, is_among, is_below_final, broken_claims, broken_argument, least, or_later, first_broken, broken_arguments, second_pass}
use Rattle.mo_scope.proofs.laws.Standing.{every_append, every_front, every_back, every_map, every_flat_map, every_weaker, if_list}
use Rattle.mo_scope.proofs.laws.TreeParts.{gathered_map, places_in_arguments, at_give}
use Rattle.mo_scope.proofs.laws.Sources.{held_stands, declared_stand}

-- ---- the paths of an argument by what it gives

abbrev claims_by : Give-F Body Give Item What Element → Claims
claims_by (Give-F.Modify mods value) path place last =
    (if is_some value then claim path place last ∷ [] else [])
    ++ flat_map (λ argument. claims_of argument.give (path ++ argument.name.0) argument.place (last || argument.last)) mods.0
claims_by (Give-F.Redeclare element) path place last = claim path place last ∷ []
claims_by (Give-F.Replaceable element) path place last = claim path place last ∷ []

claims_at : (give : Give) (g : Give-F Body Give Item What Element) → out-Give give ≡ g → claims_of give ≡ claims_by g
claims_at give (Give-F.Modify mods value) is = ap claims_of (sym (roll-out-Give give) ∙ ap roll-Give is)
    ∙ fold-roll-Give (Unit {0}) Claims (Unit {0}) (Unit {0}) (Unit {0}) (λ body. tt) claims_in (λ item. tt) (λ what. tt) (λ element. tt) (Give-F.Modify mods value)
    ∙ fun_ext (λ path. fun_ext (λ place. fun_ext (λ last.
    ap (λ rest. (if is_some value then claim path place last ∷ [] else []) ++ rest)
    (gathered_map (λ argument. argument.give (path ++ argument.name.0) argument.place (last || argument.last)) _ mods.0))))
claims_at give (Give-F.Redeclare element) is = ap claims_of (sym (roll-out-Give give) ∙ ap roll-Give is)
    ∙ fold-roll-Give (Unit {0}) Claims (Unit {0}) (Unit {0}) (Unit {0}) (λ body. tt) claims_in (λ item. tt) (λ what. tt) (λ element. tt) (Give-F.Redeclare element)
claims_at give (Give-F.Replaceable element) is = ap claims_of (sym (roll-out-Give give) ∙ ap roll-Give is)
    ∙ fold-roll-Give (Unit {0}) Claims (Unit {0}) (Unit {0}) (Unit {0}) (λ body. tt) claims_in (λ item. tt) (λ what. tt) (λ element. tt) (Give-F.Replaceable element)

module _ (P : Place → Type 0) where
  abbrev pub ClaimStands : Claim → Type 0
  ClaimStands one = P one.place

  -- the paths stand where the places of what is given stand
  abbrev Claimed : Give → Type 0
  Claimed give = Every P (places_in_give give) → (path : List (List ℕ)) (place : Place) (last : Bool) → P place → Every ClaimStands (claims_of give path place last)

  abbrev ClaimedGive : Type 0
  ClaimedGive = (give : Give) × Claimed give

  abbrev argument_of : ArgumentOf ClaimedGive → ArgumentOf Give
  argument_of a = record { each = a.each; last = a.last; name = a.name; place = a.place; give = a.give.0 }

  claimed_arguments : (xs : List (ArgumentOf ClaimedGive)) → Every P (places_in_arguments (map argument_of xs)) → (path : List (List ℕ)) (last : Bool) →
      Every ClaimStands (flat_map (λ argument. claims_of argument.give (path ++ argument.name.0) argument.place (last || argument.last)) (map argument_of xs))
  claimed_arguments [] h path last = tt
  claimed_arguments (x ∷ xs) h path last =
      every_append ClaimStands (claims_of x.give.0 (path ++ x.name.0) x.place (last || x.last)) _
      (x.give.1 (every_front P (places_in_give x.give.0) (places_in_arguments (map argument_of xs)) h.1) (path ++ x.name.0) x.place (last || x.last) h.0)
      (claimed_arguments xs (every_back P (places_in_give x.give.0) (places_in_arguments (map argument_of xs)) h.1) path last)

  abbrev Other : Type 0 → Type 0
  Other A = A × Unit {0}

  abbrev give_of : Give-F (Other Body) ClaimedGive (Other Item) (Other What) (Other Element) → Give
  give_of node = roll-Give (map-Give (Other Body) ClaimedGive (Other Item) (Other What) (Other Element) Body Give Item What Element (λ t. t.0) (λ t. t.0) (λ t. t.0) (λ t. t.0) (λ t. t.0) node)

  by_claims : (give : Give) (g : Give-F Body Give Item What Element) → out-Give give ≡ g →
      ((path : List (List ℕ)) (place : Place) (last : Bool) → P place → Every ClaimStands (claims_by g path place last)) →
      (path : List (List ℕ)) (place : Place) (last : Bool) → P place → Every ClaimStands (claims_of give path place last)
  by_claims give g is h path place last hp = subst (λ (c : Claims). Every ClaimStands (c path place last)) (sym (claims_at give g is)) (h path place last hp)

  step_give : (node : Give-F (Other Body) ClaimedGive (Other Item) (Other What) (Other Element)) → Claimed (give_of node)
  step_give (Give-F.Modify mods value) h =
      by_claims _ (Give-F.Modify (record { 0 = map argument_of mods.0 }) value) (out-roll-Give (Give-F.Modify (record { 0 = map argument_of mods.0 }) value))
      (λ path place last hp. every_append ClaimStands (if is_some value then claim path place last ∷ [] else []) _
      (if_list ClaimStands (is_some value) _ _ (hp, tt) tt)
      (claimed_arguments mods.0
      (subst (Every P) (at_give _ (Give-F.Modify (record { 0 = map argument_of mods.0 }) value) (out-roll-Give (Give-F.Modify (record { 0 = map argument_of mods.0 }) value))) h)
      path last))
  step_give (Give-F.Redeclare element) h =
      by_claims _ (Give-F.Redeclare element.0) (out-roll-Give (Give-F.Redeclare element.0)) (λ path place last hp. (hp, tt))
  step_give (Give-F.Replaceable element) h =
      by_claims _ (Give-F.Replaceable element.0) (out-roll-Give (Give-F.Replaceable element.0)) (λ path place last hp. (hp, tt))

  pub claimed : (give : Give) → Claimed give
  claimed = ind-Give (λ b. Unit {0}) Claimed (λ i. Unit {0}) (λ w. Unit {0}) (λ e. Unit {0})
      (λ x y is. tt)
      (λ x y is. subst (λ z. Claimed (roll-Give z)) is (step_give y))
      (λ x y is. tt)
      (λ x y is. tt)
      (λ x y is. tt)

  -- ---- the arguments of sources

  pub record AskedStands (asked : Asked) : Type 0 where
    pub place : P asked.place
    pub claims : Every ClaimStands asked.claims

  asked_argument_stands : (source : Source) (argument : ArgumentOf Give) → ArgumentStands P argument → AskedStands (asked_argument source argument)
  asked_argument_stands source argument h =
      record { place = h.0; claims = claimed argument.give h.1 argument.name.0 argument.place (source.piece.last || argument.last) h.0 }

  asked_rest_stand : (source : Source) (argument : ArgumentOf Give) (names : List (List ℕ)) → ArgumentStands P argument → Every AskedStands (asked_rest source argument names)
  asked_rest_stand source argument [] h = tt
  asked_rest_stand source argument (name ∷ names) h =
      (record { place = h.0; claims = claimed argument.give h.1 (name ∷ names) argument.place source.piece.last h.0 }, tt)

  asked_element_stands : (source : Source) (declares : Declares) → DeclaresStand P declares → AskedStands (asked_element source declares)
  asked_element_stands source declares h = record { place = h.place; claims = (h.place, tt) }

  -- ---- the rules

  abbrev BrokenStands : Broken → Type 0
  BrokenStands broken = P broken.place

  broken_claims_stand : (before after : List Asked) (listing : Listing) (passed claims : List Claim) → Every ClaimStands claims →
      Every BrokenStands (broken_claims before after listing passed claims)
  broken_claims_stand before after listing passed [] h = tt
  broken_claims_stand before after listing passed (one ∷ claims) h =
      every_append BrokenStands _ (broken_claims before after listing (passed ++ one ∷ []) claims)
      (every_append BrokenStands _ _
      (if_list BrokenStands (is_repeated before listing one || is_among passed one) (breach MODIFIED_TWICE one.place ∷ []) [] (h.0, tt) tt)
      (if_list BrokenStands (is_below_final after listing one) (breach FINAL_MODIFIED one.place ∷ []) [] (h.0, tt) tt))
      (broken_claims_stand before after listing (passed ++ one ∷ []) claims h.1)

  broken_argument_stand : (before after : List Asked) (asked : Asked) → AskedStands asked → Every BrokenStands (broken_argument before after asked)
  broken_argument_stand before after asked h =
      every_append BrokenStands (broken_claims before after asked.listing [] asked.claims) _
      (broken_claims_stand before after asked.listing [] asked.claims h.claims)
      (if_list BrokenStands asked.each (breach WRONG_EACH asked.place ∷ []) [] (h.place, tt) tt)

  if_broken : (b : Bool) (x y : Broken) → BrokenStands x → BrokenStands y → IfAny BrokenStands (if b then Some x else Some y)
  if_broken true x y hx hy = hx
  if_broken false x y hx hy = hy

  least_stands : (broken : List Broken) → Every BrokenStands broken → IfAny BrokenStands (least broken)
  least_stands [] h = tt
  least_stands (broken ∷ others) h = by (least others) refl (least_stands others h.1)
    where
      by : (other : Option Broken) → least others ≡ other → IfAny BrokenStands other → IfAny BrokenStands (least (broken ∷ others))
      by None is ho = rw is h.0
      by (Some other) is ho = rw is (if_broken (nat_lt other.rule broken.rule) other broken ho h.0)

  or_later_stands : (broken later : Option Broken) → IfAny BrokenStands broken → IfAny BrokenStands later → IfAny BrokenStands (or_later broken later)
  or_later_stands (Some broken) later h hl = h
  or_later_stands None later h hl = hl

  first_broken_stands : (before asked : List Asked) → Every AskedStands asked → IfAny BrokenStands (first_broken before asked)
  first_broken_stands before [] h = tt
  first_broken_stands before (asked ∷ after) h =
      or_later_stands (least (broken_argument before after asked)) _
      (least_stands (broken_argument before after asked) (broken_argument_stand before after asked h.0))
      (first_broken_stands (before ++ asked ∷ []) after h.1)

  unless_answers : (broken : Option Broken) → IfAny BrokenStands broken → Answers P (λ (u : Unit {0}). Unit {0}) (unless_broken broken tt)
  unless_answers None h = record { holds = tt }
  unless_answers (Some broken) h = record { holds = h }

module _ (P : Place → Type 0) (table : Table) (stands : TableStands P table) where
  asked_of_stand : (source : Source) → SourceStands P source → Every (AskedStands P) (asked_of table source)
  asked_of_stand source hs = by source.piece.given refl hs.0
    where
      arguments : (xs : List (ArgumentOf Give)) → Every (ArgumentStands P) xs → Every (AskedStands P) (map (asked_argument source) xs)
      arguments xs h = every_map (AskedStands P) (asked_argument source) xs (every_weaker (ArgumentStands P) _ (asked_argument_stands P source) xs h)

      by : (given : Given) → source.piece.given ≡ given → GivenStands P given → Every (AskedStands P) (asked_of table source)
      by (Listed modifiers) is h = rw is (arguments modifiers.list h)
      by (Argued argument passed) is h =
          rw is (every_append (AskedStands P) (asked_rest source argument (names_left argument passed)) _
          (asked_rest_stand P source argument (names_left argument passed) h)
          (arguments (held (Argued argument passed)).list (held_stands P table stands (Argued argument passed) h)))
      by (Replacing elements) is h =
          rw is (every_map (AskedStands P) (λ element. asked_element source (declared_in table element)) elements
          (every_weaker (λ element. DeclaresStand P (declared_in table element)) (λ element. AskedStands P (asked_element source (declared_in table element)))
          (λ element. asked_element_stands P source (declared_in table element)) elements (declared_stand P table stands elements h)))

  pub second_pass_answers : (sources : List Source) → Every (SourceStands P) sources → Answers P (λ (u : Unit {0}). Unit {0}) (second_pass table sources)
  second_pass_answers sources h =
      unless_answers P (broken_arguments table sources)
      (first_broken_stands P [] (arguments_of table sources)
      (every_flat_map (AskedStands P) (asked_of table) sources (every_weaker (SourceStands P) _ asked_of_stand sources h)))
