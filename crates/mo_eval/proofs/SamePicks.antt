-- What is picked for an element of a component is one expression in one scope, whatever its index: an index is only added to the pending
-- ones.
use Rattle.std.proofs.Common.{◌≡◌, ℕ, ◌+◌, Bool, true, false, List, [], ◌∷◌, ◌++◌, map, Option, Some, None, Ok, Err, refl, ap, sym, ◌∙◌}
use Rattle.std.specs.Prelude.{flat_map, option_map}
use Rattle.std.specs.Str.{bytes_eq}
use Rattle.std.proofs.lemmas.List.{map-append}
use Rattle.mo_syntax.specs.Outcome.{Outcome, and_then}
use Rattle.mo_syntax.specs.declared.expr.Expr.{Expr}
use Rattle.mo_syntax.specs.declared.class.ArgumentOf.{ArgumentOf}
use Rattle.mo_syntax.specs.declared.class.Body.{Body}
use Rattle.mo_syntax.specs.declared.class.ComponentOf.{ComponentOf}
use Rattle.mo_syntax.specs.declared.class.Element.{Element}
use Rattle.mo_syntax.specs.declared.class.Give.{Give, Give-F, out-Give}
use Rattle.mo_syntax.specs.declared.class.Item.{Item}
use Rattle.mo_syntax.specs.declared.class.What.{What}
use Rattle.mo_scope.specs.Frames.{Frame, Scope, Given, Listed, Argued, Replacing, Origin, Source, Member, sources_of}
use Rattle.mo_scope.specs.Lookup.{Classed, asking_of, class_named, entered}
use Rattle.mo_scope.specs.Names.{Child, child_of_member, typed_by}
use Rattle.mo_scope.specs.Parts.{Saying, Modifies, Redeclares, Redeclaration, Picked, begins_with, behind_name, brought, component_sources, declared_in, declared_sources, element_sources, first_of, held, is_nothing, names_left, parts, pending_behind, picked_here, redeclarations, redeclarations_in, redeclared, said, said_behind, said_by_all, said_by_argument, said_by_element, said_further, sources_said, through_component, with_list, written}
use Rattle.mo_scope.specs.Rows.{Table, Constraint, Modifiers, component_of, is_class}
use Rattle.mo_eval.specs.Components.{binding_of}

-- ---- what is left without the pending indices

abbrev bare : Source → Source
bare source = record {
  piece = record {
    given = source.piece.given;
    pending = [];
    listing = source.piece.listing;
    last = source.piece.last;
    outside = source.piece.outside;
    origin = source.piece.origin;
  };
  scope = source.scope;
}

abbrev bare_redeclaration : Redeclaration → Redeclaration
bare_redeclaration it = record { declares = it.declares; place = it.place; keeps = it.keeps; source = bare it.source }

bare_saying : Saying → Saying
bare_saying (Modifies source) = Modifies (bare source)
bare_saying (Redeclares it) = Redeclares (bare_redeclaration it)

abbrev pub bare_pick : Picked → Picked
bare_pick it = record { value = it.value; scope = it.scope; pending = [] }

-- ---- lists

each_alike : {A B C : Type 0} (f : B → C) (g h : A → List B) → ((x : A) → map f (g x) ≡ map f (h x)) → (xs : List A) → map f (flat_map g xs) ≡ map f (flat_map h xs)
each_alike f g h same [] = refl
each_alike f g h same (x ∷ xs) =
    map-append f (g x) (flat_map g xs)
    ∙ (ap (λ ys. ys ++ map f (flat_map g xs)) (same x)
    ∙ (ap (λ ys. map f (h x) ++ ys) (each_alike f g h same xs) ∙ sym (map-append f (h x) (flat_map h xs))))

both_alike : {B C : Type 0} (f : B → C) (a b c d : List B) → map f a ≡ map f b → map f c ≡ map f d → map f (a ++ c) ≡ map f (b ++ d)
both_alike f a b c d first second =
    map-append f a c ∙ (ap (λ ys. ys ++ map f c) first ∙ (ap (λ ys. map f b ++ ys) second ∙ sym (map-append f b d)))

-- ---- what a source says of a name

behind_alike : (table : Table) (argument : ArgumentOf Give) (passed : ℕ) (a b : Source) → bare a ≡ bare b → bare_saying (said_behind table argument passed a) ≡ bare_saying (said_behind table argument passed b)
unfolding bare_saying
behind_alike table argument passed a b same = go (names_left argument passed) refl (out-Give argument.give) refl
  where
    go : (names : List (List ℕ)) → names_left argument passed ≡ names → (give : Give-F Body Give Item What Element) → out-Give argument.give ≡ give →
        bare_saying (said_behind table argument passed a) ≡ bare_saying (said_behind table argument passed b)
    go [] h (Give-F.Redeclare element) g = rw (h, g, same) refl
    go [] h (Give-F.Replaceable element) g = rw (h, g, same) refl
    go [] h (Give-F.Modify mods value) g = rw (h, g, same) refl
    go (name ∷ names) h give g = rw (h, same) refl

module _ (table : Table) (name i j : List ℕ) where
  argument_alike : (source : Source) (argument : ArgumentOf Give) → map bare_saying (said_by_argument table source name i argument) ≡ map bare_saying (said_by_argument table source name j argument)
  argument_alike source argument = go (begins_with name argument.name.0) refl
    where
      go : (b : Bool) → begins_with name argument.name.0 ≡ b → map bare_saying (said_by_argument table source name i argument) ≡ map bare_saying (said_by_argument table source name j argument)
      go true h = rw h (ap (λ s. s ∷ []) (behind_alike table argument 1
          (behind_name source name (pending_behind argument.each source.piece.pending i) argument.last (Argued argument 1))
          (behind_name source name (pending_behind argument.each source.piece.pending j) argument.last (Argued argument 1)) refl))
      go false h = rw h refl

  further_alike : (source : Source) (argument : ArgumentOf Give) (passed : ℕ) → map bare_saying (said_further table source name i argument passed) ≡ map bare_saying (said_further table source name j argument passed)
  further_alike source argument passed = go (begins_with name (names_left argument passed)) refl
    where
      go : (b : Bool) → begins_with name (names_left argument passed) ≡ b → map bare_saying (said_further table source name i argument passed) ≡ map bare_saying (said_further table source name j argument passed)
      go true h = rw h (ap (λ s. s ∷ []) (behind_alike table argument (passed + 1)
          (behind_name source name (source.piece.pending ++ i) false (Argued argument (passed + 1)))
          (behind_name source name (source.piece.pending ++ j) false (Argued argument (passed + 1))) refl))
      go false h = rw h refl

  element_alike : (source : Source) (element : Element) → map bare_saying (said_by_element table source name i (declared_in table element)) ≡ map bare_saying (said_by_element table source name j (declared_in table element))
  unfolding bare_saying
  element_alike source element = go (bytes_eq (declared_in table element).name name) refl
    where
      go : (b : Bool) → bytes_eq (declared_in table element).name name ≡ b → map bare_saying (said_by_element table source name i (declared_in table element)) ≡ map bare_saying (said_by_element table source name j (declared_in table element))
      go true h = rw h refl
      go false h = rw h refl

  said_alike : (source : Source) → map bare_saying (said table name i source) ≡ map bare_saying (said table name j source)
  said_alike source = go source.piece.given refl
    where
      go : (given : Given) → source.piece.given ≡ given → map bare_saying (said table name i source) ≡ map bare_saying (said table name j source)
      go (Listed modifiers) h = rw h (each_alike bare_saying (said_by_argument table source name i) (said_by_argument table source name j) (argument_alike source) modifiers.list)
      go (Argued argument passed) h = rw h (both_alike bare_saying _ _ _ _ (further_alike source argument passed)
          (each_alike bare_saying (said_by_argument table source name i) (said_by_argument table source name j) (argument_alike source) (held (Argued argument passed)).list))
      go (Replacing elements) h = rw h (each_alike bare_saying (λ element. said_by_element table source name i (declared_in table element)) (λ element. said_by_element table source name j (declared_in table element)) (element_alike source) elements)

  all_alike : (sources : List Source) → map bare_saying (said_by_all table name i sources) ≡ map bare_saying (said_by_all table name j sources)
  all_alike sources = each_alike bare_saying (said table name i) (said table name j) said_alike sources

-- ---- the sources among what is said

bare_list : (source : Source) (modifiers : Modifiers) → map bare (with_list source modifiers) ≡ with_list (bare source) modifiers
bare_list source modifiers = go (is_nothing modifiers) refl
  where
    go : (b : Bool) → is_nothing modifiers ≡ b → map bare (with_list source modifiers) ≡ with_list (bare source) modifiers
    go true h = rw h refl
    go false h = rw h refl

bare_sources : (wins : Bool) (sayings : List Saying) → map bare (sources_said wins sayings) ≡ sources_said wins (map bare_saying sayings)
unfolding bare_saying
bare_sources wins [] = refl
bare_sources wins (Modifies source ∷ sayings) = ap (λ xs. bare source ∷ xs) (bare_sources wins sayings)
bare_sources wins (Redeclares it ∷ sayings) =
    map-append bare (with_list it.source (brought wins it)) (sources_said false sayings)
    ∙ (ap (λ xs. xs ++ map bare (sources_said false sayings)) (bare_list it.source (brought wins it))
    ∙ ap (λ xs. with_list (bare it.source) (brought wins it) ++ xs) (bare_sources false sayings))

bare_redeclarations : (sayings : List Saying) → map bare_redeclaration (redeclarations_in sayings) ≡ redeclarations_in (map bare_saying sayings)
unfolding bare_saying
bare_redeclarations [] = refl
bare_redeclarations (Modifies source ∷ sayings) = bare_redeclarations sayings
bare_redeclarations (Redeclares it ∷ sayings) = ap (λ xs. bare_redeclaration it ∷ xs) (bare_redeclarations sayings)

bare_first : (xs : List Redeclaration) → option_map bare_redeclaration (first_of xs) ≡ first_of (map bare_redeclaration xs)
bare_first [] = refl
bare_first (x ∷ xs) = refl

written_alike : (home : Frame) (i j : List ℕ) (origin : Origin) (modifiers : Modifiers) → map bare (written home i origin modifiers) ≡ map bare (written home j origin modifiers)
written_alike home i j origin modifiers = go (is_nothing modifiers) refl
  where
    go : (b : Bool) → is_nothing modifiers ≡ b → map bare (written home i origin modifiers) ≡ map bare (written home j origin modifiers)
    go true h = rw h refl
    go false h = rw h refl

through_bare : (sources : List Source) → map bare (map through_component sources) ≡ map through_component (map bare sources)
through_bare [] = refl
through_bare (source ∷ sources) = ap (λ xs. bare (through_component source) ∷ xs) (through_bare sources)

-- ---- an element of a component

module _ (table : Table) (member : Member) (i j : List ℕ) where
  parts_alike : map bare (parts table (sources_of member.home) member.name i) ≡ map bare (parts table (sources_of member.home) member.name j)
  parts_alike =
      bare_sources true (said_by_all table member.name i (sources_of member.home))
      ∙ (ap (sources_said true) (all_alike table member.name i j (sources_of member.home))
      ∙ sym (bare_sources true (said_by_all table member.name j (sources_of member.home))))

  abbrev wins_at : List ℕ → Option Redeclaration
  wins_at index = redeclared table (sources_of member.home) member.name index

  bare_wins : (index : List ℕ) → option_map bare_redeclaration (wins_at index) ≡ first_of (redeclarations_in (map bare_saying (said_by_all table member.name index (sources_of member.home))))
  bare_wins index =
      bare_first (redeclarations table (sources_of member.home) member.name index)
      ∙ ap first_of (bare_redeclarations (said_by_all table member.name index (sources_of member.home)))

  wins_alike : option_map bare_redeclaration (wins_at i) ≡ option_map bare_redeclaration (wins_at j)
  wins_alike = bare_wins i ∙ (ap (λ sayings. first_of (redeclarations_in sayings)) (all_alike table member.name i j (sources_of member.home)) ∙ sym (bare_wins j))

  declared_alike : (a b : Option Redeclaration) → option_map bare_redeclaration a ≡ option_map bare_redeclaration b → map bare (declared_sources member i a) ≡ map bare (declared_sources member j b)
  declared_alike a b same = go a b same member.declares.limit refl (is_class member.declares) refl
    where
      go : (a b : Option Redeclaration) → option_map bare_redeclaration a ≡ option_map bare_redeclaration b → (limit : Option Constraint) → member.declares.limit ≡ limit → (c : Bool) → is_class member.declares ≡ c →
          map bare (declared_sources member i a) ≡ map bare (declared_sources member j b)
      go None None same None h true is = rw (h, is) refl
      go None None same None h false is = rw (h, is) (written_alike member.home i j _ member.declares.own)
      go None None same (Some limit) h true is = rw (h, is) (written_alike member.home i j _ limit.modifiers)
      go None None same (Some limit) h false is = rw (h, is) (both_alike bare _ _ _ _ (written_alike member.home i j _ member.declares.own) (written_alike member.home i j _ limit.modifiers))
      go (Some x) (Some y) same None h c is = rw h (written_alike member.home i j _ member.declares.own)
      go (Some x) (Some y) same (Some limit) h c is = rw h (written_alike member.home i j _ limit.modifiers)
      go None (Some y) same limit h c is = absurd (cc)
      go (Some x) None same limit h c is = absurd (cc)

  sources_alike : (type : Frame) → map bare (component_sources table member i type) ≡ map bare (component_sources table member j type)
  sources_alike type = both_alike bare _ _ _ _
      (through_bare (element_sources table member i)
      ∙ (ap (map through_component) (both_alike bare _ _ _ _ parts_alike (declared_alike (wins_at i) (wins_at j) wins_alike)) ∙ sym (through_bare (element_sources table member j))))
      refl

  typed_alike : (component : ComponentOf Give) (a b : Option Redeclaration) → option_map bare_redeclaration a ≡ option_map bare_redeclaration b → typed_by member component a ≡ typed_by member component b
  typed_alike component None None same = refl
  typed_alike component (Some x) (Some y) same =
      let one : ◌≡◌ {A = Redeclaration} (bare_redeclaration x) (bare_redeclaration y) = cc in
      ap (λ it. typed_by member component (Some it)) one
  typed_alike component None (Some y) same = absurd (cc)
  typed_alike component (Some x) None same = absurd (cc)

-- ---- what is picked

bare_picked : (sources : List Source) → option_map bare_pick (picked_here sources) ≡ picked_here (map bare sources)
bare_picked [] = refl
bare_picked (source ∷ sources) = go (held source.piece.given).value refl (bare_picked sources)
  where
    go : (o : Option Expr) → (held source.piece.given).value ≡ o → option_map bare_pick (picked_here sources) ≡ picked_here (map bare sources) →
        option_map bare_pick (picked_here (source ∷ sources)) ≡ picked_here (map bare (source ∷ sources))
    go (Some value) h others = rw h refl
    go None h others = rw h others

abbrev picks : Outcome Child → Outcome (Option Picked)
picks child = and_then child (λ child. Ok (option_map bare_pick (picked_here child.sources)))

pick_of : (table : Table) (child : Outcome Child) (a : Picked) → and_then child (λ child. Ok (picked_here child.sources)) ≡ Ok (Some a) → picks child ≡ Ok (Some (bare_pick a))
pick_of table (Ok child) a is = let e : ◌≡◌ {A = Option Picked} (picked_here child.sources) (Some a) = cc in rw e refl
pick_of table (Err broken) a is = absurd (cc)

module _ (table : Table) (member : Member) (i j : List ℕ) where
  child_alike : picks (child_of_member table member i) ≡ picks (child_of_member table member j)
  child_alike = go (component_of member.declares) refl
    where
      found : (type : Outcome Classed) → picks (and_then type (λ type. Ok (record { declares = member.declares; redeclared = wins_at table member i j i; class = type.frame; sources = component_sources table member i type.frame })))
          ≡ picks (and_then type (λ type. Ok (record { declares = member.declares; redeclared = wins_at table member i j j; class = type.frame; sources = component_sources table member j type.frame })))
      found (Ok type) = ap Ok (bare_picked (component_sources table member i type.frame) ∙ (ap picked_here (sources_alike table member i j type.frame) ∙ sym (bare_picked (component_sources table member j type.frame))))
      found (Err broken) = refl

      typed : (component : ComponentOf Give) (one : Outcome (ComponentOf Give × Scope)) →
          picks (and_then one (λ typed. and_then (class_named table (asking_of table) false typed.1 typed.0.base) (λ type. Ok (record { declares = member.declares; redeclared = wins_at table member i j i; class = type.frame; sources = component_sources table member i type.frame }))))
          ≡ picks (and_then one (λ typed. and_then (class_named table (asking_of table) false typed.1 typed.0.base) (λ type. Ok (record { declares = member.declares; redeclared = wins_at table member i j j; class = type.frame; sources = component_sources table member j type.frame }))))
      typed component (Ok it) = found (class_named table (asking_of table) false it.1 it.0.base)
      typed component (Err broken) = refl

      inside : (class : Outcome Frame) → picks (and_then class (λ class. Ok (record { declares = member.declares; redeclared = wins_at table member i j i; class = class; sources = sources_of class })))
          ≡ picks (and_then class (λ class. Ok (record { declares = member.declares; redeclared = wins_at table member i j j; class = class; sources = sources_of class })))
      inside (Ok class) = refl
      inside (Err broken) = refl

      go : (o : Option (ComponentOf Give)) → component_of member.declares ≡ o → picks (child_of_member table member i) ≡ picks (child_of_member table member j)
      go None h = rw h (inside (entered table member))
      go (Some component) h = rw (h, typed_alike table member i j component (wins_at table member i j i) (wins_at table member i j j) (wins_alike table member i j)) (typed component (typed_by member component (wins_at table member i j j)))

  pub same_binding : (a b : Picked) → binding_of table member i ≡ Ok (Some a) → binding_of table member j ≡ Ok (Some b) → bare_pick a ≡ bare_pick b
  same_binding a b first second =
      let one = pick_of table (child_of_member table member i) a first in
      let other = pick_of table (child_of_member table member j) b second in
      let same : ◌≡◌ {A = Outcome (Option Picked)} (Ok (Some (bare_pick a))) (Ok (Some (bare_pick b))) = sym one ∙ (child_alike ∙ other) in
      cc
