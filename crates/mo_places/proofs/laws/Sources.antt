-- What sources say of the elements of a frame stands where the sources and the class table stand.
use Rattle.std.proofs.Common.{◌≡◌, ℕ, ◌+◌, Bool, true, false, List, [], ◌∷◌, ◌++◌, map, Option, Some, None, refl, subst}
use Rattle.std.specs.Str.{bytes_eq}
use Rattle.mo_syntax.specs.declared.expr.Expr.{Expr}
use Rattle.mo_syntax.specs.declared.expr.ReferenceOf.{ReferenceOf}
use Rattle.mo_syntax.specs.declared.class.ArgumentOf.{ArgumentOf}
use Rattle.mo_syntax.specs.declared.class.Body.{Body, Body-F, out-Body}
use Rattle.mo_syntax.specs.declared.class.ComponentOf.{ComponentOf}
use Rattle.mo_syntax.specs.declared.class.Element.{Element, out-Element}
use Rattle.mo_syntax.specs.declared.class.Give.{Give, Give-F, out-Give}
use Rattle.mo_syntax.specs.declared.class.Item.{Item}
use Rattle.mo_syntax.specs.declared.class.ModsOf.{ModsOf}
use Rattle.mo_syntax.specs.declared.class.What.{What, What-F, out-What}
use Rattle.mo_places.specs.Written.{Written}
use Rattle.mo_places.specs.TreeWritten.{in_component, in_subs, in_value, places_of_parts, places_in_body, places_in_give, places_in_what, places_in_element}
use Rattle.mo_places.specs.Stands.{Every, IfAny, ArgumentStands, ModifiersStand, ConstraintStands, DeclaresStand, ElementStands, ClauseStands, RowStands, TableStands, GivenStands, FrameStands, SourcesStand, SourceStands, MemberStands, RedeclarationStands, SayingStands, ValueStands, PickedStands}
use Rattle.mo_scope.specs.Rows.{Table, Row, row_at, number_of_element, Modifiers, Constraint, constraint_in, Declares, declared_by, short_modifiers, Clause, is_class, is_short_redeclaration}
use Rattle.mo_scope.specs.Frames.{Given, Listed, Argued, Replacing, Origin, Frame, Top, In, Sources, No_source, Source_then, Source, Member, sources_of, listed, gathered}
use Rattle.mo_scope.specs.Parts.{names_left, begins_with, nested, held, Redeclaration, Saying, Modifies, Redeclares, said_behind, said_by_argument, said_in_list, said_further, said_by_element, said_by_elements, declared_in, said, said_by_all, redeclarations_in, redeclarations, redeclared, first_of, with_list, or_own, brought, sources_said, parts, written, own_source, constraint_source, declared_sources, element_sources, through_component, component_sources, without_value, class_sources, replacing_source, clause_source, base_sources, is_nothing, Picked, picked, picked_here}
use Rattle.mo_places.proofs.laws.Standing.{every_append, every_front, every_back, every_map, every_flat_map, every_weaker, if_list, any_find}
use Rattle.mo_places.proofs.laws.TreeParts.{places_in_arguments, places_in_limit, by_what, at_give, at_what, at_element, at_body}

-- ---- parts of trees

pub arguments_stand : (P : Written → Type 0) (xs : List (ArgumentOf Give)) → Every P (places_in_arguments xs) → Every (ArgumentStands P) xs
arguments_stand P [] h = tt
arguments_stand P (x ∷ xs) h = ((h.0, every_front P (places_in_give x.give) (places_in_arguments xs) h.1), arguments_stand P xs (every_back P (places_in_give x.give) (places_in_arguments xs) h.1))

pub limit_stands : (P : Written → Type 0) (limit : Option (ReferenceOf Expr × ModsOf Give)) → Every P (places_in_limit limit) → IfAny (ConstraintStands P) (constraint_in limit)
limit_stands P None h = tt
limit_stands P (Some limit) h = record {
  class = every_front P (places_of_parts limit.0.parts) (places_in_arguments limit.1.0) h;
  modifiers = (arguments_stand P limit.1.0 (every_back P (places_of_parts limit.0.parts) (places_in_arguments limit.1.0) h), tt);
}

pub short_stands : (P : Written → Type 0) (body : Body) → Every P (places_in_body body) → ModifiersStand P (short_modifiers body)
short_stands P body h = by (out-Body body) refl
  where
    by : (b : Body-F Body Give Item What Element) → out-Body body ≡ b → ModifiersStand P (short_modifiers body)
    by (Body-F.Long extending items external) is = rw is (tt, tt)
    by (Body-F.Short causal base subs mods) is =
        rw is (arguments_stand P mods.0 (every_front P (places_in_arguments mods.0) (in_subs subs) (every_back P (places_of_parts base.parts) (places_in_arguments mods.0 ++ in_subs subs) (subst (Every P) (at_body body _ is) h))), tt)
    by (Body-F.Enumeration literals) is = rw is (tt, tt)
    by (Body-F.Der function names) is = rw is (tt, tt)

-- the value of a list of none or one
pub value_stands : (P : Written → Type 0) (value : Option Expr) → Every P (in_value value) → ValueStands P value
value_stands P None h = tt
value_stands P (Some e) h = h.0

-- of the expressions of a component its binding
binding_stands : (P : Written → Type 0) (component : ComponentOf Give) → Every P (in_component component) → ValueStands P component.binding
binding_stands P component h =
    let own = in_value component.binding in
    value_stands P component.binding
    (every_back P (in_subs component.base_subs ++ in_subs component.subs) own
    (every_front P (in_subs component.base_subs ++ in_subs component.subs ++ own) (in_value component.condition) h))

pub element_stands : (P : Written → Type 0) (element : Element) (number : ℕ) → Every P (places_in_element element) → DeclaresStand P (declared_by element number)
element_stands P element number h = by (out-What (out-Element element).what) refl
  where
    whole : Every P (places_in_what (out-Element element).what)
    whole = every_front P (places_in_what (out-Element element).what) (places_in_limit (out-Element element).limit) (subst (Every P) (at_element element) h)

    limit : IfAny (ConstraintStands P) (constraint_in (out-Element element).limit)
    limit = limit_stands P (out-Element element).limit (every_back P (places_in_what (out-Element element).what) (places_in_limit (out-Element element).limit) (subst (Every P) (at_element element) h))

    by : (w : What-F Body Give Item What Element) → out-What (out-Element element).what ≡ w → DeclaresStand P (declared_by element number)
    by (What-F.Class class) is =
        let inside : Every P (by_what (What-F.Class class)) = subst (Every P) (at_what (out-Element element).what _ is) whole in
        rw is (record { place = inside.0; sort = tt; own = short_stands P class.body inside.1; limit = limit })
    by (What-F.Component component) is =
        let inside : Every P (by_what (What-F.Component component)) = subst (Every P) (at_what (out-Element element).what _ is) whole in
        let arguments = places_in_arguments component.mods.0 in
        let behind = arguments ++ in_component component in
        let rest = every_back P (places_of_parts component.base.parts) behind inside.1 in
        rw is (record {
          place = inside.0;
          sort = (every_front P (places_of_parts component.base.parts) behind inside.1, every_back P arguments (in_component component) rest);
          own = (arguments_stand P component.mods.0 (every_front P arguments (in_component component) rest), binding_stands P component (every_back P arguments (in_component component) rest));
          limit = limit;
        })

pub nested_stands : (P : Written → Type 0) (give : Give) → Every P (places_in_give give) → ModifiersStand P (nested give)
nested_stands P give h = by (out-Give give) refl
  where
    by : (g : Give-F Body Give Item What Element) → out-Give give ≡ g → ModifiersStand P (nested give)
    by (Give-F.Modify mods value) is =
        let whole : Every P (places_in_arguments mods.0 ++ in_value value) = subst (Every P) (at_give give _ is) h in
        rw is (arguments_stand P mods.0 (every_front P (places_in_arguments mods.0) (in_value value) whole), value_stands P value (every_back P (places_in_arguments mods.0) (in_value value) whole))
    by (Give-F.Redeclare element) is = rw is (tt, tt)
    by (Give-F.Replaceable element) is = rw is (tt, tt)

-- ---- sources of frames

pub listed_stand : (P : Written → Type 0) (sources : Sources) → SourcesStand P sources → Every (SourceStands P) (listed sources)
listed_stand P No_source h = tt
listed_stand P (Source_then piece frame iterations others) h = ((h.0, h.1), listed_stand P others h.2)

pub gathered_stand : (P : Written → Type 0) (sources : List Source) → Every (SourceStands P) sources → SourcesStand P (gathered sources)
gathered_stand P [] h = tt
gathered_stand P (source ∷ sources) h = (h.0.0, h.0.1, gathered_stand P sources h.1)

pub sources_stand : (P : Written → Type 0) (frame : Frame) → FrameStands P frame → Every (SourceStands P) (sources_of frame)
sources_stand P Top h = tt
sources_stand P (In class sources outer at owner) h = listed_stand P sources h.0

pub first_stands : {A : Type 0} (Q : A → Type 0) (xs : List A) → Every Q xs → IfAny Q (first_of xs)
first_stands Q [] h = tt
first_stands Q (x ∷ xs) h = h.0

pub redeclarations_stand : (P : Written → Type 0) (sayings : List Saying) → Every (SayingStands P) sayings → Every (RedeclarationStands P) (redeclarations_in sayings)
redeclarations_stand P [] h = tt
redeclarations_stand P (Modifies source ∷ sayings) h = redeclarations_stand P sayings h.1
redeclarations_stand P (Redeclares redeclaration ∷ sayings) h = (h.0, redeclarations_stand P sayings h.1)

-- ---- what sources say

module _ (P : Written → Type 0) (table : Table) (stands : TableStands P table) where
  pub row_stands : (number : ℕ) → IfAny (RowStands P) (row_at table number)
  row_stands number = any_find (RowStands P) _ table stands

  pub declared_stand : (elements : List Element) → Every (ElementStands P) elements → Every (λ element. DeclaresStand P (declared_in table element)) elements
  declared_stand elements h = every_weaker (ElementStands P) (λ element. DeclaresStand P (declared_in table element)) (λ element. element_stands P element (number_of_element table element)) elements h

  pub said_behind_stands : (argument : ArgumentOf Give) (passed : ℕ) (source : Source) → ArgumentStands P argument → SourceStands P source →
      SayingStands P (said_behind table argument passed source)
  said_behind_stands argument passed source h hs = by (names_left argument passed) (out-Give argument.give) refl refl
    where
      by : (names : List (List ℕ)) (g : Give-F Body Give Item What Element) → names_left argument passed ≡ names → out-Give argument.give ≡ g →
          SayingStands P (said_behind table argument passed source)
      by [] (Give-F.Modify mods value) is gives = rw (is, gives) hs
      by [] (Give-F.Redeclare element) is gives =
          rw (is, gives) (record { declares = element_stands P element _ (subst (Every P) (at_give argument.give _ gives) h.1); place = h.0; source = hs })
      by [] (Give-F.Replaceable element) is gives =
          rw (is, gives) (record { declares = element_stands P element _ (subst (Every P) (at_give argument.give _ gives) h.1); place = h.0; source = hs })
      by (name ∷ names) g is gives = rw is hs

  pub said_by_argument_stand : (source : Source) (name index : List ℕ) → SourceStands P source → (argument : ArgumentOf Give) → ArgumentStands P argument →
      Every (SayingStands P) (said_by_argument table source name index argument)
  said_by_argument_stand source name index hs argument h =
      if_list (SayingStands P) (begins_with name argument.name.0) _ _ (said_behind_stands argument 1 _ h (h, hs.1), tt) tt

  said_in_list_stand : (source : Source) (name index : List ℕ) (arguments : List (ArgumentOf Give)) → SourceStands P source → Every (ArgumentStands P) arguments →
      Every (SayingStands P) (said_in_list table source name index arguments)
  said_in_list_stand source name index arguments hs h =
      every_flat_map (SayingStands P) (said_by_argument table source name index) arguments
      (every_weaker (ArgumentStands P) _ (said_by_argument_stand source name index hs) arguments h)

  pub said_further_stand : (source : Source) (name index : List ℕ) (argument : ArgumentOf Give) (passed : ℕ) → SourceStands P source → ArgumentStands P argument →
      Every (SayingStands P) (said_further table source name index argument passed)
  said_further_stand source name index argument passed hs h =
      if_list (SayingStands P) (begins_with name (names_left argument passed)) _ _ (said_behind_stands argument (passed + 1) _ h (h, hs.1), tt) tt

  pub said_by_element_stand : (source : Source) (name index : List ℕ) (declares : Declares) → SourceStands P source → DeclaresStand P declares →
      Every (SayingStands P) (said_by_element table source name index declares)
  said_by_element_stand source name index declares hs h =
      if_list (SayingStands P) (bytes_eq declares.name name) _ _ (record { declares = h; place = h.place; source = (h.own, hs.1) }, tt) tt

  said_by_elements_stand : (source : Source) (name index : List ℕ) (elements : List Element) → SourceStands P source → Every (ElementStands P) elements →
      Every (SayingStands P) (said_by_elements table source name index elements)
  said_by_elements_stand source name index [] hs h = tt
  said_by_elements_stand source name index (element ∷ elements) hs h =
      every_append (SayingStands P) (said_by_element table source name index (declared_in table element)) (said_by_elements table source name index elements)
      (said_by_element_stand source name index (declared_in table element) hs (element_stands P element (number_of_element table element) h.0))
      (said_by_elements_stand source name index elements hs h.1)

  pub held_stands : (given : Given) → GivenStands P given → ModifiersStand P (held given)
  held_stands (Listed modifiers) h = h
  held_stands (Argued argument passed) h = by (names_left argument passed) refl
    where
      by : (names : List (List ℕ)) → names_left argument passed ≡ names → ModifiersStand P (held (Argued argument passed))
      by [] is = rw is (nested_stands P argument.give h.1)
      by (name ∷ names) is = rw is (tt, tt)
  held_stands (Replacing elements) h = (tt, tt)

  said_stand : (name index : List ℕ) (source : Source) → SourceStands P source → Every (SayingStands P) (said table name index source)
  said_stand name index source hs = by source.piece.given refl hs.0
    where
      by : (given : Given) → source.piece.given ≡ given → GivenStands P given → Every (SayingStands P) (said table name index source)
      by (Listed modifiers) is h = rw is (said_in_list_stand source name index modifiers.list hs h.0)
      by (Argued argument passed) is h =
          rw is (every_append (SayingStands P) (said_further table source name index argument passed) _
          (said_further_stand source name index argument passed hs h)
          (said_in_list_stand source name index (held (Argued argument passed)).list hs (held_stands (Argued argument passed) h).0))
      by (Replacing elements) is h = rw is (said_by_elements_stand source name index elements hs h)

  pub said_by_all_stand : (name index : List ℕ) (sources : List Source) → Every (SourceStands P) sources → Every (SayingStands P) (said_by_all table name index sources)
  said_by_all_stand name index sources h =
      every_flat_map (SayingStands P) (said table name index) sources (every_weaker (SourceStands P) _ (said_stand name index) sources h)

  pub redeclared_stands : (sources : List Source) (name index : List ℕ) → Every (SourceStands P) sources → IfAny (RedeclarationStands P) (redeclared table sources name index)
  redeclared_stands sources name index h =
      first_stands (RedeclarationStands P) (redeclarations table sources name index)
      (redeclarations_stand P (said_by_all table name index sources) (said_by_all_stand name index sources h))

  -- ---- the sources of elements and bases

  pub with_list_stand : (source : Source) (modifiers : Modifiers) → SourceStands P source → ModifiersStand P modifiers → Every (SourceStands P) (with_list source modifiers)
  with_list_stand source modifiers hs h = if_list (SourceStands P) (is_nothing modifiers) _ _ tt ((h, hs.1), tt)

  or_own_stand : (limit : Option Constraint) (declares : Declares) → IfAny (ConstraintStands P) limit → DeclaresStand P declares → ModifiersStand P (or_own limit declares)
  or_own_stand None declares h hd = hd.own
  or_own_stand (Some limit) declares h hd = h.modifiers

  brought_stand : (wins : Bool) (redeclaration : Redeclaration) → RedeclarationStands P redeclaration → ModifiersStand P (brought wins redeclaration)
  brought_stand true redeclaration h = h.declares.own
  brought_stand false redeclaration h = or_own_stand redeclaration.declares.limit redeclaration.declares h.declares.limit h.declares

  sources_said_stand : (wins : Bool) (sayings : List Saying) → Every (SayingStands P) sayings → Every (SourceStands P) (sources_said wins sayings)
  sources_said_stand wins [] h = tt
  sources_said_stand wins (Modifies source ∷ sayings) h = (h.0, sources_said_stand wins sayings h.1)
  sources_said_stand wins (Redeclares redeclaration ∷ sayings) h =
      every_append (SourceStands P) (with_list redeclaration.source (brought wins redeclaration)) (sources_said false sayings)
      (with_list_stand redeclaration.source (brought wins redeclaration) h.0.source (brought_stand wins redeclaration h.0))
      (sources_said_stand false sayings h.1)

  pub parts_stand : (sources : List Source) (name index : List ℕ) → Every (SourceStands P) sources → Every (SourceStands P) (parts table sources name index)
  parts_stand sources name index h = sources_said_stand true (said_by_all table name index sources) (said_by_all_stand name index sources h)

  written_stand : (home : Frame) (index : List ℕ) (origin : Origin) (modifiers : Modifiers) → FrameStands P home → ModifiersStand P modifiers →
      Every (SourceStands P) (written home index origin modifiers)
  written_stand home index origin modifiers hf h = if_list (SourceStands P) (is_nothing modifiers) _ _ tt ((h, hf), tt)

  own_source_stand : (member : Member) (index : List ℕ) → MemberStands P member → Every (SourceStands P) (own_source member index)
  own_source_stand member index h = written_stand member.home index _ member.declares.own h.home h.declares.own

  constraint_source_stand : (member : Member) (index : List ℕ) (limit : Constraint) → MemberStands P member → ConstraintStands P limit →
      Every (SourceStands P) (constraint_source member index limit)
  constraint_source_stand member index limit h hl = written_stand member.home index _ limit.modifiers h.home hl.modifiers

  declared_sources_stand : (member : Member) (index : List ℕ) (wins : Option Redeclaration) → MemberStands P member → Every (SourceStands P) (declared_sources member index wins)
  declared_sources_stand member index wins h = by wins member.declares.limit refl h.declares.limit
    where
      by : (wins : Option Redeclaration) (limit : Option Constraint) → member.declares.limit ≡ limit → IfAny (ConstraintStands P) limit →
          Every (SourceStands P) (declared_sources member index wins)
      by None None is hl = rw is (if_list (SourceStands P) (is_class member.declares) _ _ tt (own_source_stand member index h))
      by None (Some limit) is hl =
          rw is (every_append (SourceStands P) _ (constraint_source member index limit)
          (if_list (SourceStands P) (is_class member.declares) _ _ tt (own_source_stand member index h))
          (constraint_source_stand member index limit h hl))
      by (Some wins) None is hl = rw is (own_source_stand member index h)
      by (Some wins) (Some limit) is hl = rw is (constraint_source_stand member index limit h hl)

  pub element_sources_stand : (member : Member) (index : List ℕ) → MemberStands P member → Every (SourceStands P) (element_sources table member index)
  element_sources_stand member index h =
      every_append (SourceStands P) (parts table (sources_of member.home) member.name index) _
      (parts_stand (sources_of member.home) member.name index (sources_stand P member.home h.home))
      (declared_sources_stand member index _ h)

  pub component_sources_stand : (member : Member) (index : List ℕ) (type : Frame) → MemberStands P member → FrameStands P type →
      Every (SourceStands P) (component_sources table member index type)
  component_sources_stand member index type h ht =
      every_append (SourceStands P) (map through_component (element_sources table member index)) (sources_of type)
      (every_map (SourceStands P) through_component (element_sources table member index) (element_sources_stand member index h))
      (sources_stand P type ht)

  without_value_stands : (source : Source) → SourceStands P source → SourceStands P (without_value source)
  without_value_stands source hs = by source.piece.given refl hs.0
    where
      behind : (argument : ArgumentOf Give) (passed : ℕ) (names : List (List ℕ)) → names_left argument passed ≡ names → source.piece.given ≡ Argued argument passed →
          ArgumentStands P argument → SourceStands P (without_value source)
      behind argument passed [] left is h = rw (is, left) (((nested_stands P argument.give h.1).0, tt), hs.1)
      behind argument passed (name ∷ names) left is h = rw (is, left) (h, hs.1)

      by : (given : Given) → source.piece.given ≡ given → GivenStands P given → SourceStands P (without_value source)
      by (Listed modifiers) is h = rw is ((h.0, tt), hs.1)
      by (Argued argument passed) is h = behind argument passed (names_left argument passed) refl is h
      by (Replacing elements) is h = rw is (h, hs.1)

  pub class_sources_stand : (member : Member) → MemberStands P member → Every (SourceStands P) (class_sources table member)
  class_sources_stand member h =
      every_map (SourceStands P) without_value (element_sources table member [])
      (every_weaker (SourceStands P) _ without_value_stands (element_sources table member []) (element_sources_stand member [] h))

  replacing_source_stand : (frame : Frame) (row : Row) → FrameStands P frame → RowStands P row → Every (SourceStands P) (replacing_source frame row)
  replacing_source_stand frame row hf hr = by row.replacing refl hr.replacing
    where
      by : (elements : List Element) → row.replacing ≡ elements → Every (ElementStands P) elements → Every (SourceStands P) (replacing_source frame row)
      by [] is h = rw is tt
      by (element ∷ others) is h = rw is ((h, hf), tt)

  clause_source_stand : (frame : Frame) (row : Row) (clause : Clause) → FrameStands P frame → ClauseStands P clause → Every (SourceStands P) (clause_source frame row clause)
  clause_source_stand frame row clause hf h =
      if_list (SourceStands P) (is_short_redeclaration row) _ _ tt (written_stand frame [] _ _ hf (h.arguments, tt))

  pub base_sources_stand : (frame : Frame) (row : Row) (clause : Clause) (base : Frame) → FrameStands P frame → RowStands P row → ClauseStands P clause → FrameStands P base →
      Every (SourceStands P) (base_sources frame row clause base)
  base_sources_stand frame row clause base hf hr h hb =
      every_append (SourceStands P) (sources_of frame) _ (sources_stand P frame hf)
      (every_append (SourceStands P) (replacing_source frame row ++ clause_source frame row clause) (sources_of base)
      (every_append (SourceStands P) (replacing_source frame row) (clause_source frame row clause) (replacing_source_stand frame row hf hr) (clause_source_stand frame row clause hf h))
      (sources_stand P base hb))

  -- ---- the value for a path

  abbrev picked_or : Source → Option Picked → Option Expr → Option Picked
  picked_or source others (Some value) = Some (record { value = value; scope = source.scope; pending = source.piece.pending })
  picked_or source others None = others

  picked_or_stands : (source : Source) (others : Option Picked) (value : Option Expr) → FrameStands P source.scope.frame → IfAny (PickedStands P) others → ValueStands P value →
      IfAny (PickedStands P) (picked_or source others value)
  picked_or_stands source others (Some value) hf ho h = record { value = h; scope = hf }
  picked_or_stands source others None hf ho h = ho

  pub picked_here_stands : (sources : List Source) → Every (SourceStands P) sources → IfAny (PickedStands P) (picked_here sources)
  picked_here_stands [] h = tt
  picked_here_stands (source ∷ sources) h =
      picked_or_stands source (picked_here sources) (held source.piece.given).value h.0.1 (picked_here_stands sources h.1) (held_stands source.piece.given h.0.0).1

  pub picked_stands : (sources : List Source) (names : List (List ℕ)) → Every (SourceStands P) sources → IfAny (PickedStands P) (picked table sources names)
  picked_stands sources [] h = picked_here_stands sources h
  picked_stands sources (name ∷ names) h = picked_stands (parts table sources name []) names (parts_stand sources name [] h)
