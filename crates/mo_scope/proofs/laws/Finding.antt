-- What lookup finds stands where the class table and the frame stand, and a rule that it breaks is broken at such a place or at the name
-- that asks.
use Rattle.std.proofs.Common.{◌≡◌, ℕ, suc, zero, ◌+◌, ℤ, Bool, true, false, ◌||◌, List, [], ◌∷◌, map, find, Option, Some, None, Ok, refl, if◌then◌else◌, codes}
use Rattle.std.specs.List.{list_any}
use Rattle.std.specs.Str.{bytes_eq}
use Rattle.mo_syntax.specs.Outcome.{Outcome, and_then, breaks}
use Rattle.mo_syntax.specs.declared.expr.Expr.{Expr}
use Rattle.mo_syntax.specs.declared.expr.PartOf.{PartOf}
use Rattle.mo_syntax.specs.declared.expr.ReferenceOf.{ReferenceOf}
use Rattle.mo_syntax.specs.declared.class.Import.{Import}
use Rattle.mo_syntax.specs.declared.class.Import.TheVariants.{Renamed, Named, Group, All as Star}
use Rattle.mo_syntax.specs.declared.place.Place.{Place}
use Rattle.mo_syntax.specs.declared.rules.TheConstants.{PROTECTED_ELEMENT}
use Rattle.mo_tables.specs.Words.{code_in, functions}
use Rattle.mo_scope.specs.TreePlaces.{places_of_parts}
use Rattle.mo_scope.specs.Places.{Every, IfAny, Answers, AskingStands, NameStands, DeclaresStand, ClauseStands, PartStands, ImportStands, RowStands, TableStands, FrameStands, MemberStands, RedeclarationStands, FoundStands, ReachedStands, WalkedStands}
use Rattle.mo_scope.specs.Rows.{Table, Row, row_at, number_of_classes, Part, Element_of, Base_of, Declares, Clause, is_class, class_number, elements_in, top_classes, is_encapsulated, is_left_out}
use Rattle.mo_scope.specs.Frames.{Frame, Top, In, Scope, Member, class_of, sources_of, looked_up, owner_of_base}
use Rattle.mo_scope.specs.Parts.{Redeclaration, redeclared, class_sources, base_sources}
use Rattle.mo_scope.specs.Lookup.{Found, Component, Class, Literal, Iteration, Function, Time, Inherited, Walked, Asking, contains, members_from, own_members, named, members_in, literal_of, literals_at, Element, Other, Absent, reached_in, reached, reached_own, is_package, entered, met, type_names, predefined, predefined_function, at_top, or_absent, counted, behind_class, class_wanted, first_at_top, import_behind, imported, imported_package, through_star, is_same_found, and_also, last_name, imported_as, found_by_import, found_by_star, found_by_each, found_by_imports, Met, found_element, found_in, met_far, found_from, is_closed, iteration, found_by_name, found_first, Classed, classed, class_behind, class_named, last_place, base_class, base_frame, base_of, nothing_walked, with_member, with_members, not_counted, hidden_if, through_base, with_base, walked_parts, leaf_checked, leaf_of, walked_row, walked_class, with_busy, walked, asking_of, asking_in}
use Rattle.mo_scope.proofs.laws.Standing.{every_append, every_map, every_weaker, if_list, any_find, then_answers, if_answers, if_some}
use Rattle.mo_scope.proofs.laws.Sources.{sources_stand, gathered_stand, row_stands, redeclared_stands, class_sources_stand, base_sources_stand}

module _ (P : Place → Type 0) (table : Table) (stands : TableStands P table) where
  -- ---- own elements

  members_stand : (frame : Frame) (item : ℕ) (declared : List Declares) → FrameStands P frame → Every (DeclaresStand P) declared →
      Every (MemberStands P) (members_from frame item declared)
  members_stand frame item [] hf h = tt
  members_stand frame item (declares ∷ others) hf h = (record { home = hf; declares = h.0 }, members_stand frame (item + 1) others hf h.1)

  elements_stand : (parts : List Part) → Every (PartStands P) parts → Every (DeclaresStand P) (elements_in parts)
  elements_stand [] h = tt
  elements_stand (Element_of declares ∷ parts) h = (h.0, elements_stand parts h.1)
  elements_stand (Base_of clause ∷ parts) h = elements_stand parts h.1

  pub own_members_stand : (frame : Frame) → FrameStands P frame → Every (MemberStands P) (own_members table frame)
  own_members_stand frame hf = by (row_at table (class_of frame)) refl (row_stands P table stands (class_of frame))
    where
      by : (row : Option Row) → row_at table (class_of frame) ≡ row → IfAny (RowStands P) row → Every (MemberStands P) (own_members table frame)
      by None is h = rw is tt
      by (Some row) is h = rw is (members_stand frame 0 (elements_in row.parts) hf (elements_stand row.parts h.parts))

  pub members_in_stand : (walked : Walked) → WalkedStands P walked → Every (MemberStands P) (members_in walked)
  members_in_stand walked h = every_map (MemberStands P) (λ inherited. inherited.member) walked.members h

  -- ---- what an element is

  literal_stands : (leaf : Option Frame) (name : List ℕ) → IfAny (FoundStands P) (literal_of table leaf name)
  literal_stands None name = tt
  literal_stands (Some leaf) name = by (code_in (literals_at table (class_of leaf)) name) refl
    where
      by : (code : Option ℕ) → code_in (literals_at table (class_of leaf)) name ≡ code → IfAny (FoundStands P) (literal_of table (Some leaf) name)
      by None is = rw is tt
      by (Some code) is = rw is tt

  pub reached_in_stands : (walked : Walked) (name : List ℕ) → WalkedStands P walked → ReachedStands P (reached_in table walked name)
  reached_in_stands walked name h = by (named name (members_in walked)) refl (any_find (MemberStands P) _ (members_in walked) (members_in_stand walked h))
    where
      literal : (found : Option Found) → literal_of table walked.leaf name ≡ found → IfAny (FoundStands P) found → named name (members_in walked) ≡ None →
          ReachedStands P (reached_in table walked name)
      literal None is h none = rw (none, is) tt
      literal (Some found) is h none = rw (none, is) h

      by : (member : Option Member) → named name (members_in walked) ≡ member → IfAny (MemberStands P) member → ReachedStands P (reached_in table walked name)
      by (Some member) is h = rw is h
      by None is h = literal (literal_of table walked.leaf name) refl (literal_stands walked.leaf name) is

  pub reached_stands : (asking : Asking) (place : Place) (frame : Frame) (name : List ℕ) → AskingStands P asking → P place → FrameStands P frame →
      Answers P (ReachedStands P) (reached table asking place frame name)
  reached_stands asking place frame name ha hp hf =
      by (named name (own_members table frame)) refl (any_find (MemberStands P) _ (own_members table frame) (own_members_stand frame hf))
    where
      by : (member : Option Member) → named name (own_members table frame) ≡ member → IfAny (MemberStands P) member →
          Answers P (ReachedStands P) (reached table asking place frame name)
      by (Some member) is h = rw is (record { holds = h })
      by None is h =
          rw is (then_answers P (WalkedStands P) (ReachedStands P) (asking.elements place frame) (λ walked. Ok (reached_in table walked name)) (ha.elements place frame hp hf)
          (λ walked hw. record { holds = reached_in_stands walked name hw }))

  reached_own_stands : (frame : Frame) (name : List ℕ) → FrameStands P frame → Answers P (ReachedStands P) (reached_own table frame name)
  reached_own_stands frame name hf =
      by (named name (own_members table frame)) refl (any_find (MemberStands P) _ (own_members table frame) (own_members_stand frame hf))
    where
      by : (member : Option Member) → named name (own_members table frame) ≡ member → IfAny (MemberStands P) member →
          Answers P (ReachedStands P) (reached_own table frame name)
      by (Some member) is h = rw is (record { holds = h })
      by None is h = rw is (record { holds = tt })

  is_package_answers : (asking : Asking) (place : Place) (frame : Frame) → AskingStands P asking → P place → FrameStands P frame →
      Answers P (λ (b : Bool). Unit {0}) (is_package table asking place frame)
  is_package_answers asking place frame ha hp hf =
      if_answers P _ (contains asking.busy (class_of frame)) _ _ (record { holds = tt })
      (then_answers P (WalkedStands P) _ (asking.elements place frame) _ (ha.elements place frame hp hf) (λ walked hw. record { holds = tt }))

  pub entered_stands : (member : Member) → MemberStands P member → Answers P (FrameStands P) (entered table member)
  entered_stands member hm =
      by (redeclared table (sources_of member.home) member.name []) refl
      (redeclared_stands P table stands (sources_of member.home) member.name [] (sources_stand P member.home hm.home))
    where
      as_class : (class : ℕ) (outer : Frame) → FrameStands P outer → FrameStands P (looked_up class (class_sources table member) outer)
      as_class class outer ho = (gathered_stand P (class_sources table member) (class_sources_stand P table stands member hm), ho, tt)

      by : (wins : Option Redeclaration) → redeclared table (sources_of member.home) member.name [] ≡ wins → IfAny (RedeclarationStands P) wins →
          Answers P (FrameStands P) (entered table member)
      by None is h = rw is (record { holds = as_class (class_number member.declares) member.home hm.home })
      by (Some redeclaration) is h =
          rw is (if_answers P (FrameStands P) (is_class redeclaration.declares) _ _
          (record { holds = as_class (class_number redeclaration.declares) redeclaration.source.scope.frame h.source.1 })
          (record { holds = h.place }))

  pub met_stands : (frame : Frame) (member : Member) → FrameStands P frame → MemberStands P member → Answers P (FoundStands P) (met table frame member)
  met_stands frame member hf hm =
      if_answers P (FoundStands P) (is_class member.declares) _ _
      (then_answers P (FrameStands P) (FoundStands P) (entered table member) _ (entered_stands member hm) (λ class hc. record { holds = hc }))
      (record { holds = (hf, hm) })

  -- ---- the top

  predefined_stands : (name : List ℕ) → IfAny (FoundStands P) (predefined name)
  predefined_stands name = by (code_in type_names name) refl
    where
      function : (code : Option ℕ) → IfAny (FoundStands P) (predefined_function code)
      function None = tt
      function (Some code) = tt

      other : (b : Bool) → IfAny (FoundStands P) (if b then Some Time else predefined_function (code_in functions name))
      other true = tt
      other false = function (code_in functions name)

      by : (code : Option ℕ) → code_in type_names name ≡ code → IfAny (FoundStands P) (predefined name)
      by (Some number) is = rw is (tt, tt, tt)
      by None is = rw is (other (bytes_eq name (codes "time")))

  at_top_stands : (name : List ℕ) → IfAny (FoundStands P) (at_top table name)
  at_top_stands name = by (find (λ row. bytes_eq row.class.name name) (top_classes table)) refl
    where
      by : (row : Option Row) → find (λ row. bytes_eq row.class.name name) (top_classes table) ≡ row → IfAny (FoundStands P) (at_top table name)
      by None is = rw is (predefined_stands name)
      by (Some row) is = rw is (tt, tt, tt)

  or_absent_stands : (place : Place) (found : Option Found) → P place → IfAny (FoundStands P) found → Answers P (FoundStands P) (or_absent place found)
  or_absent_stands place (Some found) hp h = record { holds = h }
  or_absent_stands place None hp h = record { holds = hp }

  -- ---- a name behind a dot

  counted_stands : (asking : Asking) (ask place : Place) (frame : Frame) (member : Member) → AskingStands P asking → P ask → P place → FrameStands P frame → MemberStands P member →
      Answers P (MemberStands P) (counted table asking ask place frame member)
  counted_stands asking ask place frame member ha hask hp hf hm =
      then_answers P _ (MemberStands P) (is_package table asking ask frame) _ (is_package_answers asking ask frame ha hask hf)
      (λ open_to_all hb. if_answers P (MemberStands P) (open_to_all || is_encapsulated member.declares) _ _ (record { holds = hm }) (record { holds = hp }))

  pub behind_class_stands : (asking : Asking) (ask place : Place) (component : Option Place) (frame : Frame) (name : List ℕ) →
      AskingStands P asking → P ask → P place → IfAny P component → FrameStands P frame →
      Answers P (FoundStands P) (behind_class table asking ask place component frame name)
  behind_class_stands asking ask place component frame name ha hask hp hc hf = by component hc
    where
      open_element : (member : Member) → MemberStands P member → Answers P (FoundStands P) (if member.hidden then breaks PROTECTED_ELEMENT place else met table frame member)
      open_element member hm = if_answers P (FoundStands P) member.hidden _ _ (record { holds = hp }) (met_stands frame member hf hm)

      by : (component : Option Place) → IfAny P component → Answers P (FoundStands P) (behind_class table asking ask place component frame name)
      by None hc =
          then_answers P (ReachedStands P) (FoundStands P) (reached table asking ask frame name) _ (reached_stands asking ask frame name ha hask hf)
          (elim [
            | Absent ↦ λ h. record { holds = hp }
            | Other found ↦ λ h. record { holds = h }
            | Element member ↦ λ h.
                then_answers P (MemberStands P) (FoundStands P) (counted table asking ask place frame member) _ (counted_stands asking ask place frame member ha hask hp hf h)
                open_element
          ])
      by (Some wrong) hc =
          then_answers P (ReachedStands P) (FoundStands P) (reached table asking ask frame name) _ (reached_stands asking ask frame name ha hask hf)
          (elim [
            | Absent ↦ λ h. record { holds = hp }
            | Other found ↦ λ h. record { holds = h }
            | Element member ↦ λ h.
                then_answers P (MemberStands P) (FoundStands P) (counted table asking ask place frame member) _ (counted_stands asking ask place frame member ha hask hp hf h)
                (λ member hm. if_answers P (FoundStands P) (is_class member.declares) _ _ (open_element member hm) (record { holds = hc }))
          ])

  pub class_wanted_stands : (place : Place) (found : Found) → P place → FoundStands P found → Answers P (FrameStands P) (class_wanted place found)
  class_wanted_stands place (Class frame replaceable) hp h = record { holds = h }
  class_wanted_stands place (Component frame member) hp h = record { holds = hp }
  class_wanted_stands place (Literal class n) hp h = record { holds = hp }
  class_wanted_stands place (Iteration value) hp h = record { holds = hp }
  class_wanted_stands place (Function code) hp h = record { holds = hp }
  class_wanted_stands place Time hp h = record { holds = hp }

  -- ---- imports

  pub import_behind_stands : (asking : Asking) (ask place : Place) (found : Found) (names : List (List ℕ)) → AskingStands P asking → P ask → P place → FoundStands P found →
      Answers P (FoundStands P) (import_behind table asking ask place found names)
  import_behind_stands asking ask place found [] ha hask hp h = record { holds = h }
  import_behind_stands asking ask place found (name ∷ []) ha hask hp h =
      then_answers P (FrameStands P) (FoundStands P) (class_wanted place found) _ (class_wanted_stands place found hp h)
      (λ frame hf. then_answers P (FoundStands P) (FoundStands P) (behind_class table asking ask place None frame name) _
      (behind_class_stands asking ask place None frame name ha hask hp tt hf)
      (λ next hn. import_behind_stands asking ask place next [] ha hask hp hn))
  import_behind_stands asking ask place found (name ∷ other ∷ names) ha hask hp h =
      then_answers P (FrameStands P) (FoundStands P) (class_wanted place found) _ (class_wanted_stands place found hp h)
      (λ frame hf. then_answers P (FoundStands P) (FoundStands P) (behind_class table asking ask place (Some place) frame name) _
      (behind_class_stands asking ask place (Some place) frame name ha hask hp hp hf)
      (λ next hn. import_behind_stands asking ask place next (other ∷ names) ha hask hp hn))

  imported_stands : (asking : Asking) (ask place : Place) (path : List (List ℕ)) → AskingStands P asking → P ask → P place →
      Answers P (FoundStands P) (imported table asking ask place path)
  imported_stands asking ask place [] ha hask hp = record { holds = hp }
  imported_stands asking ask place (name ∷ names) ha hask hp =
      then_answers P (FoundStands P) (FoundStands P) (first_at_top table place name) _ (or_absent_stands place (at_top table name) hp (at_top_stands name))
      (λ found h. import_behind_stands asking ask place found names ha hask hp h)

  -- the names behind the first one
  abbrev package_behind : Asking → Place → Place → Frame → List (List ℕ) → Outcome Frame
  package_behind asking ask place frame [] = Ok frame
  package_behind asking ask place frame (name ∷ names) =
      and_then (behind_class table asking ask place (Some place) frame name) (λ found.
      and_then (class_wanted place found) (λ next. package_behind asking ask place next names))

  package_behind_stands : (asking : Asking) (ask place : Place) (frame : Frame) (names : List (List ℕ)) → AskingStands P asking → P ask → P place → FrameStands P frame →
      Answers P (FrameStands P) (package_behind asking ask place frame names)
  package_behind_stands asking ask place frame [] ha hask hp hf = record { holds = hf }
  package_behind_stands asking ask place frame (name ∷ names) ha hask hp hf =
      then_answers P (FoundStands P) (FrameStands P) (behind_class table asking ask place (Some place) frame name) _
      (behind_class_stands asking ask place (Some place) frame name ha hask hp hp hf)
      (λ found h. then_answers P (FrameStands P) (FrameStands P) (class_wanted place found) _ (class_wanted_stands place found hp h)
      (λ next hn. package_behind_stands asking ask place next names ha hask hp hn))

  imported_package_stands : (asking : Asking) (ask place : Place) (path : List (List ℕ)) → AskingStands P asking → P ask → P place →
      Answers P (FrameStands P) (imported_package table asking ask place path)
  imported_package_stands asking ask place [] ha hask hp = record { holds = hp }
  imported_package_stands asking ask place (name ∷ names) ha hask hp =
      then_answers P (FoundStands P) (FrameStands P) (first_at_top table place name) _ (or_absent_stands place (at_top table name) hp (at_top_stands name))
      (λ found h. then_answers P (FrameStands P) (FrameStands P) (class_wanted place found) _ (class_wanted_stands place found hp h)
      (λ frame hf. package_behind_stands asking ask place frame names ha hask hp hf))

  through_star_stands : (asking : Asking) (ask place : Place) (frame : Frame) (name : List ℕ) → AskingStands P asking → P ask → P place → FrameStands P frame →
      Answers P (IfAny (FoundStands P)) (through_star table asking ask place frame name)
  through_star_stands asking ask place frame name ha hask hp hf =
      then_answers P (ReachedStands P) (IfAny (FoundStands P)) (reached table asking ask frame name) _ (reached_stands asking ask frame name ha hask hf)
      (elim [
        | Absent ↦ λ h. record { holds = tt }
        | Other found ↦ λ h. record { holds = h }
        | Element member ↦ λ h. if_answers P (IfAny (FoundStands P)) member.hidden _ _ (record { holds = tt })
            (then_answers P (MemberStands P) (IfAny (FoundStands P)) (counted table asking ask place frame member) _ (counted_stands asking ask place frame member ha hask hp hf h)
            (λ counted hm. then_answers P (FoundStands P) (IfAny (FoundStands P)) (met table frame counted) _ (met_stands frame counted hf hm) (λ found hd. record { holds = hd })))
      ])

  and_also_stands : (ask : Place) (so_far other : Option Found) → P ask → IfAny (FoundStands P) so_far → IfAny (FoundStands P) other →
      Answers P (IfAny (FoundStands P)) (and_also ask so_far other)
  and_also_stands ask None other hask h ho = record { holds = ho }
  and_also_stands ask (Some found) None hask h ho = record { holds = h }
  and_also_stands ask (Some found) (Some other) hask h ho = if_answers P (IfAny (FoundStands P)) (is_same_found found other) _ _ (record { holds = h }) (record { holds = hask })

  imported_as_stands : (name : List ℕ) (clause : Import) → ImportStands P clause → IfAny (λ (path : List (List ℕ) × Place). P path.1) (imported_as name clause)
  imported_as_stands name (Renamed alias path place) h = if_some _ (bytes_eq alias name) _ h
  imported_as_stands name (Named path place) h = if_some _ (bytes_eq (last_name path.0) name) _ h
  imported_as_stands name (Group path names place) h = if_some _ (list_any (λ other. bytes_eq other name) names) _ h
  imported_as_stands name (Star path place) h = tt

  found_by_import_stands : (asking : Asking) (ask : Place) (name : List ℕ) → AskingStands P asking → P ask → (clause : Import) → ImportStands P clause →
      Answers P (IfAny (FoundStands P)) (found_by_import table asking ask name clause)
  found_by_import_stands asking ask name ha hask clause h = by (imported_as name clause) refl (imported_as_stands name clause h)
    where
      by : (path : Option (List (List ℕ) × Place)) → imported_as name clause ≡ path → IfAny (λ (path : List (List ℕ) × Place). P path.1) path →
          Answers P (IfAny (FoundStands P)) (found_by_import table asking ask name clause)
      by None is hp = rw is (record { holds = tt })
      by (Some path) is hp =
          rw is (then_answers P (FoundStands P) (IfAny (FoundStands P)) (imported table asking ask path.1 path.0) _ (imported_stands asking ask path.1 path.0 ha hask hp)
          (λ found hd. record { holds = hd }))

  found_by_star_stands : (asking : Asking) (ask : Place) (name : List ℕ) → AskingStands P asking → P ask → (clause : Import) → ImportStands P clause →
      Answers P (IfAny (FoundStands P)) (found_by_star table asking ask name clause)
  found_by_star_stands asking ask name ha hask (Star path place) h =
      then_answers P (FrameStands P) (IfAny (FoundStands P)) (imported_package table asking ask place path.0) _ (imported_package_stands asking ask place path.0 ha hask h)
      (λ frame hf. through_star_stands asking ask place frame name ha hask h hf)
  found_by_star_stands asking ask name ha hask (Renamed alias path place) h = record { holds = tt }
  found_by_star_stands asking ask name ha hask (Named path place) h = record { holds = tt }
  found_by_star_stands asking ask name ha hask (Group path names place) h = record { holds = tt }

  found_by_each_stands : (find : Import → Outcome (Option Found)) (ask : Place) → P ask → ((clause : Import) → ImportStands P clause → Answers P (IfAny (FoundStands P)) (find clause)) →
      (so_far : Option Found) (clauses : List Import) → IfAny (FoundStands P) so_far → Every (ImportStands P) clauses →
      Answers P (IfAny (FoundStands P)) (found_by_each find ask so_far clauses)
  found_by_each_stands find ask hask each so_far [] hs h = record { holds = hs }
  found_by_each_stands find ask hask each so_far (clause ∷ clauses) hs h =
      then_answers P (IfAny (FoundStands P)) (IfAny (FoundStands P)) (find clause) _ (each clause h.0)
      (λ found hd. then_answers P (IfAny (FoundStands P)) (IfAny (FoundStands P)) (and_also ask so_far found) _ (and_also_stands ask so_far found hask hs hd)
      (λ so_far hs. found_by_each_stands find ask hask each so_far clauses hs h.1))

  found_by_imports_stands : (asking : Asking) (ask : Place) (row : Row) (name : List ℕ) → AskingStands P asking → P ask → RowStands P row →
      Answers P (IfAny (FoundStands P)) (found_by_imports table asking ask row name)
  found_by_imports_stands asking ask row name ha hask hr =
      then_answers P (IfAny (FoundStands P)) (IfAny (FoundStands P)) (found_by_each (found_by_import table asking ask name) ask None row.imports) _
      (found_by_each_stands (found_by_import table asking ask name) ask hask (found_by_import_stands asking ask name ha hask) None row.imports tt hr.imports)
      (elim [
        | Some found ↦ λ h. record { holds = h }
        | None ↦ λ h. found_by_each_stands (found_by_star table asking ask name) ask hask (found_by_star_stands asking ask name ha hask) None row.imports tt hr.imports
      ])

  -- ---- a simple name

  found_element_stands : (asking : Asking) (bare : Bool) (frame : Frame) (place : Place) (name : List ℕ) → AskingStands P asking → P place → FrameStands P frame →
      Answers P (IfAny (FoundStands P)) (found_element table asking bare frame place name)
  found_element_stands asking bare frame place name ha hp hf =
      then_answers P (ReachedStands P) (IfAny (FoundStands P)) (if bare then reached_own table frame name else reached table asking place frame name) _
      (if_answers P (ReachedStands P) bare _ _ (reached_own_stands frame name hf) (reached_stands asking place frame name ha hp hf))
      (elim [
        | Element member ↦ λ h. then_answers P (FoundStands P) (IfAny (FoundStands P)) (met table frame member) _ (met_stands frame member hf h) (λ found hd. record { holds = hd })
        | Other found ↦ λ h. record { holds = tt }
        | Absent ↦ λ h. record { holds = tt }
      ])

  abbrev pub MetStands : Met → Type 0
  MetStands met = FoundStands P met.found

  abbrev through_imports : Asking → Place → List ℕ → Option Row → Outcome (Option Met)
  through_imports asking place name None = Ok None
  through_imports asking place name (Some row) = and_then (found_by_imports table asking place row name) (λ found. Ok (imported_met found))
    where
      imported_met : Option Found → Option Met
      imported_met None = None
      imported_met (Some found) = Some (record { found = found; near = false })

  through_imports_stands : (asking : Asking) (place : Place) (name : List ℕ) (row : Option Row) → AskingStands P asking → P place → IfAny (RowStands P) row →
      Answers P (IfAny MetStands) (through_imports asking place name row)
  through_imports_stands asking place name None ha hp h = record { holds = tt }
  through_imports_stands asking place name (Some row) ha hp h =
      then_answers P (IfAny (FoundStands P)) (IfAny MetStands) (found_by_imports table asking place row name) _ (found_by_imports_stands asking place row name ha hp h)
      (elim [
        | Some found ↦ λ hd. record { holds = hd }
        | None ↦ λ hd. record { holds = tt }
      ])

  found_in_stands : (asking : Asking) (bare near : Bool) (frame : Frame) (place : Place) (name : List ℕ) → AskingStands P asking → P place → FrameStands P frame →
      Answers P (IfAny MetStands) (found_in table asking bare near frame place name)
  found_in_stands asking bare near frame place name ha hp hf =
      then_answers P (IfAny (FoundStands P)) (IfAny MetStands) (found_element table asking bare frame place name) _ (found_element_stands asking bare frame place name ha hp hf)
      (elim [
        | Some found ↦ λ h. record { holds = h }
        | None ↦ λ h. through_imports_stands asking place name (row_at table (class_of frame)) ha hp (row_stands P table stands (class_of frame))
      ])

  met_far_stands : (outcome : Outcome Found) → Answers P (FoundStands P) outcome → Answers P MetStands (met_far outcome)
  met_far_stands outcome h = then_answers P (FoundStands P) MetStands outcome _ h (λ found hd. record { holds = hd })

  found_from_stands : (asking : Asking) (bare near : Bool) (frame : Frame) (place : Place) (name : List ℕ) → AskingStands P asking → P place → FrameStands P frame →
      Answers P MetStands (found_from table asking bare near frame place name)
  found_from_stands asking bare near Top place name ha hp hf = met_far_stands _ (or_absent_stands place (at_top table name) hp (at_top_stands name))
  found_from_stands asking bare near (In class sources outer at owner) place name ha hp hf =
      then_answers P (IfAny MetStands) MetStands (found_in table asking bare near (In class sources outer at owner) place name) _
      (found_in_stands asking bare near (In class sources outer at owner) place name ha hp hf)
      (elim [
        | Some found ↦ λ h. record { holds = h }
        | None ↦ λ h. if_answers P MetStands (is_closed table (In class sources outer at owner)) _ _
            (met_far_stands _ (or_absent_stands place (predefined name) hp (predefined_stands name)))
            (found_from_stands asking false false outer place name ha hp hf.1)
      ])

  pub found_by_name_stands : (asking : Asking) (bare : Bool) (scope : Scope) (place : Place) (name : List ℕ) → AskingStands P asking → P place → FrameStands P scope.frame →
      Answers P MetStands (found_by_name table asking bare scope place name)
  found_by_name_stands asking bare scope place name ha hp hf = by (iteration scope.iterations name) refl
    where
      by : (value : Option ℤ) → iteration scope.iterations name ≡ value → Answers P MetStands (found_by_name table asking bare scope place name)
      by (Some value) is = rw is (record { holds = tt })
      by None is = rw is (found_from_stands asking bare true scope.frame place name ha hp hf)

  pub found_first_stands : (asking : Asking) (bare top : Bool) (scope : Scope) (part : PartOf Expr) → AskingStands P asking → P part.place → FrameStands P scope.frame →
      Answers P MetStands (found_first table asking bare top scope part)
  found_first_stands asking bare top scope part ha hp hf =
      if_answers P MetStands top _ _
      (met_far_stands _ (or_absent_stands part.place (at_top table part.name) hp (at_top_stands part.name)))
      (found_by_name_stands asking bare scope part.place part.name ha hp hf)

  -- ---- the name of a class

  abbrev pub ClassedStands : Classed → Type 0
  ClassedStands class = FrameStands P class.frame

  classed_stands : (place : Place) (found : Found) → P place → FoundStands P found → Answers P ClassedStands (classed place found)
  classed_stands place (Class frame replaceable) hp h = record { holds = h }
  classed_stands place (Component frame member) hp h = record { holds = hp }
  classed_stands place (Literal class n) hp h = record { holds = hp }
  classed_stands place (Iteration value) hp h = record { holds = hp }
  classed_stands place (Function code) hp h = record { holds = hp }
  classed_stands place Time hp h = record { holds = hp }

  class_behind_stands : (asking : Asking) (class : Classed) (parts : List (PartOf Expr)) → AskingStands P asking → ClassedStands class →
      Every P (map (λ part. part.place) parts) → Answers P ClassedStands (class_behind table asking class parts)
  class_behind_stands asking class [] ha hc h = record { holds = hc }
  class_behind_stands asking class (part ∷ parts) ha hc h =
      then_answers P (FoundStands P) ClassedStands (behind_class table asking part.place part.place (Some part.place) class.frame part.name) _
      (behind_class_stands asking part.place part.place (Some part.place) class.frame part.name ha h.0 h.0 h.0 hc)
      (λ found hd. then_answers P ClassedStands ClassedStands (classed part.place found) _ (classed_stands part.place found h.0 hd)
      (λ next hn. class_behind_stands asking next parts ha hn h.1))

  pub class_named_stands : (asking : Asking) (bare : Bool) (scope : Scope) (reference : ReferenceOf Expr) → AskingStands P asking → FrameStands P scope.frame → NameStands P reference →
      Answers P ClassedStands (class_named table asking bare scope reference)
  class_named_stands asking bare scope reference ha hf h = by reference.parts refl h
    where
      by : (parts : List (PartOf Expr)) → reference.parts ≡ parts → Every P (places_of_parts parts) → Answers P ClassedStands (class_named table asking bare scope reference)
      by [] is h = rw is (record { holds = h.0 })
      by (part ∷ parts) is h =
          rw is (then_answers P MetStands ClassedStands (found_first table asking bare reference.top scope part) _
          (found_first_stands asking bare reference.top scope part ha h.0 hf)
          (λ met hm. then_answers P ClassedStands ClassedStands (classed part.place met.found) _ (classed_stands part.place met.found h.0 hm)
          (λ class hc. class_behind_stands asking class parts ha hc h.1)))

  pub last_place_stands : (parts : List (PartOf Expr)) → Every P (places_of_parts parts) → P (last_place parts)
  last_place_stands [] h = h.0
  last_place_stands (part ∷ []) h = h.0
  last_place_stands (part ∷ next ∷ parts) h = last_place_stands (next ∷ parts) h.1

  -- ---- bases

  base_class_stands : (asking : Asking) (frame : Frame) (clause : Clause) → AskingStands P asking → FrameStands P frame → ClauseStands P clause →
      Answers P (FrameStands P) (base_class table asking frame clause)
  base_class_stands asking frame clause ha hf h =
      then_answers P ClassedStands (FrameStands P) (class_named table asking true (record { frame = frame; iterations = [] }) clause.base) _
      (class_named_stands asking true (record { frame = frame; iterations = [] }) clause.base ha hf h.base)
      (λ class hc. if_answers P (FrameStands P) class.replaceable _ _ (record { holds = last_place_stands clause.base.parts h.base }) (record { holds = hc }))

  owner_of_base_stands : (frame : Frame) → FrameStands P frame → FrameStands P (owner_of_base frame)
  owner_of_base_stands Top h = tt
  owner_of_base_stands (In class sources outer (Some at) owner) h = h
  owner_of_base_stands (In class sources outer None Top) h = tt
  owner_of_base_stands (In class sources outer None (In class' sources' outer' at' owner')) h = h

  base_frame_stands : (frame : Frame) (row : Row) (clause : Clause) (class : Frame) → FrameStands P frame → RowStands P row → ClauseStands P clause → FrameStands P class →
      FrameStands P (base_frame frame row clause class)
  base_frame_stands frame row clause Top hf hr h hc =
      (gathered_stand P (base_sources frame row clause Top) (base_sources_stand P table stands frame row clause Top hf hr h hc), tt, owner_of_base_stands frame hf)
  base_frame_stands frame row clause (In class sources outer at owner) hf hr h hc = (
    gathered_stand P (base_sources frame row clause (In class sources outer at owner)) (base_sources_stand P table stands frame row clause (In class sources outer at owner) hf hr h hc),
    hc.1,
    owner_of_base_stands frame hf,
  )

  pub base_of_stands : (asking : Asking) (frame : Frame) (row : Row) (clause : Clause) → AskingStands P asking → FrameStands P frame → RowStands P row → ClauseStands P clause →
      Answers P (FrameStands P) (base_of table asking frame row clause)
  base_of_stands asking frame row clause ha hf hr h =
      then_answers P (FrameStands P) (FrameStands P) (base_class table asking frame clause) _ (base_class_stands asking frame clause ha hf h)
      (λ class hc. record { holds = base_frame_stands frame row clause class hf hr h hc })

  -- ---- joining elements

  abbrev InheritedStands : Inherited → Type 0
  InheritedStands inherited = MemberStands P inherited.member

  with_member_stands : (inherited : Inherited) (so_far : Walked) → InheritedStands inherited → WalkedStands P so_far → Answers P (WalkedStands P) (with_member inherited so_far)
  with_member_stands inherited so_far h hs =
      if_answers P (WalkedStands P) (list_any (λ other. bytes_eq other.member.name inherited.member.name) so_far.members) _ _
      (record { holds = h.declares.place })
      (record { holds = every_append InheritedStands so_far.members (inherited ∷ []) hs (h, tt) })

  with_members_stand : (members : List Inherited) (so_far : Walked) → Every InheritedStands members → WalkedStands P so_far → Answers P (WalkedStands P) (with_members members so_far)
  with_members_stand [] so_far h hs = record { holds = hs }
  with_members_stand (inherited ∷ others) so_far h hs =
      then_answers P (WalkedStands P) (WalkedStands P) (with_member inherited so_far) _ (with_member_stands inherited so_far h.0 hs)
      (λ walked hw. with_members_stand others walked h.1 hw)

  not_counted_stand : (is : Inherited → Bool) (members : List Inherited) → Every InheritedStands members → Every InheritedStands (not_counted is members)
  not_counted_stand is [] h = tt
  not_counted_stand is (x ∷ xs) h =
      if_list InheritedStands (is x) (not_counted is xs) (x ∷ not_counted is xs) (not_counted_stand is xs h.1) (h.0, not_counted_stand is xs h.1)

  with_base_stands : (hidden : Bool) (base : Frame) (walked so_far : Walked) → WalkedStands P walked → WalkedStands P so_far → Answers P (WalkedStands P) (with_base hidden base walked so_far)
  with_base_stands hidden base walked so_far hw hs =
      with_members_stand _ _
      (not_counted_stand _ _ (every_map InheritedStands (λ inherited. hidden_if hidden (through_base base inherited)) walked.members
      (every_weaker InheritedStands _ (λ inherited h. record { home = h.home; declares = h.declares }) walked.members hw)))
      hs

  -- ---- the elements of a frame

  walked_parts_stand : (asking : Asking) (frame : Frame) (row : Row) (item : ℕ) (parts : List Part) (so_far : Walked) → AskingStands P asking → FrameStands P frame →
      RowStands P row → Every (PartStands P) parts → WalkedStands P so_far → Answers P (WalkedStands P) (walked_parts table asking frame row item parts so_far)
  walked_parts_stand asking frame row item [] so_far ha hf hr h hs = record { holds = hs }
  walked_parts_stand asking frame row item (Element_of declares ∷ parts) so_far ha hf hr h hs =
      then_answers P (WalkedStands P) (WalkedStands P) (with_member _ so_far) _ (with_member_stands _ so_far (record { home = hf; declares = h.0 }) hs)
      (λ walked hw. walked_parts_stand asking frame row (item + 1) parts walked ha hf hr h.1 hw)
  walked_parts_stand asking frame row item (Base_of clause ∷ parts) so_far ha hf hr h hs =
      then_answers P (FrameStands P) (WalkedStands P) (base_of table asking frame row clause) _ (base_of_stands asking frame row clause ha hf hr h.0)
      (λ base hb. then_answers P (WalkedStands P) (WalkedStands P) (asking.elements (last_place clause.base.parts) base) _
      (ha.elements (last_place clause.base.parts) base (last_place_stands clause.base.parts h.0.base) hb)
      (λ walked hw. then_answers P (WalkedStands P) (WalkedStands P) (with_base clause.hidden base walked so_far) _ (with_base_stands clause.hidden base walked so_far hw hs)
      (λ joined hj. walked_parts_stand asking frame row item parts joined ha hf hr h.1 hj)))

  leaf_checked_stands : (walked : Walked) → WalkedStands P walked → Answers P (WalkedStands P) (leaf_checked walked)
  leaf_checked_stands walked h = by walked.leaf walked.members refl refl h
    where
      by : (leaf : Option Frame) (members : List Inherited) → walked.leaf ≡ leaf → walked.members ≡ members → Every InheritedStands members →
          Answers P (WalkedStands P) (leaf_checked walked)
      by (Some leaf) (inherited ∷ others) is have hm = rw (is, have) (record { holds = hm.0.declares.place })
      by (Some leaf) [] is have hm = rw (is, have) (record { holds = tt })
      by None members is have hm = rw is (record { holds = h })

  walked_row_stands : (asking : Asking) (frame : Frame) (row : Row) → AskingStands P asking → FrameStands P frame → RowStands P row →
      Answers P (WalkedStands P) (walked_row table asking frame row)
  walked_row_stands asking frame row ha hf hr =
      if_answers P (WalkedStands P) (is_left_out row) _ _ (record { holds = hr.place })
      (then_answers P (WalkedStands P) (WalkedStands P) (walked_parts table asking frame row 0 row.parts (nothing_walked (leaf_of row frame))) _
      (walked_parts_stand asking frame row 0 row.parts (nothing_walked (leaf_of row frame)) ha hf hr hr.parts tt)
      leaf_checked_stands)

  pub walked_class_stands : (asking : Asking) (frame : Frame) (row : Option Row) → AskingStands P asking → FrameStands P frame → IfAny (RowStands P) row →
      Answers P (WalkedStands P) (walked_class table asking frame row)
  walked_class_stands asking frame None ha hf hr = record { holds = tt }
  walked_class_stands asking frame (Some row) ha hf hr = walked_row_stands asking frame row ha hf hr

  -- The elements of a frame stand, and a rule that finding them breaks is broken at such a place, or where it was asked.
  pub walked_stands : (left : ℕ) (busy : List ℕ) (place : Place) (frame : Frame) → P place → FrameStands P frame → Answers P (WalkedStands P) (walked table left busy place frame)
  unfolding walked
  walked_stands zero busy place frame hp hf = record { holds = hp }
  walked_stands (suc left) busy place frame hp hf =
      if_answers P (WalkedStands P) (contains busy (class_of frame)) _ _ (record { holds = hp })
      (walked_class_stands _ frame (row_at table (class_of frame))
      (record { elements = λ asked base ha hb. walked_stands left (with_busy busy frame) asked base ha hb })
      hf (row_stands P table stands (class_of frame)))

  pub asking_of_stands : AskingStands P (asking_of table)
  asking_of_stands = record { elements = λ place frame hp hf. walked_stands (number_of_classes table) [] place frame hp hf }

  pub asking_in_stands : (class : ℕ) → AskingStands P (asking_in table class)
  asking_in_stands class = record { elements = λ place frame hp hf. walked_stands (number_of_classes table) (class ∷ []) place frame hp hf }
