-- What references to components find, select and hand in stands.
use Rattle.std.proofs.Common.{◌≡◌, ℕ, false, refl, List, [], ◌∷◌, length, Option, Some, None}
use Rattle.std.specs.List.{list_all}
use Rattle.std.specs.Prelude.{nat_eq}
use Rattle.mo_syntax.specs.Outcome.{Outcome, and_then}
use Rattle.mo_syntax.specs.declared.expr.PartOf.{PartOf}
use Rattle.mo_syntax.specs.declared.expr.ReferenceOf.{ReferenceOf}
use Rattle.mo_syntax.specs.declared.place.Place.{Place}
use Rattle.mo_flat.specs.declared.array.Subscript.{Subscript}
use Rattle.mo_flat.specs.declared.array.Subscript.TheVariants.{All, One, Many}
use Rattle.mo_scope.specs.Frames.{Scope, Member}
use Rattle.mo_scope.specs.Lookup.{Found, Component, Class, Literal, Iteration, Function, Time, Element as Found_element, Other, Absent, asking_of, found_first, reached}
use Rattle.mo_scope.specs.Names.{child_of_member, component_frame, stands_for, taken, behind_found}
use Rattle.mo_scope.specs.Rows.{Table}
use Rattle.mo_scope.specs.Sizes.{is_nothing}
use Rattle.mo_typing.specs.Dims.{Dims}
use Rattle.mo_typing.specs.Indices.{Index, numbers_to}
use Rattle.mo_typing.specs.Outcome.{each}
use Rattle.mo_typing.specs.Subscripts.{is_within, subscript, subscripts}
use Rattle.mo_eval.specs.Contexts.{Part, alone, place_of}
use Rattle.mo_values.specs.Asked.{layered, must_be_whole, only_whole, scalar_or_vector, subscript_of}
use Rattle.mo_eval.specs.References.{Named, Components, Found_at, Selection, component_behind, counted_subscripts, dims_at, identifier, named, named_before, named_from, named_last, next_member, number_of_dims, numbers_of, read_subscript, read_subscripts, selection_at, selections, there}
use Rattle.mo_values.specs.Selected.{selected}
use Rattle.mo_values.specs.Scalars.{Known}
use Rattle.mo_eval.specs.Virtuals.{Element, Reading, Resolved, known_at}
use Rattle.mo_places.specs.InFiles.{Descends}
use Rattle.mo_places.specs.Resolved.{PartStands, PlaceStands, ReadStands, ReadingStands, ResolvedStands, in_subscript}
use Rattle.mo_places.specs.Stands.{ChildStands, Answers, Anything, Every, FoundStands, FrameStands, IfAny, MemberStands, ReachedStands, TableStands}
use Rattle.mo_places.specs.TreeWritten.{nowhere}
use Rattle.mo_places.specs.Written.{Written, At}
use Rattle.mo_places.proofs.laws.Finding.{MetStands, asking_of_stands, found_first_stands, reached_stands}
use Rattle.mo_places.proofs.laws.Layers.{LayersStand, must_be_whole_answers, whole_vector_answers}
use Rattle.mo_places.proofs.laws.Making.{alone_stands}
use Rattle.mo_places.proofs.laws.Naming.{behind_found_stands, child_of_member_stands, component_frame_stands, stands_for_stands, taken_stands}
use Rattle.mo_places.proofs.laws.Standing.{if_answers, then_answers}
use Rattle.mo_places.proofs.laws.Subscripting.{within_answers}

-- an identifier with its subscripts
abbrev pub IdentifierStands : (Written → Type 0) → PartOf Part → Type 0
IdentifierStands P part = P (At part.place) × Every (IfAny (PartStands P)) part.subs

-- the identifiers of a name; one without identifiers stands nowhere
abbrev pub IdentifiersStand : (Written → Type 0) → List (PartOf Part) → Type 0
IdentifiersStand P [] = P (At nowhere)
IdentifiersStand P (part ∷ parts) = Every (IdentifierStands P) (part ∷ parts)

abbrev pub NameStands : (Written → Type 0) → Member × PartOf Part → Type 0
NameStands P name = MemberStands P name.0 × IdentifierStands P name.1

abbrev pub NamedStands : (Written → Type 0) → Named → Type 0
NamedStands P (Components names) = Every (NameStands P) names
NamedStands P (Found_at found place) = FoundStands P found × P (At place)

abbrev pub SubscriptStands : (Written → Type 0) → Subscript → Type 0
SubscriptStands P sub = Every (PlaceStands P) (in_subscript sub)

pub record SelectionStands (P : Written → Type 0) (selection : Selection) : Type 0 where
  pub place : P (At selection.place)
  pub subs : Every (SubscriptStands P) selection.subs

-- ---- subscripts outside their dimensions

subscript_answers : (P : Written → Type 0) (size : ℕ) (sub : Subscript) → SubscriptStands P sub → Answers P Anything (subscript size sub)
subscript_answers P size All h = record { holds = tt }
subscript_answers P size (One place n) h = within_answers P place (is_within size n) h.0
subscript_answers P size (Many place ns) h = within_answers P place (list_all (is_within size) ns) h.0

pub subscripts_answer : (P : Written → Type 0) (dims : Dims) (subs : List Subscript) → Every (SubscriptStands P) subs → Answers P Anything (subscripts dims subs)
subscripts_answer P [] subs h = record { holds = tt }
subscripts_answer P (n ∷ dims) [] h = record { holds = tt }
subscripts_answer P (n ∷ dims) (sub ∷ subs) h = then_answers P Anything Anything (subscript n sub) _ (subscript_answers P n sub h.0) (λ _ _. subscripts_answer P dims subs h.1)

-- ---- names

last_stands : (P : Written → Type 0) (found : Found) (part : PartOf Part) → FoundStands P found → IdentifierStands P part → NamedStands P (named_last found part)
last_stands P (Component frame member) part hf hp = ((hf.1, hp), tt)
last_stands P (Class frame replaceable) part hf hp = (hf, hp.0)
last_stands P (Literal class n) part hf hp = (hf, hp.0)
last_stands P (Iteration value) part hf hp = (hf, hp.0)
last_stands P (Function code) part hf hp = (hf, hp.0)
last_stands P Time part hf hp = (hf, hp.0)

before_stands : (P : Written → Type 0) (found : Found) (part : PartOf Part) (named : Named) → FoundStands P found → IdentifierStands P part → NamedStands P named → NamedStands P (named_before found part named)
before_stands P (Component frame member) part (Components others) hf hp h = ((hf.1, hp), h)
before_stands P (Component frame member) part (Found_at found place) hf hp h = h
before_stands P (Class frame replaceable) part named hf hp h = h
before_stands P (Literal class n) part named hf hp h = h
before_stands P (Iteration value) part named hf hp h = h
before_stands P (Function code) part named hf hp h = h
before_stands P Time part named hf hp h = h

module _ (P : Written → Type 0) (table : Table) (stands : TableStands P table) where
  pub number_of_dims_answers : (member : Member) → MemberStands P member → Answers P Anything (number_of_dims table member)
  number_of_dims_answers member h =
      then_answers P (ChildStands P) Anything (child_of_member table member []) _ (child_of_member_stands P table stands member [] h) (λ child hc. record { holds = tt })

  counted_answers : (found : Found) (part : PartOf Part) → FoundStands P found → P (At part.place) → Answers P Anything (counted_subscripts table found part)
  counted_answers (Component frame member) part hf hp =
      if_answers P Anything (is_nothing part.subs) _ _ (record { holds = tt })
      (then_answers P Anything Anything (number_of_dims table member) _ (number_of_dims_answers member hf.1)
      (λ n _. if_answers P Anything (nat_eq n (length part.subs)) _ _ (record { holds = tt }) (record { holds = hp })))
  counted_answers (Class frame replaceable) part hf hp = if_answers P Anything (is_nothing part.subs) _ _ (record { holds = tt }) (record { holds = hp })
  counted_answers (Literal class n) part hf hp = if_answers P Anything (is_nothing part.subs) _ _ (record { holds = tt }) (record { holds = hp })
  counted_answers (Iteration value) part hf hp = if_answers P Anything (is_nothing part.subs) _ _ (record { holds = tt }) (record { holds = hp })
  counted_answers (Function code) part hf hp = if_answers P Anything (is_nothing part.subs) _ _ (record { holds = tt }) (record { holds = hp })
  counted_answers Time part hf hp = if_answers P Anything (is_nothing part.subs) _ _ (record { holds = tt }) (record { holds = hp })

  named_from_answers : (found : Found) (part : PartOf Part) (parts : List (PartOf Part)) → FoundStands P found → IdentifierStands P part → Every (IdentifierStands P) parts →
      Answers P (NamedStands P) (named_from table found part parts)
  named_from_answers found part [] hf hp hs =
      then_answers P Anything (NamedStands P) (counted_subscripts table found part) _ (counted_answers found part hf hp.0) (λ _ _. record { holds = last_stands P found part hf hp })
  named_from_answers found part (next ∷ parts) hf hp hs =
      then_answers P Anything (NamedStands P) (counted_subscripts table found part) _ (counted_answers found part hf hp.0) (λ _ _.
      then_answers P (FoundStands P) (NamedStands P) (behind_found table found (identifier next)) _ (behind_found_stands P table stands found (identifier next) hf hs.0.0) (λ behind hb.
      then_answers P (NamedStands P) (NamedStands P) (named_from table behind next parts) _ (named_from_answers behind next parts hb hs.0 hs.1)
      (λ named hn. record { holds = before_stands P found part named hf hp hn })))

  pub named_answers : (scope : Scope) (reference : ReferenceOf Part) → FrameStands P scope.frame → IdentifiersStand P reference.parts → Answers P (NamedStands P) (named table scope reference)
  named_answers scope reference hf h = by reference.parts refl h
    where
      by : (parts : List (PartOf Part)) → reference.parts ≡ parts → IdentifiersStand P parts → Answers P (NamedStands P) (named table scope reference)
      by [] is h = rw is (record { holds = h })
      by (part ∷ parts) is h =
          rw is (then_answers P (MetStands P table stands) (NamedStands P) (found_first table (asking_of table) false reference.top scope (identifier part)) _
          (found_first_stands P table stands (asking_of table) false reference.top scope (identifier part) (asking_of_stands P table stands) h.0.0 hf)
          (λ met hm. then_answers P (FoundStands P) (NamedStands P) (taken table met.near part.place met.found) _ (taken_stands P table stands met.near part.place met.found h.0.0 hm)
          (λ found hd. named_from_answers found part parts hd h.0 h.1)))

  -- ---- the component of a name in an element of a component

  pub component_behind_answers : (place : Place) (member : Member) (index : Index) (name : List ℕ) → P (At place) → MemberStands P member → Answers P (MemberStands P) (component_behind table place member index name)
  component_behind_answers place member index name hp hm =
      then_answers P (ChildStands P) (MemberStands P) (child_of_member table member index) _ (child_of_member_stands P table stands member index hm) (λ child hc.
      then_answers P (ReachedStands P) (MemberStands P) (reached table (asking_of table) place (component_frame member index child) name) _
      (reached_stands P table stands (asking_of table) place (component_frame member index child) name (asking_of_stands P table stands) hp (component_frame_stands P table stands member index child hm hc))
      (elim [
        | Found_element part ↦ λ h. then_answers P (FoundStands P) (MemberStands P) (stands_for table place (Component (component_frame member index child) part)) _
            (stands_for_stands P table stands place (Component (component_frame member index child) part) hp (component_frame_stands P table stands member index child hm hc, h))
            (elim [
              | Component frame inner ↦ λ hi. record { holds = hi.1 }
              | Class frame replaceable ↦ λ hi. record { holds = hp }
              | Literal class n ↦ λ hi. record { holds = hp }
              | Iteration value ↦ λ hi. record { holds = hp }
              | Function code ↦ λ hi. record { holds = hp }
              | Time ↦ λ hi. record { holds = hp }
            ])
        | Other found ↦ λ h. record { holds = hp }
        | Absent ↦ λ h. record { holds = hp }
      ]))

-- ---- subscripts

module _ (P : Written → Type 0) (descends : Descends P) (layers : LayersStand P) (read : Element → Outcome Known) (reads : ReadStands P read) where
  -- the place of an expression that stands
  pub place_stands : (part : Part) → PartStands P part → P (At (place_of part))
  place_stands part h = (descends.expression part.0 h.0).0

  pub numbers_answer : (resolved : Resolved) → ResolvedStands P resolved → (place : Place) → P (At place) → (n : ℕ) → Answers P Anything (numbers_of (known_at read resolved) place n)
  numbers_answer resolved h place hp n = go (numbers_to n)
    where
      go : (ks : List ℕ) → Answers P Anything (each (λ k. and_then (known_at read resolved (k ∷ [])) (must_be_whole place)) ks)
      go [] = record { holds = tt }
      go (k ∷ ks) =
          then_answers P Anything Anything (and_then (known_at read resolved (k ∷ [])) (must_be_whole place)) _
          (then_answers P Anything Anything (known_at read resolved (k ∷ [])) _ (layers.known read reads resolved h (k ∷ [])) (λ known _. must_be_whole_answers P place hp known))
          (λ value _. then_answers P Anything Anything (each (λ k. and_then (known_at read resolved (k ∷ [])) (must_be_whole place)) ks) _ (go ks) (λ values _. record { holds = tt }))

  pub read_subscript_answers : (size : ℕ) (sub : Option Part) → IfAny (PartStands P) sub → Answers P (SubscriptStands P) (read_subscript read size sub)
  read_subscript_answers size None h = record { holds = tt }
  read_subscript_answers size (Some part) h =
      let place = place_of part in
      let hp = place_stands part h in
      then_answers P (ResolvedStands P) (SubscriptStands P) (alone part (subscript_of size)) _ (alone_stands P part (subscript_of size) h) (λ resolved hr.
      then_answers P Anything (SubscriptStands P) (layered (only_whole place) (scalar_or_vector place) resolved.expression) _ (whole_vector_answers P layers place hp resolved.expression hr.expression)
      (elim [
        | [] ↦ λ _. then_answers P Anything (SubscriptStands P) (known_at read resolved []) _ (layers.known read reads resolved hr []) (λ one _.
            then_answers P Anything (SubscriptStands P) (must_be_whole place one) _ (must_be_whole_answers P place hp one) (λ n _. record { holds = (hp, tt) }))
        | n ∷ dims ↦ λ _. then_answers P Anything (SubscriptStands P) (numbers_of (known_at read resolved) place n) _ (numbers_answer resolved hr place hp n) (λ ns _. record { holds = (hp, tt) })
      ]))

  pub read_subscripts_answer : (dims : Dims) (subs : List (Option Part)) → Every (IfAny (PartStands P)) subs → Answers P (Every (SubscriptStands P)) (read_subscripts read dims subs)
  read_subscripts_answer [] subs h = record { holds = tt }
  read_subscripts_answer (n ∷ dims) [] h =
      then_answers P (Every (SubscriptStands P)) (Every (SubscriptStands P)) (read_subscripts read dims []) _ (read_subscripts_answer dims [] tt) (λ others ho. record { holds = (tt, ho) })
  read_subscripts_answer (n ∷ dims) (sub ∷ subs) h =
      then_answers P (SubscriptStands P) (Every (SubscriptStands P)) (read_subscript read n sub) _ (read_subscript_answers n sub h.0) (λ first hf.
      then_answers P (Every (SubscriptStands P)) (Every (SubscriptStands P)) (read_subscripts read dims subs) _ (read_subscripts_answer dims subs h.1) (λ others ho. record { holds = (hf, ho) }))

  -- ---- along the first element

  module _ (table : Table) (stands : TableStands P table) (reading : Reading) (asked : ReadingStands P reading) where
    there_answers : (place : Place) (member : Member) → P (At place) → MemberStands P member → Answers P Anything (there reading place member)
    there_answers place member hp hm =
        then_answers P Anything Anything (reading.is_there member) _ (asked.is_there member hm) (λ is_there _. if_answers P Anything is_there _ _ (record { holds = tt }) (record { holds = hp }))

    dims_at_answers : (member : Option Member) (name : Member × PartOf Part) → IfAny (MemberStands P) member → NameStands P name → Answers P Anything (dims_at table reading member name)
    dims_at_answers (Some member) name hm hn =
        then_answers P Anything Anything (there reading name.1.place member) _ (there_answers name.1.place member hn.1.0 hm) (λ _ _. asked.dims member hm)
    dims_at_answers None name hm hn =
        then_answers P Anything Anything (number_of_dims table name.0) _ (number_of_dims_answers P table stands name.0 hn.0) (λ n _. record { holds = tt })

    selection_at_answers : (member : Option Member) (name : Member × PartOf Part) → IfAny (MemberStands P) member → NameStands P name → Answers P (SelectionStands P) (selection_at table reading read member name)
    selection_at_answers member name hm hn =
        then_answers P Anything (SelectionStands P) (dims_at table reading member name) _ (dims_at_answers member name hm hn) (λ dims _.
        then_answers P (Every (SubscriptStands P)) (SelectionStands P) (read_subscripts read dims name.1.subs) _ (read_subscripts_answer dims name.1.subs hn.1.1)
        (λ subs hs. record { holds = record { place = hn.1.0; subs = hs } }))

    next_member_answers : (member : Option Member) (selection : Selection) (part : PartOf Part) → IfAny (MemberStands P) member → P (At part.place) → Answers P (IfAny (MemberStands P)) (next_member table member selection part)
    next_member_answers None selection part hm hp = record { holds = tt }
    next_member_answers (Some member) selection part hm hp = by (selected selection.dims selection.subs) refl
      where
        by : (indices : List Index) → selected selection.dims selection.subs ≡ indices → Answers P (IfAny (MemberStands P)) (next_member table (Some member) selection part)
        by [] is = rw is (record { holds = tt })
        by (index ∷ indices) is =
            rw is (then_answers P (MemberStands P) (IfAny (MemberStands P)) (component_behind table part.place member index part.name) _
            (component_behind_answers P table stands part.place member index part.name hp hm) (λ next hn. record { holds = hn }))

    pub selections_answer : (member : Option Member) (names : List (Member × PartOf Part)) → IfAny (MemberStands P) member → Every (NameStands P) names → Answers P (Every (SelectionStands P)) (selections table reading read member names)
    selections_answer member [] hm h = record { holds = tt }
    selections_answer member (name ∷ []) hm h =
        then_answers P (SelectionStands P) (Every (SelectionStands P)) (selection_at table reading read member name) _ (selection_at_answers member name hm h.0) (λ selection hs. record { holds = (hs, tt) })
    selections_answer member (name ∷ next ∷ names) hm h =
        then_answers P (SelectionStands P) (Every (SelectionStands P)) (selection_at table reading read member name) _ (selection_at_answers member name hm h.0) (λ selection hs.
        then_answers P Anything (Every (SelectionStands P)) (subscripts selection.dims selection.subs) _ (subscripts_answer P selection.dims selection.subs hs.subs) (λ _ _.
        then_answers P (IfAny (MemberStands P)) (Every (SelectionStands P)) (next_member table member selection next.1) _ (next_member_answers member selection next.1 hm h.1.0.1.0) (λ behind hb.
        then_answers P (Every (SelectionStands P)) (Every (SelectionStands P)) (selections table reading read behind (next ∷ names)) _ (selections_answer behind (next ∷ names) hb h.1)
        (λ others ho. record { holds = (hs, ho) }))))
