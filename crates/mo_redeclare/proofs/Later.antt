-- What the values of the code are stays the same in later worlds.
use Rattle.std.proofs.Common.{◌≡◌, ℕ, zero, suc, ◌<◌, Bool, true, false, nat_eq, List, [], ◌∷◌, length, map, Option, Some, None, refl, ap, sym, subst, ◌∙◌}
use Rattle.std.specs.Prelude.{option_map, slice_get, IfSome}
use Rattle.mo_scope.specs.declared.saying.Redeclaration.{Redeclaration as RedeclarationAt}
use Rattle.mo_syntax.specs.Outcome.{breaks}
use Rattle.mo_syntax.specs.declared.place.Place.{Place}
use Rattle.mo_syntax.specs.declared.meaning.FrameId.{FrameId}
use Rattle.mo_scope.specs.declared.source.Source.{Source as SourceAt}
use Rattle.mo_scope.specs.declared.row.Member.{Member as MemberAt}
use Rattle.mo_scope.specs.Frames.{Frame, Member}
use Rattle.mo_scope.specs.Compatible.{Pairs, compatible_from, dimensions_of}
use Rattle.mo_scope.specs.Names.{Child, component_frame}
use Rattle.mo_scope.specs.Parts.{Redeclaration}
use Rattle.mo_scope.specs.Own.{IsOwnElement}
use Rattle.mo_scope.specs.Places.{Every}
use Rattle.mo_scope.specs.Rows.{Table, class_number, number_of_classes}
use Rattle.mo_scope.specs.Sights.{declares_seen, redeclaration_in, source_seen}
use Rattle.mo_scope.specs.Worlds.{AreFrames, Grows, IsFrame, MemberEntry, SourceEntry, World, frame_in, frames_of, member_in, sources_in, table_in}
use Rattle.mo_scope.proofs.Numbered.{alike_sources}
use Rattle.mo_names.specs.declared.found.Child.{Child as ChildAt}
use Rattle.mo_names.specs.Sights.{IsMember, member_of}
use Rattle.mo_names.specs.Children.{IsChild, child_seen}
use Rattle.mo_names.proofs.Later.{grows_refl, grows_trans, table_later, frame_later, is_frame_later, member_later, is_member_later, is_walk_later, walk_later}
use Rattle.mo_redeclare.specs.declared.spoken.Named.{Named}
use Rattle.mo_redeclare.specs.steps.Sights.{IsKept, IsNamed, IsRedeclaration, named_seen}
use Rattle.mo_redeclare.specs.steps.Comparing.{element_matched, entered_if_alike, found_checked, frames_entered}
use Rattle.mo_syntax.specs.declared.rules.TheConstants.{NOT_COMPATIBLE}

-- ---- elements that are kept by name

kept_later : (u v : World) (m : MemberEntry) → Grows u v → IsKept u m → member_in (frames_of v) m ≡ member_in (frames_of u) m
kept_later u v m g is = ap (λ (home : Frame). record { name = m.name; home = home; item = m.item; hidden = m.hidden; declares = m.declares }) (frame_later u v m.home g is.home)

is_kept_later : (u v : World) (m : MemberEntry) → Grows u v → IsKept u m → IsKept v m
is_kept_later u v m g is = record {
  home = is_frame_later u v m.home g is.home;
  class = subst (λ t. class_number m.declares < number_of_classes t) (sym (table_later u v g)) is.class;
  own = subst (λ t. IsOwnElement t (member_in (frames_of v) m)) (sym (table_later u v g)) (subst (IsOwnElement (table_in u)) (sym (kept_later u v m g is)) is.own);
}

pub are_kept_later : (u v : World) (ms : List MemberEntry) → Grows u v → Every (IsKept u) ms → Every (IsKept v) ms
are_kept_later u v [] g are = tt
are_kept_later u v (m ∷ ms) g are = (is_kept_later u v m g are.0, are_kept_later u v ms g are.1)

pub members_later : (u v : World) (ms : List MemberEntry) → Grows u v → Every (IsKept u) ms → map (member_in (frames_of v)) ms ≡ map (member_in (frames_of u)) ms
members_later u v [] g are = refl
members_later u v (m ∷ ms) g are =
    ap (λ (x : Member). x ∷ map (member_in (frames_of v)) ms) (kept_later u v m g are.0)
    ∙ ap (λ (xs : List Member). member_in (frames_of u) m ∷ xs) (members_later u v ms g are.1)

-- ---- redeclarations

pub is_redeclaration_later : (u v : World) (r : RedeclarationAt) → Grows u v → IsRedeclaration u r → IsRedeclaration v r
is_redeclaration_later u v r g is = record {
  class = subst (λ t. class_number (declares_seen r.declares) < number_of_classes t) (sym (table_later u v g)) is.class;
  scope = is_frame_later u v r.source.scope.frame.0 g is.scope;
}

pub redeclaration_later : (u v : World) (r : RedeclarationAt) → Grows u v → IsFrame u r.source.scope.frame.0 → redeclaration_in (frames_of v) r ≡ redeclaration_in (frames_of u) r
redeclaration_later u v r g is =
    ap (λ (frame : Frame). record {
      declares = declares_seen r.declares;
      place = r.place;
      keeps = r.keeps;
      source = record { piece = (source_seen r.source).piece; scope = record { frame = frame; iterations = r.source.scope.iters } };
    }) (frame_later u v r.source.scope.frame.0 g is)

pub are_named_later : (u v : World) (ns : List Named) → Grows u v → Every (IsNamed u) ns → Every (IsNamed v) ns
are_named_later u v [] g are = tt
are_named_later u v (n ∷ ns) g are = (is_redeclaration_later u v n.redeclaration g are.0, are_named_later u v ns g are.1)

pub named_later : (u v : World) (n : Named) → Grows u v → IsNamed u n → named_seen (frames_of v) n ≡ named_seen (frames_of u) n
named_later u v n g is = ap (λ (r : Redeclaration). (n.name.now, r)) (redeclaration_later u v n.redeclaration g is.scope)

pub all_named_later : (u v : World) (ns : List Named) → Grows u v → Every (IsNamed u) ns → map (named_seen (frames_of v)) ns ≡ map (named_seen (frames_of u)) ns
all_named_later u v [] g are = refl
all_named_later u v (n ∷ ns) g are =
    ap (λ x. x ∷ map (named_seen (frames_of v)) ns) (named_later u v n g are.0)
    ∙ ap (λ xs. named_seen (frames_of u) n ∷ xs) (all_named_later u v ns g are.1)

-- ---- children

pub is_child_later : (u v : World) (c : ChildAt) → Grows u v → IsChild u c → IsChild v c
is_child_later u v c g is = record {
  class = is_frame_later u v c.class.0 g is.class;
  sources = λ k source at. is_frame_later u v source.frame g (is.sources k source at);
  redeclared = redeclared c.redeclared is.redeclared;
}
  where
    redeclared : (o : Option RedeclarationAt) → IfSome o (λ r. IsFrame u r.source.scope.frame.0) → IfSome o (λ r. IsFrame v r.source.scope.frame.0)
    redeclared None is = tt
    redeclared (Some r) is = is_frame_later u v r.source.scope.frame.0 g is

pub child_later : (u v : World) (c : ChildAt) → Grows u v → IsChild u c → child_seen (frames_of v) c ≡ child_seen (frames_of u) c
child_later u v c g is =
    let redeclared : option_map (redeclaration_in (frames_of v)) c.redeclared ≡ option_map (redeclaration_in (frames_of u)) c.redeclared = by c.redeclared is.redeclared in
    let class : frame_in (frames_of v) c.class.0 ≡ frame_in (frames_of u) c.class.0 = frame_later u v c.class.0 g is.class in
    let sources : sources_in (frames_of v) (map source_seen c.sources) ≡ sources_in (frames_of u) (map source_seen c.sources)
    = alike_sources (frames_of v) (frames_of u) (length u.entries) (λ m below. frame_later u v m g below) (map source_seen c.sources) is.sources in
    cc
  where
    by : (o : Option RedeclarationAt) → IfSome o (λ r. IsFrame u r.source.scope.frame.0) → option_map (redeclaration_in (frames_of v)) o ≡ option_map (redeclaration_in (frames_of u)) o
    by None is = refl
    by (Some r) is = ap (λ (x : Redeclaration). Some x) (redeclaration_later u v r g is)

pub ruleset later = (grows_refl, grows_trans, table_later, frame_later, is_frame_later, member_later, is_member_later, is_walk_later, walk_later, are_kept_later, members_later, is_redeclaration_later, redeclaration_later, is_child_later, child_later)

-- ---- what was told of a later world

pub matched_before : (u v : World) (left : ℕ) (place : Place) (pairs : Pairs) (ms : List MemberEntry) (m : MemberAt) → Grows u v → Every (IsKept u) ms → IsMember u m →
    element_matched (table_in v) (compatible_from (table_in v) left place pairs) place (map (member_in (frames_of v)) ms) (member_of (frames_of v) m)
    ≡ element_matched (table_in u) (compatible_from (table_in u) left place pairs) place (map (member_in (frames_of u)) ms) (member_of (frames_of u) m)
matched_before u v left place pairs ms m g are is =
    ap (λ (t : Table). element_matched t (compatible_from t left place pairs) place (map (member_in (frames_of v)) ms) (member_of (frames_of v) m)) (table_later u v g)
    ∙ ap (λ (xs : List Member). element_matched (table_in u) (compatible_from (table_in u) left place pairs) place xs (member_of (frames_of v) m)) (members_later u v ms g are)
    ∙ ap (λ (x : Member). element_matched (table_in u) (compatible_from (table_in u) left place pairs) place (map (member_in (frames_of u)) ms) x) (member_later u v m g is)

pub checked_before : (u v : World) (ms : List MemberEntry) (leaf : Bool) (n : Named) → Grows u v → Every (IsKept u) ms → IsNamed u n →
    found_checked (table_in v) (map (member_in (frames_of v)) ms) leaf (named_seen (frames_of v) n)
    ≡ found_checked (table_in u) (map (member_in (frames_of u)) ms) leaf (named_seen (frames_of u) n)
checked_before u v ms leaf n g are is =
    ap (λ (t : Table). found_checked t (map (member_in (frames_of v)) ms) leaf (named_seen (frames_of v) n)) (table_later u v g)
    ∙ ap (λ (xs : List Member). found_checked (table_in u) xs leaf (named_seen (frames_of v) n)) (members_later u v ms g are)
    ∙ ap (found_checked (table_in u) (map (member_in (frames_of u)) ms) leaf) (named_later u v n g is)

-- ---- sources with one scope

pub scopes_exist : (world : World) (frame : FrameId) (made : List SourceAt) → Every (λ one. one.scope.frame ≡ frame) made → IsFrame world frame.0 → AreFrames world (map source_seen made)
scopes_exist world frame [] are is = λ k source at. absurd (nothing k source at)
  where
    nothing : (k : ℕ) (source : SourceEntry) → slice_get [] k ≡ Some source → ⊥
    nothing zero source at = cc
    nothing (suc k) source at = cc
scopes_exist world frame (one ∷ others) are is = by (scopes_exist world frame others are.1 is)
  where
    first : (source : SourceEntry) → Some (source_seen one) ≡ Some source → IsFrame world source.frame
    first source at =
        let same : source_seen one ≡ source = cc in
        subst (λ (s : SourceEntry). IsFrame world s.frame) same (subst (λ (f : FrameId). IsFrame world f.0) (sym are.0) is)

    by : AreFrames world (map source_seen others) → (k : ℕ) (source : SourceEntry) → slice_get (source_seen one ∷ map source_seen others) k ≡ Some source → IsFrame world source.frame
    by rest zero source at = first source at
    by rest (suc k) source at = rest k source at

-- ---- components that were entered

pub entered_before : (u v : World) (m n : MemberAt) (x y : ChildAt) → Grows u v → IsMember u m → IsMember u n → IsChild u x → IsChild u y →
    frames_entered (component_frame (member_of (frames_of v) m) [] (child_seen (frames_of v) x)) (component_frame (member_of (frames_of v) n) [] (child_seen (frames_of v) y))
    ≡ frames_entered (component_frame (member_of (frames_of u) m) [] (child_seen (frames_of u) x)) (component_frame (member_of (frames_of u) n) [] (child_seen (frames_of u) y))
entered_before u v m n x y g is_m is_n is_x is_y =
    ap (λ (f : Frame). frames_entered f (component_frame (member_of (frames_of v) n) [] (child_seen (frames_of v) y))) (frame_before m x is_m is_x)
    ∙ ap (frames_entered (component_frame (member_of (frames_of u) m) [] (child_seen (frames_of u) x))) (frame_before n y is_n is_y)
  where
    frame_before : (m : MemberAt) (x : ChildAt) → IsMember u m → IsChild u x →
        component_frame (member_of (frames_of v) m) [] (child_seen (frames_of v) x) ≡ component_frame (member_of (frames_of u) m) [] (child_seen (frames_of u) x)
    frame_before m x is_m is_x =
        ap (λ (k : Member). component_frame k [] (child_seen (frames_of v) x)) (member_later u v m g is_m)
        ∙ ap (component_frame (member_of (frames_of u) m) []) (child_later u v x g is_x)

pub alike : (table : Table) (place : Place) (a : Member) (x : Child) (b : Member) (y : Child) (same : Bool) → same ≡ nat_eq (dimensions_of table a x) (dimensions_of table b y) → same ≡ true →
    frames_entered (component_frame a [] x) (component_frame b [] y) ≡ entered_if_alike table place a x b y
alike table place a x b y same is holds = let both : nat_eq (dimensions_of table a x) (dimensions_of table b y) ≡ true = sym is ∙ holds in rw both refl

pub unlike : (table : Table) (place : Place) (a : Member) (x : Child) (b : Member) (y : Child) (same : Bool) → same ≡ nat_eq (dimensions_of table a x) (dimensions_of table b y) → same ≡ false →
    entered_if_alike table place a x b y ≡ breaks NOT_COMPATIBLE place
unlike table place a x b y same is fails = let both : nat_eq (dimensions_of table a x) (dimensions_of table b y) ≡ false = sym is ∙ fails in rw both refl
