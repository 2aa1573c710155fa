-- The scopes of the sources of an element or a base are those of the sources that are asked, or the frame that declares.
use Rattle.std.proofs.Common.{◌≡◌, ℕ, ◌+◌, ◌<◌, ◌≤◌, ◌⊎◌, inl, inr, Bool, true, false, List, [], ◌∷◌, ◌++◌, length, map, get_or, Option, Some, None, zero, suc, refl, ap, sym, subst, ◌∙◌, arith, Result, Ok, Err, IfOk}
use Rattle.std.specs.Prelude.{IfSome}
use Rattle.std.proofs.lemmas.List.{map-append}
use Rattle.std.specs.Str.{bytes_eq}
use Rattle.mo_syntax.specs.declared.class.ArgumentOf.{ArgumentOf}
use Rattle.mo_syntax.specs.declared.class.Body.{Body}
use Rattle.mo_syntax.specs.declared.class.Element.{Element}
use Rattle.mo_syntax.specs.declared.class.Give.{Give, Give-F, out-Give}
use Rattle.mo_syntax.specs.declared.class.Item.{Item}
use Rattle.mo_syntax.specs.declared.class.What.{What}
use Rattle.mo_scope.specs.Places.{Every}
use Rattle.mo_scope.specs.Rows.{Table, Row, Modifiers, Constraint, Clause, is_class, is_short_redeclaration}
use Rattle.mo_scope.specs.Frames.{Frame, Given, Listed, Argued, Replacing, Origin, Source, Member, is_top}
use Rattle.mo_scope.specs.Parts.{names_left, begins_with, held, Redeclaration, Saying, Modifies, Redeclares, said_behind, said_by_argument, said_in_list, said_further, said_by_element, said_by_elements, declared_in, said, said_by_all, redeclarations_in, first_of, with_list, brought, sources_said, written, own_source, constraint_source, declared_sources, through_component, without_value, replacing_source, clause_source, is_nothing}
use Rattle.mo_scope.specs.declared.saying.Redeclaration.{Redeclaration as RedeclarationAt}
use Rattle.mo_scope.specs.declared.source.Source.{Source as SourceAt}
use Rattle.mo_scope.specs.Sights.{redeclaration_in, source_seen}
use Rattle.mo_scope.specs.Worlds.{SourceEntry, World, AreFrames, IsFrame, frames_from, frames_of, frame_at, source_in, sources_in}
use Rattle.mo_scope.proofs.laws.Standing.{every_append, every_map, if_list}
use Rattle.mo_scope.proofs.Numbered.{is_no_top, length_frames_from}

-- ---- what sources say

module _ (P : Frame → Type 0) where
  abbrev pub IsScoped : Source → Type 0
  IsScoped source = P source.scope.frame

  abbrev pub SaysScoped : Saying → Type 0
  SaysScoped (Modifies source) = IsScoped source
  SaysScoped (Redeclares redeclaration) = IsScoped redeclaration.source

  module _ (table : Table) where
    said_behind_scoped : (argument : ArgumentOf Give) (passed : ℕ) (source : Source) → IsScoped source → SaysScoped (said_behind table argument passed source)
    said_behind_scoped argument passed source h = by (names_left argument passed) (out-Give argument.give) refl refl
      where
        by : (names : List (List ℕ)) (g : Give-F Body Give Item What Element) → names_left argument passed ≡ names → out-Give argument.give ≡ g →
            SaysScoped (said_behind table argument passed source)
        by [] (Give-F.Modify mods value) is gives = rw (is, gives) h
        by [] (Give-F.Redeclare element) is gives = rw (is, gives) h
        by [] (Give-F.Replaceable element) is gives = rw (is, gives) h
        by (name ∷ names) g is gives = rw is h

    said_in_list_scoped : (source : Source) (name index : List ℕ) (arguments : List (ArgumentOf Give)) → IsScoped source →
        Every SaysScoped (said_in_list table source name index arguments)
    said_in_list_scoped source name index [] h = tt
    said_in_list_scoped source name index (argument ∷ arguments) h =
        every_append SaysScoped (said_by_argument table source name index argument) (said_in_list table source name index arguments)
        (if_list SaysScoped (begins_with name argument.name.0) _ _ (said_behind_scoped argument 1 _ h, tt) tt)
        (said_in_list_scoped source name index arguments h)

    said_by_elements_scoped : (source : Source) (name index : List ℕ) (elements : List Element) → IsScoped source →
        Every SaysScoped (said_by_elements table source name index elements)
    said_by_elements_scoped source name index [] h = tt
    said_by_elements_scoped source name index (element ∷ elements) h =
        every_append SaysScoped (said_by_element table source name index (declared_in table element)) (said_by_elements table source name index elements)
        (if_list SaysScoped (bytes_eq (declared_in table element).name name) _ _ (h, tt) tt)
        (said_by_elements_scoped source name index elements h)

    said_scoped : (name index : List ℕ) (source : Source) → IsScoped source → Every SaysScoped (said table name index source)
    said_scoped name index source h = by source.piece.given refl
      where
        by : (given : Given) → source.piece.given ≡ given → Every SaysScoped (said table name index source)
        by (Listed modifiers) is = rw is (said_in_list_scoped source name index modifiers.list h)
        by (Argued argument passed) is =
            rw is (every_append SaysScoped (said_further table source name index argument passed) _
            (if_list SaysScoped (begins_with name (names_left argument passed)) _ _ (said_behind_scoped argument (passed + 1) _ h, tt) tt)
            (said_in_list_scoped source name index (held (Argued argument passed)).list h))
        by (Replacing elements) is = rw is (said_by_elements_scoped source name index elements h)

    pub said_by_all_scoped : (name index : List ℕ) (sources : List Source) → Every IsScoped sources → Every SaysScoped (said_by_all table name index sources)
    said_by_all_scoped name index [] h = tt
    said_by_all_scoped name index (source ∷ sources) h =
        every_append SaysScoped (said table name index source) (said_by_all table name index sources)
        (said_scoped name index source h.0) (said_by_all_scoped name index sources h.1)

    pub redeclarations_in_scoped : (sayings : List Saying) → Every SaysScoped sayings → Every (λ redeclaration. IsScoped redeclaration.source) (redeclarations_in sayings)
    redeclarations_in_scoped [] h = tt
    redeclarations_in_scoped (Modifies source ∷ sayings) h = redeclarations_in_scoped sayings h.1
    redeclarations_in_scoped (Redeclares redeclaration ∷ sayings) h = (h.0, redeclarations_in_scoped sayings h.1)

    -- ---- the sources of elements and bases

    pub sources_said_scoped : (wins : Bool) (sayings : List Saying) → Every SaysScoped sayings → Every IsScoped (sources_said wins sayings)
    sources_said_scoped wins [] h = tt
    sources_said_scoped wins (Modifies source ∷ sayings) h = (h.0, sources_said_scoped wins sayings h.1)
    sources_said_scoped wins (Redeclares redeclaration ∷ sayings) h =
        every_append IsScoped (with_list redeclaration.source (brought wins redeclaration)) (sources_said false sayings)
        (if_list IsScoped (is_nothing (brought wins redeclaration)) _ _ tt (h.0, tt))
        (sources_said_scoped false sayings h.1)

    written_scoped : (home : Frame) (index : List ℕ) (origin : Origin) (modifiers : Modifiers) → P home → Every IsScoped (written home index origin modifiers)
    written_scoped home index origin modifiers h = if_list IsScoped (is_nothing modifiers) _ _ tt (h, tt)

    pub declared_sources_scoped : (member : Member) (index : List ℕ) (wins : Option Redeclaration) → P member.home → Every IsScoped (declared_sources member index wins)
    declared_sources_scoped member index wins h = by wins member.declares.limit refl
      where
        own : Every IsScoped (own_source member index)
        own = written_scoped member.home index _ member.declares.own h

        by : (wins : Option Redeclaration) (limit : Option Constraint) → member.declares.limit ≡ limit → Every IsScoped (declared_sources member index wins)
        by None None is = rw is (if_list IsScoped (is_class member.declares) _ _ tt own)
        by None (Some limit) is =
            rw is (every_append IsScoped _ (constraint_source member index limit) (if_list IsScoped (is_class member.declares) _ _ tt own)
            (written_scoped member.home index _ limit.modifiers h))
        by (Some wins) None is = rw is own
        by (Some wins) (Some limit) is = rw is (written_scoped member.home index _ limit.modifiers h)

  replacing_source_scoped : (frame : Frame) (row : Row) → P frame → Every IsScoped (replacing_source frame row)
  replacing_source_scoped frame row h = by row.replacing refl
    where
      by : (elements : List Element) → row.replacing ≡ elements → Every IsScoped (replacing_source frame row)
      by [] is = rw is tt
      by (element ∷ others) is = rw is (h, tt)

  clause_source_scoped : (frame : Frame) (row : Row) (clause : Clause) → P frame → Every IsScoped (clause_source frame row clause)
  clause_source_scoped frame row clause h =
      if_list IsScoped (is_short_redeclaration row) _ _ tt (if_list IsScoped (is_nothing (record { list = clause.mods.0; value = None })) _ _ tt (h, tt))

  pub inherited_scoped : (frame : Frame) (row : Row) (clause : Clause) → P frame → Every IsScoped (replacing_source frame row ++ clause_source frame row clause)
  inherited_scoped frame row clause h =
      every_append IsScoped (replacing_source frame row) (clause_source frame row clause) (replacing_source_scoped frame row h) (clause_source_scoped frame row clause h)

-- ---- frames that have numbers

-- a frame that is not the top
abbrev pub IsReal : Frame → Type 0
IsReal frame = is_top frame ≡ false

get_past : (F : List Frame) (n : ℕ) (d : Frame) → length F ≤ n → get_or F n d ≡ d
get_past [] n d above = refl
get_past (x ∷ F) zero d above = absurd (search arith)
get_past (x ∷ F) (suc n) d above = get_past F n d (omega (arith, above))

-- a number that stands for a frame below the top is one of a frame
pub real_below : (w : World) (n : ℕ) → IsReal (frame_at w n) → n < length w.entries
unfolding frames_of
real_below w n real = by (below_or w n)
  where
    same_not : {a : Bool} → a ≡ true → a ≡ false → ⊥
    same_not is not_so = cc

    below_or : (w : World) (n : ℕ) → (n < length w.entries) ⊎ (length w.entries ≤ n)
    below_or w n = grind arith

    by : (n < length w.entries) ⊎ (length w.entries ≤ n) → n < length w.entries
    by (inl below) = below
    by (inr above) =
        let long : length (frames_from [] w.entries) ≤ n = omega (arith, above, length_frames_from [] w.entries) in
        absurd (same_not (ap is_top (get_past (frames_from [] w.entries) n _ long)) real)

-- the sources have real scopes where their frames have numbers
pub scoped_from : (w : World) (xs : List SourceEntry) → AreFrames w xs → Every (IsScoped IsReal) (sources_in (frames_of w) xs)
scoped_from w [] are = tt
scoped_from w (x ∷ xs) are = (is_no_top w x.frame (are 0 x refl), scoped_from w xs (λ k source at. are (suc k) source at))

pub frames_by : (w : World) (xs : List SourceEntry) → Every (IsScoped IsReal) (sources_in (frames_of w) xs) → AreFrames w xs
frames_by w [] every k source at = cc
frames_by w (x ∷ xs) every zero source at = real_below w source.frame (subst (λ (s : SourceEntry). IsReal (frame_at w s.frame)) (first_is at) every.0)
  where
    first_is : Some x ≡ Some source → x ≡ source
    first_is same = cc
frames_by w (x ∷ xs) every (suc k) source at = frames_by w xs every.1 k source at

-- ---- sources that were made

-- these have frames, since what they are seen as has real scopes
pub frames_is : (w : World) (xs : List SourceEntry) (ys : List Source) → sources_in (frames_of w) xs ≡ ys → Every (IsScoped IsReal) ys → AreFrames w xs
frames_is w xs ys is every = frames_by w xs (subst (Every (IsScoped IsReal)) (sym is) every)

pub if_frames : {E : Type 0} (w : World) (r : Result (List SourceAt) E) (ys : List Source) → Every (IsScoped IsReal) ys →
    IfOk r (λ made. (frames : List Frame) → frames ≡ frames_of w → sources_in frames (map source_seen made) ≡ ys) → IfOk r (λ made. AreFrames w (map source_seen made))
if_frames w (Ok made) ys every is = frames_is w (map source_seen made) ys (is (frames_of w) refl) every
if_frames w (Err error) ys every is = tt

pub no_frames : (w : World) → AreFrames w []
no_frames w = frames_by w [] tt

pub frames_append : (w : World) (xs ys zs : List SourceEntry) → zs ≡ xs ++ ys → AreFrames w xs → AreFrames w ys → AreFrames w zs
frames_append w xs ys zs is hx hy =
    frames_is w zs (sources_in (frames_of w) xs ++ sources_in (frames_of w) ys)
    (ap (sources_in (frames_of w)) is ∙ map-append (source_in (frames_of w)) xs ys)
    (every_append (IsScoped IsReal) (sources_in (frames_of w) xs) (sources_in (frames_of w) ys) (scoped_from w xs hx) (scoped_from w ys hy))

-- more sources, whose scopes are real
pub frames_more : (w : World) (xs zs : List SourceEntry) (ys : List Source) → sources_in (frames_of w) zs ≡ sources_in (frames_of w) xs ++ ys → AreFrames w xs → Every (IsScoped IsReal) ys → AreFrames w zs
frames_more w xs zs ys is hx every =
    frames_is w zs (sources_in (frames_of w) xs ++ ys) is (every_append (IsScoped IsReal) (sources_in (frames_of w) xs) ys (scoped_from w xs hx) every)

pub through_scoped : (sources : List Source) → Every (IsScoped IsReal) sources → Every (IsScoped IsReal) (map through_component sources)
through_scoped sources every = every_map (IsScoped IsReal) through_component sources every

pub without_scoped : (sources : List Source) → Every (IsScoped IsReal) sources → Every (IsScoped IsReal) (map without_value sources)
without_scoped sources every = every_map (IsScoped IsReal) without_value sources every

-- what sources with frames say has real scopes
pub said_real : (w : World) (table : Table) (name index : List ℕ) (sources : List SourceEntry) (sayings : List Saying) → AreFrames w sources →
    sayings ≡ said_by_all table name index (sources_in (frames_of w) sources) → Every (SaysScoped IsReal) sayings
said_real w table name index sources sayings are is =
    subst (Every (SaysScoped IsReal)) (sym is) (said_by_all_scoped IsReal table name index (sources_in (frames_of w) sources) (scoped_from w sources are))

pub redeclarations_real : (w : World) (found : List RedeclarationAt) → Every (λ redeclaration. IsScoped IsReal redeclaration.source) (map (redeclaration_in (frames_of w)) found) →
    AreFrames w (map (λ redeclaration. source_seen redeclaration.source) found)
redeclarations_real w found every = frames_by w (map (λ redeclaration. source_seen redeclaration.source) found) (by found every)
  where
    by : (found : List RedeclarationAt) → Every (λ redeclaration. IsScoped IsReal redeclaration.source) (map (redeclaration_in (frames_of w)) found) →
        Every (IsScoped IsReal) (sources_in (frames_of w) (map (λ redeclaration. source_seen redeclaration.source) found))
    by [] every = tt
    by (redeclaration ∷ found) every = (every.0, by found every.1)

pub if_redeclarations : {E : Type 0} (w : World) (r : Result (List RedeclarationAt) E) (ys : List Redeclaration) → Every (λ redeclaration. IsScoped IsReal redeclaration.source) ys →
    IfOk r (λ found. (frames : List Frame) → frames ≡ frames_of w → map (redeclaration_in frames) found ≡ ys) →
    IfOk r (λ found. AreFrames w (map (λ redeclaration. source_seen redeclaration.source) found))
if_redeclarations w (Ok found) ys every is =
    redeclarations_real w found (subst (Every (λ (redeclaration : Redeclaration). IsScoped IsReal redeclaration.source)) (sym (is (frames_of w) refl)) every)
if_redeclarations w (Err error) ys every is = tt

pub first_real : (w : World) (found : List RedeclarationAt) (o : Option RedeclarationAt) → o ≡ first_of found → AreFrames w (map (λ redeclaration. source_seen redeclaration.source) found) →
    IfSome o (λ redeclaration. IsFrame w redeclaration.source.scope.frame.0)
first_real w [] o is are = rw is tt
first_real w (redeclaration ∷ found) o is are = rw is (are 0 (source_seen redeclaration.source) refl)
