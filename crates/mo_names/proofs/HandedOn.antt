-- What comes of the answers of lookups that are handed on as they are.
use Rattle.std.proofs.Common.{◌≡◌, ℕ, Bool, true, false, cond, List, map, Option, Some, None, option_map, Result, Ok, Err, refl, ap, sym, subst, ◌∙◌}
use Rattle.std.specs.List.{list_all}
use Rattle.std.specs.Prelude.{IfSome}
use Rattle.mo_syntax.specs.Outcome.{Outcome, and_then, breach}
use Rattle.mo_syntax.specs.declared.place.Place.{Place}
use Rattle.mo_syntax.specs.declared.place.Stop.{Stop}
use Rattle.mo_syntax.specs.declared.place.Stop.TheVariants.{Broken as broken_by, NoMemory as no_memory}
use Rattle.mo_scope.specs.Outcome.{Gives}
use Rattle.mo_scope.specs.Rows.{Table, is_class}
use Rattle.mo_scope.specs.Frames.{Frame, Member, class_of, is_top}
use Rattle.mo_scope.specs.Lookup.{Found, Reached, Element, Other, Absent, Met, Asking, behind_class, contains, counted, counts_in_package, found_element, found_from, found_in, is_package, members_in, met, named, own_members, reached, reached_in, reached_own, through_star, walked}
use Rattle.mo_scope.specs.Worlds.{World, Grows, IsFrame, frame_at, frames_of, table_in}
use Rattle.mo_names.specs.declared.found.Ask.{Ask}
use Rattle.mo_names.specs.declared.found.Found.{Found as FoundAt}
use Rattle.mo_names.specs.declared.found.Met.{Met as MetAt}
use Rattle.mo_names.specs.Sights.{IsFound, asks, found_in as found_seen, met_seen}
use Rattle.mo_names.specs.Past.{Past, Found_past, Around, Next, Ends, Goes_on, GivesNext, next_of, or_past, past}
use Rattle.mo_names.specs.declared.past.Next.TheVariants.{Ends as ends_at}
use Rattle.mo_names.specs.steps.Lookup.{all_met, counted_reached, element_behind, element_met, imported_met, open_element, reached_behind, reached_by_star, shown}
use Rattle.mo_names.proofs.Circling.{go_on, or_on, outwards_step, then_same, then_then}
use Rattle.mo_names.proofs.WalkOutwards.{here_told, past_told}
use Rattle.mo_names.proofs.Later.{found_later, frame_later, is_found_later, is_frame_later, table_later}
use Rattle.mo_syntax.specs.declared.rules.TheConstants.{WRONG_KIND_OF_NAME, NAME_NOT_FOUND}

-- a value that is given
pub given_ok : {T U A B : Type 0} (view : T → A) (view' : U → B) (r : Result T Stop) (x : T) (told : Outcome A) (f : A → Outcome B) (result : Result U Stop) → r ≡ Ok x → Gives view r told → Gives view' result (f (view x)) →
    Gives view' result (and_then told f)
given_ok view view' r x told f result is given further =
    let same : told ≡ Ok (view x) = subst (λ r. Gives view r told) is given in
    subst (λ o. Gives view' result (and_then o f)) (sym same) further

-- ---- what stands behind a class

pub behind_is : (table : Table) (asking : Asking) (ask place : Place) (component : Option Place) (frame : Frame) (name : List ℕ) →
    and_then (and_then (reached table asking ask frame name) (counted_reached table asking ask place frame)) (reached_behind table place component frame) ≡ behind_class table asking ask place component frame name
behind_is table asking ask place component frame name =
    sym (then_then (reached table asking ask frame name) (counted_reached table asking ask place frame) (reached_behind table place component frame))
    ∙ then_same (reached table asking ask frame name) _ found_at by
  where
    element : Option Place → Member → Outcome Found
    element None member = open_element table place frame member
    element (Some wrong) member = cond (is_class member.declares) (open_element table place frame member) (Err (breach WRONG_KIND_OF_NAME wrong))

    found_at : Reached → Outcome Found
    found_at Absent = Err (breach NAME_NOT_FOUND place)
    found_at (Other found) = Ok found
    found_at (Element member) = and_then (counted table asking ask place frame member) (element component)

    same : (component : Option Place) (member : Member) → element_behind table place component frame member ≡ element component member
    same None member = refl
    same (Some wrong) member = refl

    by : (any : Reached) → and_then (counted_reached table asking ask place frame any) (reached_behind table place component frame) ≡ found_at any
    by Absent = refl
    by (Other found) = refl
    by (Element member) =
        sym (then_then (counted table asking ask place frame member) (λ counted. Ok (Element counted)) (reached_behind table place component frame))
        ∙ then_same (counted table asking ask place frame member) _ (element component) (same component)

pub behind_told : (u v w : World) (ask : Ask) (place : Place) (component : Option Place) (n : ℕ) (name : List ℕ) → Grows u v → Grows v w → IsFrame u n →
    and_then (and_then (reached (table_in u) (asks (table_in u) ask) ask.place (frame_at u n) name) (counted_reached (table_in v) (asks (table_in v) ask) ask.place place (frame_at v n)))
    (reached_behind (table_in w) place component (frame_at w n))
    ≡ behind_class (table_in u) (asks (table_in u) ask) ask.place place component (frame_at u n) name
behind_told u v w ask place component n name g h at =
    let T : Table = table_in u in
    let F : Frame = frame_at u n in
    let R : Outcome Reached = reached T (asks T ask) ask.place F name in
    let fv : frame_at v n ≡ F = frame_later u v n g at in
    let fw : frame_at w n ≡ F = frame_later v w n h (is_frame_later u v n g at) ∙ fv in
    ap (λ t. and_then (and_then R (counted_reached t (asks t ask) ask.place place (frame_at v n))) (reached_behind (table_in w) place component (frame_at w n))) (table_later u v g)
    ∙ ap (λ f. and_then (and_then R (counted_reached T (asks T ask) ask.place place f)) (reached_behind (table_in w) place component (frame_at w n))) fv
    ∙ ap (λ t. and_then (and_then R (counted_reached T (asks T ask) ask.place place F)) (reached_behind t place component (frame_at w n))) (table_later v w h ∙ table_later u v g)
    ∙ ap (λ f. and_then (and_then R (counted_reached T (asks T ask) ask.place place F)) (reached_behind T place component f)) fw
    ∙ behind_is T (asks T ask) ask.place place component F name

-- ---- what is found through `.*`

pub through_star_is : (table : Table) (asking : Asking) (ask place : Place) (frame : Frame) (name : List ℕ) →
    and_then (and_then (and_then (reached table asking ask frame name) shown) (counted_reached table asking ask place frame)) (reached_by_star table frame) ≡ through_star table asking ask place frame name
through_star_is table asking ask place frame name =
    ap (λ o. and_then o (reached_by_star table frame)) (sym (then_then (reached table asking ask frame name) shown (counted_reached table asking ask place frame)))
    ∙ sym (then_then (reached table asking ask frame name) (λ any. and_then (shown any) (counted_reached table asking ask place frame)) (reached_by_star table frame))
    ∙ then_same (reached table asking ask frame name) _ found_at by
  where
    found_at : Reached → Outcome (Option Found)
    found_at Absent = Ok None
    found_at (Other found) = Ok (Some found)
    found_at (Element member) = cond member.hidden (Ok None) (and_then (counted table asking ask place frame member) (λ counted. and_then (met table frame counted) (λ found. Ok (Some found))))

    shown_or_not : (hidden : Bool) (member : Member) →
        and_then (and_then (cond hidden (Ok Absent) (Ok (Element member))) (counted_reached table asking ask place frame)) (reached_by_star table frame)
        ≡ cond hidden (Ok None) (and_then (counted table asking ask place frame member) (λ counted. and_then (met table frame counted) (λ found. Ok (Some found))))
    shown_or_not true member = refl
    shown_or_not false member = sym (then_then (counted table asking ask place frame member) (λ counted. Ok (Element counted)) (reached_by_star table frame))

    by : (any : Reached) → and_then (and_then (shown any) (counted_reached table asking ask place frame)) (reached_by_star table frame) ≡ found_at any
    by Absent = refl
    by (Other found) = refl
    by (Element member) = shown_or_not member.hidden member

pub through_star_told : (u v w : World) (ask : Ask) (place : Place) (n : ℕ) (name : List ℕ) → Grows u v → Grows v w → IsFrame u n →
    and_then (and_then (and_then (reached (table_in u) (asks (table_in u) ask) ask.place (frame_at u n) name) shown) (counted_reached (table_in v) (asks (table_in v) ask) ask.place place (frame_at v n)))
    (reached_by_star (table_in w) (frame_at w n))
    ≡ through_star (table_in u) (asks (table_in u) ask) ask.place place (frame_at u n) name
through_star_told u v w ask place n name g h at =
    let T : Table = table_in u in
    let F : Frame = frame_at u n in
    let R : Outcome Reached = and_then (reached T (asks T ask) ask.place F name) shown in
    let fv : frame_at v n ≡ F = frame_later u v n g at in
    let fw : frame_at w n ≡ F = frame_later v w n h (is_frame_later u v n g at) ∙ fv in
    ap (λ t. and_then (and_then R (counted_reached t (asks t ask) ask.place place (frame_at v n))) (reached_by_star (table_in w) (frame_at w n))) (table_later u v g)
    ∙ ap (λ f. and_then (and_then R (counted_reached T (asks T ask) ask.place place f)) (reached_by_star (table_in w) (frame_at w n))) fv
    ∙ ap (λ t. and_then (and_then R (counted_reached T (asks T ask) ask.place place F)) (reached_by_star t (frame_at w n))) (table_later v w h ∙ table_later u v g)
    ∙ ap (λ f. and_then (and_then R (counted_reached T (asks T ask) ask.place place F)) (reached_by_star T f)) fw
    ∙ through_star_is T (asks T ask) ask.place place F name

-- ---- a simple name

any_met : (table : Table) (asking : Asking) (bare : Bool) (frame : Frame) (place : Place) (name : List ℕ) → bare ≡ false →
    and_then (reached table asking place frame name) (element_met table frame) ≡ found_element table asking bare frame place name
any_met table asking bare frame place name is =
    then_same (reached table asking place frame name) (element_met table frame) found_at by
    ∙ ap (λ b. and_then (cond b (reached_own table frame name) (reached table asking place frame name)) found_at) (sym is)
  where
    found_at : Reached → Outcome (Option Found)
    found_at (Element member) = and_then (met table frame member) (λ found. Ok (Some found))
    found_at other = Ok None

    by : (any : Reached) → element_met table frame any ≡ found_at any
    by (Element member) = refl
    by (Other found) = refl
    by Absent = refl

pub any_met_told : (u v : World) (ask : Ask) (bare : Bool) (n : ℕ) (name : List ℕ) → Grows u v → IsFrame u n → bare ≡ false →
    and_then (reached (table_in u) (asks (table_in u) ask) ask.place (frame_at u n) name) (element_met (table_in v) (frame_at v n))
    ≡ found_element (table_in u) (asks (table_in u) ask) bare (frame_at u n) ask.place name
any_met_told u v ask bare n name g at is =
    let T : Table = table_in u in
    let R : Outcome Reached = reached T (asks T ask) ask.place (frame_at u n) name in
    ap (λ t. and_then R (element_met t (frame_at v n))) (table_later u v g)
    ∙ ap (λ f. and_then R (element_met T f)) (frame_later u v n g at)
    ∙ any_met T (asks T ask) bare (frame_at u n) ask.place name is

pub imported_is : (o : Outcome (Option Found)) → and_then o (all_met false) ≡ and_then o (λ found. Ok (imported_met found))
imported_is o = then_same o (all_met false) (λ found. Ok (imported_met found)) by
  where
    by : (found : Option Found) → all_met false found ≡ Ok (imported_met found)
    by None = refl
    by (Some found) = refl

-- ---- the walk outwards

abbrev pub go_next : Table → Asking → Place → List ℕ → Next → Outcome Met
go_next table asking place name (Ends met) = Ok met
go_next table asking place name (Goes_on outer) = found_from table asking false false outer place name

next_is : (table : Table) (asking : Asking) (place : Place) (name : List ℕ) (p : Outcome Past) → and_then (and_then p next_of) (go_next table asking place name) ≡ and_then p (go_on table asking place name)
next_is table asking place name p =
    sym (then_then p next_of (go_next table asking place name)) ∙ then_same p _ (go_on table asking place name) by
  where
    by : (p : Past) → and_then (next_of p) (go_next table asking place name) ≡ go_on table asking place name p
    by (Found_past found) = refl
    by (Around outer) = refl

pub next_step : (table : Table) (asking : Asking) (bare near : Bool) (frame : Frame) (place : Place) (name : List ℕ) (o : Outcome (Option Met)) (p : Outcome Past) (all : Outcome Met) →
    and_then o (λ here. or_on here (and_then p (go_on table asking place name))) ≡ all → and_then (and_then o (or_past p)) (go_next table asking place name) ≡ all
next_step table asking bare near frame place name o p all is =
    sym (then_then o (or_past p) (go_next table asking place name))
    ∙ then_same o _ (λ here. or_on here (and_then p (go_on table asking place name))) by
    ∙ is
  where
    by : (here : Option Met) → and_then (or_past p here) (go_next table asking place name) ≡ or_on here (and_then p (go_on table asking place name))
    by (Some met) = refl
    by None = next_is table asking place name p

-- the end of the walk
pub ends_give : (frames : List Frame) (r : Result MetAt Stop) (told : Outcome Next) (f : Next → Outcome Met) (all : Outcome Met) → ((met : Met) → f (Ends met) ≡ Ok met) → GivesNext frames (ends_at r) told → and_then told f ≡ all → Gives (met_seen frames) r all
ends_give frames (Ok met) told f all ends is left = sym left ∙ ap (λ o. and_then o f) is ∙ ends (met_seen frames met)
ends_give frames (Err (broken_by broken)) told f all ends is left = sym left ∙ ap (λ o. and_then o f) is
ends_give frames (Err no_memory) told f all ends is left = tt

pub outwards_told : (u v w : World) (ask : Ask) (bare near : Bool) (n : ℕ) (name : List ℕ) (all : Outcome Met) → Grows u v → Grows v w → IsFrame v n → is_top (frame_at v n) ≡ false →
    found_from (table_in u) (asks (table_in u) ask) bare near (frame_at v n) ask.place name ≡ all →
    and_then (and_then (found_in (table_in v) (asks (table_in v) ask) bare near (frame_at v n) ask.place name) (or_past (past (table_in w) ask.place (frame_at w n) name))) (go_next (table_in u) (asks (table_in u) ask) ask.place name) ≡ all
outwards_told u v w ask bare near n name all g h at no_top left =
    let T : Table = table_in u in
    let F : Frame = frame_at v n in
    let further : Next → Outcome Met = go_next T (asks T ask) ask.place name in
    ap (λ o. and_then (and_then o (or_past (past (table_in w) ask.place (frame_at w n) name))) further) (here_told u v ask bare near n name g)
    ∙ ap (λ p. and_then (and_then (found_in T (asks T ask) bare near F ask.place name) (or_past p)) further) (past_told u v w ask.place n name g h at)
    ∙ next_step T (asks T ask) bare near F ask.place name _ _ all (outwards_step T (asks T ask) bare near F ask.place name no_top ∙ left)

-- where the walk goes on, it does so in the frame around
pub goes_on_around : (o : Outcome (Option Met)) (p : Outcome Past) (f : Frame) → and_then o (or_past p) ≡ Ok (Goes_on f) → p ≡ Ok (Around f)
goes_on_around (Err b) p f is = absurd cc
goes_on_around (Ok (Some met)) p f is = absurd cc
goes_on_around (Ok None) (Err b) f is = absurd cc
goes_on_around (Ok None) (Ok (Found_past found)) f is = absurd cc
goes_on_around (Ok None) (Ok (Around g)) f is =
    let same : g ≡ f = cc in
    ap (λ h. Ok (Around h)) same

-- ---- the elements of a frame, told of a later world

pub walked_told : (u v : World) (ask : Ask) (n : ℕ) → Grows u v → IsFrame u n →
    walked (table_in v) ask.left ask.busy.now ask.place (frame_at v n) ≡ walked (table_in u) ask.left ask.busy.now ask.place (frame_at u n)
walked_told u v ask n g at =
    ap (λ t. walked t ask.left ask.busy.now ask.place (frame_at v n)) (table_later u v g) ∙ ap (walked (table_in u) ask.left ask.busy.now ask.place) (frame_later u v n g at)

-- a name that no element has that the class of a frame declares itself
inherited_is : (table : Table) (asking : Asking) (place : Place) (frame : Frame) (name : List ℕ) → named name (own_members table frame) ≡ None →
    and_then (asking.elements place frame) (λ walked. Ok (reached_in table walked name)) ≡ reached table asking place frame name
inherited_is table asking place frame name none = ap reached_or (sym none)
  where
    reached_or : Option Member → Outcome Reached
    reached_or (Some member) = Ok (Element member)
    reached_or None = and_then (asking.elements place frame) (λ walked. Ok (reached_in table walked name))

pub inherited_told : (u v : World) (ask : Ask) (n : ℕ) (name : List ℕ) → Grows u v → named name (own_members (table_in u) (frame_at u n)) ≡ None →
    and_then (walked (table_in u) ask.left ask.busy.now ask.place (frame_at u n)) (λ walked. Ok (reached_in (table_in v) walked name)) ≡ reached (table_in u) (asks (table_in u) ask) ask.place (frame_at u n) name
inherited_told u v ask n name g none =
    ap (λ t. and_then (walked (table_in u) ask.left ask.busy.now ask.place (frame_at u n)) (λ walked. Ok (reached_in t walked name))) (table_later u v g)
    ∙ inherited_is (table_in u) (asks (table_in u) ask) ask.place (frame_at u n) name none

pub open_told : (table : Table) (ask : Ask) (frame : Frame) → contains ask.busy.now (class_of frame) ≡ false →
    and_then (walked table ask.left ask.busy.now ask.place frame) (λ walked. Ok (list_all counts_in_package (map (λ inherited. inherited.member) walked.members))) ≡ is_package table (asks table ask) ask.place frame
open_told table ask frame free =
    ap (λ b. cond b (Ok (list_all counts_in_package (own_members table frame))) (and_then (walked table ask.left ask.busy.now ask.place frame) (λ walked. Ok (list_all counts_in_package (members_in walked))))) (sym free)

pub option_later : (u v : World) (found : Option FoundAt) → Grows u v → IfSome found (IsFound u) → option_map (found_seen (frames_of v)) found ≡ option_map (found_seen (frames_of u)) found
option_later u v None g is = refl
option_later u v (Some found) g is = ap Some (found_later u v found g is)

pub some_later : (u v : World) (found : Option FoundAt) → Grows u v → IfSome found (IsFound u) → IfSome found (IsFound v)
some_later u v None g is = tt
some_later u v (Some found) g is = is_found_later u v found g is
