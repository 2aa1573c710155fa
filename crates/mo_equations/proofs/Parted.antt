-- The sections of the classes of instances, one after another.
use Rattle.std.proofs.Common.{◌≡◌, ℕ, ◌+◌, ◌<◌, Bool, true, false, List, [], ◌∷◌, ◌++◌, length, map, flat_map, reverse, take, drop, get_or, Option, Some, None, Result, Ok, Err, refl, ap, sym, subst, ◌∙◌, append_assoc, arith}
use Rattle.std.specs.Prelude.{option_map, slice_get}
use Rattle.mo_syntax.specs.Outcome.{IfBroken, Outcome, and_then, breaks}
use Rattle.mo_syntax.specs.declared.class.ClassDefOf.{ClassDefOf}
use Rattle.std.proofs.lemmas.List.{append-nil, reverse-append}
use Rattle.mo_syntax.specs.declared.class.Body.{Body, out-Body}
use Rattle.mo_syntax.specs.declared.class.Item.{Item}
use Rattle.mo_syntax.specs.declared.equation.EquationKind.{EquationKind}
use Rattle.mo_syntax.specs.declared.equation.EquationOf.{EquationOf}
use Rattle.mo_syntax.specs.declared.meaning.FrameId.{FrameId}
use Rattle.mo_syntax.specs.declared.place.Broken.{Broken}
use Rattle.mo_syntax.specs.declared.place.Place.{Place}
use Rattle.mo_syntax.specs.declared.place.Stop.{Stop}
use Rattle.mo_syntax.specs.declared.place.Stop.TheVariants.{Broken as broken_by, NoMemory as no_memory}
use Rattle.mo_flat.specs.declared.connect.Connect.{Connect}
use Rattle.mo_scope.specs.Frames.{Frame, Scope, class_of}
use Rattle.mo_scope.specs.Instances.{Instance}
use Rattle.mo_scope.specs.Lookup.{Walked, final_frame}
use Rattle.mo_scope.specs.Names.{walk_of}
use Rattle.mo_scope.specs.Outcome as seen
use Rattle.mo_scope.specs.Places.{Every}
use Rattle.mo_scope.specs.Rows.{Row, Table, row_at}
use Rattle.mo_scope.specs.Worlds.{World, Grows, IsFrame, frame_at, frame_in, frames_of, table_in}
use Rattle.mo_names.specs.Sights.{IsBase, frames_through, walk_seen}
use Rattle.mo_names.specs.declared.walk.Walk.{Walk as WalkAt}
use Rattle.mo_names.proofs.Later.{frame_later, is_frame_later, table_later}
use Rattle.mo_syntax.specs.declared.rules.TheConstants.{OUTSIDE_PROFILE}
use Rattle.mo_typing.specs.Outcome.{each}
use Rattle.mo_equations.specs.declared.desk.Desk.{Desk}
use Rattle.mo_equations.specs.declared.made.Made.{Made as MadeAt}
use Rattle.mo_equations.specs.declared.sections.Parts.{Parts as PartsAt}
use Rattle.mo_equations.specs.declared.sections.Placed.{Placed as PlacedAt}
use Rattle.mo_equations.specs.Equations.{made_section}
use Rattle.mo_equations.specs.Expansion.{Parts, Placed, made_placed, parts_of, sections_at}
use Rattle.mo_equations.specs.Gathering.{Made, Turning, all_beside, beside, turn_each}
use Rattle.mo_equations.specs.Leaves.{Tree}
use Rattle.mo_equations.specs.Sections.{Section, Equations, Left_out, frames_of as frames_with_sections, section_in, sections_in}
use Rattle.mo_equations.specs.steps.Makings.{IsMade}
use Rattle.mo_equations.specs.steps.Placing.{AreFrames, AreParts, GivesParts, PutsParts, frames_of_instances, frames_seen, item_placed, last_frame, last_frames, part_of_section, placed_as, placed_in_class, sections_with}
use Rattle.mo_equations.specs.steps.Turns.{GivesMade, all_made_at, formed_at}
use Rattle.mo_equations.proofs.Eaching.{each_append}
use Rattle.mo_equations.proofs.Lists.{every_at, flat_of_map, flat_split_or, flat_taken_or, mapped_both, mapped_flat, same_default}
use Rattle.mo_equations.proofs.Making.{made_beside}
use Rattle.mo_equations.proofs.Turning.{all_one_more, beside_nothing, turn_append, turn_halts, turn_more}

-- ---- frames

last_is : (zs : List Frame) (y : Frame) → final_frame (zs ++ y ∷ []) ≡ y
last_is [] y = refl
last_is (z ∷ []) y = refl
last_is (z ∷ w ∷ zs) y = last_is (w ∷ zs) y

final_is : (frames : List Frame) (x : FrameId) (xs : List FrameId) → final_frame (frames_through frames (x ∷ xs)) ≡ frame_in frames x.0
final_is frames x xs =
    let seen : FrameId → Frame = λ (f : FrameId). frame_in frames f.0 in
    ap final_frame (reverse-append (seen x ∷ []) (map seen xs)) ∙ last_is (reverse (map seen xs)) (seen x)

-- the last frames on the way to bases are those that are held first
pub finals_are : (world : World) (frames : List Frame) (sections : List (List FrameId)) → Every (IsBase world) sections →
    map final_frame (map (frames_through frames) sections) ≡ frames_seen frames (last_frames sections)
finals_are world frames [] are = refl
finals_are world frames ([] ∷ sections) are = absurd (omega (arith, are.0.some))
finals_are world frames ((x ∷ xs) ∷ sections) are =
    ap (λ (f : Frame). f ∷ map final_frame (map (frames_through frames) sections)) (final_is frames x xs)
    ∙ ap (λ (fs : List Frame). frame_in frames x.0 ∷ fs) (finals_are world frames sections are.1)

pub all_exist : (world : World) (sections : List (List FrameId)) → Every (IsBase world) sections → AreFrames world (last_frames sections)
all_exist world [] are = tt
all_exist world ([] ∷ sections) are = all_exist world sections are.1
all_exist world ((x ∷ xs) ∷ sections) are = (are.0.frames.0, all_exist world sections are.1)

pub both_exist : (world : World) (xs ys : List FrameId) → AreFrames world xs → AreFrames world ys → AreFrames world (xs ++ ys)
both_exist world [] ys p q = q
both_exist world (x ∷ xs) ys p q = (p.0, both_exist world xs ys p.1 q)

pub exist_later : (u v : World) (xs : List FrameId) → Grows u v → AreFrames u xs → AreFrames v xs
exist_later u v [] g are = tt
exist_later u v (x ∷ xs) g are = (is_frame_later u v x.0 g are.0, exist_later u v xs g are.1)

pub seen_later : (u v : World) (xs : List FrameId) → Grows u v → AreFrames u xs → frames_seen (frames_of v) xs ≡ frames_seen (frames_of u) xs
seen_later u v [] g are = refl
seen_later u v (x ∷ xs) g are =
    ap (λ (f : Frame). f ∷ frames_seen (frames_of v) xs) (frame_later u v x.0 g are.0)
    ∙ ap (λ (fs : List Frame). frame_in (frames_of u) x.0 ∷ fs) (seen_later u v xs g are.1)

pub seen_both : (frames : List Frame) (xs ys : List FrameId) → frames_seen frames (xs ++ ys) ≡ frames_seen frames xs ++ frames_seen frames ys
seen_both frames [] ys = refl
seen_both frames (x ∷ xs) ys = ap (λ (fs : List Frame). frame_in frames x.0 ∷ fs) (seen_both frames xs ys)

pub last_more : (xs : List (List FrameId)) (x : List FrameId) → last_frames (xs ++ x ∷ []) ≡ last_frames xs ++ last_frame x
last_more [] x = append-nil (last_frame x)
last_more (y ∷ ys) x = ap (λ (fs : List FrameId). last_frame y ++ fs) (last_more ys x) ∙ sym (append_assoc (last_frame y) (last_frames ys) (last_frame x))

-- the frames of one instance
pub walked_frames : (u v : World) (frame : FrameId) (walk : WalkAt) (more : List FrameId) → Grows u v → IsFrame u frame.0 → Every (IsBase v) walk.sections →
    walk_of (table_in u) (frame_at u frame.0) ≡ Ok (walk_seen (frames_of v) walk) → more ≡ last_frames walk.sections ++ frame ∷ [] →
    frames_with_sections (table_in u) (frame_at u frame.0) ≡ Ok (frames_seen (frames_of v) more)
walked_frames u v frame walk more g is bases walked e =
    ap (λ (o : Outcome Walked). and_then o (λ w. Ok (map final_frame w.sections ++ frame_at u frame.0 ∷ []))) walked
    ∙ ap Ok
    (ap (λ (fs : List Frame). fs ++ frame_at u frame.0 ∷ []) (finals_are v (frames_of v) walk.sections bases)
    ∙ (ap (λ (f : Frame). frames_seen (frames_of v) (last_frames walk.sections) ++ f ∷ []) (sym (frame_later u v frame.0 g is))
    ∙ (sym (seen_both (frames_of v) (last_frames walk.sections) (frame ∷ [])) ∙ ap (frames_seen (frames_of v)) (sym e))))

pub walk_halts : {T : Type 0} (view : T → Walked) (table : Table) (frame : Frame) (stop : Stop) → seen.Gives view (Err stop) (walk_of table frame) →
    IfBroken {T = Unit {0}} (Err stop) (λ broken. frames_with_sections table frame ≡ Err broken)
walk_halts view table frame (broken_by broken) h = rw h refl
walk_halts view table frame no_memory h = tt

-- the frames of instances, one after another
module _ (table : Table) (xs ys : List Instance) (x : Instance) where
  abbrev one : Instance → Outcome (List Frame)
  one instance = frames_with_sections table instance.frame

  abbrev flat : List (List Frame) → List Frame
  flat lists = flat_map (λ list. list) lists

  flat_both : (as_ bs : List (List Frame)) → flat (as_ ++ bs) ≡ flat as_ ++ flat bs
  flat_both [] bs = refl
  flat_both (a ∷ as_) bs = ap (λ (fs : List Frame). a ++ fs) (flat_both as_ bs) ∙ sym (append_assoc a (flat as_) (flat bs))

  record Firsts (before : List Frame) : Type 0 where
    lists : List (List Frame)
    are : each one xs ≡ Ok lists
    flat_is : flat lists ≡ before

  firsts : (before : List Frame) → frames_of_instances table xs ≡ Ok before → Firsts before
  firsts before h = go (each one xs) refl h
    where
      go : (o : Outcome (List (List Frame))) → each one xs ≡ o → and_then o (λ lists. Ok (flat lists)) ≡ Ok before → Firsts before
      go (Ok lists) e k = record { lists = lists; are = e; flat_is = same_ok (flat lists) before k }
        where
          same_ok : (a b : List Frame) → ◌≡◌ {A = Outcome (List Frame)} (Ok a) (Ok b) → a ≡ b
          same_ok a b e = ap held e
            where
              held : Outcome (List Frame) → List Frame
              held (Ok x) = x
              held (Err broken) = a
      go (Err broken) e k = absurd (let clash : ◌≡◌ {A = Outcome (List Frame)} (Err broken) (Ok before) = k in cc)

  pub frames_more : (before more : List Frame) → frames_of_instances table xs ≡ Ok before → one x ≡ Ok more → frames_of_instances table (xs ++ x ∷ []) ≡ Ok (before ++ more)
  frames_more before more h k =
      let f = firsts before h in
      let all : each one (xs ++ x ∷ []) ≡ Ok (f.lists ++ more ∷ []) = each_append one xs (x ∷ []) ∙ rw (f.are, k) refl in
      ap (λ (o : Outcome (List (List Frame))). and_then o (λ lists. Ok (flat lists))) all
      ∙ ap Ok (flat_both f.lists (more ∷ []) ∙ (ap (λ (fs : List Frame). flat f.lists ++ fs) (append-nil more) ∙ ap (λ (fs : List Frame). fs ++ more) f.flat_is))

  pub frames_stop : (before : List Frame) (stop : Stop) → frames_of_instances table xs ≡ Ok before → IfBroken {T = Unit {0}} (Err stop) (λ broken. one x ≡ Err broken) →
      IfBroken {T = List FrameId} (Err stop) (λ broken. frames_of_instances table (xs ++ x ∷ ys) ≡ Err broken)
  frames_stop before (broken_by broken) h k =
      let f = firsts before h in
      let all : each one (xs ++ x ∷ ys) ≡ Err broken = each_append one xs (x ∷ ys) ∙ rw (f.are, k) refl in
      rw all refl
  frames_stop before no_memory h k = tt

-- ---- parts

mapped_more : {A B : Type 0} (f : A → B) (xs : List A) (x : A) → map f (xs ++ x ∷ []) ≡ map f xs ++ f x ∷ []
mapped_more f [] x = refl
mapped_more {A} {B} f (y ∷ ys) x = ap (λ (bs : List B). f y ∷ bs) (mapped_more f ys x)

beside_more : (f : Parts → Made) (parts : List Parts) (p : Parts) → beside (all_beside (map f parts)) (f p) ≡ all_beside (map f (parts ++ p ∷ []))
beside_more f parts p = sym (ap all_beside (mapped_more f parts p) ∙ all_one_more (map f parts) (f p))

pub parts_more : (new : PartsAt) (parts : List Parts) (p : Parts) → IsMade new.initial (beside (all_beside (map (λ one. one.initial) parts)) p.initial) →
    IsMade new.usual (beside (all_beside (map (λ one. one.usual) parts)) p.usual) → AreParts new (parts ++ p ∷ [])
parts_more new parts p initial usual = record {
  initial = subst (IsMade new.initial) (beside_more (λ one. one.initial) parts p) initial;
  usual = subst (IsMade new.usual) (beside_more (λ one. one.usual) parts p) usual;
}

pub usual_more : (old new : PartsAt) (parts : List Parts) (made : Made) → AreParts old parts → new.initial ≡ old.initial → IsMade new.usual (beside (all_beside (map (λ one. one.usual) parts)) made) →
    AreParts new (parts ++ part_of_section false made)
usual_more old new parts made are same usual =
    parts_more new parts (parts_of false made)
    (subst (IsMade new.initial) (sym (beside_nothing (all_beside (map (λ one. one.initial) parts)))) (subst (λ (m : MadeAt). IsMade m (all_beside (map (λ one. one.initial) parts))) (sym same) are.initial)) usual

-- connects alone
abbrev only_connects : List Connect → Made
only_connects connects = record { equations = []; asserts = []; connects = connects }

connected : (held : MadeAt) (made : Made) (connects : List Connect) → IsMade held made → IsMade (record held { connects = held.connects ++ connects }) (beside made (only_connects connects))
connected held made connects is =
    made_beside held (record { count = 0; nodes = 0; equations = []; asserts = []; connects = connects }) (record held { connects = held.connects ++ connects }) made (only_connects connects) is
    (record { count = omega arith; nodes = omega arith; equations = λ low. refl; asserts = λ low. refl; connects = refl })
    (omega (arith, is.count)) (omega (arith, is.nodes)) refl (λ low. sym (append-nil held.equations)) (λ low. sym (append-nil held.asserts))

pub apart : (held : MadeAt) (made : Made) → IsMade held made → IsMade (record held { connects = [] }) (record { equations = made.equations; asserts = made.asserts; connects = [] })
apart held made is = record { count = is.count; nodes = is.nodes; equations = is.equations; asserts = is.asserts; connects = refl }

pub initial_more : (old new : PartsAt) (parts : List Parts) (held : MadeAt) (made : Made) → AreParts old parts → IsMade held made →
    new.usual ≡ record old.usual { connects = old.usual.connects ++ held.connects } →
    IsMade new.initial (beside (all_beside (map (λ one. one.initial) parts)) (record { equations = made.equations; asserts = made.asserts; connects = [] })) →
    AreParts new (parts ++ part_of_section true made)
initial_more old new parts held made are is same initial =
    parts_more new parts (parts_of true made) initial
    (subst (λ (m : MadeAt). IsMade m (beside (all_beside (map (λ one. one.usual) parts)) (only_connects made.connects))) (sym same)
    (subst (λ (cs : List Connect). IsMade (record old.usual { connects = old.usual.connects ++ cs }) (beside (all_beside (map (λ one. one.usual) parts)) (only_connects made.connects))) (sym is.connects)
    (connected old.usual (all_beside (map (λ one. one.usual) parts)) made.connects are.usual)))

-- ---- sections

turned_mapped : {A B C : Type 0} (make : B → Turning C) (f : A → B) (xs : List A) (turns : ℕ) → turn_each make (map f xs) turns ≡ turn_each (λ x. make (f x)) xs turns
turned_mapped make f [] turns = refl
turned_mapped {A} {B} {C} make f (x ∷ xs) turns = go (make (f x) turns) (turned_mapped make f xs)
  where
    go : (o : Outcome (C × ℕ)) → ((t : ℕ) → turn_each make (map f xs) t ≡ turn_each (λ x. make (f x)) xs t) →
        and_then {A = C × ℕ} {B = List C × ℕ} o (λ one. and_then {A = List C × ℕ} {B = List C × ℕ} (turn_each make (map f xs) one.1) (λ others. Ok (one.0 ∷ others.0, others.1)))
        ≡ and_then {A = C × ℕ} {B = List C × ℕ} o (λ one. and_then {A = List C × ℕ} {B = List C × ℕ} (turn_each (λ x. make (f x)) xs one.1) (λ others. Ok (one.0 ∷ others.0, others.1)))
    go (Ok one) more = ap (λ (o : Outcome (List C × ℕ)). and_then {A = List C × ℕ} {B = List C × ℕ} o (λ others. Ok (one.0 ∷ others.0, others.1))) (more one.1)
    go (Err broken) more = refl

pub section_is : (tree : Tree) (scope : Scope) (equations : List (EquationOf EquationKind)) (turns : ℕ) →
    all_made_at tree equations (record { scope = scope; undecided = false }) turns ≡ made_section tree scope equations turns
section_is tree scope equations turns =
    ap (λ (o : Outcome (List Made × ℕ)). and_then {A = List Made × ℕ} {B = Made × ℕ} o (λ made. Ok (all_beside made.0, made.1)))
    (turned_mapped (λ equation. equation.what equation.place (record { scope = scope; undecided = false })) (formed_at tree) equations turns)

module _ (tree : Tree) (frame : Frame) (name : Place) (initial : Bool) (equations : List (EquationOf EquationKind)) (turns : ℕ) where
  abbrev placed : Placed
  placed = record { frame = frame; name = name; section = Equations initial equations }

  abbrev scope : Scope
  scope = record { frame = frame; iterations = [] }

  pub puts_section : (held : MadeAt) (old new : PartsAt) (desk : Desk) → GivesMade (Ok held) desk (all_made_at tree equations (record { scope = scope; undecided = false }) turns) →
      ((parts : List Parts) (one : Made) → AreParts old parts → IsMade held one → AreParts new (parts ++ part_of_section initial one)) →
      PutsParts (Ok tt) old new desk (turn_each (made_placed tree) (placed ∷ []) turns)
  puts_section held old new desk h put = (
    part_of_section initial h.0,
    rw (sym (section_is tree scope equations turns) ∙ h.1) refl,
    λ before are. put before h.0 are h.2,
  )

  pub stops_section : (later desk : Desk) (old new : PartsAt) (stop : Stop) → GivesMade (Err stop) later (all_made_at tree equations (record { scope = scope; undecided = false }) turns) →
      PutsParts (Err stop) old new desk (turn_each (made_placed tree) (placed ∷ []) turns)
  stops_section later desk old new (broken_by broken) h = rw (sym (section_is tree scope equations turns) ∙ h) refl
  stops_section later desk old new no_memory h = tt

pub left_out_breaks : (tree : Tree) (frame : Frame) (name : Place) (turns : ℕ) → turn_each (made_placed tree) (record { frame = frame; name = name; section = Left_out } ∷ []) turns ≡ breaks OUTSIDE_PROFILE name
left_out_breaks tree frame name turns = refl

-- ---- answers

pub puts_as : (result : Result (Unit {0}) Stop) (old new : PartsAt) (desk : Desk) (o o' : Outcome (List Parts × ℕ)) → o ≡ o' → PutsParts result old new desk o → PutsParts result old new desk o'
puts_as result old new desk o o' e h = subst (PutsParts result old new desk) e h

pub puts_breaks : (old new : PartsAt) (desk : Desk) (o : Outcome (List Parts × ℕ)) (stop : Stop) (broken : Broken) → stop ≡ broken_by broken → o ≡ Err broken → PutsParts (Err stop) old new desk o
puts_breaks old new desk o stop broken e h = subst (λ (s : Stop). PutsParts (Err s) old new desk o) (sym e) h

pub puts_nothing : (old : PartsAt) (desk : Desk) (turns : ℕ) → desk.turns ≡ turns → PutsParts (Ok tt) old old desk (Ok ([], turns))
puts_nothing old desk turns same = ([], ap (λ (t : ℕ). Ok ([], t)) (sym same), λ before are. subst (AreParts old) (sym (append-nil before)) are)

module _ (tree : Tree) (xs ys zs : List Placed) (turns : ℕ) (a b c : PartsAt) (before after : Desk) where
  pub puts_more : PutsParts (Ok tt) a b before (turn_each (made_placed tree) xs turns) → PutsParts (Ok tt) b c after (turn_each (made_placed tree) ys before.turns) →
      PutsParts (Ok tt) a c after (turn_each (made_placed tree) (xs ++ ys) turns)
  puts_more p q = (
    p.0 ++ q.0,
    turn_more (made_placed tree) xs ys turns before.turns after.turns p.0 q.0 p.1 q.1,
    λ parts are. subst (AreParts c) (append_assoc parts p.0 q.0) (q.2 (parts ++ p.0) (p.2 parts are)),
  )

  fails_first : (broken : Broken) → turn_each (made_placed tree) ys before.turns ≡ Err broken → turn_each (made_placed tree) (ys ++ zs) before.turns ≡ Err broken
  fails_first broken h = turn_append (made_placed tree) ys zs before.turns ∙ rw h refl

  pub puts_stop : (stop : Stop) → PutsParts (Ok tt) a b before (turn_each (made_placed tree) xs turns) → PutsParts (Err stop) b c after (turn_each (made_placed tree) ys before.turns) →
      PutsParts (Err stop) a c after (turn_each (made_placed tree) (xs ++ (ys ++ zs)) turns)
  puts_stop (broken_by broken) p q = turn_halts (made_placed tree) xs (ys ++ zs) turns before.turns p.0 broken p.1 (fails_first broken q)
  puts_stop no_memory p q = tt

-- ---- the frame that is held first

pub first_is : (through : List FrameId) (frame : FrameId) → slice_get through 0 ≡ Some frame → last_frame through ≡ frame ∷ []
first_is [] frame h = absurd (let clash : ◌≡◌ {A = Option FrameId} None (Some frame) = h in cc)
first_is (x ∷ xs) frame h = ap (λ (f : FrameId). f ∷ []) (held h)
  where
    one : FrameId → Option FrameId → FrameId
    one d None = d
    one d (Some f) = f

    held : Some x ≡ Some frame → x ≡ frame
    held e = ap (one x) e

-- ---- the sections of classes

abbrev placed_with : Frame → Place → Section → Placed
placed_with frame name section = record { frame = frame; name = name; section = section }

-- a frame that is placed is the same later
pub placed_later : (u v : World) (placed : PlacedAt) (item : Item) → Grows u v → IsFrame u placed.frame.0 → item_placed (frames_of v) placed item ≡ item_placed (frames_of u) placed item
placed_later u v placed item g is =
    ap (λ (f : Frame). map (λ section. placed_with f placed.class.now.place section) (section_in item)) (frame_later u v placed.frame.0 g is)

-- those of the items, and an external clause behind them
pub in_class : (frames : List Frame) (placed : PlacedAt) (items : List Item) (external : List Section) → sections_in (out-Body placed.class.now.body) ≡ flat_map section_in items ++ external →
    placed_in_class frames placed ≡ flat_map (item_placed frames placed) items ++ map (placed_as frames placed) external
in_class frames placed items external is =
    ap (map (placed_as frames placed)) is
    ∙ mapped_both (placed_as frames placed) (flat_map section_in items) external
    ∙ ap (λ (ps : List Placed). ps ++ map (placed_as frames placed) external) (mapped_flat (placed_as frames placed) section_in items)

-- those of the class of a frame
pub sections_some : (table : Table) (frames : List Frame) (placed : PlacedAt) → option_map (λ row. row.class) (row_at table (class_of (frame_in frames placed.frame.0))) ≡ Some placed.class.now →
    placed_in_class frames placed ≡ sections_at table (frame_in frames placed.frame.0)
sections_some table frames placed h = go (row_at table (class_of (frame_in frames placed.frame.0))) refl h
  where
    go : (o : Option Row) → row_at table (class_of (frame_in frames placed.frame.0)) ≡ o → option_map (λ row. row.class) o ≡ Some placed.class.now →
        placed_in_class frames placed ≡ sections_at table (frame_in frames placed.frame.0)
    go None e k = absurd (let clash : ◌≡◌ {A = Option (ClassDefOf Body)} None (Some placed.class.now) = k in cc)
    go (Some row) e k =
        let same : row.class ≡ placed.class.now = some_same row.class placed.class.now k in
        ap (λ (class : (ClassDefOf Body)). map (λ section. placed_with (frame_in frames placed.frame.0) class.place section) (sections_in (out-Body class.body))) (sym same)
        ∙ sym (rw e refl)
      where
        held : (ClassDefOf Body) → Option (ClassDefOf Body) → (ClassDefOf Body)
        held d None = d
        held d (Some c) = c

        some_same : (a b : (ClassDefOf Body)) → ◌≡◌ {A = Option (ClassDefOf Body)} (Some a) (Some b) → a ≡ b
        some_same a b e = ap (held a) e

pub sections_none : (table : Table) (frame : Frame) → option_map (λ (row : Row). row.class) (row_at table (class_of frame)) ≡ None → sections_at table frame ≡ []
sections_none table frame h = go (row_at table (class_of frame)) refl h
  where
    go : (o : Option Row) → row_at table (class_of frame) ≡ o → option_map (λ (row : Row). row.class) o ≡ None → sections_at table frame ≡ []
    go None e k = rw e refl
    go (Some row) e k = absurd (let clash : ◌≡◌ {A = Option (ClassDefOf Body)} (Some row.class) None = k in cc)

-- ---- frame after frame

module _ (u v : World) (frames : List FrameId) (i : ℕ) (d : FrameId) (g : Grows u v) (are : AreFrames u frames) (small : i < length frames) where
  abbrev item : FrameId
  item = get_or frames i d

  item_now : IsFrame u item.0
  item_now = every_at (λ (number : FrameId). IsFrame u number.0) frames i item are small (same_default frames i d item small)

  pub item_later : IsFrame v (get_or frames i d).0
  item_later = is_frame_later u v item.0 g item_now

  sections_now : sections_with v item ≡ sections_with u item
  sections_now = ap (λ (T : Table). sections_at T (frame_at v item.0)) (table_later u v g) ∙ ap (sections_at (table_in u)) (frame_later u v item.0 g item_now)

  module _ (tree tree' : Tree) (same : tree' ≡ tree) (turns : ℕ) (parts : List Parts) (before : Desk)
      (told : turn_each (made_placed tree) (flat_map (sections_with u) (take i frames)) turns ≡ Ok (parts, before.turns)) where
    one_now : turn_each (made_placed tree') (sections_with v item) before.turns ≡ turn_each (made_placed tree) (sections_with u item) before.turns
    one_now =
        ap (λ (tr : Tree). turn_each (made_placed tr) (sections_with v item) before.turns) same
        ∙ ap (λ (ps : List Placed). turn_each (made_placed tree) ps before.turns) sections_now

    pub told_more : (more : List Parts) (after : Desk) → turn_each (made_placed tree') (sections_with v (get_or frames i d)) before.turns ≡ Ok (more, after.turns) →
        turn_each (made_placed tree) (flat_map (sections_with u) (take (i + 1) frames)) turns ≡ Ok (parts ++ more, after.turns)
    told_more more after h =
        ap (λ (ps : List Placed). turn_each (made_placed tree) ps turns) (flat_taken_or (sections_with u) frames i d small)
        ∙ turn_more (made_placed tree) (flat_map (sections_with u) (take i frames)) (sections_with u item) turns before.turns after.turns parts more told (sym one_now ∙ h)

    halts : (broken : Broken) → turn_each (made_placed tree) (sections_with u item) before.turns ≡ Err broken → turn_each (made_placed tree) (flat_map (sections_with u) frames) turns ≡ Err broken
    halts broken h =
        ap (λ (ps : List Placed). turn_each (made_placed tree) ps turns) (flat_split_or (sections_with u) frames i d small)
        ∙ turn_halts (made_placed tree) (flat_map (sections_with u) (take i frames)) (sections_with u item ++ flat_map (sections_with u) (drop (i + 1) frames)) turns before.turns parts broken told
        (turn_append (made_placed tree) (sections_with u item) (flat_map (sections_with u) (drop (i + 1) frames)) before.turns ∙ rw h refl)

    pub told_stops : (a b : PartsAt) (after desk : Desk) (stop : Stop) → PutsParts (Err stop) a b after (turn_each (made_placed tree') (sections_with v (get_or frames i d)) before.turns) →
        GivesParts (Err stop) desk (turn_each (made_placed tree) (flat_map (sections_at (table_in u)) (frames_seen (frames_of u) frames)) turns)
    told_stops a b after desk (broken_by broken) h =
        ap (λ (ps : List Placed). turn_each (made_placed tree) ps turns) (flat_of_map (sections_at (table_in u)) (λ number. frame_at u number.0) frames) ∙ halts broken (sym one_now ∙ h)
    told_stops a b after desk no_memory h = tt

pub told_all : (u : World) (frames : List FrameId) (tree : Tree) (turns : ℕ) → turn_each (made_placed tree) (flat_map (sections_at (table_in u)) (frames_seen (frames_of u) frames)) turns
    ≡ turn_each (made_placed tree) (flat_map (sections_with u) frames) turns
told_all u frames tree turns = ap (λ (ps : List Placed). turn_each (made_placed tree) ps turns) (flat_of_map (sections_at (table_in u)) (λ number. frame_at u number.0) frames)
