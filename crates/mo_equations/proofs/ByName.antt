-- The components that a name finds, one behind the other.
use Rattle.std.specs.Prelude.{IfOk}
use Rattle.std.proofs.Common.{◌≡◌, ℕ, suc, ◌+◌, ◌-◌, ◌<◌, ◌≤◌, Bool, true, false, if◌then◌else◌, Result, List, [], ◌∷◌, ◌++◌, map, drop, length, get_or, Ok, Err, refl, ap, sym, subst, ◌∙◌, append_assoc, arith}
use Rattle.std.proofs.lemmas.List.{drop_all, drop_more}
use Rattle.mo_syntax.specs.Outcome.{Outcome, and_then, breaks}
use Rattle.mo_syntax.specs.declared.expr.Expr.{Expr}
use Rattle.mo_syntax.specs.declared.expr.PartOf.{PartOf}
use Rattle.mo_syntax.specs.declared.expr.ReferenceOf.{ReferenceOf}
use Rattle.mo_syntax.specs.declared.place.Broken.{Broken}
use Rattle.mo_syntax.specs.declared.place.NoMemory.{NoMemory}
use Rattle.mo_syntax.specs.declared.place.Place.{Place}
use Rattle.mo_syntax.specs.declared.place.Stop.{Stop}
use Rattle.mo_syntax.specs.declared.place.Stop.TheVariants.{Broken as broken_by, NoMemory as no_memory}
use Rattle.mo_scope.specs.declared.row.Member.{Member as MemberAt}
use Rattle.mo_scope.specs.Outcome.{Gives}
use Rattle.mo_scope.specs.Places.{Every}
use Rattle.mo_scope.specs.Names.{Child, child_of_member, component_frame, component_entered}
use Rattle.mo_scope.specs.Rows.{Table, is_class}
use Rattle.mo_scope.specs.Sights.{declares_seen}
use Rattle.mo_scope.specs.Frames.{Frame, Member, Scope, class_of}
use Rattle.mo_scope.specs.Lookup.{Found, Component, Class, Literal, Iteration, Function, Time, Met, Reached, Element, Other, Absent, asking_of, found_first, reached}
use Rattle.mo_scope.specs.Worlds.{World, Grows, frames_of}
use Rattle.mo_names.specs.Children.{first_declared}
use Rattle.mo_names.specs.Sights.{IsFound, IsMember, found_in, member_of}
use Rattle.mo_names.specs.declared.found.Found.{Found as FoundAt}
use Rattle.mo_names.specs.declared.found.Found.TheVariants.{Component as component_at, Class as class_at, Literal as literal_at, Iteration as iteration_at, Function as function_at, Time as time_at}
use Rattle.mo_eval.specs.References.{last_of}
use Rattle.mo_names.proofs.Later.{is_member_later, member_later}
use Rattle.mo_typing.specs.Outcome as told
use Rattle.mo_syntax.specs.declared.rules.TheConstants.{NAME_NOT_FOUND}
use Rattle.mo_typing.specs.Outcome.{each}
use Rattle.mo_flat.specs.declared.connect.Side.{Side}
use Rattle.mo_flat.specs.declared.connect.Side.TheVariants.{Neither}
use Rattle.mo_equations.specs.Connectors.{is_connector_class}
use Rattle.mo_equations.specs.Ends.{declared_behind, declared_by_name, declared_from, is_connector_member, side_by, side_of}
use Rattle.mo_equations.specs.steps.Ends.{IsBrokenRule, component_in_found, component_or_broken, first_component}

-- ---- later worlds

pub members_later : (u v : World) (members : List MemberAt) → Grows u v → Every (IsMember u) members → map (member_of (frames_of v)) members ≡ map (member_of (frames_of u)) members
members_later u v [] grows are = refl
members_later u v (m ∷ ms) grows are =
    ap (λ (x : Member). x ∷ map (member_of (frames_of v)) ms) (member_later u v m grows are.0)
    ∙ ap (λ (xs : List Member). member_of (frames_of u) m ∷ xs) (members_later u v ms grows are.1)

pub are_members_later : (u v : World) (members : List MemberAt) → Grows u v → Every (IsMember u) members → Every (IsMember v) members
are_members_later u v [] grows are = tt
are_members_later u v (m ∷ ms) grows are = (is_member_later u v m grows are.0, are_members_later u v ms grows are.1)

pub mapped_last : {A B : Type 0} (f : A → B) (xs : List A) (x : A) → map f (xs ++ x ∷ []) ≡ map f xs ++ f x ∷ []
mapped_last f [] x = refl
mapped_last {B = B} f (y ∷ ys) x = ap (λ (bs : List B). f y ∷ bs) (mapped_last f ys x)

-- ---- what is left

module _ (table : Table) where
  -- what was found, and what comes of the names behind the last component
  abbrev pub Left : List Member → Member → List (PartOf Expr) → Outcome (List Member)
  Left made member parts = and_then (declared_from table member parts) (λ more. Ok (made ++ more))

  module _ (top : Bool) (scope : Scope) where
    abbrev pub named : List (PartOf Expr) → Outcome (List Member)
    named parts = declared_by_name table scope (record { top = top; parts = parts })

    abbrev behind_first : PartOf Expr → List (PartOf Expr) → Found → Outcome (List Member)
    behind_first part parts (Component frame member) = declared_from table member parts
    behind_first part parts found = breaks NAME_NOT_FOUND part.place

    abbrev component_in : PartOf Expr → Found → Outcome Member
    component_in part (Component frame member) = Ok member
    component_in part found = breaks NAME_NOT_FOUND part.place

    by_found : (part : PartOf Expr) (parts : List (PartOf Expr)) (found : Found) →
        behind_first part parts found ≡ and_then (component_in part found) (λ member. declared_from table member parts)
    by_found part parts (Component frame member) = refl
    by_found part parts (Class frame replaceable) = refl
    by_found part parts (Literal class place) = refl
    by_found part parts (Iteration value) = refl
    by_found part parts (Function code) = refl
    by_found part parts Time = refl

    by_first : (part : PartOf Expr) (parts : List (PartOf Expr)) →
        named (part ∷ parts) ≡ and_then (first_component table top scope part) (λ member. declared_from table member parts)
    by_first part parts = go (found_first table (asking_of table) false top scope part)
      where
        go : (o : Outcome Met) → and_then o (λ met. behind_first part parts met.found)
            ≡ and_then (and_then o (λ met. component_in part met.found)) (λ member. declared_from table member parts)
        go (Ok met) = by_found part parts met.found
        go (Err broken) = refl

    none_before : (o : Outcome (List Member)) → o ≡ and_then o (λ more. Ok ([] ++ more))
    none_before (Ok more) = refl
    none_before (Err broken) = refl

    pub first_left : (parts others : List (PartOf Expr)) (part : PartOf Expr) (member : Member) → parts ≡ part ∷ others →
        first_component table top scope part ≡ Ok member → named parts ≡ Left [] member others
    first_left parts others part member e h =
        ap named e ∙ (by_first part others ∙ (ap (λ (o : Outcome Member). and_then o (λ m. declared_from table m others)) h ∙ none_before (declared_from table member others)))

    pub first_stops : {T : Type 0} (view : T → List Member) (seen : MemberAt → Member) (parts others : List (PartOf Expr)) (part : PartOf Expr) (stop : Stop) → parts ≡ part ∷ others →
        Gives seen (Err stop) (first_component table top scope part) → Gives view (Err stop) (named parts)
    first_stops view seen parts others part (broken_by broken) e h = ap named e ∙ (by_first part others ∙ ap (λ (o : Outcome Member). and_then o (λ m. declared_from table m others)) h)
    first_stops view seen parts others part no_memory e h = tt

  dropped : {A : Type 0} (xs : List A) (i : ℕ) (x : A) → i < length xs → x ≡ get_or xs i x → drop i xs ≡ x ∷ drop (i + 1) xs
  dropped xs i x small is = drop_more xs i x small ∙ ap (λ z. z ∷ drop (i + 1) xs) (sym is)

  pub more_left : (made : List Member) (member next : Member) (parts : List (PartOf Expr)) (i : ℕ) (part : PartOf Expr) → i < length parts → part ≡ get_or parts i part →
      declared_behind table member part ≡ Ok next → Left made member (drop i parts) ≡ Left (made ++ member ∷ []) next (drop (i + 1) parts)
  more_left made member next parts i part small is h =
      ap (Left made member) (dropped parts i part small is)
      ∙ (ap (λ (o : Outcome Member). and_then (and_then o (λ m. and_then (declared_from table m (drop (i + 1) parts)) (λ others. Ok (member ∷ others)))) (λ more. Ok (made ++ more))) h
      ∙ go (declared_from table next (drop (i + 1) parts)))
    where
      go : (o : Outcome (List Member)) → and_then (and_then {B = List Member} o (λ others. Ok (member ∷ others))) (λ more. Ok (made ++ more)) ≡ and_then o (λ more. Ok ((made ++ member ∷ []) ++ more))
      go (Ok others) = ap (λ (ms : List Member). Ok ms) (sym (append_assoc made (member ∷ []) others))
      go (Err broken) = refl

  pub more_stops : {T : Type 0} (view : T → List Member) (seen : MemberAt → Member) (made : List Member) (member : Member) (parts : List (PartOf Expr)) (i : ℕ) (part : PartOf Expr) (stop : Stop) →
      i < length parts → part ≡ get_or parts i part → Gives seen (Err stop) (declared_behind table member part) → Gives view (Err stop) (Left made member (drop i parts))
  more_stops view seen made member parts i part (broken_by broken) small is h =
      ap (Left made member) (dropped parts i part small is)
      ∙ ap (λ (o : Outcome Member). and_then (and_then o (λ m. and_then (declared_from table m (drop (i + 1) parts)) (λ others. Ok (member ∷ others)))) (λ more. Ok (made ++ more))) h
  more_stops view seen made member parts i part no_memory small is h = tt

  pub end_left : (made : List Member) (member : Member) (parts : List (PartOf Expr)) (i : ℕ) → length parts ≤ i → Left made member (drop i parts) ≡ Ok (made ++ member ∷ [])
  end_left made member parts i above = ap (Left made member) (drop_all i parts above)

-- ---- one component

gives_mapped : {A B : Type 0} (f : A → B) (result : Result A Stop) (o : Outcome A) → Gives (λ a. a) result o → Gives f result (and_then o (λ a. Ok (f a)))
gives_mapped {A} {B} f (Ok a) o h = ap (λ (o : Outcome A). and_then {B = B} o (λ a. Ok (f a))) h
gives_mapped {A} {B} f (Err (broken_by broken)) o h = ap (λ (o : Outcome A). and_then {B = B} o (λ a. Ok (f a))) h
gives_mapped f (Err no_memory) o h = tt

-- an answer that stops stops what comes of it
pub stops_then : {T U A B : Type 0} (view : T → A) (seen : U → B) (stop : Stop) (o : Outcome A) (f : A → Outcome B) → Gives view (Err stop) o → Gives seen (Err stop) (and_then o f)
stops_then view seen (broken_by broken) o f h = ap (λ o. and_then o f) h
stops_then view seen no_memory o f h = tt

module _ (table : Table) (member : Member) (part : PartOf Expr) where
  abbrev component_reached : Reached → Outcome Member
  component_reached (Element next) = if is_class next.declares then breaks NAME_NOT_FOUND part.place else Ok next
  component_reached other = breaks NAME_NOT_FOUND part.place

  abbrev behind_frame : Frame → Outcome Member
  behind_frame frame = and_then (reached table (asking_of table) part.place frame part.name) component_reached

  pub behind_by : declared_behind table member part ≡ and_then (component_entered table member []) behind_frame
  behind_by = go (child_of_member table member [])
    where
      go : (o : Outcome Child) → and_then o (λ child. behind_frame (component_frame member [] child)) ≡ and_then (and_then {B = Frame} o (λ child. Ok (component_frame member [] child))) behind_frame
      go (Ok child) = refl
      go (Err broken) = refl

  pub entering_stops : {T U : Type 0} (view : T → Frame) (seen : U → Member) (stop : Stop) → Gives view (Err stop) (component_entered table member []) → Gives seen (Err stop) (declared_behind table member part)
  entering_stops view seen (broken_by broken) h = behind_by ∙ ap (λ (o : Outcome Frame). and_then o behind_frame) h
  entering_stops view seen no_memory h = tt

  module _ (frame : Frame) (entered : component_entered table member [] ≡ Ok frame) where
    by_reached : declared_behind table member part ≡ behind_frame frame
    by_reached = behind_by ∙ ap (λ (o : Outcome Frame). and_then o behind_frame) entered

    pub reaching_stops : {T U : Type 0} (view : T → Reached) (seen : U → Member) (stop : Stop) → Gives view (Err stop) (reached table (asking_of table) part.place frame part.name) →
        Gives seen (Err stop) (declared_behind table member part)
    reaching_stops view seen (broken_by broken) h = by_reached ∙ ap (λ (o : Outcome Reached). and_then o component_reached) h
    reaching_stops view seen no_memory h = tt

    module _ (found : Reached) (told : reached table (asking_of table) part.place frame part.name ≡ Ok found) where
      by_found_there : declared_behind table member part ≡ component_reached found
      by_found_there = by_reached ∙ ap (λ (o : Outcome Reached). and_then o component_reached) told

    pub other_reached : (found : Found) → reached table (asking_of table) part.place frame part.name ≡ Ok (Other found) → declared_behind table member part ≡ breaks NAME_NOT_FOUND part.place
    other_reached found told = by_found_there (Other found) told

    pub none_reached : reached table (asking_of table) part.place frame part.name ≡ Ok Absent → declared_behind table member part ≡ breaks NAME_NOT_FOUND part.place
    none_reached told = by_found_there Absent told

    pub element_reached : (frames : List Frame) (next : MemberAt) (result : Result MemberAt Stop) → reached table (asking_of table) part.place frame part.name ≡ Ok (Element (member_of frames next)) →
        Gives (λ (m : MemberAt). m) result (component_or_broken part.place next) → Gives (member_of frames) result (declared_behind table member part)
    element_reached frames next result told h =
        subst (Gives (member_of frames) result) (mapped ∙ sym (by_found_there (Element (member_of frames next)) told)) (gives_mapped (member_of frames) result (component_or_broken part.place next) h)
      where
        go : (b : Bool) → and_then (if b then breaks NAME_NOT_FOUND part.place else Ok next) (λ m. Ok (member_of frames m)) ≡ (if b then breaks NAME_NOT_FOUND part.place else Ok (member_of frames next))
        go true = refl
        go false = refl

        mapped : and_then (component_or_broken part.place next) (λ m. Ok (member_of frames m)) ≡ component_reached (Element (member_of frames next))
        mapped = go (is_class (declares_seen next.declares))

-- ---- the first component

module _ (table : Table) (top : Bool) (scope : Scope) (part : PartOf Expr) where
  abbrev component_first : Found → Outcome Member
  component_first (Component frame member) = Ok member
  component_first found = breaks NAME_NOT_FOUND part.place

  first_by : first_component table top scope part ≡ and_then (first_declared table top scope part.name part.place) component_first
  first_by = go (found_first table (asking_of table) false top scope part)
    where
      go : (o : Outcome Met) → and_then o (λ met. component_first met.found) ≡ and_then (and_then {B = Found} o (λ met. Ok met.found)) component_first
      go (Ok met) = refl
      go (Err broken) = refl

  pub finding_stops : {T U : Type 0} (view : T → Found) (seen : U → Member) (stop : Stop) → Gives view (Err stop) (first_declared table top scope part.name part.place) →
      Gives seen (Err stop) (first_component table top scope part)
  finding_stops view seen (broken_by broken) h = first_by ∙ ap (λ (o : Outcome Found). and_then o component_first) h
  finding_stops view seen no_memory h = tt

  pub found_is : (found : Found) → first_declared table top scope part.name part.place ≡ Ok found → first_component table top scope part ≡ component_first found
  found_is found told = first_by ∙ ap (λ (o : Outcome Found). and_then o component_first) told

  -- what was found, as the code holds it
  found_seen : (frames : List Frame) (found : FoundAt) → component_first (found_in frames found) ≡ and_then (component_in_found part.place found) (λ m. Ok (member_of frames m))
  found_seen frames (component_at frame member) = refl
  found_seen frames (class_at frame replaceable) = refl
  found_seen frames (literal_at class place) = refl
  found_seen frames (iteration_at value) = refl
  found_seen frames (function_at code) = refl
  found_seen frames time_at = refl

  pub first_found : (frames : List Frame) (found : FoundAt) (result : Result MemberAt Stop) → first_declared table top scope part.name part.place ≡ Ok (found_in frames found) →
      Gives (λ (m : MemberAt). m) result (component_in_found part.place found) → Gives (member_of frames) result (first_component table top scope part)
  first_found frames found result told h =
      subst (Gives (member_of frames) result) (sym (found_is (found_in frames found) told ∙ found_seen frames found)) (gives_mapped (member_of frames) result (component_in_found part.place found) h)

member_is : (a b : MemberAt) → ◌≡◌ {A = Outcome MemberAt} (Ok a) (Ok b) → a ≡ b
member_is a b e = ap got e
  where
    got : Outcome MemberAt → MemberAt
    got (Ok m) = m
    got (Err broken) = a

pub found_exists : (w : World) (place : Place) (found : FoundAt) (result : Result MemberAt Stop) → IsFound w found → Gives (λ (m : MemberAt). m) result (component_in_found place found) → IfOk result (IsMember w)
found_exists w place found (Err stop) is h = tt
found_exists w place (component_at frame member) (Ok m) is h = subst (IsMember w) (member_is member m h) is.1
found_exists w place (class_at frame replaceable) (Ok m) is h = absurd (let clash : ◌≡◌ {A = Outcome MemberAt} (breaks NAME_NOT_FOUND place) (Ok m) = h in cc)
found_exists w place (literal_at class at) (Ok m) is h = absurd (let clash : ◌≡◌ {A = Outcome MemberAt} (breaks NAME_NOT_FOUND place) (Ok m) = h in cc)
found_exists w place (iteration_at value) (Ok m) is h = absurd (let clash : ◌≡◌ {A = Outcome MemberAt} (breaks NAME_NOT_FOUND place) (Ok m) = h in cc)
found_exists w place (function_at code) (Ok m) is h = absurd (let clash : ◌≡◌ {A = Outcome MemberAt} (breaks NAME_NOT_FOUND place) (Ok m) = h in cc)
found_exists w place time_at (Ok m) is h = absurd (let clash : ◌≡◌ {A = Outcome MemberAt} (breaks NAME_NOT_FOUND place) (Ok m) = h in cc)

-- ---- the last of some

pub last_is : (first : Bool) (xs : List Bool) → 1 ≤ length xs → get_or xs (length xs - 1) false ≡ last_of first xs
last_is first [] some = let h : 1 ≤ 0 = some in absurd (omega (arith, h))
last_is first (x ∷ []) some = refl
last_is first (x ∷ y ∷ xs) some = ap (λ k. get_or (x ∷ y ∷ xs) k false) (one (length xs)) ∙ last_is x (y ∷ xs) (omega arith)
  where
    one : (m : ℕ) → suc (suc m) - 1 ≡ suc (suc m - 1)
    one m = omega arith

-- ---- connectors

module _ (table : Table) (member : Member) where
  pub connector_is : (child : Child) → child_of_member table member [] ≡ Ok child → is_connector_member table member ≡ Ok (is_connector_class table (class_of child.class))
  connector_is child h = ap (λ (o : Outcome Child). and_then o (λ (c : Child). Ok (is_connector_class table (class_of c.class)))) h

  pub connector_stops : {T : Type 0} (view : T → Child) (stop : Stop) → Gives view (Err stop) (child_of_member table member []) → told.Gives {T = Bool} (Err stop) (is_connector_member table member)
  connector_stops view (broken_by broken) h = ap (λ (o : Outcome Child). and_then o (λ (c : Child). Ok (is_connector_class table (class_of c.class)))) h
  connector_stops view no_memory h = tt

module _ (table : Table) (scope : Scope) (reference : ReferenceOf Expr) where
  abbrev side_in : Outcome (List Bool) → Side
  side_in (Ok connectors) = side_by connectors
  side_in (Err broken) = Neither

  abbrev among : Outcome (List Bool)
  among = and_then (declared_by_name table scope reference) (each (is_connector_member table))

  pub side_is : (connectors : List Bool) → among ≡ Ok connectors → side_by connectors ≡ side_of table scope reference
  side_is connectors h = sym (ap side_in h)

  pub side_broken : (broken : Broken) → among ≡ Err broken → Neither ≡ side_of table scope reference
  side_broken broken h = sym (ap side_in h)

  pub side_halted : (stop : Stop) (result : Result Side NoMemory) → told.Gives {T = List Bool} (Err stop) among → IfOk result (λ lies. lies ≡ Neither) → IfOk result (λ lies. IsBrokenRule stop) →
      IfOk result (λ lies. lies ≡ side_of table scope reference)
  side_halted stop (Err e) h is broken = tt
  side_halted (broken_by at) (Ok lies) h is broken = is ∙ side_broken at h
  side_halted no_memory (Ok lies) h is broken = absurd broken

  pub naming_stops : {T : Type 0} (view : T → List Member) (stop : Stop) → Gives view (Err stop) (declared_by_name table scope reference) → told.Gives {T = List Bool} (Err stop) among
  naming_stops view (broken_by broken) h = ap (λ (o : Outcome (List Member)). and_then o (each (is_connector_member table))) h
  naming_stops view no_memory h = tt

  pub among_named : (members : List Member) (result : Result (List Bool) Stop) → declared_by_name table scope reference ≡ Ok members → told.Gives result (each (is_connector_member table) members) → told.Gives result among
  among_named members result h is = subst (told.Gives result) (sym (ap (λ (o : Outcome (List Member)). and_then o (each (is_connector_member table))) h)) is
