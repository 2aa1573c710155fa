-- What the identifiers of a reference find, one after another.
use Rattle.std.proofs.Common.{◌≡◌, ℕ, ◌+◌, ◌<◌, drop, get_or, Bool, true, false, List, [], ◌∷◌, ◌++◌, length, map, Option, Result, Ok, Err, refl, ap, sym, subst, ◌∙◌, append_assoc}
use Rattle.std.specs.Prelude.{◌↔◌, IsTrue, if◌then◌else◌, nat_eq}
use Rattle.std.specs.Option.{option_map}
use Rattle.std.proofs.lemmas.List.{length-map, map-append}
use Rattle.mo_syntax.specs.Outcome.{Outcome as Seen, and_then as then_seen, Outcome, and_then, breaks}
use Rattle.mo_syntax.specs.declared.expr.Expr.{Expr}
use Rattle.mo_syntax.specs.declared.expr.PartOf.{PartOf}
use Rattle.mo_syntax.specs.declared.place.Place.{Place}
use Rattle.mo_syntax.specs.declared.place.Stop.{Stop}
use Rattle.mo_syntax.specs.declared.place.Stop.TheVariants.{Broken as broken_by, NoMemory as no_memory}
use Rattle.mo_scope.specs.Frames.{Frame, Scope, Member}
use Rattle.mo_scope.specs.Lookup.{Found, Component, Class, Literal, Iteration, Function, Time, Met, asking_of}
use Rattle.mo_scope.specs.Names.{behind_found, taken}
use Rattle.mo_scope.specs.Outcome.{Gives as GivesSeen}
use Rattle.mo_scope.specs.Rows.{Table}
use Rattle.mo_scope.specs.Worlds.{World, Grows, frames_of, table_in}
use Rattle.mo_names.specs.declared.found.Found.{Found as FoundAt}
use Rattle.mo_names.specs.Children.{first_found, next_found}
use Rattle.mo_names.specs.Past.{first_met}
use Rattle.mo_names.specs.Sights.{IsFound, IsMember, found_in, member_of}
use Rattle.mo_names.proofs.Later.{found_later, is_member_later, member_later, table_later}
use Rattle.mo_syntax.specs.declared.rules.TheConstants.{WRONG_TYPE}
use Rattle.mo_typing.specs.Outcome.{Gives}
use Rattle.mo_typing.proofs.Gathering.{opened}
use Rattle.mo_eval.specs.declared.names.Name.{Name}
use Rattle.mo_eval.specs.Contexts.{Part}
use Rattle.mo_eval.specs.References.{Named, Components, Found_at, counted_subscripts, identifier, named, named_before, named_from, named_last, number_of_dims}
use Rattle.mo_lookup.proofs.Written.{every_later}
use Rattle.mo_eval.specs.steps.Measuring.{GoesOn}
use Rattle.mo_eval.specs.steps.Naming.{AreNames, counted_in, name_seen, named_behind, named_on, names_seen}
use Rattle.mo_eval.specs.steps.Parts.{as_identifier}

-- ---- in later worlds

name_later : (u v : World) → Grows u v → (f : Expr → Part) (name : Name) → IsMember u name.member → name_seen f (frames_of v) name ≡ name_seen f (frames_of u) name
name_later u v g f name is = ap (λ (m : Member). (m, as_identifier f name.part.now)) (member_later u v name.member g is)

pub names_later : (u v : World) → Grows u v → (f : Expr → Part) (names : List Name) → AreNames u names → names_seen f (frames_of v) names ≡ names_seen f (frames_of u) names
names_later u v g f [] are = refl
names_later u v g f (name ∷ names) are =
    ap (λ x. x ∷ names_seen f (frames_of v) names) (name_later u v g f name are.0) ∙ ap (λ xs. name_seen f (frames_of u) name ∷ xs) (names_later u v g f names are.1)

pub are_names_later : (u v : World) → Grows u v → (names : List Name) → AreNames u names → AreNames v names
are_names_later u v g names are = every_later _ _ (λ name is. is_member_later u v name.member g is) names are

-- ---- subscripts of identifiers

pub no_subs : (table : Table) (found : Found) (f : Expr → Part) (part : PartOf Expr) (b : Bool) → IsTrue b ↔ (part.subs ≡ []) → b ≡ true → counted_subscripts table found (as_identifier f part) ≡ Ok tt
no_subs table found f part b h e = let none : part.subs ≡ [] = h.0 e in rw none refl

pub some_counted : (table : Table) (frame : Frame) (member : Member) (f : Expr → Part) (part : PartOf Expr) (b : Bool) → IsTrue b ↔ (part.subs ≡ []) → b ≡ false →
    counted_subscripts table (Component frame member) (as_identifier f part) ≡ counted_in table member part
some_counted table frame member f part b h e = go part.subs h
  where
    go : (subs : List (Option Expr)) → IsTrue b ↔ (subs ≡ []) →
        counted_subscripts table (Component frame member) (record { name = part.name; place = part.place; subs = map (option_map f) subs }) ≡ counted_in table member (record { name = part.name; place = part.place; subs = subs })
    go [] h = absurd (let k = h.1 refl in cc)
    go (x ∷ xs) h = ap (λ m. and_then (number_of_dims table member) (λ n. if nat_eq n m then Ok tt else breaks WRONG_TYPE part.place)) (length-map (x ∷ xs) (option_map f))

-- what is no component
abbrev pub IsOther : Found → Type 0
IsOther (Component frame member) = ⊥
IsOther found = Unit {0}

pub other_counted : (table : Table) (found : Found) (f : Expr → Part) (part : PartOf Expr) (b : Bool) → IsOther found → IsTrue b ↔ (part.subs ≡ []) → b ≡ false →
    counted_subscripts table found (as_identifier f part) ≡ breaks WRONG_TYPE part.place
other_counted table found f part b other h e = go found other part.subs h
  where
    go : (found : Found) → IsOther found → (subs : List (Option Expr)) → IsTrue b ↔ (subs ≡ []) →
        counted_subscripts table found (record { name = part.name; place = part.place; subs = map (option_map f) subs }) ≡ breaks WRONG_TYPE part.place
    go found other [] h = absurd (let k = h.1 refl in cc)
    go (Component frame member) other (x ∷ xs) h = absurd other
    go (Class frame replaceable) other (x ∷ xs) h = refl
    go (Literal class n) other (x ∷ xs) h = refl
    go (Iteration n) other (x ∷ xs) h = refl
    go (Function code) other (x ∷ xs) h = refl
    go Time other (x ∷ xs) h = refl

-- ---- names

pub behind_none : (named : Named) → named_behind [] named ≡ named
behind_none (Components names) = refl
behind_none (Found_at found place) = refl

pub all_named : (o : Outcome Named) → and_then o (λ n. Ok (named_behind [] n)) ≡ o
all_named (Ok n) = ap Ok (behind_none n)
all_named (Err broken) = refl

pub one_behind : (before : List (Member × PartOf Part)) (member : Member) (part : PartOf Part) (frame : Frame) (named : Named) →
    named_behind (before ++ (member, part) ∷ []) named ≡ named_behind before (named_before (Component frame member) part named)
one_behind before member part frame (Components names) = ap Components (append_assoc before ((member, part) ∷ []) names)
one_behind before member part frame (Found_at found place) = refl

pub put_behind : (f : Expr → Part) (frames : List Frame) (names : List Name) (name : Name) (home : Frame) (named : Named) →
    named_behind (names_seen f frames (names ++ name ∷ [])) named ≡ named_behind (names_seen f frames names) (named_before (Component home (member_of frames name.member)) (as_identifier f name.part.now) named)
put_behind f frames names name home named =
    ap (λ xs. named_behind xs named) (map-append (name_seen f frames) names (name ∷ []))
    ∙ one_behind (names_seen f frames names) (member_of frames name.member) (as_identifier f name.part.now) home named

pub last_seen : (f : Expr → Part) (frames : List Frame) (names : List Name) (name : Name) (home : Frame) →
    Components (names_seen f frames (names ++ name ∷ [])) ≡ named_behind (names_seen f frames names) (named_last (Component home (member_of frames name.member)) (as_identifier f name.part.now))
last_seen f frames names name home = ap Components (map-append (name_seen f frames) names (name ∷ []))

module _ (table : Table) (found : Found) (part : PartOf Part) (before : List (Member × PartOf Part)) (whole : Outcome Named) where
  abbrev pub Left : List (PartOf Part) → Type 0
  Left parts = named_on table before found part parts ≡ whole

  pub next_named : (next : PartOf Part) (parts : List (PartOf Part)) (behind : Found) (after : List (Member × PartOf Part)) → Left (next ∷ parts) →
      counted_subscripts table found part ≡ Ok tt → behind_found table found (identifier next) ≡ Ok behind →
      ((n : Named) → named_behind after n ≡ named_behind before (named_before found part n)) →
      named_on table after behind next parts ≡ whole
  next_named next parts behind after left counted is same = sym (rw (counted, is) (go (named_from table behind next parts))) ∙ left
    where
      go : (o : Outcome Named) → and_then (and_then o (λ n. Ok (named_before found part n))) (λ n. Ok (named_behind before n)) ≡ and_then o (λ n. Ok (named_behind after n))
      go (Ok n) = ap Ok (sym (same n))
      go (Err broken) = refl

  pub counting_halts : (parts : List (PartOf Part)) (stop : Stop) → Left parts → Gives {T = Unit {0}} (Err stop) (counted_subscripts table found part) → Gives {T = Named} (Err stop) whole
  counting_halts [] (broken_by broken) left h = sym left ∙ rw h refl
  counting_halts (next ∷ parts) (broken_by broken) left h = sym left ∙ rw h refl
  counting_halts parts no_memory left h = tt

  pub finding_halts : {T : Type 0} (view : T → Found) (next : PartOf Part) (parts : List (PartOf Part)) (stop : Stop) → Left (next ∷ parts) →
      counted_subscripts table found part ≡ Ok tt → GivesSeen {T = T} view (Err stop) (behind_found table found (identifier next)) → Gives {T = Named} (Err stop) whole
  finding_halts view next parts (broken_by broken) left counted h = sym left ∙ rw (counted, h) refl
  finding_halts view next parts no_memory left counted h = tt

  pub last_named : (named : Named) → Left [] → counted_subscripts table found part ≡ Ok tt → named ≡ named_behind before (named_last found part) → whole ≡ Ok named
  last_named named left counted is = sym left ∙ (rw counted (ap Ok (sym is)))

-- ---- the first identifier

pub first_named : (table : Table) (scope : Scope) (top : Bool) (part : PartOf Part) (parts : List (PartOf Part)) →
    named table scope (record { top = top; parts = part ∷ parts }) ≡ and_then (first_found table top scope part.name part.place) (λ found. named_from table found part parts)
first_named table scope top part parts = go (first_met table (asking_of table) false top scope part.place part.name)
  where
    go : (o : Seen Met) →
        and_then o (λ met. and_then (taken table met.near part.place met.found) (λ found. named_from table found part parts))
        ≡ and_then (then_seen o (λ met. taken table met.near part.place met.found)) (λ found. named_from table found part parts)
    go (Ok met) = refl
    go (Err broken) = refl

-- ---- as what goes on

pub goes_halt : {T A : Type 0} (stop : Stop) (told : Outcome A) (left : T → Outcome A) → Gives {T = A} (Err stop) told → GoesOn {T = T} (Err stop) told left
goes_halt (broken_by broken) told left h = h
goes_halt no_memory told left h = tt

-- what is behind a dot, told in a later world
pub behind_earlier : {T : Type 0} (view : T → Found) (u v : World) → Grows u v → (found : FoundAt) → IsFound u found → (name : List ℕ) (place : Place) (answer : Result T Stop) →
    GivesSeen view answer (next_found (table_in v) (found_in (frames_of v) found) name place) → GivesSeen view answer (next_found (table_in u) (found_in (frames_of u) found) name place)
behind_earlier view u v g found is name place answer told =
    subst (GivesSeen view answer)
    (ap (λ t. next_found t (found_in (frames_of v) found) name place) (table_later u v g) ∙ ap (λ (f : Found). next_found (table_in u) f name place) (found_later u v found g is)) told

-- the names behind one more, in a later world
pub more_names : (u v : World) → Grows u v → (f : Expr → Part) (old new : List Name) (found : FoundAt) (part : PartOf Part) → AreNames u old → IsFound u found →
    ((named : Named) → named_behind (names_seen f (frames_of v) new) named ≡ named_behind (names_seen f (frames_of v) old) (named_before (found_in (frames_of v) found) part named)) →
    (named : Named) → named_behind (names_seen f (frames_of v) new) named ≡ named_behind (names_seen f (frames_of u) old) (named_before (found_in (frames_of u) found) part named)
more_names u v g f old new found part are is more named =
    more named
    ∙ (ap (λ xs. named_behind xs (named_before (found_in (frames_of v) found) part named)) (names_later u v g f old are)
    ∙ ap (λ (x : Found). named_behind (names_seen f (frames_of u) old) (named_before x part named)) (found_later u v found g is))

-- ---- one identifier after another, in later worlds

-- what goes on is what was left
pub left_on : (initial now : World) → Grows initial now → (f : Expr → Part) (before after : List (Member × PartOf Part)) (found behind : Found) (part : PartOf Part) (others : List (PartOf Expr)) (i : ℕ) (next : PartOf Expr) (last : PartOf Part) (whole : Outcome Named) →
    i < length others → next ≡ get_or others i next →
    named_on (table_in now) before found part (as_identifier f next ∷ map (as_identifier f) (drop (i + 1) others)) ≡ named_on (table_in now) after behind last (map (as_identifier f) (drop (i + 1) others)) →
    named_on (table_in initial) before found part (map (as_identifier f) (drop i others)) ≡ whole →
    named_on (table_in initial) after behind last (map (as_identifier f) (drop (i + 1) others)) ≡ whole
left_on initial now g f before after found behind part others i next last whole small is told left =
    let same = table_later initial now g in
    let more = map (as_identifier f) (drop (i + 1) others) in
    let first : named_on (table_in initial) before found part (as_identifier f next ∷ more) ≡ named_on (table_in initial) after behind last more =
    sym (ap (λ t. named_on t before found part (as_identifier f next ∷ more)) same) ∙ (told ∙ ap (λ t. named_on t after behind last more) same) in
    sym first ∙ (opened (λ xs. named_on (table_in initial) before found part (map (as_identifier f) xs)) others i next small is ∙ left)

pub step_halts : {T : Type 0} (initial now : World) → Grows initial now → (f : Expr → Part) (before : List (Member × PartOf Part)) (found : Found) (part : PartOf Part) (others : List (PartOf Expr)) (i : ℕ) (next : PartOf Expr) (whole : Outcome Named) (stop : Stop) (after : T → Outcome Named) →
    i < length others → next ≡ get_or others i next →
    GoesOn {T = T} (Err stop) (named_on (table_in now) before found part (as_identifier f next ∷ map (as_identifier f) (drop (i + 1) others))) after →
    named_on (table_in initial) before found part (map (as_identifier f) (drop i others)) ≡ whole → Gives {T = Named} (Err stop) whole
step_halts initial now g f before found part others i next whole (broken_by broken) after small is told left =
    let same = table_later initial now g in
    let more = map (as_identifier f) (drop (i + 1) others) in
    sym (opened (λ xs. named_on (table_in initial) before found part (map (as_identifier f) xs)) others i next small is ∙ left)
    ∙ (sym (ap (λ t. named_on t before found part (as_identifier f next ∷ more)) same) ∙ told)
step_halts initial now g f before found part others i next whole no_memory after small is told left = tt

pub as_seen : {T : Type 0} (view : T → Named) (stop : Stop) (told : Outcome Named) → Gives {T = Named} (Err stop) told → GivesSeen {T = T} view (Err stop) told
as_seen view (broken_by broken) told h = h
as_seen view no_memory told h = tt

pub counted_earlier : (u v : World) → Grows u v → (found : FoundAt) → IsFound u found → (part : PartOf Part) → counted_subscripts (table_in v) (found_in (frames_of v) found) part ≡ counted_subscripts (table_in u) (found_in (frames_of u) found) part
counted_earlier u v g found is part =
    ap (λ t. counted_subscripts t (found_in (frames_of v) found) part) (table_later u v g) ∙ ap (λ (x : Found). counted_subscripts (table_in u) x part) (found_later u v found g is)

-- with none before
pub from_none : (table : Table) (frames : List Frame) (f : Expr → Part) (names : List Name) (found : Found) (part : PartOf Part) (parts : List (PartOf Part)) → names ≡ [] →
    named_on table (names_seen f frames names) found part parts ≡ named_from table found part parts
from_none table frames f names found part parts none =
    ap (λ ns. named_on table (names_seen f frames ns) found part parts) none ∙ all_named (named_from table found part parts)

-- what the first identifier found, and those behind it
pub begun : (u v : World) → Grows u v → (scope : Scope) (top : Bool) (found : FoundAt) (part : PartOf Part) (parts : List (PartOf Part)) →
    first_found (table_in u) top scope part.name part.place ≡ Ok (found_in (frames_of v) found) →
    named_from (table_in v) (found_in (frames_of v) found) part parts ≡ named (table_in u) scope (record { top = top; parts = part ∷ parts })
begun u v g scope top found part parts value =
    let seen = found_in (frames_of v) found in
    ap (λ t. named_from t seen part parts) (table_later u v g)
    ∙ (ap (λ (o : Seen Found). and_then o (λ x. named_from (table_in u) x part parts)) (sym value)
    ∙ sym (first_named (table_in u) scope top part parts))

-- what the last identifier names, in a later world
pub last_as : (u v : World) → Grows u v → (f : Expr → Part) (names : List Name) (found : FoundAt) (part : PartOf Part) → AreNames u names → IsFound u found →
    named_behind (names_seen f (frames_of v) names) (named_last (found_in (frames_of v) found) part) ≡ named_behind (names_seen f (frames_of u) names) (named_last (found_in (frames_of u) found) part)
last_as u v g f names found part are is =
    ap (λ ns. named_behind ns (named_last (found_in (frames_of v) found) part)) (names_later u v g f names are)
    ∙ ap (λ (x : Found). named_behind (names_seen f (frames_of u) names) (named_last x part)) (found_later u v found g is)
