-- Elements by name.
use Rattle.std.proofs.Common.{◌≡◌, ℕ, Bool, true, false, List, [], ◌∷◌, map, Option, Some, None, Ok, refl, ap, sym, subst, ◌∙◌}
use Rattle.std.specs.Prelude.{filter, find, option_map, IfSome, if◌then◌else◌}
use Rattle.std.specs.Str.{bytes_eq}
use Rattle.mo_syntax.specs.Outcome.{Outcome, and_then}
use Rattle.mo_syntax.specs.declared.place.Place.{Place}
use Rattle.mo_scope.specs.declared.row.Member.{Member as MemberAt}
use Rattle.mo_scope.specs.Compatible.{Compare, are_matched, counterpart, is_matched, is_open_component}
use Rattle.mo_scope.specs.Frames.{Frame, Member}
use Rattle.mo_scope.specs.Lookup.{named}
use Rattle.mo_scope.specs.Places.{Every}
use Rattle.mo_scope.specs.Rows.{Table}
use Rattle.mo_scope.specs.Sights.{member_seen}
use Rattle.mo_scope.specs.Worlds.{MemberEntry, World, member_in}
use Rattle.mo_names.specs.declared.walk.Inherited.{Inherited}
use Rattle.mo_names.specs.Sights.{IsInherited, IsMember, inherited_seen, member_of}
use Rattle.mo_redeclare.specs.steps.Sights.{IsKept, entry_of, is_open}
use Rattle.mo_redeclare.specs.steps.Comparing.{counterpart_matched}

-- ---- public components

pub named_open : (frames : List Frame) (entries : List MemberEntry) (wanted : Member) →
    named wanted.name (map (member_in frames) (filter is_open entries)) ≡ counterpart (map (member_in frames) entries) wanted
named_open frames [] wanted = refl
named_open frames (e ∷ es) wanted = by (is_open e) (bytes_eq e.name wanted.name) refl refl (named_open frames es wanted)
  where
    by : (public same : Bool) → is_open e ≡ public → bytes_eq e.name wanted.name ≡ same →
        named wanted.name (map (member_in frames) (filter is_open es)) ≡ counterpart (map (member_in frames) es) wanted →
        named wanted.name (map (member_in frames) (filter is_open (e ∷ es))) ≡ counterpart (map (member_in frames) (e ∷ es)) wanted
    by true true is_it named_it rest = rw (is_it, named_it) refl
    by true false is_it named_it rest = rw (is_it, named_it) rest
    by false true is_it named_it rest = rw (is_it, named_it) rest
    by false false is_it named_it rest = rw (is_it, named_it) rest

pub open_twice : (entries : List MemberEntry) → filter is_open (filter is_open entries) ≡ filter is_open entries
open_twice [] = refl
open_twice (e ∷ es) = by (is_open e) refl (open_twice es)
  where
    by : (public : Bool) → is_open e ≡ public → filter is_open (filter is_open es) ≡ filter is_open es → filter is_open (filter is_open (e ∷ es)) ≡ filter is_open (e ∷ es)
    by true is_it rest = rw is_it (rw is_it (ap (λ xs. e ∷ xs) rest))
    by false is_it rest = rw is_it rest

counterpart_open : (frames : List Frame) (entries : List MemberEntry) (wanted : Member) →
    counterpart (map (member_in frames) (filter is_open entries)) wanted ≡ counterpart (map (member_in frames) entries) wanted
counterpart_open frames entries wanted =
    sym (named_open frames (filter is_open entries) wanted)
    ∙ ap (λ xs. named wanted.name (map (member_in frames) xs)) (open_twice entries)
    ∙ named_open frames entries wanted

pub matched_is : (table : Table) (compare : Compare) (place : Place) (members : List Member) (wanted : Member) →
    is_matched table compare place members wanted ≡ counterpart_matched table compare place wanted (counterpart members wanted)
matched_is table compare place members wanted = refl

pub matched_open : (table : Table) (compare : Compare) (place : Place) (frames : List Frame) (entries : List MemberEntry) (wanted : List Member) →
    are_matched table compare place (map (member_in frames) (filter is_open entries)) wanted ≡ are_matched table compare place (map (member_in frames) entries) wanted
matched_open table compare place frames entries [] = refl
matched_open table compare place frames entries (w ∷ ws) =
    ap (λ (o : Option Member). and_then (if is_open_component w then counterpart_matched table compare place w o else Ok tt) (λ _. are_matched table compare place (map (member_in frames) (filter is_open entries)) ws))
    (counterpart_open frames entries w)
    ∙ ap (λ (rest : Outcome (Unit {0})). and_then (if is_open_component w then counterpart_matched table compare place w (counterpart (map (member_in frames) entries) w) else Ok tt) (λ _. rest))
    (matched_open table compare place frames entries ws)

-- ---- that they exist

pub every_filter : {A : Type 0} (P : A → Type 0) (p : A → Bool) (xs : List A) → Every P xs → Every P (filter p xs)
every_filter P p [] are = tt
every_filter P p (x ∷ xs) are = by (p x) refl (every_filter P p xs are.1)
  where
    by : (b : Bool) → p x ≡ b → Every P (filter p xs) → Every P (filter p (x ∷ xs))
    by true is rest = rw is (are.0, rest)
    by false is rest = rw is rest

pub all_kept : (world : World) (xs : List Inherited) → Every (IsInherited world) xs → Every (IsKept world) (map entry_of xs)
all_kept world [] are = tt
all_kept world (x ∷ xs) are = (record { home = are.0.member.home; class = are.0.member.class; own = are.0.member.own }, all_kept world xs are.1)

pub found_kept : (P : MemberEntry → Type 0) (p : MemberEntry → Bool) (xs : List MemberEntry) (e : MemberEntry) → Every P xs → find p xs ≡ Some e → P e
found_kept P p [] e are is = cc
found_kept P p (x ∷ xs) e are is = by (p x) refl (found_kept P p xs e are.1)
  where
    one : Some x ≡ Some e → P e
    one some = let same : x ≡ e = cc in subst P same are.0

    by : (b : Bool) → p x ≡ b → (find p xs ≡ Some e → P e) → P e
    by true test rest = one (sym (ap (λ (c : Bool). if c then Some x else find p xs) test) ∙ is)
    by false test rest = rest (sym (ap (λ (c : Bool). if c then Some x else find p xs) test) ∙ is)

pub find_map : {A B : Type 0} (f : A → B) (p : B → Bool) (xs : List A) → find p (map f xs) ≡ option_map f (find (λ x. p (f x)) xs)
find_map f p [] = refl
find_map f p (x ∷ xs) = by (p (f x)) refl (find_map f p xs)
  where
    by : (b : Bool) → p (f x) ≡ b → find p (map f xs) ≡ option_map f (find (λ y. p (f y)) xs) → find p (map f (x ∷ xs)) ≡ option_map f (find (λ y. p (f y)) (x ∷ xs))
    by true test rest = rw test refl
    by false test rest = rw test rest

-- ---- as members

pub members_are : (frames : List Frame) (xs : List Inherited) → map (member_in frames) (map entry_of xs) ≡ map (λ inherited. inherited.member) (map (inherited_seen frames) xs)
members_are frames [] = refl
members_are frames (x ∷ xs) = ap (λ ys. member_in frames (entry_of x) ∷ ys) (members_are frames xs)

-- ---- what is found by name

map_map : {A B C : Type 0} (f : A → B) (g : B → C) (o : Option A) → option_map (λ x. g (f x)) o ≡ option_map g (option_map f o)
map_map f g None = refl
map_map f g (Some a) = refl

pub named_is : (frames : List Frame) (o : Option MemberAt) (name : List ℕ) (members : List MemberEntry) →
    option_map member_seen o ≡ find (λ member. bytes_eq member.name name) members → option_map (member_of frames) o ≡ named name (map (member_in frames) members)
named_is frames o name members is =
    map_map member_seen (member_in frames) o ∙ ap (option_map (member_in frames)) is
    ∙ sym (find_map (member_in frames) (λ member. bytes_eq member.name name) members)

pub named_exists : (world : World) (o : Option MemberAt) (name : List ℕ) (members : List MemberEntry) → Every (IsKept world) members →
    option_map member_seen o ≡ find (λ member. bytes_eq member.name name) members → IfSome o (IsMember world)
named_exists world None name members are is = tt
named_exists world (Some m) name members are is =
    let kept : IsKept world (member_seen m) = found_kept (IsKept world) (λ member. bytes_eq member.name name) members (member_seen m) are (sym is) in
    record { home = kept.home; class = kept.class; own = kept.own }
