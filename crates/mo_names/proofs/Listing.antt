-- The elements of a frame, without the base frames on the way to them, and as a table.
use Rattle.std.proofs.Common.{◌≡◌, zero, suc, List, [], ◌∷◌, map, Ok, refl, ap, sym, subst, ◌∙◌}
use Rattle.mo_scope.specs.declared.row.Member.{Member as MemberAt}
use Rattle.mo_scope.specs.Frames.{Frame, Member}
use Rattle.mo_scope.specs.Lookup.{Walked, members_in}
use Rattle.mo_scope.specs.Places.{Every}
use Rattle.mo_scope.specs.Sights.{member_seen}
use Rattle.mo_scope.specs.Worlds.{World, MemberEntry, AreHomes, Grows, IsFrame, frames_of, member_in}
use Rattle.mo_names.specs.declared.walk.Inherited.{Inherited as InheritedAt}
use Rattle.mo_names.specs.declared.walk.Walk.{Walk}
use Rattle.mo_names.specs.Sights.{IsInherited, IsMember, inherited_seen, member_of, walk_seen}
use Rattle.mo_names.proofs.Later.{is_member_later, member_later}
use Rattle.mo_names.proofs.MembersExist.{kept_exist}
use Rattle.mo_syntax.specs.Outcome.{Outcome, and_then}

abbrev pub held : List InheritedAt → List MemberAt
held xs = map (λ (inherited : InheritedAt). inherited.member) xs

pub held_are : (F : List Frame) (xs : List InheritedAt) → map (λ inherited. inherited.member) (map (inherited_seen F) xs) ≡ map (member_of F) (held xs)
held_are F [] = refl
held_are F (x ∷ xs) = ap (λ (ys : List Member). member_of F x.member ∷ ys) (held_are F xs)

pub held_stand : (w : World) (xs : List InheritedAt) → Every (IsInherited w) xs → Every (IsMember w) (held xs)
held_stand w [] h = tt
held_stand w (x ∷ xs) h = (h.0.member, held_stand w xs h.1)

pub table_is : (F : List Frame) (xs : List MemberAt) → map (member_of F) xs ≡ map (member_in F) (map member_seen xs)
table_is F [] = refl
table_is F (x ∷ xs) = ap (λ (ys : List Member). member_of F x ∷ ys) (table_is F xs)

pub homes_stand : (w : World) (xs : List MemberAt) → Every (IsMember w) xs → AreHomes w (map member_seen xs)
homes_stand w [] h k m at = absurd cc
homes_stand w (x ∷ xs) h zero m at = let same : member_seen x ≡ m = cc in subst (λ (e : MemberEntry). IsFrame w e.home) same h.0.home
homes_stand w (x ∷ xs) h (suc k) m at = homes_stand w xs h.1 k m at

-- ---- later worlds

pub members_later : (u v : World) (xs : List MemberAt) → Grows u v → Every (IsMember u) xs → map (member_of (frames_of v)) xs ≡ map (member_of (frames_of u)) xs
members_later u v [] g h = refl
members_later u v (x ∷ xs) g h =
    ap (λ (y : Member). y ∷ map (member_of (frames_of v)) xs) (member_later u v x g h.0)
    ∙ ap (λ (ys : List Member). member_of (frames_of u) x ∷ ys) (members_later u v xs g h.1)

pub are_members_later : (u v : World) (xs : List MemberAt) → Grows u v → Every (IsMember u) xs → Every (IsMember v) xs
are_members_later u v [] g h = tt
are_members_later u v (x ∷ xs) g h = (is_member_later u v x g h.0, are_members_later u v xs g h.1)

-- ---- answers

pub found_elements : (F : List Frame) (w : Walk) (xs : List MemberAt) (o : Outcome Walked) → o ≡ Ok (walk_seen F w) → xs ≡ held w.members → and_then o (λ walked. Ok (members_in walked)) ≡ Ok (map (member_of F) xs)
found_elements F w xs o is same =
    ap (λ (p : Outcome Walked). and_then p (λ walked. Ok (members_in walked))) is
    ∙ ap (λ (ms : List Member). and_then (Ok (walk_seen F w)) (λ walked. Ok ms)) (held_are F w.members ∙ ap (map (member_of F)) (sym same))

pub kept_elements : (F : List Frame) (xs : List MemberAt) (table : List MemberEntry) (o : Outcome (List Member)) → o ≡ Ok (map (member_of F) xs) → table ≡ map member_seen xs → o ≡ Ok (map (member_in F) table)
kept_elements F xs table o is same = subst (λ (ms : List Member). o ≡ Ok ms) (table_is F xs ∙ ap (map (member_in F)) (sym same)) is

pub kept_homes : (w : World) (xs : List MemberAt) (table : List MemberEntry) → Every (IsMember w) xs → table ≡ map member_seen xs → AreHomes w table
kept_homes w xs table are same = subst (AreHomes w) (sym same) (homes_stand w xs are)

pub table_elements : (F : List Frame) (xs : List MemberAt) (entries : List MemberEntry) (o : Outcome (List Member)) → o ≡ Ok (map (member_in F) entries) → map member_seen xs ≡ entries → o ≡ Ok (map (member_of F) xs)
table_elements F xs entries o is same = subst (λ (ms : List Member). o ≡ Ok ms) (ap (map (member_in F)) (sym same) ∙ sym (table_is F xs)) is

pub elements_later : (u v : World) (xs : List MemberAt) (o : Outcome (List Member)) → Grows u v → Every (IsMember u) xs → o ≡ Ok (map (member_of (frames_of u)) xs) → o ≡ Ok (map (member_of (frames_of v)) xs)
elements_later u v xs o g are is = subst (λ (ms : List Member). o ≡ Ok ms) (sym (members_later u v xs g are)) is

pub ruleset listing = (table_elements, kept_exist, elements_later, are_members_later)
