-- Elements that are found by name in a table are those of the walk.
use Rattle.std.proofs.Common.{◌≡◌, ℕ, Bool, true, false, cond, List, [], ◌∷◌, ◌++◌, map, reverse, Option, Some, None, refl, ap, sym, ◌∙◌}
use Rattle.std.specs.Prelude.{◌&&◌, ◌||◌, not, find, option_map}
use Rattle.std.specs.List.{list_any}
use Rattle.std.specs.Str.{bytes_eq}
use Rattle.std.proofs.lemmas.List.{reverse-append}
use Rattle.mo_syntax.specs.declared.meaning.FrameId.{FrameId}
use Rattle.mo_scope.specs.Frames.{Frame}
use Rattle.mo_scope.specs.Lookup.{members_in, named}
use Rattle.mo_scope.specs.Sights.{member_seen}
use Rattle.mo_scope.specs.Sizes.{is_nothing}
use Rattle.mo_scope.specs.Worlds.{MemberEntry, frame_in, member_in}
use Rattle.mo_scope.specs.declared.row.Member.{Member as MemberAt}
use Rattle.mo_names.specs.declared.walk.Inherited.{Inherited as InheritedAt}
use Rattle.mo_names.specs.declared.walk.Walk.{Walk}
use Rattle.mo_names.specs.Sights.{frames_through, inherited_seen, member_of, walk_seen}
use Rattle.mo_instance.specs.Passes.{is_inherited}
use Rattle.mo_instance.specs.steps.Walks.{inherits_name, members_held}

-- ---- elements with base frames on the way to them

nothing_last : {A : Type 0} (xs : List A) (x : A) → is_nothing (xs ++ x ∷ []) ≡ false
nothing_last [] x = refl
nothing_last (y ∷ xs) x = refl

through_nothing : (F : List Frame) (through : List FrameId) → is_nothing through ≡ is_nothing (frames_through F through)
through_nothing F [] = refl
through_nothing F (x ∷ through) =
    sym (ap (λ (frames : List Frame). is_nothing frames) (reverse-append (frame_in F x.0 ∷ []) (map (λ (f : FrameId). frame_in F f.0) through))
    ∙ nothing_last (reverse (map (λ (f : FrameId). frame_in F f.0) through)) (frame_in F x.0))

pub inherits_held : (F : List Frame) (name : List ℕ) (xs : List InheritedAt) → list_any (inherits_name name) xs ≡ list_any (is_inherited name) (map (inherited_seen F) xs)
inherits_held F name [] = refl
inherits_held F name (x ∷ xs) =
    ap (λ b. (not b && bytes_eq x.member.name.now name) || list_any (inherits_name name) xs) (through_nothing F x.through)
    ∙ ap (λ b. is_inherited name (inherited_seen F x) || b) (inherits_held F name xs)

-- ---- elements by name

named_held : (F : List Frame) (name : List ℕ) (xs : List InheritedAt) →
    named name (map (λ inherited. inherited.member) (map (inherited_seen F) xs)) ≡ option_map (member_in F) (find (λ member. bytes_eq member.name name) (members_held xs))
named_held F name [] = refl
named_held F name (x ∷ xs) = by (bytes_eq x.member.name.now name) (named_held F name xs)
  where
    by : (b : Bool) →
        named name (map (λ inherited. inherited.member) (map (inherited_seen F) xs)) ≡ option_map (member_in F) (find (λ member. bytes_eq member.name name) (members_held xs)) →
        cond b (Some (member_of F x.member)) (named name (map (λ inherited. inherited.member) (map (inherited_seen F) xs)))
        ≡ option_map (member_in F) (cond b (Some (member_seen x.member)) (find (λ member. bytes_eq member.name name) (members_held xs)))
    by true rest = refl
    by false rest = rest

-- what is found in a table of the elements of a walk
pub found_named : (F : List Frame) (walk : Walk) (name : List ℕ) (table : List MemberEntry) (found : Option MemberAt) → table ≡ members_held walk.members →
    option_map member_seen found ≡ find (λ member. bytes_eq member.name name) table → option_map (member_of F) found ≡ named name (members_in (walk_seen F walk))
found_named F walk name table found held is =
    seen found
    ∙ ap (option_map (member_in F)) (is ∙ ap (find (λ (member : MemberEntry). bytes_eq member.name name)) held)
    ∙ sym (named_held F name walk.members)
  where
    seen : (o : Option MemberAt) → option_map (member_of F) o ≡ option_map (member_in F) (option_map member_seen o)
    seen None = refl
    seen (Some member) = refl
