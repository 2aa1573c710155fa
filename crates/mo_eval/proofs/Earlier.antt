-- What is told in a later world is told in the earlier one.
use Rattle.std.proofs.Common.{◌≡◌, ℕ, zero, suc, ◌<◌, List, [], ◌∷◌, length, get_or, Option, Some, None, Result, Err, refl, ap, subst, ◌∙◌, option_map, arith}
use Rattle.std.specs.Prelude.{IfSome}
use Rattle.mo_syntax.specs.Outcome.{Outcome, and_then}
use Rattle.mo_syntax.specs.declared.place.Stop.{Stop}
use Rattle.mo_syntax.specs.declared.place.Stop.TheVariants.{Broken as broken_by, NoMemory as no_memory}
use Rattle.mo_scope.specs.declared.row.Member.{Member as MemberAt}
use Rattle.mo_scope.specs.Frames.{Frame, Member}
use Rattle.mo_scope.specs.Outcome.{Gives as GivesSeen}
use Rattle.mo_scope.specs.Places.{Every}
use Rattle.mo_scope.specs.Rows.{Table}
use Rattle.mo_scope.specs.Worlds.{World, Grows, IsFrame, frame_at, frames_of, table_in}
use Rattle.mo_names.specs.Sights.{IsMember, member_of}
use Rattle.mo_names.proofs.Later.{frame_later, is_member_later, member_later, table_later}
use Rattle.mo_typing.specs.Indices.{Index}
use Rattle.mo_typing.specs.Outcome.{Gives}
use Rattle.mo_lookup.proofs.Written.{every_later}
use Rattle.mo_eval.specs.steps.Selecting.{elements_seen}

pub of_member : {X : Type 0} (f : Table → Member → X) (u v : World) → Grows u v → (m : MemberAt) → IsMember u m → f (table_in v) (member_of (frames_of v) m) ≡ f (table_in u) (member_of (frames_of u) m)
of_member f u v g m is = ap (λ t. f t (member_of (frames_of v) m)) (table_later u v g) ∙ ap (f (table_in u)) (member_later u v m g is)

pub of_frame : {X : Type 0} (f : Table → Frame → X) (u v : World) → Grows u v → (n : ℕ) → IsFrame u n → f (table_in v) (frame_at v n) ≡ f (table_in u) (frame_at u n)
of_frame f u v g n is = ap (λ t. f t (frame_at v n)) (table_later u v g) ∙ ap (f (table_in u)) (frame_later u v n g is)

pub some_member : (u v : World) → Grows u v → (m : Option MemberAt) → IfSome m (IsMember u) → option_map (member_of (frames_of v)) m ≡ option_map (member_of (frames_of u)) m
some_member u v g None is = refl
some_member u v g (Some m) is = ap (λ (x : Member). Some x) (member_later u v m g is)

pub is_some_member : (u v : World) → Grows u v → (m : Option MemberAt) → IfSome m (IsMember u) → IfSome m (IsMember v)
is_some_member u v g None is = tt
is_some_member u v g (Some m) is = is_member_later u v m g is

pub elements_later : (u v : World) → Grows u v → (all : List (MemberAt × Index)) → Every (λ element. IsMember u element.0) all → elements_seen (frames_of v) all ≡ elements_seen (frames_of u) all
elements_later u v g [] are = refl
elements_later u v g (one ∷ others) are =
    ap (λ (m : Member). (m, one.1) ∷ elements_seen (frames_of v) others) (member_later u v one.0 g are.0)
    ∙ ap (λ xs. (member_of (frames_of u) one.0, one.1) ∷ xs) (elements_later u v g others are.1)

pub are_elements_later : (u v : World) → Grows u v → (all : List (MemberAt × Index)) → Every (λ element. IsMember u element.0) all → Every (λ element. IsMember v element.0) all
are_elements_later u v g all are = every_later _ _ (λ one is. is_member_later u v one.0 g is) all are

-- one of those for which all holds
pub every_at : {A : Type 0} (P : A → Type 0) (xs : List A) (i : ℕ) (d : A) → i < length xs → Every P xs → P (get_or xs i d)
every_at P [] i d small are = absurd (omega arith)
every_at P (x ∷ xs) zero d small are = are.0
every_at P (x ∷ xs) (suc i) d small are = every_at P xs i d (omega arith) are.1

-- ---- answers

pub seen_as : {T A : Type 0} (view : T → A) (answer : Result T Stop) (a b : Outcome A) → a ≡ b → GivesSeen view answer a → GivesSeen view answer b
seen_as view answer a b e h = subst (GivesSeen view answer) e h

-- a broken rule stays, whatever is seen of a value
pub halts_seen : {T A B : Type 0} (view : T → B) (stop : Stop) (told : Outcome A) (f : A → Outcome B) → Gives {T = A} (Err stop) told → GivesSeen {T = T} view (Err stop) (and_then told f)
halts_seen view (broken_by broken) told f h = ap (λ o. and_then o f) h
halts_seen view no_memory told f h = tt

pub seen_halts_seen : {T U A B : Type 0} (seen : U → A) (view : T → B) (stop : Stop) (told : Outcome A) (f : A → Outcome B) → GivesSeen {T = U} seen (Err stop) told → GivesSeen {T = T} view (Err stop) (and_then told f)
seen_halts_seen seen view (broken_by broken) told f h = ap (λ o. and_then o f) h
seen_halts_seen seen view no_memory told f h = tt

pub same_halt : {T U A : Type 0} (seen : U → A) (view : T → A) (stop : Stop) (told : Outcome A) → GivesSeen {T = U} seen (Err stop) told → GivesSeen {T = T} view (Err stop) told
same_halt seen view (broken_by broken) told h = h
same_halt seen view no_memory told h = tt

pub halt_seen : {T A : Type 0} (view : T → A) (stop : Stop) (told : Outcome A) → Gives {T = A} (Err stop) told → GivesSeen {T = T} view (Err stop) told
halt_seen view (broken_by broken) told h = h
halt_seen view no_memory told h = tt

pub seen_halt : {T A : Type 0} (view : T → A) (stop : Stop) (told : Outcome A) → GivesSeen {T = T} view (Err stop) told → Gives {T = A} (Err stop) told
seen_halt view (broken_by broken) told h = h
seen_halt view no_memory told h = tt
