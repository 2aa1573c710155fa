-- Dimensions as they are written, in later worlds and one after another.
use Rattle.std.proofs.Common.{◌≡◌, ℕ, ◌+◌, ◌-◌, ◌<◌, Bool, true, false, List, [], ◌∷◌, ◌++◌, length, take, get_or, Option, Some, None, Err, refl, ap, sym, ◌∙◌, append_assoc, arith}
use Rattle.std.specs.Prelude.{◌↔◌, IsTrue, unwrap_or}
use Rattle.std.proofs.lemmas.List.{append-nil, map-append, take_more}
use Rattle.std.proofs.lemmas.List.Sums.{sum_by-append}
use Rattle.mo_syntax.specs.Outcome.{Outcome, and_then}
use Rattle.mo_syntax.specs.declared.expr.Expr.{Expr}
use Rattle.mo_syntax.specs.declared.place.Stop.{Stop}
use Rattle.mo_syntax.specs.declared.place.Stop.TheVariants.{Broken as broken_by, NoMemory as no_memory}
use Rattle.mo_scope.specs.Frames.{Frame, Scope, Member, class_of}
use Rattle.mo_scope.specs.Lookup.{contains, with_busy}
use Rattle.mo_scope.specs.Names.{scope_of_home}
use Rattle.mo_scope.specs.Outcome.{Gives}
use Rattle.mo_scope.specs.Parts.{Redeclaration}
use Rattle.mo_scope.specs.Places.{Every}
use Rattle.mo_scope.specs.Rows.{component_of}
use Rattle.mo_scope.specs.Sizes.{Sizes, behind_own, count_sizes, declared_sizes, or_original, sizes_from, sizes_if, sizes_in}
use Rattle.mo_scope.specs.Worlds.{World, Grows, IsFrame, frame_at, frames_of, scope_in, table_in}
use Rattle.mo_names.proofs.Later.{frame_later, is_frame_later, table_later}
use Rattle.mo_lookup.specs.declared.sizes.Sizes.{Sizes as SizesAt}
use Rattle.mo_lookup.specs.Sizing.{AreSized, size_seen, sizes_seen}
use Rattle.mo_lookup.specs.steps.Redeclared.{redeclared_sizes}
use Rattle.mo_lookup.specs.Types.{step_of}
use Rattle.mo_lookup.proofs.TypeSizes.{back_sizes, none_sizes, step_more, step_none}

-- ---- in later worlds

pub every_later : {A : Type 0} (P Q : A → Type 0) → ((x : A) → P x → Q x) → (xs : List A) → Every P xs → Every Q xs
every_later P Q f [] are = tt
every_later P Q f (x ∷ xs) are = (f x are.0, every_later P Q f xs are.1)

size_later : (u v : World) → Grows u v → (one : SizesAt) → IsFrame u one.scope.frame.0 → size_seen (frames_of v) one ≡ size_seen (frames_of u) one
size_later u v g one is =
    ap (λ (f : Frame). record { subscripts = one.subscripts.now; scope = record { frame = f; iterations = one.scope.iters } }) (frame_later u v one.scope.frame.0 g is)

pub sizes_later : (u v : World) → Grows u v → (all : List SizesAt) → AreSized u all → sizes_seen (frames_of v) all ≡ sizes_seen (frames_of u) all
sizes_later u v g [] are = refl
sizes_later u v g (one ∷ others) are =
    ap (λ x. x ∷ sizes_seen (frames_of v) others) (size_later u v g one are.0) ∙ ap (λ xs. size_seen (frames_of u) one ∷ xs) (sizes_later u v g others are.1)

pub are_sized_later : (u v : World) → Grows u v → (all : List SizesAt) → AreSized u all → AreSized v all
are_sized_later u v g all are = every_later _ _ (λ one is. is_frame_later u v one.scope.frame.0 g is) all are

pub every_behind : {A : Type 0} (P : A → Type 0) (xs : List A) (x : A) → Every P xs → P x → Every P (xs ++ x ∷ [])
every_behind P [] x are is = (is, tt)
every_behind P (y ∷ xs) x are is = (are.0, every_behind P xs x are.1 is)

pub every_append : {A : Type 0} (P : A → Type 0) (xs ys : List A) → Every P xs → Every P ys → Every P (xs ++ ys)
every_append P [] ys are behind = behind
every_append P (x ∷ xs) ys are behind = (are.0, every_append P xs ys are.1 behind)

-- ---- declared dimensions

-- one more
pub size_put : (frames : List Frame) (made : List SizesAt) (one : SizesAt) → sizes_seen frames (made ++ one ∷ []) ≡ sizes_seen frames made ++ size_seen frames one ∷ []
size_put frames made one = map-append (size_seen frames) made (one ∷ [])

pub no_sizes : (frames : List Frame) (made : List SizesAt) (subs : List (Option Expr)) (scope : Scope) → subs ≡ [] → sizes_seen frames made ≡ sizes_seen frames made ++ sizes_if subs scope
no_sizes frames made subs scope none = rw none (sym (append-nil (sizes_seen frames made)))

pub some_sizes : (subs : List (Option Expr)) (scope : Scope) → (subs ≡ [] → ⊥) → record { subscripts = subs; scope = scope } ∷ [] ≡ sizes_if subs scope
some_sizes [] scope apart = absurd (apart refl)
some_sizes (x ∷ xs) scope apart = refl

pub two_sizes : (before a b : List Sizes) (made : List Sizes) (more : List Sizes) → made ≡ before ++ a → more ≡ made ++ b → more ≡ before ++ (a ++ b)
two_sizes before a b made more is then = then ∙ (ap (λ xs. xs ++ b) is ∙ append_assoc before a b)

pub seen_nothing : (frames : List Frame) (made : List SizesAt) → sizes_seen frames made ≡ [] → made ≡ []
seen_nothing frames [] is = refl
seen_nothing frames (one ∷ others) is = absurd (cc)

pub full_by : {A : Type 0} (b : Bool) (xs : List A) → IsTrue b ↔ (xs ≡ []) → b ≡ false → xs ≡ [] → ⊥
full_by b xs h e none = let k : IsTrue b = h.1 none in cc

-- those of a redeclaration that has some
pub replaced : (member : Member) (redeclared : Option Redeclaration) (some : List Sizes) → some ≡ redeclared_sizes redeclared → (some ≡ [] → ⊥) → some ≡ declared_sizes member redeclared
replaced member None some is apart = absurd (apart is)
replaced member (Some redeclaration) some is apart = is ∙ kept (sizes_in (component_of redeclaration.declares) redeclaration.source.scope) (λ e. apart (is ∙ e))
  where
    kept : (own : List Sizes) → (own ≡ [] → ⊥) → own ≡ or_original own (sizes_in (component_of member.declares) (scope_of_home member))
    kept [] apart = absurd (apart refl)
    kept (x ∷ xs) apart = refl

-- those of the original, where it has none
pub original : (member : Member) (redeclared : Option Redeclaration) → redeclared_sizes redeclared ≡ [] → sizes_in (component_of member.declares) (scope_of_home member) ≡ declared_sizes member redeclared
original member None is = refl
original member (Some redeclaration) is = ap (λ own. or_original own (sizes_in (component_of member.declares) (scope_of_home member))) (sym is)

-- ---- the dimensions of a type

own_behind : (own more : List Sizes) (sizes : Option (List Sizes)) → behind_own (own ++ more) sizes ≡ behind_own own (behind_own more sizes)
own_behind own more None = refl
own_behind own more (Some sizes) = ap (λ (xs : List Sizes). Some xs) (append_assoc own more sizes)

pub type_begins : (sizes : Option (List Sizes)) → behind_own [] sizes ≡ sizes
type_begins None = refl
type_begins (Some sizes) = refl

pub type_step : (initial now later : World) (made more : List SizesAt) (busy : List ℕ) (frame base left : ℕ) (subs : List (Option Expr)) (whole : Option (List Sizes)) →
    Grows initial now → Grows now later → IsFrame now frame → AreSized now made → 0 < left → contains busy (class_of (frame_at now frame)) ≡ false →
    Some (subs, frame_at later base) ≡ step_of (table_in now) (frame_at now frame) →
    ((frames : List Frame) → sizes_seen frames more ≡ sizes_seen frames made ++ sizes_if subs (scope_in frames frame [])) →
    behind_own (sizes_seen (frames_of now) made) (sizes_from (table_in initial) left busy (frame_at now frame)) ≡ whole →
    behind_own (sizes_seen (frames_of later) more) (sizes_from (table_in initial) (left - 1) (with_busy busy (frame_at now frame)) (frame_at later base)) ≡ whole
type_step initial now later made more busy frame base left subs whole g h stand sized some new is put before =
    let stepped : Some (subs, frame_at later base) ≡ step_of (table_in initial) (frame_at now frame) = is ∙ ap (λ t. step_of t (frame_at now frame)) (table_later initial now g) in
    let seen = put (frames_of later)
    ∙ (ap (λ xs. xs ++ sizes_if subs (scope_in (frames_of later) frame [])) (sizes_later now later h made sized)
    ∙ ap (λ (f : Frame). sizes_seen (frames_of now) made ++ sizes_if subs (record { frame = f; iterations = [] })) (frame_later now later frame h stand)) in
    let behind = sizes_from (table_in initial) (left - 1) (with_busy busy (frame_at now frame)) (frame_at later base) in
    ap (λ xs. behind_own xs behind) seen
    ∙ (own_behind (sizes_seen (frames_of now) made) _ behind
    ∙ (ap (λ o. behind_own (sizes_seen (frames_of now) made) o) (step_more (table_in initial) left busy subs (frame_at now frame) (frame_at later base) some new stepped) ∙ before))

pub type_done : (initial now later : World) (made : List SizesAt) (busy : List ℕ) (frame left : ℕ) (whole : Option (List Sizes)) →
    Grows initial now → Grows now later → AreSized now made → 0 < left → contains busy (class_of (frame_at now frame)) ≡ false →
    None ≡ step_of (table_in now) (frame_at now frame) →
    behind_own (sizes_seen (frames_of now) made) (sizes_from (table_in initial) left busy (frame_at now frame)) ≡ whole →
    sizes_seen (frames_of later) made ≡ unwrap_or whole []
type_done initial now later made busy frame left whole g h sized some new is before =
    let stepped : None ≡ step_of (table_in initial) (frame_at now frame) = is ∙ ap (λ t. step_of t (frame_at now frame)) (table_later initial now g) in
    sizes_later now later h made sized
    ∙ (sym (append-nil (sizes_seen (frames_of now) made))
    ∙ ap (λ (o : Option (List Sizes)). unwrap_or o [])
    (ap (λ o. behind_own (sizes_seen (frames_of now) made) o) (sym (step_none (table_in initial) left busy (frame_at now frame) some new stepped)) ∙ before))

pub type_back : (initial : World) (sizes : List Sizes) (busy : List ℕ) (frame : Frame) (left : ℕ) (whole : Option (List Sizes)) → contains busy (class_of frame) ≡ true →
    behind_own sizes (sizes_from (table_in initial) left busy frame) ≡ whole → [] ≡ unwrap_or whole []
type_back initial sizes busy frame left whole back before =
    ap (λ (o : Option (List Sizes)). unwrap_or o []) (ap (λ o. behind_own sizes o) (sym (back_sizes (table_in initial) left busy frame back)) ∙ before)

pub type_ended : (initial : World) (sizes : List Sizes) (busy : List ℕ) (frame : Frame) (left : ℕ) (whole : Option (List Sizes)) → left ≡ 0 →
    behind_own sizes (sizes_from (table_in initial) left busy frame) ≡ whole → [] ≡ unwrap_or whole []
type_ended initial sizes busy frame left whole none before =
    ap (λ (o : Option (List Sizes)). unwrap_or o []) (ap (λ o. behind_own sizes o) (sym (none_sizes (table_in initial) left busy frame none)) ∙ before)

-- ---- how many there are

pub count_more : (frames : List Frame) (sizes : List SizesAt) (i : ℕ) (one : SizesAt) (count : ℕ) → i < length sizes → one ≡ get_or sizes i one →
    count ≡ count_sizes (sizes_seen frames (take i sizes)) → count + length one.subscripts.now ≡ count_sizes (sizes_seen frames (take (i + 1) sizes))
count_more frames sizes i one count small is before =
    ap (λ n. n + length one.subscripts.now) before
    ∙ (sym (sum_by-append (λ (s : Sizes). length s.subscripts) (sizes_seen frames (take i sizes)) (size_seen frames one ∷ []) ∙ alone)
    ∙ (ap count_sizes (sym (size_put frames (take i sizes) one))
    ∙ ap (λ xs. count_sizes (sizes_seen frames xs)) (ap (λ x. take i sizes ++ x ∷ []) is ∙ sym (take_more sizes i one small))))
  where
    alone : count_sizes (sizes_seen frames (take i sizes)) + count_sizes (size_seen frames one ∷ []) ≡ count_sizes (sizes_seen frames (take i sizes)) + length one.subscripts.now
    alone = ap (λ n. count_sizes (sizes_seen frames (take i sizes)) + n) (omega arith)

-- ---- all of a component

pub child_halts : {T U A B : Type 0} (seen : U → A) (view : T → B) (stop : Stop) (told : Outcome A) (f : A → Outcome B) → Gives {T = U} seen (Err stop) told → Gives {T = T} view (Err stop) (and_then told f)
child_halts seen view (broken_by broken) told f h = ap (λ o. and_then o f) h
child_halts seen view no_memory told f h = tt
