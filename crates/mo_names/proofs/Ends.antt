-- The ends of lists, and what the first of a list decides.
use Rattle.std.proofs.Common.{◌≡◌, ℕ, zero, suc, ◌+◌, ◌<◌, Bool, true, false, cond, List, [], ◌∷◌, ◌++◌, length, map, reverse, drop, get_or, Option, Some, None, Ok, refl, sym, ap, ◌∙◌, arith}
use Rattle.std.specs.Prelude.{◌||◌, slice_get}
use Rattle.std.specs.List.{list_any}
use Rattle.std.specs.Str.{bytes_eq}
use Rattle.std.proofs.lemmas.List.{reverse-append}
use Rattle.std.proofs.Math.Seq.{drop-cons}
use Rattle.mo_syntax.specs.Outcome.{breaks}
use Rattle.mo_syntax.specs.declared.class.Import.{Import}
use Rattle.mo_syntax.specs.declared.class.Import.TheVariants.{Group}
use Rattle.mo_syntax.specs.declared.meaning.FrameId.{FrameId}
use Rattle.mo_syntax.specs.declared.rules.TheConstants.{WRONG_KIND_OF_NAME}
use Rattle.mo_syntax.specs.declared.text.Path.{Path}
use Rattle.mo_syntax.specs.declared.expr.Expr.{Expr}
use Rattle.mo_syntax.specs.declared.expr.PartOf.{PartOf}
use Rattle.mo_syntax.specs.declared.place.Place.{Place}
use Rattle.mo_scope.specs.Rows.{Part, Element_of, Base_of}
use Rattle.mo_scope.specs.Frames.{Frame}
use Rattle.mo_scope.specs.Lookup.{Inherited, Walked, final_frame, imported_as, last_name, last_place, leaf_checked}
use Rattle.mo_scope.specs.Worlds.{PartsExist, frame_in}
use Rattle.mo_names.specs.Sights.{frames_through}
use Rattle.mo_names.specs.steps.Bases.{PartExists}
use Rattle.mo_names.specs.steps.Lookup.{before_dot}
use Rattle.mo_names.proofs.Reading.{at_element}

-- a name that is not the last stands before a dot
pub stands_before : (place : Place) (xs : List (List ℕ)) (k : ℕ) → k < length xs → Some place ≡ before_dot place (drop k xs)
stands_before place xs k below = ap (before_dot place) (sym (drop-cons xs k [] below))

pub last_is : (xs : List (List ℕ)) (k : ℕ) (x : List ℕ) → suc k ≡ length xs → x ≡ get_or xs k x → x ≡ last_name xs
last_is [] k x one is = absurd (omega arith)
last_is (y ∷ []) zero x one is = is
last_is (y ∷ []) (suc k) x one is = absurd (omega arith)
last_is (y ∷ z ∷ xs) zero x one is = absurd (omega arith)
last_is (y ∷ z ∷ xs) (suc k) x one is = last_is (z ∷ xs) k x (omega arith) is

pub last_place_is : (xs : List (PartOf Expr)) (k : ℕ) (x : PartOf Expr) → suc k ≡ length xs → x ≡ get_or xs k x → x.place ≡ last_place xs
last_place_is [] k x one is = absurd (omega arith)
last_place_is (y ∷ []) zero x one is = ap (λ (p : PartOf Expr). p.place) is
last_place_is (y ∷ []) (suc k) x one is = absurd (omega arith)
last_place_is (y ∷ z ∷ xs) zero x one is = absurd (omega arith)
last_place_is (y ∷ z ∷ xs) (suc k) x one is = last_place_is (z ∷ xs) k x (omega arith) is

-- one more of those that are tested
pub any_step : {A : Type 0} (test : A → Bool) (xs : List A) (i : ℕ) (x : A) (b all : Bool) → i < length xs → x ≡ get_or xs i x → test x ≡ b → list_any test (drop i xs) ≡ all → (b || list_any test (drop (i + 1) xs)) ≡ all
any_step test xs i x b all below is tested rest =
    ap (λ t. t || list_any test (drop (i + 1) xs)) (sym tested) ∙ ap (list_any test) (sym (at_element xs i x below is)) ∙ rest

pub part_exists : (classes : ℕ) (parts : List Part) (k : ℕ) (part : Part) → PartsExist classes parts → slice_get parts k ≡ Some part → PartExists classes part
part_exists classes parts k (Element_of declares) exist at = exist k declares at
part_exists classes parts k (Base_of clause) exist at = tt

-- ---- leaf types

pub leaf_breaks : (walked : Walked) (leaf : Frame) (first : Inherited) (others : List Inherited) → walked.leaf ≡ Some leaf → walked.members ≡ first ∷ others → leaf_checked walked ≡ breaks WRONG_KIND_OF_NAME first.member.declares.place
leaf_breaks walked leaf first others is are = rw (is, are) refl

pub leaf_alone : (walked : Walked) → walked.members ≡ [] → leaf_checked walked ≡ Ok walked
leaf_alone walked none = by walked.leaf refl
  where
    by : (leaf : Option Frame) → walked.leaf ≡ leaf → leaf_checked walked ≡ Ok walked
    by None is = rw (is, none) refl
    by (Some leaf) is = rw (is, none) refl

pub first_of_list : {A B : Type 0} (f : A → B) (xs : List A) (x : A) → slice_get xs 0 ≡ Some x → map f xs ≡ f x ∷ map f (drop 1 xs)
first_of_list f [] x is = absurd cc
first_of_list f (y ∷ xs) x is = let same : y ≡ x = cc in ap (λ z. f z ∷ map f xs) same

pub none_of_list : {A B : Type 0} (f : A → B) (xs : List A) → slice_get xs 0 ≡ None → map f xs ≡ []
none_of_list f [] is = refl
none_of_list f (y ∷ xs) is = absurd cc

-- ---- the frame at the end of base frames

final_of : (xs : List Frame) (x : Frame) → final_frame (xs ++ x ∷ []) ≡ x
final_of [] x = refl
final_of (y ∷ []) x = refl
final_of (y ∷ z ∷ xs) x = final_of (z ∷ xs) x

pub final_is : (F : List Frame) (base : List FrameId) (last : FrameId) → Some last ≡ slice_get base 0 → final_frame (frames_through F base) ≡ frame_in F last.0
final_is F [] last is = absurd cc
final_is F (x ∷ base) last is =
    let same : last ≡ x = cc in
    ap final_frame (reverse-append (frame_in F x.0 ∷ []) (map (λ (frame : FrameId). frame_in F frame.0) base))
    ∙ final_of (reverse (map (λ (frame : FrameId). frame_in F frame.0) base)) (frame_in F x.0)
    ∙ ap (λ (frame : FrameId). frame_in F frame.0) (sym same)

pub some_first : {A B : Type 0} (xs : List A) → None ≡ slice_get xs 0 → 0 < length xs → B
some_first [] is some = absurd (omega arith)
some_first (x ∷ xs) is some = absurd cc

-- ---- group imports

pub group_none : (clause : Import) (path : Path) (names slice : List (List ℕ)) (place : Place) (name : List ℕ) (r : Bool) → clause ≡ Group path names place → slice ≡ names →
    r ≡ list_any (λ other. bytes_eq other name) slice → r ≡ false → None ≡ imported_as name clause
group_none clause path names slice place name r is same said none =
    let listed : list_any (λ other. bytes_eq other name) names ≡ false = ap (list_any (λ other. bytes_eq other name)) (sym same) ∙ sym said ∙ none in
    ap (λ b. cond b (Some (path.0 ++ name ∷ [], place)) None) (sym listed) ∙ ap (imported_as name) (sym is)

pub group_some : (clause : Import) (path : Path) (names slice around made : List (List ℕ)) (place : Place) (name : List ℕ) (r : Bool) → clause ≡ Group path names place → slice ≡ names →
    r ≡ list_any (λ other. bytes_eq other name) slice → r ≡ true → around ≡ path.0 → made ≡ around ++ name ∷ [] → Some (made, place) ≡ imported_as name clause
group_some clause path names slice around made place name r is same said some path_is made_is =
    let listed : list_any (λ other. bytes_eq other name) names ≡ true = ap (list_any (λ other. bytes_eq other name)) (sym same) ∙ sym said ∙ some in
    ap (λ (m : List (List ℕ)). Some (m, place)) (made_is ∙ ap (λ xs. xs ++ name ∷ []) path_is)
    ∙ ap (λ b. cond b (Some (path.0 ++ name ∷ [], place)) None) (sym listed) ∙ ap (imported_as name) (sym is)
