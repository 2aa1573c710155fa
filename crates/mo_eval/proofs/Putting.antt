-- What a reference hands in, and the virtual variables of its elements, put at the end.
use Rattle.std.proofs.Common.{◌≡◌, ℕ, zero, suc, ◌+◌, ◌<◌, Bool, true, false, List, [], ◌∷◌, ◌++◌, length, take, get_or, map, Option, Some, None, refl, ap, sym, subst, ◌∙◌, append_assoc, length-append, arith}
use Rattle.std.specs.Prelude.{if◌then◌else◌, is_ok, slice_get}
use Rattle.std.proofs.lemmas.List.{append-nil, length-map, length-take-le, map-append, take_more}
use Rattle.mo_scope.specs.Frames.{Frame}
use Rattle.mo_scope.specs.Places.{Every}
use Rattle.mo_scope.specs.Worlds.{World}
use Rattle.mo_scope.specs.declared.row.Member.{Member as MemberAt}
use Rattle.mo_names.specs.Sights.{IsMember}
use Rattle.mo_flat.specs.declared.array.Subscript.{Subscript}
use Rattle.mo_typing.specs.Dims.{Dims, subscripted}
use Rattle.mo_typing.specs.Indices.{Index}
use Rattle.mo_typing.specs.Subscripts.{subscripts}
use Rattle.mo_eval.specs.declared.references.Common.{Common}
use Rattle.mo_eval.specs.declared.selections.Selection.{Selection as SelectionAt}
use Rattle.mo_eval.specs.declared.virtuals.Element.{Element as ElementAt}
use Rattle.mo_eval.specs.declared.virtuals.Virtual.{Virtual as VirtualAt}
use Rattle.mo_eval.specs.declared.virtuals.Virtual.TheVariants.{Component}
use Rattle.mo_eval.specs.References.{Selection, every, handed_in, kept_dims}
use Rattle.mo_values.specs.Selected.{emptied}
use Rattle.mo_eval.specs.Seen.{AreThere, virtual_seen, virtuals_seen}
use Rattle.mo_eval.specs.Virtuals.{numbers_behind}
use Rattle.mo_eval.specs.steps.Selecting.{elements_as, selection_seen, selections_seen}
use Rattle.mo_eval.proofs.Handing.{handed_inside, handed_outside}

pub numbers_append : {A : Type 0} (n : ℕ) (xs : List A) (x : A) → numbers_behind n (xs ++ x ∷ []) ≡ numbers_behind n xs ++ (n + length xs + 1) ∷ []
numbers_append n [] x = ap (λ k. k ∷ []) (omega arith)
numbers_append n (y ∷ ys) x =
    let e : n + 1 + length ys + 1 ≡ n + length (y ∷ ys) + 1 = omega arith in
    ap (λ ns. (n + 1) ∷ ns) (numbers_append (n + 1) ys x ∙ ap (λ k. numbers_behind (n + 1) ys ++ k ∷ []) e)

-- what an element of a component is as a variable
abbrev pub variable_at : Common → MemberAt × Index → VirtualAt
variable_at common element = Component (record { member = element.0; index = element.1; kind = common.kind; place = common.place; constant = common.constant })

abbrev pub variables_at : Common → List (MemberAt × Index) → List VirtualAt
variables_at common elements = map (variable_at common) elements

pub variables_as : (frames : List Frame) (common : Common) (elements : List (MemberAt × Index)) → virtuals_seen frames (variables_at common elements) ≡ elements_as frames common elements
variables_as frames common [] = refl
variables_as frames common (element ∷ elements) = ap (λ others. virtual_seen frames (variable_at common element) ∷ others) (variables_as frames common elements)

pub numbers_alike : {A B : Type 0} (n : ℕ) (f : A → B) (xs : List A) → numbers_behind n (map f xs) ≡ numbers_behind n xs
numbers_alike n f [] = refl
numbers_alike n f (x ∷ xs) = ap (λ ns. (n + 1) ∷ ns) (numbers_alike (n + 1) f xs)

member_or : MemberAt → Option VirtualAt → MemberAt
member_or d (Some (Component element)) = element.member
member_or d other = d

IsThereEach : World → List VirtualAt → Type 0
IsThereEach world virtuals = (k : ℕ) (element : ElementAt) → slice_get virtuals k ≡ Some (Component element) → IsMember world element.member

pushed : (world : World) (virtuals : List VirtualAt) (one : ElementAt) → ((k : ℕ) (element : ElementAt) → slice_get virtuals k ≡ Some (Component element) → IsMember world element.member) →
    IsMember world one.member → (k : ℕ) (element : ElementAt) → slice_get (virtuals ++ Component one ∷ []) k ≡ Some (Component element) → IsMember world element.member
unfolding member_or
pushed world [] one each is zero element at = subst (λ m. IsMember world m) (ap (member_or one.member) at) is
pushed world [] one each is (suc k) element at = absurd (let clash : ◌≡◌ {A = Option VirtualAt} None (Some (Component element)) = at in cc)
pushed world (v ∷ virtuals) one each is zero element at = each zero element at
pushed world (v ∷ virtuals) one each is (suc k) element at = pushed world virtuals one (λ j it h. each (suc j) it h) is k element at

pub there_pushed : (world : World) (virtuals : List VirtualAt) (one : ElementAt) → AreThere world virtuals → IsMember world one.member → AreThere world (virtuals ++ Component one ∷ [])
there_pushed world virtuals one are is = record { each = pushed world virtuals one are.each is }

-- all of them are there
pub there_put : (world : World) (virtuals : List VirtualAt) (common : Common) (elements : List (MemberAt × Index)) → AreThere world virtuals → Every (λ element. IsMember world element.0) elements →
    AreThere world (virtuals ++ variables_at common elements)
there_put world virtuals common [] are every = rw (append-nil virtuals) are
there_put world virtuals common (element ∷ elements) are every =
    rw (sym (append_assoc virtuals (variable_at common element ∷ []) (variables_at common elements)))
    (there_put world (virtuals ++ variable_at common element ∷ []) common elements (there_pushed world virtuals _ are every.0) every.1)

every_take : {A : Type 0} (P : A → Type 0) (k : ℕ) (xs : List A) → Every P xs → Every P (take k xs)
every_take P zero xs are = tt
every_take P (suc k) [] are = tt
every_take P (suc k) (x ∷ xs) are = (are.0, every_take P k xs are.1)

pub there_taken : (world : World) (before made : List VirtualAt) (common : Common) (elements : List (MemberAt × Index)) (i : ℕ) → made ≡ before ++ variables_at common (take i elements) →
    AreThere world before → Every (λ element. IsMember world element.0) elements → AreThere world made
there_taken world before made common elements i so are every = rw so (there_put world before common (take i elements) are (every_take _ i elements every))

pub counted_put : (common : Common) (elements : List (MemberAt × Index)) (i : ℕ) (before made : List VirtualAt) → i < length elements → made ≡ before ++ variables_at common (take i elements) →
    length made ≡ length before + i
counted_put common elements i before made small so =
    ap length so
    ∙ (length-append before (variables_at common (take i elements))
    ∙ ap (λ n. length before + n) (length-map (take i elements) (variable_at common) ∙ length-take-le i elements (omega arith)))

pub number_put : (common : Common) (elements : List (MemberAt × Index)) (i : ℕ) (before made : List VirtualAt) (count n : ℕ) → i < length elements → made ≡ before ++ variables_at common (take i elements) →
    count ≡ length made → n ≡ count + 1 → n ≡ length before + i + 1
number_put common elements i before made count n small so counted next = let e = counted_put common elements i before made small so in omega arith

-- all elements
pub numbers_all : (frames : List Frame) (common : Common) (elements : List (MemberAt × Index)) (n : ℕ) (made : List ℕ) → made ≡ numbers_behind n elements → made ≡ numbers_behind n (elements_as frames common elements)
numbers_all frames common elements n made so =
    so ∙ (sym (numbers_alike n (variable_at common) elements) ∙ (sym (numbers_alike n (virtual_seen frames) (variables_at common elements)) ∙ ap (numbers_behind n) (variables_as frames common elements)))

pub put_all : (frames : List Frame) (common : Common) (elements : List (MemberAt × Index)) (before made : List VirtualAt) → made ≡ before ++ variables_at common elements →
    virtuals_seen frames made ≡ virtuals_seen frames before ++ elements_as frames common elements
put_all frames common elements before made so =
    ap (virtuals_seen frames) so
    ∙ (map-append (virtual_seen frames) before (variables_at common elements) ∙ ap (λ xs. virtuals_seen frames before ++ xs) (variables_as frames common elements))

-- one more element
pub put_more : (common : Common) (elements : List (MemberAt × Index)) (i : ℕ) (one : MemberAt × Index) (before made : List VirtualAt) → i < length elements → one ≡ get_or elements i one →
    made ≡ before ++ variables_at common (take i elements) → made ++ variable_at common one ∷ [] ≡ before ++ variables_at common (take (i + 1) elements)
put_more common elements i one before made small is so =
    ap (λ xs. xs ++ variable_at common one ∷ []) so
    ∙ (append_assoc before (variables_at common (take i elements)) (variable_at common one ∷ [])
    ∙ ap (λ xs. before ++ xs)
    (sym (map-append (variable_at common) (take i elements) (one ∷ []))
    ∙ ap (variables_at common) (ap (λ x. take i elements ++ x ∷ []) is ∙ sym (take_more elements i one small))))

pub numbers_more : (elements : List (MemberAt × Index)) (i n k : ℕ) (one : MemberAt × Index) (made : List ℕ) → i < length elements → one ≡ get_or elements i one →
    k ≡ n + i + 1 → length (take i elements) ≡ i → made ≡ numbers_behind n (take i elements) → made ++ k ∷ [] ≡ numbers_behind n (take (i + 1) elements)
numbers_more elements i n k one made small is next counted so =
    ap (λ xs. xs ++ k ∷ []) so
    ∙ (ap (λ m. numbers_behind n (take i elements) ++ m ∷ []) (next ∙ ap (λ m. n + m + 1) (sym counted))
    ∙ (sym (numbers_append n (take i elements) one)
    ∙ ap (numbers_behind n) (ap (λ x. take i elements ++ x ∷ []) is ∙ sym (take_more elements i one small))))

-- ---- dimensions and subscripts

abbrev pub handed_with : Bool → Dims → Selection → Dims × List Subscript
handed_with inside dims last = if inside then (dims ++ subscripted last.subs last.dims, []) else (dims ++ emptied last.dims last.subs, every dims ++ last.subs)

pub handed_by : (before : List SelectionAt) (last : SelectionAt) (dims : Dims) → dims ≡ kept_dims (selections_seen before) →
    handed_with (is_ok (subscripts last.dims last.subs)) dims (selection_seen last) ≡ handed_in (selections_seen (before ++ last ∷ []))
handed_by before last dims is =
    go (is_ok (subscripts last.dims last.subs)) refl ∙ ap handed_in (sym (map-append selection_seen before (last ∷ [])))
  where
    go : (inside : Bool) → is_ok (subscripts last.dims last.subs) ≡ inside →
        handed_with (is_ok (subscripts last.dims last.subs)) dims (selection_seen last) ≡ handed_in (selections_seen before ++ selection_seen last ∷ [])
    go true e =
        ap (λ (b : Bool). handed_with b dims (selection_seen last)) e
        ∙ (ap (λ k. handed_with true k (selection_seen last)) is ∙ sym (handed_inside (selections_seen before) (selection_seen last) e))
    go false e =
        ap (λ (b : Bool). handed_with b dims (selection_seen last)) e
        ∙ (ap (λ k. handed_with false k (selection_seen last)) is ∙ sym (handed_outside (selections_seen before) (selection_seen last) e))
