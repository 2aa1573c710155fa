-- What is listed of a part, by what is listed of its own parts.
use Rattle.std.proofs.Common.{◌≡◌, ℕ, ◌+◌, Bool, List, [], ◌∷◌, ◌++◌, map, Option, Some, None, Result, Ok, Err, IfOk, refl, ap, sym, ◌∙◌, subst, append_assoc, arith, add-zero}
use Rattle.std.proofs.lemmas.List.{map-append}
use Rattle.mo_syntax.specs.declared.expr.Expr.{Expr}
use Rattle.mo_syntax.specs.declared.expr.ReferenceOf.{ReferenceOf}
use Rattle.mo_syntax.specs.declared.class.ArgumentOf.{ArgumentOf}
use Rattle.mo_syntax.specs.declared.class.Body.TheVariants.{Long}
use Rattle.mo_syntax.specs.declared.class.ComponentOf.{ComponentOf}
use Rattle.mo_syntax.specs.declared.class.Element.{Element, out-Element}
use Rattle.mo_syntax.specs.declared.class.Give.{Give}
use Rattle.mo_syntax.specs.declared.class.Item.{Item}
use Rattle.mo_syntax.specs.declared.class.ModsOf.{ModsOf}
use Rattle.mo_syntax.specs.declared.class.What.TheVariants.{Component}
use Rattle.mo_syntax.specs.Classes.{Home, Apart, Outline, nothing, both, each, outline_of_body, outline_of_give, outline_of_item, outline_of_what, outline_of_element}
use Rattle.mo_syntax.specs.steps.Parts.{outline_of_mods, outline_of_extending, outline_of_limit, marked}
use Rattle.mo_syntax.proofs.Outlines.{at_Long, at_Component, at_Element}
use Rattle.mo_tree.specs.declared.names.Name.{Name}
use Rattle.mo_tree.specs.Keys.{key_in, name_of, Lists}

all_ok : {A E : Type 0} (r : Result A E) (P Q : A → Type 0) → ((x : A) → P x → Q x) → IfOk r P → IfOk r Q
all_ok (Ok x) P Q step h = step x h
all_ok (Err e) P Q step h = tt

append_nil : {A : Type 0} (xs : List A) → xs ≡ xs ++ []
append_nil [] = refl
append_nil (x ∷ xs) = ap (λ l. x ∷ l) (append_nil xs)

lists_as : (a b : Outline) (home : Home) (n : ℕ) (x y : List Name) (next : ℕ) → a ≡ b → Lists b home n x y next → Lists a home n x y next
lists_as a b home n x y next same l = subst (λ o. Lists o home n x y next) (sym same) l

lists_both : (a b : Outline) (home : Home) (n m : ℕ) (x y z : List Name) (next : ℕ) → Lists a home n x y m → Lists b home m y z next → Lists (both a b) home n x z next
lists_both a b home n m x y z next (count, names) (more, last) = (
  omega arith,
  last ∙ ap (λ k. y ++ map name_of (b.declared home k)) count
      ∙ ap (λ l. l ++ map name_of (b.declared home (n + a.classes))) names
      ∙ append_assoc x (map name_of (a.declared home n)) (map name_of (b.declared home (n + a.classes)))
      ∙ ap (λ l. x ++ l) (sym (map-append name_of (a.declared home n) (b.declared home (n + a.classes)))),
)

pub lists_nothing : (o : Outline) (home : Home) (n : ℕ) (x : List Name) → o ≡ nothing → Lists o home n x x n
lists_nothing o home n x same = lists_as o nothing home n x x n same (sym (add-zero n), append_nil x)

lists_extending : (e : Option (ModsOf Give)) (home : Home) (n : ℕ) (x y : List Name) (m : ℕ) → Lists (outline_of_extending e) Apart n x y m → Lists (outline_of_extending e) home n x y m
lists_extending None home n x y m l = l
lists_extending (Some mods) home n x y m l = l

pub in_long : {E : Type 0} (r : Result ℕ E) (extending : Option (ModsOf Give)) (items xs : List Item) (external : Bool) (home : Home) (n m : ℕ) (x y z : List Name) → xs ≡ items →
    Lists (outline_of_extending extending) Apart n x y m → IfOk r (λ next. Lists (each outline_of_item xs) home m y z next) → IfOk r (λ next. Lists (outline_of_body (Long extending items external)) home n x z next)
in_long r extending items xs external home n m x y z same head = all_ok r (λ next. Lists (each outline_of_item xs) home m y z next) (λ next. Lists (outline_of_body (Long extending items external)) home n x z next) (λ next l.
    lists_as (outline_of_body (Long extending items external)) (both (outline_of_extending extending) (each outline_of_item items)) home n x z next (at_Long extending items external)
    (lists_both (outline_of_extending extending) (each outline_of_item items) home n m x y z next (lists_extending extending home n x y m head)
    (subst (λ l. Lists (each outline_of_item l) home m y z next) same l)))

pub in_mods : {E : Type 0} (r : Result ℕ E) (o : Outline) (mods : ModsOf Give) (xs : List (ArgumentOf Give)) (home : Home) (n : ℕ) (x y : List Name) → xs ≡ mods.0 → o ≡ outline_of_mods mods →
    IfOk r (λ next. Lists (each (λ argument. outline_of_give argument.give) xs) Apart n x y next) → IfOk r (λ next. Lists o home n x y next)
in_mods r o mods xs home n x y same is = all_ok r (λ next. Lists (each (λ argument. outline_of_give argument.give) xs) Apart n x y next) (λ next. Lists o home n x y next) (λ next l.
    lists_as o (outline_of_mods mods) home n x y next is (subst (λ l. Lists (each (λ argument. outline_of_give argument.give) l) Apart n x y next) same l))

pub in_same : {E : Type 0} (r : Result ℕ E) (a b : Outline) (home : Home) (n : ℕ) (x y : List Name) → a ≡ b → IfOk r (λ next. Lists b home n x y next) → IfOk r (λ next. Lists a home n x y next)
in_same r a b home n x y same = all_ok r (λ next. Lists b home n x y next) (λ next. Lists a home n x y next) (λ next l. lists_as a b home n x y next same l)

pub in_component : {E : Type 0} (r : Result ℕ E) (component : ComponentOf Give) (xs : List (ArgumentOf Give)) (home : Home) (n : ℕ) (x y z : List Name) (key : Option (List ℕ)) → xs ≡ component.mods.0 →
    key ≡ key_in home component.name → y ≡ x ++ record { key = key; place = component.place } ∷ [] → IfOk r (λ next. Lists (each (λ argument. outline_of_give argument.give) xs) Apart n y z next) →
    IfOk r (λ next. Lists (outline_of_what (Component component)) home n x z next)
in_component r component xs home n x y z key same keyed pushed = all_ok r (λ next. Lists (each (λ argument. outline_of_give argument.give) xs) Apart n y z next) (λ next. Lists (outline_of_what (Component component)) home n x z next) (λ next l.
    let rest : Lists (each (λ argument. outline_of_give argument.give) component.mods.0) Apart n y z next = subst (λ l. Lists (each (λ argument. outline_of_give argument.give) l) Apart n y z next) same l in
    subst (λ o. Lists o home n x z next) (sym (at_Component component)) (
      rest.0,
      rest.1 ∙ ap (λ l. l ++ map name_of ((outline_of_mods component.mods).declared home n)) (pushed ∙ ap (λ k. x ++ record { key = k; place = component.place } ∷ []) keyed)
          ∙ append_assoc x (record { key = key_in home component.name; place = component.place } ∷ []) (map name_of ((outline_of_mods component.mods).declared home n)),
    ))

pub in_limited : {E : Type 0} (r : Result ℕ E) (element : Element) (base : ReferenceOf Expr) (mods : ModsOf Give) (xs : List (ArgumentOf Give)) (home : Home) (n m : ℕ) (x y z : List Name) → xs ≡ mods.0 →
    (out-Element element).limit ≡ Some (base, mods) → Lists (marked (out-Element element).flags.redeclare (outline_of_what (out-Element element).what)) home n x y m →
    IfOk r (λ next. Lists (each (λ argument. outline_of_give argument.give) xs) Apart m y z next) → IfOk r (λ next. Lists (outline_of_element element) home n x z next)
in_limited r element base mods xs home n m x y z same is head = all_ok r (λ next. Lists (each (λ argument. outline_of_give argument.give) xs) Apart m y z next) (λ next. Lists (outline_of_element element) home n x z next) (λ next l.
    let part : Outline = marked (out-Element element).flags.redeclare (outline_of_what (out-Element element).what) in
    lists_as (outline_of_element element) (both part (outline_of_mods mods)) home n x z next (at_Element element ∙ ap (λ limit. both part (outline_of_limit limit)) is)
    (lists_both part (outline_of_mods mods) home n m x y z next head (subst (λ l. Lists (each (λ argument. outline_of_give argument.give) l) Apart m y z next) same l)))

pub unlimited : (element : Element) (home : Home) (n m : ℕ) (x y : List Name) → (out-Element element).limit ≡ None →
    Lists (marked (out-Element element).flags.redeclare (outline_of_what (out-Element element).what)) home n x y m → Lists (outline_of_element element) home n x y m
unlimited element home n m x y is head =
    let part : Outline = marked (out-Element element).flags.redeclare (outline_of_what (out-Element element).what) in
    lists_as (outline_of_element element) (both part nothing) home n x y m (at_Element element ∙ ap (λ limit. both part (outline_of_limit limit)) is)
    (lists_both part nothing home n m x y y m head (lists_nothing nothing home m y refl))
