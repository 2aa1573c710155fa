-- Where no class with a wanted path stands: parts that are read with a home that the path does not begin with.
use Rattle.std.proofs.Common.{◌≡◌, ℕ, ◌+◌, Bool, true, false, List, [], ◌∷◌, ◌++◌, map, Option, Some, None, refl, ap, sym, ◌∙◌, subst, append_assoc}
use Rattle.std.specs.Prelude.{if◌then◌else◌, ◌&&◌}
use Rattle.std.specs.Str.{bytes_eq}
use Rattle.std.proofs.lemmas.Slice.Eq.{bytes_eq-Decides}
use Rattle.mo_syntax.specs.declared.place.Place.{Place}
use Rattle.mo_syntax.specs.declared.class.ClassDefOf.{ClassDefOf}
use Rattle.mo_syntax.specs.declared.expr.Expr.{Expr}
use Rattle.mo_syntax.specs.declared.expr.ReferenceOf.{ReferenceOf}
use Rattle.mo_syntax.specs.declared.class.ArgumentOf.{ArgumentOf}
use Rattle.mo_syntax.specs.declared.class.Body.{Body, Body-F, roll-Body, map-Body, ind-Body}
use Rattle.mo_syntax.specs.declared.class.Body.TheVariants.{rolls-Long, rolls-Short, rolls-Enumeration, rolls-Der}
use Rattle.mo_syntax.specs.declared.class.ComponentOf.{ComponentOf}
use Rattle.mo_syntax.specs.declared.class.Element.{Element, Element-F, roll-Element, map-Element}
use Rattle.mo_syntax.specs.declared.class.ElementFlags.{ElementFlags}
use Rattle.mo_syntax.specs.declared.class.ExtendsOf.{ExtendsOf}
use Rattle.mo_syntax.specs.declared.class.Item.{Item, Item-F, roll-Item, map-Item}
use Rattle.mo_syntax.specs.declared.class.Item.TheVariants.{rolls-Import, rolls-Extends, rolls-Member, rolls-Equations, rolls-Algorithm}
use Rattle.mo_syntax.specs.declared.class.Give.{Give, Give-F, roll-Give, map-Give, ind-Give}
use Rattle.mo_syntax.specs.declared.class.Give.TheVariants.{rolls-Modify, rolls-Redeclare, rolls-Replaceable}
use Rattle.mo_syntax.specs.declared.class.ModsOf.{ModsOf}
use Rattle.mo_syntax.specs.declared.class.What.{What, What-F, roll-What, map-What, ind-What}
use Rattle.mo_syntax.specs.declared.class.What.TheVariants.{rolls-Class, rolls-Component}
use Rattle.mo_syntax.specs.Classes.{Home, Under, Inside, Apart, ClassRow, Declaration, Outline, Outlined, nothing, both, each, apart, in_class, outline_of_body, outline_of_give, outline_of_item, outline_of_what, outline_of_element}
use Rattle.mo_syntax.specs.ClassTable.{path_eq, otherwise, first_row, with_outline}
use Rattle.mo_syntax.specs.steps.Parts.{marked, declares, outline_of_mods}
use Rattle.mo_syntax.proofs.Outlines.{rolled, at_Long, at_Short, at_Enumeration, at_Der, at_Modify, at_Redeclare, at_Replaceable, at_Import, at_Extends, at_Member, at_Equations, at_Algorithm, at_Class, at_Component}

-- the path does not begin with that front
pub Passes : List (List ℕ) → List (List ℕ) → Type 0
Passes path front = (rest : List (List ℕ)) → path ≡ front ++ rest → ⊥

-- no name with that home has the path, nor a name inside it
abbrev pub Misses : List (List ℕ) → Home → Type 0
Misses path (Under front) = (rest : List (List ℕ)) → path ≡ front ++ rest → ⊥
Misses path (Inside n) = Unit {0}
Misses path Apart = Unit {0}

-- read with such a home, the part declares no class of that path
abbrev pub Quiet : List (List ℕ) → Outline → Type 0
Quiet path part = (home : Home) (n : ℕ) → Misses path home → first_row path (part.declared home n) ≡ None

-- ---- paths

both_true : (a b : Bool) → (a && b) ≡ true → (a ≡ true) × (b ≡ true)
both_true true true h = (refl, refl)
both_true true false h = cc
both_true false b h = cc

pub paths_same : (xs ys : List (List ℕ)) → path_eq xs ys ≡ true → xs ≡ ys
paths_same [] [] h = refl
paths_same [] (y ∷ ys) h = cc
paths_same (x ∷ xs) [] h = cc
paths_same (x ∷ xs) (y ∷ ys) h =
    let tests : (bytes_eq x y ≡ true) × (path_eq xs ys ≡ true) = both_true (bytes_eq x y) (path_eq xs ys) h in
    let first : x ≡ y = (bytes_eq-Decides x y).0 tests.0 in
    let rest : xs ≡ ys = paths_same xs ys tests.1 in cc

pub path_eq_same : (xs : List (List ℕ)) → path_eq xs xs ≡ true
path_eq_same [] = refl
path_eq_same (x ∷ xs) = ap (λ b. b && path_eq xs xs) ((bytes_eq-Decides x x).1 refl) ∙ path_eq_same xs

pub untrue : (b : Bool) → (b ≡ true → ⊥) → b ≡ false
untrue true h = absurd (h refl)
untrue false h = refl

-- ---- lists of declarations

otherwise_assoc : {A : Type 0} (a b c : Option A) → otherwise (otherwise a b) c ≡ otherwise a (otherwise b c)
otherwise_assoc None b c = refl
otherwise_assoc (Some a) b c = refl

pub first_row_append : (path : List (List ℕ)) (xs ys : List Declaration) → first_row path (xs ++ ys) ≡ otherwise (first_row path xs) (first_row path ys)
first_row_append path [] ys = refl
first_row_append path (x ∷ xs) ys = ap (otherwise _) (first_row_append path xs ys) ∙ sym (otherwise_assoc _ (first_row path xs) (first_row path ys))

abbrev class_row : Bool → ClassDefOf (Outlined Body) → ℕ → ClassRow
class_row outermost class n = record {
  number = n;
  class = record { kind = class.kind; flags = class.flags; name = class.name; place = class.place; body = class.body.0 };
  outermost = outermost;
}

append_nil : (xs : List (List ℕ)) → xs ++ [] ≡ xs
append_nil [] = refl
append_nil (x ∷ xs) = ap (λ l. x ∷ l) (append_nil xs)

-- ---- what outlines are made of

quiet_both : (path : List (List ℕ)) (a b : Outline) → Quiet path a → Quiet path b → Quiet path (both a b)
quiet_both path a b qa qb home n m = first_row_append path (a.declared home n) (b.declared home (n + a.classes))
    ∙ ap (λ r. otherwise r (first_row path (b.declared home (n + a.classes)))) (qa home n m) ∙ qb home (n + a.classes) m

quiet_nothing : (path : List (List ℕ)) → Quiet path nothing
quiet_nothing path home n m = refl

quiet_apart : (path : List (List ℕ)) (a : Outline) → Quiet path a → Quiet path (apart a)
quiet_apart path a qa home n m = qa Apart n tt

quiet_declares : (path : List (List ℕ)) (name : List ℕ) (place : Place) (mods : Outline) → Quiet path mods → Quiet path (declares name place mods)
quiet_declares path name place mods q = q

-- a class with a name that the path does not go through
pub passed : (path front : List (List ℕ)) (outermost : Bool) (class : ClassDefOf (Outlined Body)) (n : ℕ) →
    Quiet path class.body.1 → Misses path (Under (front ++ class.name ∷ [])) → first_row path ((in_class outermost class).declared (Under front) n) ≡ None
passed path front outermost class n q misses =
    let here : List (List ℕ) = front ++ class.name ∷ [] in
    let other : path_eq here path ≡ false = untrue _ (λ same. misses [] (sym (paths_same here path same) ∙ sym (append_nil here))) in
    ap (λ b. otherwise (if b then Some (class_row outermost class n) else None) (first_row path (class.body.1.declared (Under here) (n + 1)))) other
    ∙ q (Under here) (n + 1) misses

quiet_class : (path : List (List ℕ)) (outermost : Bool) (class : ClassDefOf (Outlined Body)) → Quiet path class.body.1 → Quiet path (in_class outermost class)
quiet_class path outermost class q (Under front) n misses = passed path front outermost class n q (λ rest same. misses (class.name ∷ rest) (same ∙ append_assoc front (class.name ∷ []) rest))
quiet_class path outermost class q (Inside m) n misses = q (Inside n) (n + 1) tt
quiet_class path outermost class q Apart n misses = q (Inside n) (n + 1) tt

quiet_marked : (path : List (List ℕ)) (redeclare : Bool) (part : Outline) → Quiet path part → Quiet path (marked redeclare part)
quiet_marked path true part q = quiet_apart path part q
quiet_marked path false part q = q

-- ---- every part of a tree

abbrev QuietBody : List (List ℕ) → Type 0
QuietBody path = (body : Body) × Quiet path (outline_of_body body)

abbrev QuietGive : List (List ℕ) → Type 0
QuietGive path = (give : Give) × Quiet path (outline_of_give give)

abbrev QuietItem : List (List ℕ) → Type 0
QuietItem path = (item : Item) × Quiet path (outline_of_item item)

abbrev QuietWhat : List (List ℕ) → Type 0
QuietWhat path = (what : What) × Quiet path (outline_of_what what)

abbrev QuietElement : List (List ℕ) → Type 0
QuietElement path = (element : Element) × Quiet path (outline_of_element element)

quiet_as : (path : List (List ℕ)) (a b : Outline) → a ≡ b → Quiet path b → Quiet path a
quiet_as path a b same q = subst (Quiet path) (sym same) q

quiet_items : (path : List (List ℕ)) (items : List (QuietItem path)) → Quiet path (each outline_of_item (map (λ t. t.0) items))
quiet_items path [] = quiet_nothing path
quiet_items path (t ∷ ts) = quiet_both path (outline_of_item t.0) (each outline_of_item (map (λ t. t.0) ts)) t.1 (quiet_items path ts)

abbrev argument_of : (path : List (List ℕ)) → ArgumentOf (QuietGive path) → ArgumentOf Give
argument_of path a = record { each = a.each; last = a.last; name = a.name; place = a.place; give = a.give.0 }

quiet_arguments : (path : List (List ℕ)) (xs : List (ArgumentOf (QuietGive path))) → Quiet path (each (λ argument. outline_of_give argument.give) (map (argument_of path) xs))
quiet_arguments path [] = quiet_nothing path
quiet_arguments path (t ∷ ts) = quiet_both path (outline_of_give t.give.0) (each (λ argument. outline_of_give argument.give) (map (argument_of path) ts)) t.give.1 (quiet_arguments path ts)

abbrev mods_of : (path : List (List ℕ)) → ModsOf (QuietGive path) → ModsOf Give
mods_of path mods = record { 0 = map (argument_of path) mods.0 }

quiet_mods : (path : List (List ℕ)) (mods : ModsOf (QuietGive path)) → Quiet path (outline_of_mods (mods_of path mods))
quiet_mods path mods = quiet_apart path (each (λ argument. outline_of_give argument.give) (map (argument_of path) mods.0)) (quiet_arguments path mods.0)

step_body : (path : List (List ℕ)) (node : Body-F (QuietBody path) (QuietGive path) (QuietItem path) (QuietWhat path) (QuietElement path)) →
    Quiet path (outline_of_body (roll-Body (map-Body (QuietBody path) (QuietGive path) (QuietItem path) (QuietWhat path) (QuietElement path) Body Give Item What Element (λ t. t.0) (λ t. t.0) (λ t. t.0) (λ t. t.0) (λ t. t.0) node)))
step_body path (Body-F.Long None items external) =
    let inside : List Item = map (λ t. t.0) items in
    quiet_as path _ _ (ap outline_of_body (rolls-Long None inside external) ∙ at_Long None inside external)
    (quiet_both path nothing (each outline_of_item inside) (quiet_nothing path) (quiet_items path items))
step_body path (Body-F.Long (Some mods) items external) =
    let inside : List Item = map (λ t. t.0) items in
    quiet_as path _ _ (ap outline_of_body (rolls-Long (Some (mods_of path mods)) inside external) ∙ at_Long (Some (mods_of path mods)) inside external)
    (quiet_both path (outline_of_mods (mods_of path mods)) (each outline_of_item inside) (quiet_mods path mods) (quiet_items path items))
step_body path (Body-F.Short causal base subs mods) =
    quiet_as path _ _ (ap outline_of_body (rolls-Short causal base subs (mods_of path mods)) ∙ at_Short causal base subs (mods_of path mods)) (quiet_mods path mods)
step_body path (Body-F.Enumeration literals) = quiet_as path _ _ (ap outline_of_body (rolls-Enumeration literals) ∙ at_Enumeration literals) (quiet_nothing path)
step_body path (Body-F.Der function names) = quiet_as path _ _ (ap outline_of_body (rolls-Der function names) ∙ at_Der function names) (quiet_nothing path)

step_give : (path : List (List ℕ)) (node : Give-F (QuietBody path) (QuietGive path) (QuietItem path) (QuietWhat path) (QuietElement path)) →
    Quiet path (outline_of_give (roll-Give (map-Give (QuietBody path) (QuietGive path) (QuietItem path) (QuietWhat path) (QuietElement path) Body Give Item What Element (λ t. t.0) (λ t. t.0) (λ t. t.0) (λ t. t.0) (λ t. t.0) node)))
step_give path (Give-F.Modify mods value) = quiet_as path _ _ (ap outline_of_give (rolls-Modify (mods_of path mods) value) ∙ at_Modify (mods_of path mods) value) (quiet_mods path mods)
step_give path (Give-F.Redeclare element) = quiet_as path _ _ (ap outline_of_give (rolls-Redeclare element.0) ∙ at_Redeclare element.0) element.1
step_give path (Give-F.Replaceable element) = quiet_as path _ _ (ap outline_of_give (rolls-Replaceable element.0) ∙ at_Replaceable element.0) element.1

step_item : (path : List (List ℕ)) (node : Item-F (QuietBody path) (QuietGive path) (QuietItem path) (QuietWhat path) (QuietElement path)) →
    Quiet path (outline_of_item (roll-Item (map-Item (QuietBody path) (QuietGive path) (QuietItem path) (QuietWhat path) (QuietElement path) Body Give Item What Element (λ t. t.0) (λ t. t.0) (λ t. t.0) (λ t. t.0) (λ t. t.0) node)))
step_item path (Item-F.Import clause) = quiet_as path _ _ (ap outline_of_item (rolls-Import clause) ∙ at_Import clause) (quiet_nothing path)
step_item path (Item-F.Extends clause) =
    let inside : ExtendsOf Give = record { base = clause.base; mods = mods_of path clause.mods; hidden = clause.hidden } in
    quiet_as path _ _ (ap outline_of_item (rolls-Extends inside) ∙ at_Extends inside) (quiet_mods path clause.mods)
step_item path (Item-F.Member element) = quiet_as path _ _ (ap outline_of_item (rolls-Member element.0) ∙ at_Member element.0) element.1
step_item path (Item-F.Equations initial equations) = quiet_as path _ _ (ap outline_of_item (rolls-Equations initial equations) ∙ at_Equations initial equations) (quiet_nothing path)
step_item path (Item-F.Algorithm initial statements) = quiet_as path _ _ (ap outline_of_item (rolls-Algorithm initial statements) ∙ at_Algorithm initial statements) (quiet_nothing path)

step_what : (path : List (List ℕ)) (node : What-F (QuietBody path) (QuietGive path) (QuietItem path) (QuietWhat path) (QuietElement path)) →
    Quiet path (outline_of_what (roll-What (map-What (QuietBody path) (QuietGive path) (QuietItem path) (QuietWhat path) (QuietElement path) Body Give Item What Element (λ t. t.0) (λ t. t.0) (λ t. t.0) (λ t. t.0) (λ t. t.0) node)))
step_what path (What-F.Class class) =
    let inside : ClassDefOf Body = record { kind = class.kind; flags = class.flags; name = class.name; place = class.place; body = class.body.0 } in
    quiet_as path _ _ (ap outline_of_what (rolls-Class inside) ∙ at_Class inside) (quiet_class path false (with_outline inside) class.body.1)
step_what path (What-F.Component component) =
    let inside : ComponentOf Give = record {
      prefix = component.prefix;
      base = component.base;
      base_subs = component.base_subs;
      name = component.name;
      place = component.place;
      subs = component.subs;
      mods = mods_of path component.mods;
      binding = component.binding;
      condition = component.condition;
    } in
    quiet_as path _ _ (ap outline_of_what (rolls-Component inside) ∙ at_Component inside)
    (quiet_declares path component.name component.place (outline_of_mods (mods_of path component.mods)) (quiet_mods path component.mods))

step_element : (path : List (List ℕ)) (node : Element-F (QuietBody path) (QuietGive path) (QuietItem path) (QuietWhat path) (QuietElement path)) →
    Quiet path (outline_of_element (roll-Element (map-Element (QuietBody path) (QuietGive path) (QuietItem path) (QuietWhat path) (QuietElement path) Body Give Item What Element (λ t. t.0) (λ t. t.0) (λ t. t.0) (λ t. t.0) (λ t. t.0) node)))
step_element path node = at_limit node.flags node.what node.limit
  where
    at_limit : (flags : ElementFlags) (what : QuietWhat path) (limit : Option (ReferenceOf Expr × ModsOf (QuietGive path))) →
        Quiet path (outline_of_element (roll-Element (map-Element (QuietBody path) (QuietGive path) (QuietItem path) (QuietWhat path) (QuietElement path) Body Give Item What Element (λ t. t.0) (λ t. t.0) (λ t. t.0) (λ t. t.0) (λ t. t.0)
        (record { flags = flags; what = what; limit = limit }))))
    at_limit flags what None = quiet_as path _ _ (rolled flags what.0 None)
        (quiet_both path (marked flags.redeclare (outline_of_what what.0)) nothing (quiet_marked path flags.redeclare (outline_of_what what.0) what.1) (quiet_nothing path))
    at_limit flags what (Some limit) = quiet_as path _ _ (rolled flags what.0 (Some (limit.0, mods_of path limit.1)))
        (quiet_both path (marked flags.redeclare (outline_of_what what.0)) (outline_of_mods (mods_of path limit.1)) (quiet_marked path flags.redeclare (outline_of_what what.0) what.1) (quiet_mods path limit.1))

-- ---- the whole of it

pub quiet_body : (path : List (List ℕ)) (body : Body) → Quiet path (outline_of_body body)
quiet_body path = ind-Body (λ b. Quiet path (outline_of_body b)) (λ g. Quiet path (outline_of_give g)) (λ i. Quiet path (outline_of_item i)) (λ w. Quiet path (outline_of_what w)) (λ e. Quiet path (outline_of_element e))
    (λ x y is. subst (λ z. Quiet path (outline_of_body (roll-Body z))) is (step_body path y))
    (λ x y is. subst (λ z. Quiet path (outline_of_give (roll-Give z))) is (step_give path y))
    (λ x y is. subst (λ z. Quiet path (outline_of_item (roll-Item z))) is (step_item path y))
    (λ x y is. subst (λ z. Quiet path (outline_of_what (roll-What z))) is (step_what path y))
    (λ x y is. subst (λ z. Quiet path (outline_of_element (roll-Element z))) is (step_element path y))

pub quiet_give : (path : List (List ℕ)) (give : Give) → Quiet path (outline_of_give give)
quiet_give path = ind-Give (λ b. Quiet path (outline_of_body b)) (λ g. Quiet path (outline_of_give g)) (λ i. Quiet path (outline_of_item i)) (λ w. Quiet path (outline_of_what w)) (λ e. Quiet path (outline_of_element e))
    (λ x y is. subst (λ z. Quiet path (outline_of_body (roll-Body z))) is (step_body path y))
    (λ x y is. subst (λ z. Quiet path (outline_of_give (roll-Give z))) is (step_give path y))
    (λ x y is. subst (λ z. Quiet path (outline_of_item (roll-Item z))) is (step_item path y))
    (λ x y is. subst (λ z. Quiet path (outline_of_what (roll-What z))) is (step_what path y))
    (λ x y is. subst (λ z. Quiet path (outline_of_element (roll-Element z))) is (step_element path y))

pub quiet_what : (path : List (List ℕ)) (what : What) → Quiet path (outline_of_what what)
quiet_what path = ind-What (λ b. Quiet path (outline_of_body b)) (λ g. Quiet path (outline_of_give g)) (λ i. Quiet path (outline_of_item i)) (λ w. Quiet path (outline_of_what w)) (λ e. Quiet path (outline_of_element e))
    (λ x y is. subst (λ z. Quiet path (outline_of_body (roll-Body z))) is (step_body path y))
    (λ x y is. subst (λ z. Quiet path (outline_of_give (roll-Give z))) is (step_give path y))
    (λ x y is. subst (λ z. Quiet path (outline_of_item (roll-Item z))) is (step_item path y))
    (λ x y is. subst (λ z. Quiet path (outline_of_what (roll-What z))) is (step_what path y))
    (λ x y is. subst (λ z. Quiet path (outline_of_element (roll-Element z))) is (step_element path y))
