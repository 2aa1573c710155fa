-- The classes of the files have the numbers from 6 on, one after the other.
use Rattle.std.proofs.Common.{◌≡◌, ℕ, zero, suc, ◌+◌, Bool, true, false, List, [], ◌∷◌, ◌++◌, map, flat_map, Option, Some, None, refl, ap, sym, ◌∙◌, subst, arith}
use Rattle.std.proofs.lemmas.List.{map-append}
use Rattle.std.proofs.lemmas.Grind.{flat_map-append}
use Rattle.mo_syntax.specs.declared.class.ClassDefOf.{ClassDefOf}
use Rattle.mo_syntax.specs.declared.expr.Expr.{Expr}
use Rattle.mo_syntax.specs.declared.expr.ReferenceOf.{ReferenceOf}
use Rattle.mo_syntax.specs.declared.class.ArgumentOf.{ArgumentOf}
use Rattle.mo_syntax.specs.declared.class.Body.{Body, Body-F, roll-Body, map-Body, ind-Body}
use Rattle.mo_syntax.specs.declared.class.Body.TheVariants.{rolls-Long, rolls-Short, rolls-Enumeration, rolls-Der}
use Rattle.mo_syntax.specs.declared.class.ComponentOf.{ComponentOf}
use Rattle.mo_syntax.specs.declared.class.Element.{Element, Element-F, roll-Element, map-Element}
use Rattle.mo_syntax.specs.declared.class.ElementFlags.{ElementFlags}
use Rattle.mo_syntax.specs.declared.class.ExtendsOf.{ExtendsOf}
use Rattle.mo_syntax.specs.declared.class.FileTree.{FileTree}
use Rattle.mo_syntax.specs.declared.class.Item.{Item, Item-F, roll-Item, map-Item}
use Rattle.mo_syntax.specs.declared.class.Item.TheVariants.{rolls-Import, rolls-Extends, rolls-Member, rolls-Equations, rolls-Algorithm}
use Rattle.mo_syntax.specs.declared.class.Give.{Give, Give-F, roll-Give, map-Give}
use Rattle.mo_syntax.specs.declared.class.Give.TheVariants.{rolls-Modify, rolls-Redeclare, rolls-Replaceable}
use Rattle.mo_syntax.specs.declared.class.ModsOf.{ModsOf}
use Rattle.mo_syntax.specs.declared.class.What.{What, What-F, roll-What, map-What}
use Rattle.mo_syntax.specs.declared.class.What.TheVariants.{rolls-Class, rolls-Component}
use Rattle.mo_syntax.specs.Classes.{Home, Under, Apart, Declaration, Outline, Outlined, nothing, both, each, apart, in_class, inside, outline_of_body, outline_of_give, outline_of_item, outline_of_what, outline_of_element}
use Rattle.mo_syntax.specs.ClassTable.{with_outline, in_file, class_count, first_number}
use Rattle.mo_syntax.specs.steps.Parts.{marked, declares, outline_of_mods}
use Rattle.mo_syntax.proofs.Outlines.{rolled, at_Long, at_Short, at_Enumeration, at_Der, at_Modify, at_Redeclare, at_Replaceable, at_Import, at_Extends, at_Member, at_Equations, at_Algorithm, at_Class, at_Component}
use Rattle.mo_scope.specs.Rows.{ClassEntry, entry_in, entries_of, table_of, row_of, number_among}

-- so many numbers from n on
abbrev pub numbers_from : ℕ → ℕ → List ℕ
numbers_from n zero = []
numbers_from n (suc k) = n ∷ numbers_from (n + 1) k

-- the numbers of the classes among some declarations
abbrev pub numbers_in : List Declaration → List ℕ
numbers_in ds = map (λ entry. entry.row.number) (flat_map entry_in ds)

pub numbers_from_append : (n a b : ℕ) → numbers_from n (a + b) ≡ numbers_from n a ++ numbers_from (n + a) b
numbers_from_append n zero b = ap (numbers_from n) (omega arith) ∙ ap (λ m. numbers_from m b) (omega arith)
numbers_from_append n (suc a) b =
    let more : suc a + b ≡ suc (a + b) = omega arith in
    let on : (n + 1) + a ≡ n + suc a = omega arith in
    ap (numbers_from n) more ∙ ap (λ l. n ∷ l) (numbers_from_append (n + 1) a b ∙ ap (λ m. numbers_from (n + 1) a ++ numbers_from m b) on)

numbers_in_append : (xs ys : List Declaration) → numbers_in (xs ++ ys) ≡ numbers_in xs ++ numbers_in ys
numbers_in_append xs ys =
    ap (map (λ entry. entry.row.number)) (flat_map-append entry_in xs ys)
    ∙ map-append (λ entry. entry.row.number) (flat_map entry_in xs) (flat_map entry_in ys)

-- the classes of a part have the numbers from that of its first class on
abbrev pub Counts : Outline → Type 0
Counts part = (home : Home) (n : ℕ) → numbers_in (part.declared home n) ≡ numbers_from n part.classes

counts_nothing : Counts nothing
counts_nothing home n = refl

counts_both : (a b : Outline) → Counts a → Counts b → Counts (both a b)
counts_both a b ca cb home n =
    numbers_in_append (a.declared home n) (b.declared home (n + a.classes))
    ∙ ap (λ l. l ++ numbers_in (b.declared home (n + a.classes))) (ca home n)
    ∙ ap (λ l. numbers_from n a.classes ++ l) (cb home (n + a.classes))
    ∙ sym (numbers_from_append n a.classes b.classes)

counts_apart : (a : Outline) → Counts a → Counts (apart a)
counts_apart a c home n = c Apart n

counts_class : (outermost : Bool) (class : ClassDefOf (Outlined Body)) → Counts class.body.1 → Counts (in_class outermost class)
counts_class outermost class c home n =
    ap (λ l. n ∷ l) (c (inside home class.name n) (n + 1)) ∙ ap (numbers_from n) (one_more class.body.1.classes)
  where
    one_more : (k : ℕ) → suc k ≡ 1 + k
    one_more k = omega arith

counts_declares : (component : ComponentOf Give) (mods : Outline) → Counts mods → Counts (declares component.name component.place mods)
counts_declares component mods c home n = c home n

counts_marked : (redeclare : Bool) (part : Outline) → Counts part → Counts (marked redeclare part)
counts_marked true part c = counts_apart part c
counts_marked false part c = c

counts_as : (a b : Outline) → a ≡ b → Counts b → Counts a
counts_as a b same c = subst Counts (sym same) c

-- ---- every part of a tree

abbrev CountsBody : Type 0
CountsBody = (body : Body) × Counts (outline_of_body body)

abbrev CountsGive : Type 0
CountsGive = (give : Give) × Counts (outline_of_give give)

abbrev CountsItem : Type 0
CountsItem = (item : Item) × Counts (outline_of_item item)

abbrev CountsWhat : Type 0
CountsWhat = (what : What) × Counts (outline_of_what what)

abbrev CountsElement : Type 0
CountsElement = (element : Element) × Counts (outline_of_element element)

counts_items : (items : List CountsItem) → Counts (each outline_of_item (map (λ t. t.0) items))
counts_items [] = counts_nothing
counts_items (t ∷ ts) = counts_both (outline_of_item t.0) (each outline_of_item (map (λ t. t.0) ts)) t.1 (counts_items ts)

abbrev argument_of : ArgumentOf CountsGive → ArgumentOf Give
argument_of a = record { each = a.each; last = a.last; name = a.name; place = a.place; give = a.give.0 }

counts_arguments : (xs : List (ArgumentOf CountsGive)) → Counts (each (λ argument. outline_of_give argument.give) (map argument_of xs))
counts_arguments [] = counts_nothing
counts_arguments (t ∷ ts) = counts_both (outline_of_give t.give.0) (each (λ argument. outline_of_give argument.give) (map argument_of ts)) t.give.1 (counts_arguments ts)

abbrev mods_of : ModsOf CountsGive → ModsOf Give
mods_of mods = record { 0 = map argument_of mods.0 }

counts_mods : (mods : ModsOf CountsGive) → Counts (outline_of_mods (mods_of mods))
counts_mods mods = counts_apart (each (λ argument. outline_of_give argument.give) (map argument_of mods.0)) (counts_arguments mods.0)

step_body : (node : Body-F CountsBody CountsGive CountsItem CountsWhat CountsElement) →
    Counts (outline_of_body (roll-Body (map-Body CountsBody CountsGive CountsItem CountsWhat CountsElement Body Give Item What Element (λ t. t.0) (λ t. t.0) (λ t. t.0) (λ t. t.0) (λ t. t.0) node)))
step_body (Body-F.Long None items external) =
    let inside : List Item = map (λ t. t.0) items in
    counts_as _ _ (ap outline_of_body (rolls-Long None inside external) ∙ at_Long None inside external)
    (counts_both nothing (each outline_of_item inside) counts_nothing (counts_items items))
step_body (Body-F.Long (Some mods) items external) =
    let inside : List Item = map (λ t. t.0) items in
    counts_as _ _ (ap outline_of_body (rolls-Long (Some (mods_of mods)) inside external) ∙ at_Long (Some (mods_of mods)) inside external)
    (counts_both (outline_of_mods (mods_of mods)) (each outline_of_item inside) (counts_mods mods) (counts_items items))
step_body (Body-F.Short causal base subs mods) =
    counts_as _ _ (ap outline_of_body (rolls-Short causal base subs (mods_of mods)) ∙ at_Short causal base subs (mods_of mods)) (counts_mods mods)
step_body (Body-F.Enumeration literals) = counts_as _ _ (ap outline_of_body (rolls-Enumeration literals) ∙ at_Enumeration literals) counts_nothing
step_body (Body-F.Der function names) = counts_as _ _ (ap outline_of_body (rolls-Der function names) ∙ at_Der function names) counts_nothing

step_give : (node : Give-F CountsBody CountsGive CountsItem CountsWhat CountsElement) →
    Counts (outline_of_give (roll-Give (map-Give CountsBody CountsGive CountsItem CountsWhat CountsElement Body Give Item What Element (λ t. t.0) (λ t. t.0) (λ t. t.0) (λ t. t.0) (λ t. t.0) node)))
step_give (Give-F.Modify mods value) = counts_as _ _ (ap outline_of_give (rolls-Modify (mods_of mods) value) ∙ at_Modify (mods_of mods) value) (counts_mods mods)
step_give (Give-F.Redeclare element) = counts_as _ _ (ap outline_of_give (rolls-Redeclare element.0) ∙ at_Redeclare element.0) element.1
step_give (Give-F.Replaceable element) = counts_as _ _ (ap outline_of_give (rolls-Replaceable element.0) ∙ at_Replaceable element.0) element.1

step_item : (node : Item-F CountsBody CountsGive CountsItem CountsWhat CountsElement) →
    Counts (outline_of_item (roll-Item (map-Item CountsBody CountsGive CountsItem CountsWhat CountsElement Body Give Item What Element (λ t. t.0) (λ t. t.0) (λ t. t.0) (λ t. t.0) (λ t. t.0) node)))
step_item (Item-F.Import clause) = counts_as _ _ (ap outline_of_item (rolls-Import clause) ∙ at_Import clause) counts_nothing
step_item (Item-F.Extends clause) =
    let inside : ExtendsOf Give = record { base = clause.base; mods = mods_of clause.mods; hidden = clause.hidden } in
    counts_as _ _ (ap outline_of_item (rolls-Extends inside) ∙ at_Extends inside) (counts_mods clause.mods)
step_item (Item-F.Member element) = counts_as _ _ (ap outline_of_item (rolls-Member element.0) ∙ at_Member element.0) element.1
step_item (Item-F.Equations initial equations) = counts_as _ _ (ap outline_of_item (rolls-Equations initial equations) ∙ at_Equations initial equations) counts_nothing
step_item (Item-F.Algorithm initial statements) = counts_as _ _ (ap outline_of_item (rolls-Algorithm initial statements) ∙ at_Algorithm initial statements) counts_nothing

step_what : (node : What-F CountsBody CountsGive CountsItem CountsWhat CountsElement) →
    Counts (outline_of_what (roll-What (map-What CountsBody CountsGive CountsItem CountsWhat CountsElement Body Give Item What Element (λ t. t.0) (λ t. t.0) (λ t. t.0) (λ t. t.0) (λ t. t.0) node)))
step_what (What-F.Class class) =
    let inside : ClassDefOf Body = record { kind = class.kind; flags = class.flags; name = class.name; place = class.place; body = class.body.0 } in
    counts_as _ _ (ap outline_of_what (rolls-Class inside) ∙ at_Class inside) (counts_class false (with_outline inside) class.body.1)
step_what (What-F.Component component) =
    let inside : ComponentOf Give = record {
      prefix = component.prefix;
      base = component.base;
      base_subs = component.base_subs;
      name = component.name;
      place = component.place;
      subs = component.subs;
      mods = mods_of component.mods;
      binding = component.binding;
      condition = component.condition;
    } in
    counts_as _ _ (ap outline_of_what (rolls-Component inside) ∙ at_Component inside)
    (counts_declares inside (outline_of_mods (mods_of component.mods)) (counts_mods component.mods))

step_element : (node : Element-F CountsBody CountsGive CountsItem CountsWhat CountsElement) →
    Counts (outline_of_element (roll-Element (map-Element CountsBody CountsGive CountsItem CountsWhat CountsElement Body Give Item What Element (λ t. t.0) (λ t. t.0) (λ t. t.0) (λ t. t.0) (λ t. t.0) node)))
step_element node = at_limit node.flags node.what node.limit
  where
    at_limit : (flags : ElementFlags) (what : CountsWhat) (limit : Option (ReferenceOf Expr × ModsOf CountsGive)) →
        Counts (outline_of_element (roll-Element (map-Element CountsBody CountsGive CountsItem CountsWhat CountsElement Body Give Item What Element (λ t. t.0) (λ t. t.0) (λ t. t.0) (λ t. t.0) (λ t. t.0)
        (record { flags = flags; what = what; limit = limit }))))
    at_limit flags what None = counts_as _ _ (rolled flags what.0 None)
        (counts_both (marked flags.redeclare (outline_of_what what.0)) nothing (counts_marked flags.redeclare (outline_of_what what.0) what.1) counts_nothing)
    at_limit flags what (Some limit) = counts_as _ _ (rolled flags what.0 (Some (limit.0, mods_of limit.1)))
        (counts_both (marked flags.redeclare (outline_of_what what.0)) (outline_of_mods (mods_of limit.1)) (counts_marked flags.redeclare (outline_of_what what.0) what.1) (counts_mods limit.1))

counts_body : (body : Body) → Counts (outline_of_body body)
counts_body = ind-Body (λ b. Counts (outline_of_body b)) (λ g. Counts (outline_of_give g)) (λ i. Counts (outline_of_item i)) (λ w. Counts (outline_of_what w)) (λ e. Counts (outline_of_element e))
    (λ x y is. subst (λ z. Counts (outline_of_body (roll-Body z))) is (step_body y))
    (λ x y is. subst (λ z. Counts (outline_of_give (roll-Give z))) is (step_give y))
    (λ x y is. subst (λ z. Counts (outline_of_item (roll-Item z))) is (step_item y))
    (λ x y is. subst (λ z. Counts (outline_of_what (roll-What z))) is (step_what y))
    (λ x y is. subst (λ z. Counts (outline_of_element (roll-Element z))) is (step_element y))

-- ---- files

counts_classes : (classes : List (ClassDefOf Body)) → Counts (each (λ class. in_class true (with_outline class)) classes)
counts_classes [] = counts_nothing
counts_classes (class ∷ classes) =
    counts_both (in_class true (with_outline class)) (each (λ class. in_class true (with_outline class)) classes)
    (counts_class true (with_outline class) (counts_body class.body)) (counts_classes classes)

counts_files : (files : List FileTree) → Counts (each in_file files)
counts_files [] = counts_nothing
counts_files (file ∷ files) = counts_both (in_file file) (each in_file files) (λ home n. counts_classes file.classes (Under _) n) (counts_files files)

pub entries_numbered : (files : List FileTree) → map (λ entry. entry.row.number) (entries_of files) ≡ numbers_from first_number (class_count files)
entries_numbered files = counts_files files Apart first_number

rows_numbered : (files : List FileTree) (entries all : List ClassEntry) → map (λ row. row.number) (map (row_of files (number_among all)) entries) ≡ map (λ entry. entry.row.number) entries
rows_numbered files [] all = refl
rows_numbered files (entry ∷ entries) all = ap (λ l. entry.row.number ∷ l) (rows_numbered files entries all)

-- the row with so many others before it has that number and 6
pub table_numbered : (files : List FileTree) → map (λ row. row.number) (table_of files) ≡ numbers_from first_number (class_count files)
table_numbered files = rows_numbered files (entries_of files) (entries_of files) ∙ entries_numbered files
