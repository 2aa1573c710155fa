-- What the search for a path finds in each part of a tree.
use Rattle.std.proofs.Common.{◌≡◌, ℕ, ◌+◌, ◌<◌, suc, Bool, true, false, List, [], ◌∷◌, ◌++◌, length, take, drop, sum_by, get_or, Option, Some, None, refl, ap, sym, ◌∙◌, subst, append_assoc, arith, take_all, length-append, min, add-one}
use Rattle.std.proofs.lemmas.List.Sums.{sum_by-cons}
use Rattle.std.proofs.lemmas.List.{length-take-le, take-append-drop}
use Rattle.std.proofs.Math.Seq.{drop-cons}
use Rattle.std.specs.Prelude.{if◌then◌else◌}
use Rattle.mo_syntax.specs.declared.equation.EquationKind.{EquationKind}
use Rattle.mo_syntax.specs.declared.equation.EquationOf.{EquationOf}
use Rattle.mo_syntax.specs.declared.equation.StatementKind.{StatementKind}
use Rattle.mo_syntax.specs.declared.equation.StatementOf.{StatementOf}
use Rattle.mo_syntax.specs.declared.expr.Expr.{Expr}
use Rattle.mo_syntax.specs.declared.expr.ReferenceOf.{ReferenceOf}
use Rattle.mo_syntax.specs.declared.class.ArgumentOf.{ArgumentOf}
use Rattle.mo_syntax.specs.declared.class.Body.{Body}
use Rattle.mo_syntax.specs.declared.class.Body.TheVariants.{Long, Short, Enumeration, Der}
use Rattle.mo_syntax.specs.declared.class.Causal.{Causal}
use Rattle.mo_syntax.specs.declared.class.ClassDefOf.{ClassDefOf}
use Rattle.mo_syntax.specs.declared.class.ComponentOf.{ComponentOf}
use Rattle.mo_syntax.specs.declared.class.Element.{Element, out-Element}
use Rattle.mo_syntax.specs.declared.class.ExtendsOf.{ExtendsOf}
use Rattle.mo_syntax.specs.declared.class.FileTree.{FileTree}
use Rattle.mo_syntax.specs.declared.class.Give.{Give}
use Rattle.mo_syntax.specs.declared.class.Import.{Import}
use Rattle.mo_syntax.specs.declared.class.Item.{Item}
use Rattle.mo_syntax.specs.declared.class.Item.TheVariants.{Import as imports, Extends, Member, Equations, Algorithm}
use Rattle.mo_syntax.specs.declared.class.ModsOf.{ModsOf}
use Rattle.mo_syntax.specs.declared.class.What.{What}
use Rattle.mo_syntax.specs.declared.class.What.TheVariants.{Class, Component}
use Rattle.mo_syntax.specs.Classes.{Home, Under, Apart, ClassRow, Outline, both, each, outline_of_body, outline_of_give, outline_of_item, outline_of_what, outline_of_element}
use Rattle.mo_syntax.specs.ClassTable.{path_eq, otherwise, first_row, with_outline, in_file, names_of}
use Rattle.mo_syntax.specs.steps.Parts.{marked, outline_of_class, outline_of_mods, outline_of_extending, outline_of_limit, classes_in_extending, classes_in_body, classes_in_item}
use Rattle.mo_syntax.specs.Rows.{IsPassed}
use Rattle.mo_syntax.proofs.ClassCounts.{of_Long}
use Rattle.mo_syntax.proofs.Outlines.{at_Long, at_Short, at_Enumeration, at_Der, at_Import, at_Extends, at_Member, at_Equations, at_Algorithm, at_Class, at_Component, at_Element}
use Rattle.mo_syntax.proofs.Searching.{passed, paths_same, path_eq_same, untrue, first_row_append, quiet_body, quiet_give, quiet_what}

-- what stands in modifiers has no path
none_in_arguments : (path : List (List ℕ)) (xs : List (ArgumentOf Give)) (n : ℕ) → first_row path ((each (λ argument. outline_of_give argument.give) xs).declared Apart n) ≡ None
none_in_arguments path [] n = refl
none_in_arguments path (x ∷ xs) n = first_row_append path ((outline_of_give x.give).declared Apart n) ((each (λ argument. outline_of_give argument.give) xs).declared Apart (n + (outline_of_give x.give).classes))
    ∙ ap (λ r. otherwise r (first_row path ((each (λ argument. outline_of_give argument.give) xs).declared Apart (n + (outline_of_give x.give).classes)))) (quiet_give path x.give Apart n tt)
    ∙ none_in_arguments path xs (n + (outline_of_give x.give).classes)

none_in_mods : (path : List (List ℕ)) (mods : ModsOf Give) (home : Home) (n : ℕ) → first_row path ((outline_of_mods mods).declared home n) ≡ None
none_in_mods path mods home n = none_in_arguments path mods.0 n

none_in_extending : (path : List (List ℕ)) (mods : Option (ModsOf Give)) (home : Home) (n : ℕ) → first_row path ((outline_of_extending mods).declared home n) ≡ None
none_in_extending path None home n = refl
none_in_extending path (Some mods) home n = none_in_mods path mods home n

none_in_limit : (path : List (List ℕ)) (limit : Option (ReferenceOf Expr × ModsOf Give)) (home : Home) (n : ℕ) → first_row path ((outline_of_limit limit).declared home n) ≡ None
none_in_limit path None home n = refl
none_in_limit path (Some limit) home n = none_in_mods path limit.1 home n

or_none : {A : Type 0} (r : Option A) → otherwise r None ≡ r
or_none None = refl
or_none (Some a) = refl

-- one part behind the other
of_both : (path : List (List ℕ)) (a b : Outline) (home : Home) (n : ℕ) →
    first_row path ((both a b).declared home n) ≡ otherwise (first_row path (a.declared home n)) (first_row path (b.declared home (n + a.classes)))
of_both path a b home n = first_row_append path (a.declared home n) (b.declared home (n + a.classes))

at_part : (path : List (List ℕ)) (home : Home) (n : ℕ) (a b : Outline) → a ≡ b → first_row path (a.declared home n) ≡ first_row path (b.declared home n)
at_part path home n a b same = ap (λ (o : Outline). first_row path (o.declared home n)) same

-- ---- bodies of classes

pub in_Long : (path : List (List ℕ)) (home : Home) (n : ℕ) (extending : Option (ModsOf Give)) (items : List Item) (external : Bool) →
    first_row path ((outline_of_body (Long extending items external)).declared home n) ≡ first_row path ((each outline_of_item items).declared home (n + classes_in_extending extending))
in_Long path home n extending items external = at_part path home n _ _ (at_Long extending items external)
    ∙ of_both path (outline_of_extending extending) (each outline_of_item items) home n
    ∙ ap (λ r. otherwise r (first_row path ((each outline_of_item items).declared home (n + classes_in_extending extending)))) (none_in_extending path extending home n)

pub in_Short : (path : List (List ℕ)) (home : Home) (n : ℕ) (causal : Causal) (base : ReferenceOf Expr) (subs : List (Option Expr)) (mods : ModsOf Give) →
    None ≡ first_row path ((outline_of_body (Short causal base subs mods)).declared home n)
in_Short path home n causal base subs mods = sym (at_part path home n _ _ (at_Short causal base subs mods) ∙ none_in_mods path mods home n)

pub in_Enumeration : (path : List (List ℕ)) (home : Home) (n : ℕ) (literals : Option (List (List ℕ))) → None ≡ first_row path ((outline_of_body (Enumeration literals)).declared home n)
in_Enumeration path home n literals = sym (at_part path home n _ _ (at_Enumeration literals))

pub in_Der : (path : List (List ℕ)) (home : Home) (n : ℕ) (function : ReferenceOf Expr) (names : List (List ℕ)) → None ≡ first_row path ((outline_of_body (Der function names)).declared home n)
in_Der path home n function names = sym (at_part path home n _ _ (at_Der function names))

-- ---- parts of a class

pub in_Member : (path : List (List ℕ)) (home : Home) (n : ℕ) (element : Element) → first_row path ((outline_of_item (Member element)).declared home n) ≡ first_row path ((outline_of_element element).declared home n)
in_Member path home n element = at_part path home n _ _ (at_Member element)

pub in_Import : (path : List (List ℕ)) (home : Home) (n : ℕ) (clause : Import) → None ≡ first_row path ((outline_of_item (imports clause)).declared home n)
in_Import path home n clause = sym (at_part path home n _ _ (at_Import clause))

pub in_Extends : (path : List (List ℕ)) (home : Home) (n : ℕ) (clause : ExtendsOf Give) → None ≡ first_row path ((outline_of_item (Extends clause)).declared home n)
in_Extends path home n clause = sym (at_part path home n _ _ (at_Extends clause) ∙ none_in_mods path clause.mods home n)

pub in_Equations : (path : List (List ℕ)) (home : Home) (n : ℕ) (initial : Bool) (equations : List (EquationOf EquationKind)) → None ≡ first_row path ((outline_of_item (Equations initial equations)).declared home n)
in_Equations path home n initial equations = sym (at_part path home n _ _ (at_Equations initial equations))

pub in_Algorithm : (path : List (List ℕ)) (home : Home) (n : ℕ) (initial : Bool) (statements : List (StatementOf StatementKind)) → None ≡ first_row path ((outline_of_item (Algorithm initial statements)).declared home n)
in_Algorithm path home n initial statements = sym (at_part path home n _ _ (at_Algorithm initial statements))

of_element : (path : List (List ℕ)) (home : Home) (n : ℕ) (element : Element) →
    first_row path ((outline_of_element element).declared home n) ≡ first_row path ((marked (out-Element element).flags.redeclare (outline_of_what (out-Element element).what)).declared home n)
of_element path home n element =
    let part : Outline = marked (out-Element element).flags.redeclare (outline_of_what (out-Element element).what) in
    at_part path home n _ _ (at_Element element)
    ∙ of_both path part (outline_of_limit (out-Element element).limit) home n
    ∙ ap (otherwise (first_row path (part.declared home n))) (none_in_limit path (out-Element element).limit home (n + part.classes))
    ∙ or_none (first_row path (part.declared home n))

pub in_redeclared : (path : List (List ℕ)) (home : Home) (n : ℕ) (element : Element) → (out-Element element).flags.redeclare ≡ true → None ≡ first_row path ((outline_of_element element).declared home n)
in_redeclared path home n element h = sym (of_element path home n element
    ∙ ap (λ b. first_row path ((marked b (outline_of_what (out-Element element).what)).declared home n)) h ∙ quiet_what path (out-Element element).what Apart n tt)

of_kept : (path : List (List ℕ)) (home : Home) (n : ℕ) (element : Element) (what : What) → (out-Element element).flags.redeclare ≡ false → (out-Element element).what ≡ what →
    first_row path ((outline_of_element element).declared home n) ≡ first_row path ((outline_of_what what).declared home n)
of_kept path home n element what h k = of_element path home n element
    ∙ ap (λ b. first_row path ((marked b (outline_of_what (out-Element element).what)).declared home n)) h ∙ ap (λ w. first_row path ((outline_of_what w).declared home n)) k

pub in_kept_class : (path : List (List ℕ)) (home : Home) (n : ℕ) (element : Element) (class : ClassDefOf Body) → (out-Element element).flags.redeclare ≡ false → (out-Element element).what ≡ Class class →
    first_row path ((outline_of_class false class).declared home n) ≡ first_row path ((outline_of_element element).declared home n)
in_kept_class path home n element class h k = sym (of_kept path home n element (Class class) h k ∙ at_part path home n _ _ (at_Class class))

pub in_kept_component : (path : List (List ℕ)) (home : Home) (n : ℕ) (element : Element) (component : ComponentOf Give) → (out-Element element).flags.redeclare ≡ false → (out-Element element).what ≡ Component component →
    None ≡ first_row path ((outline_of_element element).declared home n)
in_kept_component path home n element component h k = sym (of_kept path home n element (Component component) h k ∙ at_part path home n _ _ (at_Component component) ∙ none_in_mods path component.mods home n)

-- ---- a class

pub missed : (path : List (List ℕ)) (at : ℕ) (outermost : Bool) (class : ClassDefOf Body) (n : ℕ) → IsPassed path (take at path ++ class.name ∷ []) →
    None ≡ first_row path ((outline_of_class outermost class).declared (Under (take at path)) n)
missed path at outermost class n h = sym (passed path (take at path) outermost (with_outline class) n (quiet_body path class.body) h)

pub found : (path : List (List ℕ)) (at : ℕ) (outermost : Bool) (class : ClassDefOf Body) (n : ℕ) → take at path ++ class.name ∷ [] ≡ take (at + 1) path → at + 1 ≡ length path →
    Some (record { number = n; class = class; outermost = outermost }) ≡ first_row path ((outline_of_class outermost class).declared (Under (take at path)) n)
found path at outermost class n same last =
    let here : List (List ℕ) = take at path ++ class.name ∷ [] in
    let whole : here ≡ path = same ∙ take_all (at + 1) path (omega arith) in
    sym (ap (λ b. otherwise (if b then Some (record { number = n; class = class; outermost = outermost }) else None) (first_row path ((outline_of_body class.body).declared (Under here) (n + 1))))
    (ap (λ p. path_eq p path) whole ∙ path_eq_same path))

pub below : (path : List (List ℕ)) (at : ℕ) (outermost : Bool) (class : ClassDefOf Body) (n : ℕ) → take at path ++ class.name ∷ [] ≡ take (at + 1) path → (at + 1 ≡ length path → ⊥) → at < length path →
    first_row path ((outline_of_body class.body).declared (Under (take (at + 1) path)) (n + 1)) ≡ first_row path ((outline_of_class outermost class).declared (Under (take at path)) n)
below path at outermost class n same more inside =
    let here : List (List ℕ) = take at path ++ class.name ∷ [] in
    let other : path_eq here path ≡ false = untrue _ (λ equal. more (lengths (paths_same here path equal))) in
    sym (ap (λ b. otherwise (if b then Some (record { number = n; class = class; outermost = outermost }) else None) (first_row path ((outline_of_body class.body).declared (Under here) (n + 1)))) other
    ∙ ap (λ p. first_row path ((outline_of_body class.body).declared (Under p) (n + 1))) same)
  where
    lengths : take at path ++ class.name ∷ [] ≡ path → at + 1 ≡ length path
    lengths equal = omega (arith, ap length equal, length-append (take at path) (class.name ∷ []), length-take-le at path)

-- ---- lists

pub goes_on : {A : Type 0} (f : A → Outline) (path : List (List ℕ)) (home : Home) (xs ys : List A) (x : A) (n m : ℕ) → xs ≡ x ∷ ys → m ≡ n + (f x).classes →
    None ≡ first_row path ((f x).declared home n) → first_row path ((each f ys).declared home m) ≡ first_row path ((each f xs).declared home n)
goes_on f path home xs ys x n m front count none =
    ap (λ k. first_row path ((each f ys).declared home k)) count
    ∙ sym (ap (λ l. first_row path ((each f l).declared home n)) front ∙ of_both path (f x) (each f ys) home n
    ∙ ap (λ r. otherwise r (first_row path ((each f ys).declared home (n + (f x).classes)))) (sym none))

pub stops : {A : Type 0} (f : A → Outline) (path : List (List ℕ)) (home : Home) (xs ys : List A) (x : A) (n : ℕ) (row : ClassRow) → xs ≡ x ∷ ys →
    Some row ≡ first_row path ((f x).declared home n) → Some row ≡ first_row path ((each f xs).declared home n)
stops f path home xs ys x n row front some =
    sym (ap (λ l. first_row path ((each f l).declared home n)) front ∙ of_both path (f x) (each f ys) home n
    ∙ ap (λ r. otherwise r (first_row path ((each f ys).declared home (n + (f x).classes)))) (sym some))

-- the number of what is passed over
pub counted : {A : Type 0} (g : A → ℕ) (xs ys : List A) (x : A) (n m all : ℕ) → xs ≡ x ∷ ys → n + sum_by g xs ≡ all → all < 4294967296 → m ≡ min (g x) 4294967295 → m ≡ g x
counted g xs ys x n m all front total few least =
    let sums : sum_by g xs ≡ g x + sum_by g ys = ap (sum_by g) front ∙ sum_by-cons g x ys in omega arith

pub counts_on : {A : Type 0} (g : A → ℕ) (xs ys : List A) (x : A) (n m all : ℕ) → xs ≡ x ∷ ys → n + sum_by g xs ≡ all → m ≡ g x → n + m + sum_by g ys ≡ all
counts_on g xs ys x n m all front total exact =
    let sums : sum_by g xs ≡ g x + sum_by g ys = ap (sum_by g) front ∙ sum_by-cons g x ys in omega arith

pub counts_few : {A : Type 0} (g : A → ℕ) (xs ys : List A) (x : A) (n all : ℕ) → xs ≡ x ∷ ys → n + sum_by g xs ≡ all → all < 4294967296 → n + g x < 4294967296
counts_few g xs ys x n all front total few =
    let sums : sum_by g xs ≡ g x + sum_by g ys = ap (sum_by g) front ∙ sum_by-cons g x ys in omega arith

-- an element and what is left behind it
pub front_of : {A : Type 0} (xs : List A) (i : ℕ) (x : A) → i < length xs → x ≡ get_or xs i x → drop i xs ≡ x ∷ drop (i + 1) xs
front_of xs i x inside same = rw add-one (drop-cons xs i x inside ∙ ap (λ y. y ∷ drop (suc i) xs) (sym same))

-- ---- the parts of a long class

pub extending_counted : (extending : Option (ModsOf Give)) (items : List Item) (external : Bool) (n m : ℕ) → m ≡ min (classes_in_extending extending) 4294967295 →
    n + classes_in_body (Long extending items external) < 4294967296 → m ≡ classes_in_extending extending
extending_counted extending items external n m least few = omega (arith, of_Long extending items external)

pub long_few : (extending : Option (ModsOf Give)) (items xs : List Item) (external : Bool) (n m : ℕ) → xs ≡ items → m ≡ min (classes_in_extending extending) 4294967295 →
    n + classes_in_body (Long extending items external) < 4294967296 → n + m + sum_by classes_in_item xs < 4294967296
long_few extending items xs external n m same least few = omega (arith, of_Long extending items external, ap (sum_by classes_in_item) same)

pub long_rows : (path : List (List ℕ)) (home : Home) (n m : ℕ) (extending : Option (ModsOf Give)) (items xs : List Item) (external : Bool) → xs ≡ items →
    m ≡ min (classes_in_extending extending) 4294967295 → n + classes_in_body (Long extending items external) < 4294967296 →
    first_row path ((each outline_of_item xs).declared home (n + m)) ≡ first_row path ((outline_of_body (Long extending items external)).declared home n)
long_rows path home n m extending items xs external same least few =
    ap (λ l. first_row path ((each outline_of_item l).declared home (n + m))) same
    ∙ ap (λ k. first_row path ((each outline_of_item items).declared home (n + k))) (extending_counted extending items external n m least few)
    ∙ sym (in_Long path home n extending items external)

-- ---- paths that a front leads to

regrouped : (a : List (List ℕ)) (n : List ℕ) (d : List (List ℕ)) (o : List ℕ) (rest : List (List ℕ)) → ((a ++ n ∷ d) ++ o ∷ []) ++ rest ≡ (a ++ n ∷ []) ++ (d ++ o ∷ rest)
regrouped [] n d o rest = ap (λ l. n ∷ l) (append_assoc d (o ∷ []) rest)
regrouped (x ∷ a) n d o rest = ap (λ l. x ∷ l) (regrouped a n d o rest)

pub passed_later : (path front : List (List ℕ)) (at i : ℕ) (name other : List ℕ) → i < length front → name ≡ get_or front i name → at ≡ i → take i path ≡ take i front →
    IsPassed path (take at path ++ name ∷ []) → IsPassed path (front ++ other ∷ [])
passed_later path front at i name other inside is place same misses rest whole =
    let split : front ≡ take i front ++ name ∷ drop (i + 1) front = sym (take-append-drop i front) ∙ ap (λ l. take i front ++ l) (front_of front i name inside is) in
    let begun : take i front ≡ take at path = sym same ∙ ap (λ n. take n path) (sym place) in
    misses (drop (i + 1) front ++ other ∷ rest) (whole ∙ ap (λ f. (f ++ other ∷ []) ++ rest) split
    ∙ regrouped (take i front) name (drop (i + 1) front) other rest ∙ ap (λ a. (a ++ name ∷ []) ++ (drop (i + 1) front ++ other ∷ rest)) begun)

-- ---- files

pub in_file_begun : (path : List (List ℕ)) (file : FileTree) (n at : ℕ) (front : List (List ℕ)) → take at path ≡ front → front ≡ names_of file.within →
    first_row path ((each (outline_of_class true) file.classes).declared (Under (take at path)) n) ≡ first_row path ((in_file file).declared Apart n)
in_file_begun path file n at front begun names = ap (λ p. first_row path ((each (outline_of_class true) file.classes).declared (Under p) n)) (begun ∙ names)

passed_classes : (path front : List (List ℕ)) (classes : List (ClassDefOf Body)) (n : ℕ) → ((name : List ℕ) → IsPassed path (front ++ name ∷ [])) →
    first_row path ((each (outline_of_class true) classes).declared (Under front) n) ≡ None
passed_classes path front [] n h = refl
passed_classes path front (x ∷ xs) n h = of_both path (outline_of_class true x) (each (outline_of_class true) xs) (Under front) n
    ∙ ap (λ r. otherwise r (first_row path ((each (outline_of_class true) xs).declared (Under front) (n + (outline_of_class true x).classes)))) (passed path front true (with_outline x) n (quiet_body path x.body) (h x.name))
    ∙ passed_classes path front xs (n + (outline_of_class true x).classes) h

pub in_file_passed : (path : List (List ℕ)) (file : FileTree) (n : ℕ) (front : List (List ℕ)) → front ≡ names_of file.within → ((name : List ℕ) → IsPassed path (front ++ name ∷ [])) →
    None ≡ first_row path ((in_file file).declared Apart n)
in_file_passed path file n front names h = sym (passed_classes path (names_of file.within) file.classes n (subst (λ f. (name : List ℕ) → IsPassed path (f ++ name ∷ [])) names h))
