-- The places in the parts of a tree, by its own parts.
use Rattle.std.proofs.Common.{◌≡◌, List, [], ◌∷◌, ◌++◌, map, flat_map, Option, Some, None, refl, ap, sym, ◌∙◌}
use Rattle.mo_syntax.specs.declared.expr.Expr.{Expr}
use Rattle.mo_syntax.specs.declared.expr.ReferenceOf.{ReferenceOf}
use Rattle.mo_syntax.specs.declared.class.ArgumentOf.{ArgumentOf}
use Rattle.mo_syntax.specs.declared.class.Body.{Body, Body-F, out-Body, roll-Body, roll-out-Body, fold-roll-Body}
use Rattle.mo_syntax.specs.declared.class.Element.{Element, out-Element, roll-Element, roll-out-Element, fold-roll-Element}
use Rattle.mo_syntax.specs.declared.class.ElementFlags.{ElementFlags}
use Rattle.mo_syntax.specs.declared.class.Give.{Give, Give-F, out-Give, roll-Give, roll-out-Give, fold-roll-Give}
use Rattle.mo_syntax.specs.declared.class.Item.{Item, Item-F, out-Item, roll-Item, roll-out-Item, fold-roll-Item}
use Rattle.mo_syntax.specs.declared.class.ModsOf.{ModsOf}
use Rattle.mo_syntax.specs.declared.class.What.{What, What-F, out-What, roll-What, roll-out-What, fold-roll-What}
use Rattle.mo_places.specs.Written.{At, Stated}
use Rattle.mo_places.specs.TreeWritten.{Places, in_component, in_subs, in_value, places_of_parts, place_of_import, in_body, in_give, in_item, in_what, in_element, places_in_body, places_in_give, places_in_item, places_in_what, places_in_element}

pub gathered_map : {A B C : Type 0} (f : B → List C) (g : A → B) (xs : List A) → flat_map f (map g xs) ≡ flat_map (λ x. f (g x)) xs
gathered_map f g [] = refl
gathered_map f g (x ∷ xs) = ap (λ rest. f (g x) ++ rest) (gathered_map f g xs)

abbrev pub places_in_arguments : List (ArgumentOf Give) → Places
places_in_arguments arguments = flat_map (λ argument. At argument.place ∷ places_in_give argument.give) arguments

abbrev pub places_in_limit : Option (ReferenceOf Expr × ModsOf Give) → Places
places_in_limit None = []
places_in_limit (Some limit) = places_of_parts limit.0.parts ++ places_in_arguments limit.1.0

abbrev pub by_give : Give-F Body Give Item What Element → Places
by_give (Give-F.Modify mods value) = places_in_arguments mods.0 ++ in_value value
by_give (Give-F.Redeclare element) = places_in_element element
by_give (Give-F.Replaceable element) = places_in_element element

pub at_give : (give : Give) (g : Give-F Body Give Item What Element) → out-Give give ≡ g → places_in_give give ≡ by_give g
at_give give (Give-F.Modify mods value) is = ap places_in_give (sym (roll-out-Give give) ∙ ap roll-Give is)
    ∙ fold-roll-Give Places Places Places Places Places in_body in_give in_item in_what in_element (Give-F.Modify mods value)
    ∙ ap (λ front. front ++ in_value value) (gathered_map (λ x. At x.place ∷ x.give) _ mods.0)
at_give give (Give-F.Redeclare element) is = ap places_in_give (sym (roll-out-Give give) ∙ ap roll-Give is)
    ∙ fold-roll-Give Places Places Places Places Places in_body in_give in_item in_what in_element (Give-F.Redeclare element)
at_give give (Give-F.Replaceable element) is = ap places_in_give (sym (roll-out-Give give) ∙ ap roll-Give is)
    ∙ fold-roll-Give Places Places Places Places Places in_body in_give in_item in_what in_element (Give-F.Replaceable element)

abbrev pub by_what : What-F Body Give Item What Element → Places
by_what (What-F.Class class) = At class.place ∷ places_in_body class.body
by_what (What-F.Component component) = At component.place ∷ places_of_parts component.base.parts ++ (places_in_arguments component.mods.0 ++ in_component component)

pub at_what : (what : What) (w : What-F Body Give Item What Element) → out-What what ≡ w → places_in_what what ≡ by_what w
at_what what (What-F.Class class) is = ap places_in_what (sym (roll-out-What what) ∙ ap roll-What is)
    ∙ fold-roll-What Places Places Places Places Places in_body in_give in_item in_what in_element (What-F.Class class)
at_what what (What-F.Component component) is = ap places_in_what (sym (roll-out-What what) ∙ ap roll-What is)
    ∙ fold-roll-What Places Places Places Places Places in_body in_give in_item in_what in_element (What-F.Component component)
    ∙ ap (λ rest. At component.place ∷ places_of_parts component.base.parts ++ (rest ++ in_component component)) (gathered_map (λ x. At x.place ∷ x.give) _ component.mods.0)

pub rolled : (flags : ElementFlags) (what : What) (limit : Option (ReferenceOf Expr × ModsOf Give)) →
    places_in_element (roll-Element (record { flags = flags; what = what; limit = limit })) ≡ places_in_what what ++ places_in_limit limit
rolled flags what None =
    fold-roll-Element Places Places Places Places Places in_body in_give in_item in_what in_element (record { flags = flags; what = what; limit = None })
rolled flags what (Some limit) =
    fold-roll-Element Places Places Places Places Places in_body in_give in_item in_what in_element (record { flags = flags; what = what; limit = Some limit })
    ∙ ap (λ rest. places_in_what what ++ (places_of_parts limit.0.parts ++ rest)) (gathered_map (λ x. At x.place ∷ x.give) _ limit.1.0)

pub at_element : (element : Element) → places_in_element element ≡ places_in_what (out-Element element).what ++ places_in_limit (out-Element element).limit
at_element element = ap places_in_element (sym (roll-out-Element element)) ∙ rolled (out-Element element).flags (out-Element element).what (out-Element element).limit

abbrev pub places_in_extending : Option (ModsOf Give) → Places
places_in_extending None = []
places_in_extending (Some mods) = places_in_arguments mods.0

abbrev pub by_body : Body-F Body Give Item What Element → Places
by_body (Body-F.Long extending items external) = places_in_extending extending ++ flat_map places_in_item items
by_body (Body-F.Short causal base subs mods) = places_of_parts base.parts ++ (places_in_arguments mods.0 ++ in_subs subs)
by_body (Body-F.Enumeration literals) = []
by_body (Body-F.Der function names) = []

pub at_body : (body : Body) (b : Body-F Body Give Item What Element) → out-Body body ≡ b → places_in_body body ≡ by_body b
at_body body (Body-F.Long None items external) is = ap places_in_body (sym (roll-out-Body body) ∙ ap roll-Body is)
    ∙ fold-roll-Body Places Places Places Places Places in_body in_give in_item in_what in_element (Body-F.Long None items external)
    ∙ gathered_map (λ item. item) places_in_item items
at_body body (Body-F.Long (Some mods) items external) is = ap places_in_body (sym (roll-out-Body body) ∙ ap roll-Body is)
    ∙ fold-roll-Body Places Places Places Places Places in_body in_give in_item in_what in_element (Body-F.Long (Some mods) items external)
    ∙ ap (λ front. front ++ flat_map (λ item. item) (map places_in_item items)) (gathered_map (λ x. At x.place ∷ x.give) _ mods.0)
    ∙ ap (λ rest. places_in_arguments mods.0 ++ rest) (gathered_map (λ item. item) places_in_item items)
at_body body (Body-F.Short causal base subs mods) is = ap places_in_body (sym (roll-out-Body body) ∙ ap roll-Body is)
    ∙ fold-roll-Body Places Places Places Places Places in_body in_give in_item in_what in_element (Body-F.Short causal base subs mods)
    ∙ ap (λ rest. places_of_parts base.parts ++ (rest ++ in_subs subs)) (gathered_map (λ x. At x.place ∷ x.give) _ mods.0)
at_body body (Body-F.Enumeration literals) is = ap places_in_body (sym (roll-out-Body body) ∙ ap roll-Body is)
    ∙ fold-roll-Body Places Places Places Places Places in_body in_give in_item in_what in_element (Body-F.Enumeration literals)
at_body body (Body-F.Der function names) is = ap places_in_body (sym (roll-out-Body body) ∙ ap roll-Body is)
    ∙ fold-roll-Body Places Places Places Places Places in_body in_give in_item in_what in_element (Body-F.Der function names)

abbrev pub by_item : Item-F Body Give Item What Element → Places
by_item (Item-F.Import clause) = At (place_of_import clause) ∷ []
by_item (Item-F.Extends clause) = places_of_parts clause.base.parts ++ places_in_arguments clause.mods.0
by_item (Item-F.Member element) = places_in_element element
by_item (Item-F.Equations initial equations) = map Stated equations
by_item (Item-F.Algorithm initial statements) = []

pub at_item : (item : Item) (i : Item-F Body Give Item What Element) → out-Item item ≡ i → places_in_item item ≡ by_item i
at_item item (Item-F.Import clause) is = ap places_in_item (sym (roll-out-Item item) ∙ ap roll-Item is)
    ∙ fold-roll-Item Places Places Places Places Places in_body in_give in_item in_what in_element (Item-F.Import clause)
at_item item (Item-F.Extends clause) is = ap places_in_item (sym (roll-out-Item item) ∙ ap roll-Item is)
    ∙ fold-roll-Item Places Places Places Places Places in_body in_give in_item in_what in_element (Item-F.Extends clause)
    ∙ ap (λ rest. places_of_parts clause.base.parts ++ rest) (gathered_map (λ x. At x.place ∷ x.give) _ clause.mods.0)
at_item item (Item-F.Member element) is = ap places_in_item (sym (roll-out-Item item) ∙ ap roll-Item is)
    ∙ fold-roll-Item Places Places Places Places Places in_body in_give in_item in_what in_element (Item-F.Member element)
at_item item (Item-F.Equations initial equations) is = ap places_in_item (sym (roll-out-Item item) ∙ ap roll-Item is)
    ∙ fold-roll-Item Places Places Places Places Places in_body in_give in_item in_what in_element (Item-F.Equations initial equations)
at_item item (Item-F.Algorithm initial statements) is = ap places_in_item (sym (roll-out-Item item) ∙ ap roll-Item is)
    ∙ fold-roll-Item Places Places Places Places Places in_body in_give in_item in_what in_element (Item-F.Algorithm initial statements)
