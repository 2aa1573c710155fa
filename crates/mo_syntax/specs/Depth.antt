-- How deep classes stand in each other: one for a class, and one more than the deepest class among its elements.
-- The class of a redeclaring or replaceable argument of a modifier list is not counted.
use Rattle.std.specs.Prelude.{ℕ, ◌+◌, max, List, fold}
use Rattle.mo_syntax.specs.declared.class.ClassDefOf.{ClassDefOf}
use Rattle.mo_syntax.specs.declared.class.Body.{Body, Body-F, fold-Body}
use Rattle.mo_syntax.specs.declared.class.Give.{Give-F}
use Rattle.mo_syntax.specs.declared.class.Item.{Item, Item-F, fold-Item}
use Rattle.mo_syntax.specs.declared.class.What.{What, What-F, fold-What}
use Rattle.mo_syntax.specs.declared.class.Element.{Element, Element-F, fold-Element}

-- the greatest of the numbers that the elements of a list give, 0 for none
abbrev pub greatest_by : {A : Type 0} → (A → ℕ) → List A → ℕ
greatest_by f xs = fold (λ n x. max n (f x)) 0 xs

abbrev pub in_body : Body-F ℕ (Unit {0}) ℕ ℕ ℕ → ℕ
in_body (Body-F.Long extending items external) = greatest_by (λ n. n) items
in_body (Body-F.Short causal base subs mods) = 0
in_body (Body-F.Enumeration literals) = 0
in_body (Body-F.Der function names) = 0

abbrev pub in_give : Give-F ℕ (Unit {0}) ℕ ℕ ℕ → Unit {0}
in_give give = tt

abbrev pub in_item : Item-F ℕ (Unit {0}) ℕ ℕ ℕ → ℕ
in_item (Item-F.Import clause) = 0
in_item (Item-F.Extends clause) = 0
in_item (Item-F.Member element) = element
in_item (Item-F.Equations initial equations) = 0
in_item (Item-F.Algorithm initial statements) = 0

abbrev pub in_what : What-F ℕ (Unit {0}) ℕ ℕ ℕ → ℕ
in_what (What-F.Class class) = 1 + class.body
in_what (What-F.Component component) = 0

abbrev pub in_element : Element-F ℕ (Unit {0}) ℕ ℕ ℕ → ℕ
in_element element = element.what

abbrev pub depth_in_body : Body → ℕ
depth_in_body = fold-Body ℕ (Unit {0}) ℕ ℕ ℕ in_body in_give in_item in_what in_element

abbrev pub depth_in_item : Item → ℕ
depth_in_item = fold-Item ℕ (Unit {0}) ℕ ℕ ℕ in_body in_give in_item in_what in_element

abbrev pub depth_in_what : What → ℕ
depth_in_what = fold-What ℕ (Unit {0}) ℕ ℕ ℕ in_body in_give in_item in_what in_element

abbrev pub depth_in_element : Element → ℕ
depth_in_element = fold-Element ℕ (Unit {0}) ℕ ℕ ℕ in_body in_give in_item in_what in_element

-- the depth of a class
abbrev pub depth_of : ClassDefOf Body → ℕ
depth_of class = 1 + depth_in_body class.body
