-- The value for a path, one saying after another.
use Rattle.std.proofs.Common.{◌≡◌, ℕ, zero, suc, ◌+◌, ◌<◌, ◌≤◌, Bool, true, false, List, [], ◌∷◌, ◌++◌, length, map, flat_map, take, drop, get_or, set, Option, Some, None, refl, ap, sym, subst, ◌∙◌, arith, append_assoc}
use Rattle.std.proofs.lemmas.List.{drop_more, drop_all}
use Rattle.std.specs.Prelude.{if◌then◌else◌}
use Rattle.mo_syntax.specs.declared.expr.Expr.{Expr}
use Rattle.mo_syntax.specs.declared.expr.ReferenceOf.{ReferenceOf}
use Rattle.mo_syntax.specs.declared.class.ArgumentOf.{ArgumentOf}
use Rattle.mo_syntax.specs.declared.class.Body.{Body}
use Rattle.mo_syntax.specs.declared.class.Element.{Element, out-Element}
use Rattle.mo_syntax.specs.declared.class.Give.{Give, Give-F, out-Give}
use Rattle.mo_syntax.specs.declared.class.Item.{Item}
use Rattle.mo_syntax.specs.declared.class.ModsOf.{ModsOf}
use Rattle.mo_syntax.specs.declared.class.What.{What, What-F, out-What}
use Rattle.mo_scope.specs.Rows.{Table, Modifiers, Declares, declared_by}
use Rattle.mo_scope.specs.Frames.{Source, Listed, Argued}
use Rattle.mo_scope.specs.Parts.{Picked, Saying, Modifies, Redeclares, Redeclaration, brought, declared_in, held, is_nothing, or_own, picked, picked_here, said, said_behind, said_by_all, said_further, said_in_list, sources_said, with_list}
use Rattle.mo_scope.specs.steps.Picks.{name_at, or_else, picked_said, picked_with}

-- where every redeclaration wins, this is the value that is picked
pub all_win : {A : Type 0} (table : Table) (xs : List A) (sources : List Source) (names : List (List ℕ)) → picked_with table (map (λ x. true) xs) sources names ≡ picked table sources names
all_win table xs sources [] = refl
all_win table [] sources (name ∷ names) = all_win {A = Bool} table [] (sources_said true (said_by_all table name [] sources)) names
all_win table (x ∷ xs) sources (name ∷ names) = all_win table xs (sources_said true (said_by_all table name [] sources)) names

-- ---- one name of the path

pub picked_first : (table : Table) (wins : List Bool) (sources : List Source) (name : List ℕ) (names : List (List ℕ)) → picked_with table wins sources (name ∷ names) ≡ picked_said table wins (said_by_all table name [] sources) names
picked_first table [] sources name names = refl
picked_first table (first ∷ wins) sources name names = refl

names_from : (names : List (List ℕ)) (at : ℕ) → at < length names → drop at names ≡ name_at names at ∷ drop (at + 1) names
names_from names at below = drop_more names at [] below

pub by_given : (table : Table) (old new : List Bool) (source : Source) (more : List Source) (names : List (List ℕ)) (at : ℕ) (r : Option Picked) → at < length names →
    ((others : List Saying) → or_else r (picked_said table new others (drop (at + 1) names)) ≡ picked_said table old (said table (name_at names at) [] source ++ others) (drop (at + 1) names)) →
    or_else r (picked_with table new more (drop at names)) ≡ picked_with table old (source ∷ more) (drop at names)
by_given table old new source more names at r below is =
    ap (λ (ns : List (List ℕ)). or_else r (picked_with table new more ns)) (names_from names at below)
    ∙ ap (or_else r) (picked_first table new more (name_at names at) (drop (at + 1) names))
    ∙ is (said_by_all table (name_at names at) [] more)
    ∙ sym (picked_first table old (source ∷ more) (name_at names at) (drop (at + 1) names))
    ∙ ap (picked_with table old (source ∷ more)) (sym (names_from names at below))

pub by_value : (table : Table) (old new : List Bool) (source : Source) (more : List Source) (names : List (List ℕ)) (at : ℕ) (r : Option Picked) → length names ≤ at →
    ((others : List Source) → or_else r (picked_here others) ≡ picked_here (source ∷ others)) → or_else r (picked_with table new more (drop at names)) ≡ picked_with table old (source ∷ more) (drop at names)
by_value table old new source more names at r above is =
    ap (λ (ns : List (List ℕ)). or_else r (picked_with table new more ns)) (drop_all at names above)
    ∙ is more
    ∙ ap (picked_with table old (source ∷ more)) (sym (drop_all at names above))

-- ---- one saying after another

module _ {X : Type 0} (says : X → List Saying) (table : Table) (xs : List X) (rest : List (List ℕ)) where
  module _ (i : ℕ) (x : X) (below : i < length xs) (is : x ≡ get_or xs i x) (old new : List Bool) (more : List Saying) where
    front : flat_map says (drop i xs) ++ more ≡ says x ++ (flat_map says (drop (i + 1) xs) ++ more)
    front =
        ap (λ (ys : List X). flat_map says ys ++ more) (drop_more xs i x below ∙ ap (λ (y : X). y ∷ drop (i + 1) xs) (sym is))
        ∙ append_assoc (says x) (flat_map says (drop (i + 1) xs)) more

    -- what gives a value
    pub found_here : (p : Picked) (all : Option Picked) → ((others : List Saying) → or_else (Some p) (picked_said table new others rest) ≡ picked_said table old (says x ++ others) rest) →
        picked_said table old (flat_map says (drop i xs) ++ more) rest ≡ all → Some p ≡ all
    found_here p all here so_far = here (flat_map says (drop (i + 1) xs) ++ more) ∙ ap (λ (s : List Saying). picked_said table old s rest) (sym front) ∙ so_far

    -- what gives none
    pub passed_here : (all : Option Picked) → ((others : List Saying) → or_else None (picked_said table new others rest) ≡ picked_said table old (says x ++ others) rest) →
        picked_said table old (flat_map says (drop i xs) ++ more) rest ≡ all → picked_said table new (flat_map says (drop (i + 1) xs) ++ more) rest ≡ all
    passed_here all here so_far = here (flat_map says (drop (i + 1) xs) ++ more) ∙ ap (λ (s : List Saying). picked_said table old s rest) (sym front) ∙ so_far

  pub found_nowhere : (i : ℕ) → length xs ≤ i → (wins : List Bool) (more : List Saying) (all : Option Picked) → picked_said table wins (flat_map says (drop i xs) ++ more) rest ≡ all →
      or_else None (picked_said table wins more rest) ≡ all
  found_nowhere i above wins more all so_far = ap (λ (ys : List X). picked_said table wins (flat_map says ys ++ more) rest) (sym (drop_all i xs above)) ∙ so_far

-- ---- whether a redeclaration wins

pub drop_set : (xs : List Bool) (at : ℕ) (b : Bool) → at < length xs → drop at (set xs at b) ≡ b ∷ drop (suc at) xs
drop_set [] at b below = absurd (omega (arith, below))
drop_set (x ∷ xs) zero b below = refl
drop_set (x ∷ xs) (suc at) b below = let less : at < length xs = omega (arith, below) in drop_set xs at b less

pub take_set : (xs : List Bool) (at : ℕ) (b : Bool) → take at (set xs at b) ≡ take at xs
take_set [] at b = refl
take_set (x ∷ xs) zero b = refl
take_set (x ∷ xs) (suc at) b = ap (λ (ys : List Bool). x ∷ ys) (take_set xs at b)

-- what was kept of one more is kept of so many
pub taken_less : (xs ys : List Bool) (at : ℕ) → take (suc at) xs ≡ take (suc at) ys → take at xs ≡ take at ys
taken_less xs ys zero same = refl
taken_less [] [] (suc at) same = refl
taken_less [] (y ∷ ys) (suc at) same = absurd cc
taken_less (x ∷ xs) [] (suc at) same = absurd cc
taken_less (x ∷ xs) (y ∷ ys) (suc at) same =
    let first : x ≡ y = cc in
    let others : take (suc at) xs ≡ take (suc at) ys = cc in
    let rest : take at xs ≡ take at ys = taken_less xs ys at others in cc

pub head_kept : (xs ys : List Bool) (at : ℕ) (b : Bool) → take (suc at) ys ≡ take (suc at) xs → drop at xs ≡ b ∷ drop (suc at) xs → drop at ys ≡ b ∷ drop (suc at) ys
head_kept [] ys zero b same is = absurd cc
head_kept (x ∷ xs) [] zero b same is = absurd cc
head_kept (x ∷ xs) (y ∷ ys) zero b same is =
    let first : y ≡ x = cc in
    let here : x ≡ b = cc in
    ap (λ (z : Bool). z ∷ ys) (first ∙ here)
head_kept [] ys (suc at) b same is = absurd cc
head_kept (x ∷ xs) [] (suc at) b same is = absurd cc
head_kept (x ∷ xs) (y ∷ ys) (suc at) b same is =
    let others : take (suc at) ys ≡ take (suc at) xs = cc in
    head_kept xs ys at b others is

-- ---- what an argument says behind one more of its names

module _ (table : Table) (argument : ArgumentOf Give) (passed : ℕ) (source : Source) where
  pub said_left : passed < length argument.name.0 → said_behind table argument passed source ≡ Modifies source
  said_left below = rw (drop_more argument.name.0 passed [] below) refl

  pub said_list : (mods : ModsOf Give) (value : Option Expr) → length argument.name.0 ≤ passed → out-Give argument.give ≡ Give-F.Modify mods value → said_behind table argument passed source ≡ Modifies source
  said_list mods value above gives = rw (drop_all passed argument.name.0 above, gives) refl

  pub said_redeclare : (element : Element) → length argument.name.0 ≤ passed → out-Give argument.give ≡ Give-F.Redeclare element →
      said_behind table argument passed source
      ≡ Redeclares (record { declares = declared_in table element; place = argument.place; keeps = (out-Element element).flags.replaceable; source = source })
  said_redeclare element above gives = rw (drop_all passed argument.name.0 above, gives) refl

  pub said_replaceable : (element : Element) → length argument.name.0 ≤ passed → out-Give argument.give ≡ Give-F.Replaceable element →
      said_behind table argument passed source
      ≡ Redeclares (record { declares = declared_in table element; place = argument.place; keeps = true; source = source })
  said_replaceable element above gives = rw (drop_all passed argument.name.0 above, gives) refl

-- ---- what declares an element, whatever the number of the class that it declares

abbrev pub brings : Bool → Declares → Modifiers
brings wins declares = if wins then declares.own else or_own declares.limit declares

pub brings_same : (wins : Bool) (element : Element) (m n : ℕ) → brings wins (declared_by element m) ≡ brings wins (declared_by element n)
brings_same wins element m n = by (out-What (out-Element element).what) wins (out-Element element).limit refl refl
  where
    by : (what : What-F Body Give Item What Element) (wins : Bool) (limit : Option (ReferenceOf Expr × ModsOf Give)) → out-What (out-Element element).what ≡ what → (out-Element element).limit ≡ limit →
        brings wins (declared_by element m) ≡ brings wins (declared_by element n)
    by (What-F.Class class) true limit is at = rw is refl
    by (What-F.Class class) false None is at = rw (is, at) refl
    by (What-F.Class class) false (Some l) is at = rw (is, at) refl
    by (What-F.Component component) true limit is at = rw is refl
    by (What-F.Component component) false None is at = rw (is, at) refl
    by (What-F.Component component) false (Some l) is at = rw (is, at) refl

pub name_same : (element : Element) (m n : ℕ) → (declared_by element m).name ≡ (declared_by element n).name
name_same element m n = by (out-What (out-Element element).what) refl
  where
    by : (what : What-F Body Give Item What Element) → out-What (out-Element element).what ≡ what → (declared_by element m).name ≡ (declared_by element n).name
    by (What-F.Class class) is = rw is refl
    by (What-F.Component component) is = rw is refl

-- ---- a redeclaration

-- nothing is brought: the next saying follows, and no redeclaration wins any more
pub anew_nothing : (table : Table) (wins : List Bool) (first : Bool) (redeclaration : Redeclaration) (more : List Saying) (rest : List (List ℕ)) → is_nothing (brought first redeclaration) ≡ true →
    picked_said table (false ∷ wins) more rest ≡ picked_said table (first ∷ wins) (Redeclares redeclaration ∷ more) rest
anew_nothing table wins first redeclaration more rest nothing = ap (λ (xs : List Source). picked_with table wins (xs ++ sources_said false more) rest) (sym without)
  where
    without : with_list redeclaration.source (brought first redeclaration) ≡ []
    without = rw nothing refl

-- a list is brought
abbrev pub listed : Redeclaration → Modifiers → Source
listed redeclaration modifiers = record {
  piece = record {
    given = Listed modifiers;
    pending = redeclaration.source.piece.pending;
    listing = redeclaration.source.piece.listing;
    last = redeclaration.source.piece.last;
    outside = false;
    origin = redeclaration.source.piece.origin;
  };
  scope = redeclaration.source.scope;
}

pub anew_listed : (table : Table) (wins : List Bool) (first : Bool) (redeclaration : Redeclaration) (more : List Saying) (rest : List (List ℕ)) → is_nothing (brought first redeclaration) ≡ false →
    picked_with table wins (listed redeclaration (brought first redeclaration) ∷ sources_said false more) rest ≡ picked_said table (first ∷ wins) (Redeclares redeclaration ∷ more) rest
anew_listed table wins first redeclaration more rest something = ap (λ (xs : List Source). picked_with table wins (xs ++ sources_said false more) rest) (sym with_one)
  where
    with_one : with_list redeclaration.source (brought first redeclaration) ≡ listed redeclaration (brought first redeclaration) ∷ []
    with_one = rw something refl

-- ---- what a call leaves

pub is_none : {A : Type 0} (r : Option A) → ((x : A) → r ≡ Some x → ⊥) → None ≡ r
is_none None h = refl
is_none (Some x) h = absurd (h x refl)

pub kept_less : (xs ys : List Bool) (at : ℕ) → take (at + 1) xs ≡ take (at + 1) ys → take at xs ≡ take at ys
kept_less xs ys at same = let next : at + 1 ≡ suc at = omega arith in taken_less xs ys at (subst (λ (n : ℕ). take n xs ≡ take n ys) next same)

pub modifies : (table : Table) (old new : List Bool) (at : ℕ) (source : Source) (more : List Saying) (rest : List (List ℕ)) (r : Option Picked) → at < length old → take (at + 1) new ≡ take (at + 1) old →
    ((others : List Source) → or_else r (picked_with table (drop (at + 1) new) others rest) ≡ picked_with table (drop (at + 1) old) (source ∷ others) rest) →
    or_else r (picked_said table (drop at new) more rest) ≡ picked_said table (drop at old) (Modifies source ∷ more) rest
modifies table old new at source more rest r below kept is =
    ap (λ (ws : List Bool). or_else r (picked_said table ws more rest)) new_is
    ∙ is (sources_said (get_or old at false) more)
    ∙ ap (λ (ws : List Bool). picked_said table ws (Modifies source ∷ more) rest) (sym old_is)
  where
    next : at + 1 ≡ suc at
    next = omega arith

    old_is : drop at old ≡ get_or old at false ∷ drop (at + 1) old
    old_is = drop_more old at false below

    new_is : drop at new ≡ get_or old at false ∷ drop (at + 1) new
    new_is =
        head_kept old new at (get_or old at false) (subst (λ (n : ℕ). take n new ≡ take n old) next kept) (old_is ∙ ap (λ (n : ℕ). get_or old at false ∷ drop n old) next)
        ∙ ap (λ (n : ℕ). get_or old at false ∷ drop n new) (sym next)

pub said_argued : (table : Table) (name : List ℕ) (source : Source) (argument : ArgumentOf Give) (passed : ℕ) → source.piece.given ≡ Argued argument passed →
    said table name [] source ≡ said_further table source name [] argument passed ++ said_in_list table source name [] (held (Argued argument passed)).list
said_argued table name source argument passed is = rw is refl

drop_past : (xs : List Bool) (at : ℕ) (b : Bool) → drop (suc at) (set xs at b) ≡ drop (suc at) xs
drop_past [] at b = refl
drop_past (x ∷ xs) zero b = refl
drop_past (x ∷ xs) (suc at) b = drop_past xs at b

pub kept_set : (xs ys : List Bool) (at : ℕ) (b : Bool) → take (at + 1) ys ≡ take (at + 1) (set xs at b) → take at ys ≡ take at xs
kept_set xs ys at b same = kept_less ys (set xs at b) at same ∙ take_set xs at b

pub anew : (table : Table) (old new : List Bool) (at : ℕ) (redeclaration : Redeclaration) (modifiers : Modifiers) (more : List Saying) (rest : List (List ℕ)) (r : Option Picked) → at < length old →
    modifiers ≡ brought (get_or old at false) redeclaration → is_nothing modifiers ≡ false → take (at + 1) new ≡ take (at + 1) (set old at false) →
    ((others : List Source) → or_else r (picked_with table (drop (at + 1) new) others rest) ≡ picked_with table (drop (at + 1) (set old at false)) (listed redeclaration modifiers ∷ others) rest) →
    or_else r (picked_said table (drop at new) more rest) ≡ picked_said table (drop at old) (Redeclares redeclaration ∷ more) rest
anew table old new at redeclaration modifiers more rest r below brings_is something kept is =
    ap (λ (ws : List Bool). or_else r (picked_said table ws more rest)) new_is
    ∙ is (sources_said false more)
    ∙ ap (λ (ws : List Bool). picked_with table ws (listed redeclaration modifiers ∷ sources_said false more) rest) past
    ∙ ap (λ (m : Modifiers). picked_with table (drop (at + 1) old) (listed redeclaration m ∷ sources_said false more) rest) brings_is
    ∙ anew_listed table (drop (at + 1) old) (get_or old at false) redeclaration more rest (ap is_nothing (sym brings_is) ∙ something)
    ∙ ap (λ (ws : List Bool). picked_said table ws (Redeclares redeclaration ∷ more) rest) (sym (drop_more old at false below))
  where
    next : at + 1 ≡ suc at
    next = omega arith

    past : drop (at + 1) (set old at false) ≡ drop (at + 1) old
    past = ap (λ (n : ℕ). drop n (set old at false)) next ∙ drop_past old at false ∙ ap (λ (n : ℕ). drop n old) (sym next)

    new_is : drop at new ≡ false ∷ drop (at + 1) new
    new_is =
        head_kept (set old at false) new at false (subst (λ (n : ℕ). take n new ≡ take n (set old at false)) next kept)
        (drop_set old at false below ∙ ap (λ (ws : List Bool). false ∷ ws) (sym (drop_past old at false)))
        ∙ ap (λ (n : ℕ). false ∷ drop n new) (sym next)

-- ---- every redeclaration wins at first

abbrev pub filled : ℕ → List Bool → List Bool
filled at xs = map (λ before. true) (take at xs) ++ drop at xs

pub fill_next : (xs : List Bool) (at : ℕ) → at < length xs → set (filled at xs) at true ≡ filled (suc at) xs
fill_next [] at below = absurd (omega (arith, below))
fill_next (x ∷ xs) zero below = refl
fill_next (x ∷ xs) (suc at) below = let less : at < length xs = omega (arith, below) in ap (λ (ys : List Bool). true ∷ ys) (fill_next xs at less)

-- no source gives a value
pub nothing_picked : (table : Table) (wins : List Bool) (names : List (List ℕ)) → picked_with table wins [] names ≡ None
nothing_picked table wins [] = refl
nothing_picked table [] (name ∷ names) = nothing_picked table [] names
nothing_picked table (first ∷ wins) (name ∷ names) = nothing_picked table wins names
