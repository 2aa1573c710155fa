-- What arguments and elements with `redeclare` say of a name.
use Rattle.std.proofs.Common.{◌≡◌, ℕ, ◌+◌, ◌<◌, ◌≤◌, Bool, true, false, List, [], ◌∷◌, ◌++◌, length, take, drop, get_or, map, flat_map, Option, Some, None, Result, Ok, IfOk, refl, ap, sym, ◌∙◌, append-nil, append_assoc, is_some, option_map, if◌then◌else◌}
use Rattle.std.specs.Option.{option_to_list}
use Rattle.std.specs.Str.{bytes_eq}
use Rattle.std.proofs.lemmas.List.{drop_more, drop_all, take_more, take_all, flat_map_more, map-append}
use Rattle.std.proofs.lemmas.Grind.{flat_map-append}
use Rattle.std.proofs.lemmas.Result.{IfOk-at_ok}
use Rattle.std.proofs.lemmas.Slice.Eq.{bytes_eq-Decides}
use Rattle.mo_syntax.specs.declared.expr.Expr.{Expr}
use Rattle.mo_syntax.specs.declared.class.ArgumentOf.{ArgumentOf}
use Rattle.mo_syntax.specs.declared.class.Element.{Element, out-Element}
use Rattle.mo_syntax.specs.declared.class.Give.{Give, Give-F, out-Give}
use Rattle.mo_syntax.specs.declared.class.ModsOf.{ModsOf}
use Rattle.mo_scope.specs.declared.source.Source.{Source as SourceAt}
use Rattle.mo_scope.specs.Rows.{Table, Declares, Constraint, is_class}
use Rattle.mo_scope.specs.Frames.{Argued, Frame, Listed, Member, Source}
use Rattle.mo_scope.specs.Sights.{source_seen}
use Rattle.mo_scope.specs.Worlds.{source_in, sources_in}
use Rattle.mo_scope.specs.Parts.{Redeclaration, Modifies, Redeclares, begins_with, behind_name, constraint_source, declared_in, declared_sources, own_source, held, names_left, pending_behind, said_behind, said_by_argument, said_by_element, said_further}

-- ---- an argument of which so many names are passed

module _ (table : Table) (argument : ArgumentOf Give) (passed : ℕ) (source : Source) where
  pub said_left : passed < length argument.name.0 → said_behind table argument passed source ≡ Modifies source
  said_left below = rw (drop_more argument.name.0 passed [] below) refl

  pub said_list : (mods : ModsOf Give) (value : Option Expr) → length argument.name.0 ≤ passed → out-Give argument.give ≡ Give-F.Modify mods value →
      said_behind table argument passed source ≡ Modifies source
  said_list mods value above gives = rw (drop_all passed argument.name.0 above, gives) refl

  pub said_redeclare : (element : Element) → length argument.name.0 ≤ passed → out-Give argument.give ≡ Give-F.Redeclare element →
      said_behind table argument passed source
      ≡ Redeclares (record { declares = declared_in table element; place = argument.place; keeps = (out-Element element).flags.replaceable; source = source })
  said_redeclare element above gives = rw (drop_all passed argument.name.0 above, gives) refl

  pub said_replaceable : (element : Element) → length argument.name.0 ≤ passed → out-Give argument.give ≡ Give-F.Replaceable element →
      said_behind table argument passed source
      ≡ Redeclares (record { declares = declared_in table element; place = argument.place; keeps = true; source = source })
  said_replaceable element above gives = rw (drop_all passed argument.name.0 above, gives) refl

-- ---- the list behind the names of an argument

pub list_left : (argument : ArgumentOf Give) (passed : ℕ) → passed < length argument.name.0 → (held (Argued argument passed)).list ≡ []
list_left argument passed below = rw (drop_more argument.name.0 passed [] below) refl

pub list_passed : (argument : ArgumentOf Give) (passed : ℕ) (mods : ModsOf Give) (value : Option Expr) → length argument.name.0 ≤ passed → out-Give argument.give ≡ Give-F.Modify mods value →
    (held (Argued argument passed)).list ≡ mods.0
list_passed argument passed mods value above gives = rw (drop_all passed argument.name.0 above, gives) refl

-- ---- what is asked by name

module _ (table : Table) (source : Source) (name index : List ℕ) where
  pub argument_skipped : (argument : ArgumentOf Give) → begins_with name argument.name.0 ≡ false → said_by_argument table source name index argument ≡ []
  argument_skipped argument other = rw other refl

  pub argument_named : (argument : ArgumentOf Give) (first : List ℕ) → begins_with name argument.name.0 ≡ true → first ≡ name →
      said_by_argument table source name index argument
      ≡ said_behind table argument 1 (behind_name source first (pending_behind argument.each source.piece.pending index) argument.last (Argued argument 1)) ∷ []
  argument_named argument first same is = rw (same, is) refl

  pub further_skipped : (argument : ArgumentOf Give) (passed : ℕ) → begins_with name (names_left argument passed) ≡ false → said_further table source name index argument passed ≡ []
  further_skipped argument passed other = rw other refl

  pub further_named : (argument : ArgumentOf Give) (passed : ℕ) (first : List ℕ) → begins_with name (names_left argument passed) ≡ true → first ≡ name →
      said_further table source name index argument passed
      ≡ said_behind table argument (passed + 1) (behind_name source first (source.piece.pending ++ index) false (Argued argument (passed + 1))) ∷ []
  further_named argument passed first same is = rw (same, is) refl

  pub element_skipped : (declares : Declares) → bytes_eq declares.name name ≡ false → said_by_element table source name index declares ≡ []
  element_skipped declares other = rw other refl

  pub element_named : (declares : Declares) → bytes_eq declares.name name ≡ true →
      said_by_element table source name index declares
      ≡ Redeclares (record {
        declares = declares;
        place = declares.place;
        keeps = declares.flags.replaceable;
        source = behind_name source declares.name (source.piece.pending ++ index) declares.flags.last (Listed declares.own);
      }) ∷ []
  element_named declares same =
      let is : declares.name ≡ name = (bytes_eq-Decides declares.name name).0 same in
      rw (same, is) refl

-- ---- lists that are gathered

-- what one more element gives stands behind what those before it gave
pub gathered_more : {X B : Type 0} (f : X → List B) (start old new : List B) (xs : List X) (i : ℕ) (x : X) → i < length xs → x ≡ get_or xs i x →
    old ≡ start ++ flat_map f (take i xs) → new ≡ old ++ f x → new ≡ start ++ flat_map f (take (i + 1) xs)
gathered_more f start old new xs i x below at before more =
    more ∙ ap (λ ys. ys ++ f x) before ∙ flat_map_more f start (take i xs) x
    ∙ ap (λ ys. start ++ flat_map f ys) (ap (λ y. take i xs ++ y ∷ []) at ∙ sym (take_more xs i x below))

pub gathered_all : {X B : Type 0} (f : X → List B) (start old : List B) (xs : List X) (i : ℕ) → length xs ≤ i →
    old ≡ start ++ flat_map f (take i xs) → old ≡ start ++ flat_map f xs
gathered_all f start old xs i above before = before ∙ ap (λ ys. start ++ flat_map f ys) (take_all i xs above)

pub mapped_more : {A B : Type 0} (f : A → B) (old new : List A) (x : A) (y : B) → new ≡ old ++ x ∷ [] → f x ≡ y → map f new ≡ map f old ++ y ∷ []
mapped_more f old new x y is same = ap (map f) is ∙ map-append f old (x ∷ []) ∙ ap (λ z. map f old ++ z ∷ []) same

-- the value of an answer that was put at the end
pub pushed_more : {A B E : Type 0} (f : A → B) (r : Result A E) (y : B) (old new : List A) → IfOk r (λ x. f x ≡ y) →
    (value : A) × (r ≡ Ok value) × (new ≡ old ++ value ∷ []) → map f new ≡ map f old ++ y ∷ []
pushed_more f r y old new gives is = mapped_more f old new is.0 y is.2 (IfOk-at_ok (λ x. f x ≡ y) is.1 gives)

pub nothing_more : {B : Type 0} (old none : List B) → none ≡ [] → old ≡ old ++ none
nothing_more old none is = sym (ap (λ ys. old ++ ys) is ∙ append-nil old)

pub flat_map_flat_map : {X Y Z : Type 0} (g : Y → List Z) (f : X → List Y) (xs : List X) → flat_map g (flat_map f xs) ≡ flat_map (λ x. flat_map g (f x)) xs
flat_map_flat_map g f [] = refl
flat_map_flat_map g f (x ∷ xs) = flat_map-append g (f x) (flat_map f xs) ∙ ap (λ ys. flat_map g (f x) ++ ys) (flat_map_flat_map g f xs)

-- ---- lists that are taken apart

-- what was made takes over one more of what is left
pub taken_more : {B : Type 0} (made new more left rest whole : List B) → new ≡ made ++ more → more ++ rest ≡ left → made ++ left ≡ whole → new ++ rest ≡ whole
taken_more made new more left rest whole is one before =
    ap (λ ys. ys ++ rest) is ∙ append_assoc made more rest ∙ ap (λ ys. made ++ ys) one ∙ before

pub taken_all : {B : Type 0} (made left whole : List B) → left ≡ [] → made ++ left ≡ whole → made ≡ whole
taken_all made left whole none before = sym (append-nil made) ∙ ap (λ ys. made ++ ys) (sym none) ∙ before

pub front_is : {X : Type 0} (xs : List X) (i : ℕ) (x y : X) → i < length xs → x ≡ get_or xs i x → x ≡ y → drop i xs ≡ y ∷ drop (i + 1) xs
front_is xs i x y below at same = drop_more xs i x below ∙ ap (λ z. z ∷ drop (i + 1) xs) (sym at ∙ same)

-- ---- sources that are put at the end

pub seen_append : (frames : List Frame) (old more new : List SourceAt) → new ≡ old ++ more →
    sources_in frames (map source_seen new) ≡ sources_in frames (map source_seen old) ++ sources_in frames (map source_seen more)
seen_append frames old more new is =
    ap (λ (xs : List SourceAt). sources_in frames (map source_seen xs)) is ∙ ap (sources_in frames) (map-append source_seen old more)
    ∙ map-append (source_in frames) (map source_seen old) (map source_seen more)

pub seen_more : (frames : List Frame) (old new : List SourceAt) (source : SourceAt) (is : Source) → new ≡ old ++ source ∷ [] → source_in frames (source_seen source) ≡ is →
    sources_in frames (map source_seen new) ≡ sources_in frames (map source_seen old) ++ is ∷ []
seen_more frames old new source is more same = seen_append frames old (source ∷ []) new more ∙ ap (λ (s : Source). sources_in frames (map source_seen old) ++ s ∷ []) same

-- two that were put behind one another
pub both_more : {B : Type 0} (old own limit own_is limit_is middle new all : List B) → middle ≡ old ++ own → new ≡ middle ++ limit → own ≡ own_is → limit ≡ limit_is → own_is ++ limit_is ≡ all →
    new ≡ old ++ all
both_more old own limit own_is limit_is middle new all first second same_own same_limit is =
    second ∙ ap (λ xs. xs ++ limit) first ∙ append_assoc old own limit
    ∙ ap (λ xs. old ++ (xs ++ limit)) same_own ∙ ap (λ xs. old ++ (own_is ++ xs)) same_limit ∙ ap (λ xs. old ++ xs) is

-- what a declaration adds: its own modifiers, unless they are left out, and those of its constraining clause
pub declared_is : (member : Member) (index : List ℕ) (wins : Option Redeclaration) (replaced limited : Bool) → is_some wins ≡ replaced → limited ≡ is_some member.declares.limit →
    (if (if replaced then limited else is_class member.declares) then [] else own_source member index)
    ++ flat_map (constraint_source member index) (option_to_list member.declares.limit)
    ≡ declared_sources member index wins
declared_is member index wins replaced limited has limit = by wins member.declares.limit refl has limit
  where
    by : (wins : Option Redeclaration) (limit : Option Constraint) → member.declares.limit ≡ limit → is_some wins ≡ replaced → limited ≡ is_some member.declares.limit →
        (if (if replaced then limited else is_class member.declares) then [] else own_source member index)
        ++ flat_map (constraint_source member index) (option_to_list member.declares.limit)
        ≡ declared_sources member index wins
    by None None is has lim = rw (sym has, is) (append-nil (if is_class member.declares then [] else own_source member index))
    by None (Some limit) is has lim =
        rw (sym has, is) (ap (λ ys. (if is_class member.declares then [] else own_source member index) ++ ys) (append-nil (constraint_source member index limit)))
    by (Some w) None is has lim = rw (sym has, lim, is) (append-nil (own_source member index))
    by (Some w) (Some limit) is has lim = rw (sym has, lim, is) (append-nil (constraint_source member index limit))

pub is_some_map : {A B : Type 0} (f : A → B) (o : Option A) → is_some o ≡ is_some (option_map f o)
is_some_map f None = refl
is_some_map f (Some a) = refl
