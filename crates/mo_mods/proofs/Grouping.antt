-- What is said of each element, by its name.
use Rattle.std.proofs.Common.{◌≡◌, ℕ, ◌+◌, ◌<◌, ◌≤◌, Bool, true, false, cond, List, [], ◌∷◌, ◌++◌, length, take, drop, get_or, map, Option, Some, None, if◌then◌else◌, refl, ap, sym, ◌∙◌, append-nil, nat_cmp}
use Rattle.std.specs.Borrow.{Bor}
use Rattle.std.specs.BTreeMap.{BTreeMap, get_by, UpdatesBy}
use Rattle.std.specs.Cmp.Lexicographic.{slice_cmp}
use Rattle.std.specs.Str.{bytes_eq}
use Rattle.std.proofs.lemmas.List.{drop_more, drop_all, map-append, take_more}
use Rattle.std.proofs.lemmas.Map.Text.{btree_map_updates_str}
use Rattle.std.proofs.lemmas.Slice.Eq.{bytes_eq-Decides}
use Rattle.mo_syntax.specs.declared.expr.Expr.{Expr}
use Rattle.mo_syntax.specs.declared.class.ArgumentOf.{ArgumentOf}
use Rattle.mo_syntax.specs.declared.class.Element.{Element}
use Rattle.mo_syntax.specs.declared.class.Give.{Give, Give-F, out-Give}
use Rattle.mo_syntax.specs.declared.class.ModsOf.{ModsOf}
use Rattle.mo_scope.specs.Frames.{Frame}
use Rattle.mo_scope.specs.Parts.{begins_with, declared_in}
use Rattle.mo_scope.specs.Rows.{Table, Declares}
use Rattle.mo_mods.specs.declared.left.Said.{Said as SaidAt}
use Rattle.mo_mods.specs.Left.{Left, Goes_on, Anew, anew_first, said_by}
use Rattle.mo_mods.specs.Merged.{Redeclared}
use Rattle.mo_mods.specs.Sights.{name_cmp, said_held, said_in, said_or_none}

-- ---- an argument of which so many names are passed

module _ (table : Table) (argument : ArgumentOf Give) (passed : ℕ) (left : Left) where
  pub by_names : passed < length argument.name.0 → said_by table argument passed left ≡ Goes_on left
  by_names below = rw (drop_more argument.name.0 passed [] below) refl

  pub by_list : (mods : ModsOf Give) (value : Option Expr) → length argument.name.0 ≤ passed → out-Give argument.give ≡ Give-F.Modify mods value →
      said_by table argument passed left ≡ Goes_on left
  by_list mods value above gives = rw (drop_all passed argument.name.0 above, gives) refl

  pub by_redeclare : (element : Element) → length argument.name.0 ≤ passed → out-Give argument.give ≡ Give-F.Redeclare element →
      said_by table argument passed left ≡ Anew (declared_in table element) left
  by_redeclare element above gives = rw (drop_all passed argument.name.0 above, gives) refl

  pub by_replaceable : (element : Element) → length argument.name.0 ≤ passed → out-Give argument.give ≡ Give-F.Replaceable element →
      said_by table argument passed left ≡ Anew (declared_in table element) left
  by_replaceable element above gives = rw (drop_all passed argument.name.0 above, gives) refl

-- ---- groups

abbrev pub at_name : {A : Type 0} → BTreeMap (Bor (List ℕ)) A → List ℕ → Option A
at_name m name = get_by (λ k. slice_cmp nat_cmp name k.now) m

-- what a map has under each name after a change under one
pub after_update : {A : Type 0} (name : List ℕ) (m n : BTreeMap (Bor (List ℕ)) A) (w : Option A) → UpdatesBy name_cmp (λ k. slice_cmp nat_cmp name k.now) m n w →
    (other : List ℕ) → at_name n other ≡ cond (bytes_eq name other) w (at_name m other)
after_update name m n w h other = btree_map_updates_str name m n w h other

-- what is put behind what was said under a name, which is taken out before
pub said_put : (frames : List Frame) (name : List ℕ) (old middle new : BTreeMap (Bor (List ℕ)) (List SaidAt)) (taken : Option (List SaidAt)) (group more : List SaidAt) (said : SaidAt) →
    taken ≡ at_name old name → UpdatesBy name_cmp (λ k. slice_cmp nat_cmp name k.now) old middle None → map (said_in frames) group ≡ said_or_none frames taken →
    more ≡ group ++ said ∷ [] → UpdatesBy name_cmp (λ k. slice_cmp nat_cmp name k.now) middle new (Some more) → (other : List ℕ) →
    said_held frames new other ≡ said_held frames old other ++ (if bytes_eq name other then said_in frames said ∷ [] else [])
said_put frames name old middle new taken group more said was removed seen behind inserted other =
    by (bytes_eq name other) refl (after_update name old middle None removed other) (after_update name middle new (Some more) inserted other)
  where
    by : (b : Bool) → bytes_eq name other ≡ b → at_name middle other ≡ cond (bytes_eq name other) None (at_name old other) →
        at_name new other ≡ cond (bytes_eq name other) (Some more) (at_name middle other) →
        said_held frames new other ≡ said_held frames old other ++ (if b then said_in frames said ∷ [] else [])
    by true is taken_out put_in =
        ap (said_or_none frames) (put_in ∙ ap (λ b. cond b (Some more) (at_name middle other)) is)
        ∙ ap (map (said_in frames)) behind ∙ map-append (said_in frames) group (said ∷ [])
        ∙ ap (λ xs. xs ++ said_in frames said ∷ []) (seen ∙ ap (said_or_none frames) (was ∙ ap (at_name old) ((bytes_eq-Decides name other).0 is)))
    by false is taken_out put_in =
        ap (said_or_none frames) (put_in ∙ ap (λ b. cond b (Some more) (at_name middle other)) is ∙ taken_out ∙ ap (λ b. cond b None (at_name old other)) is)
        ∙ sym (append-nil (said_held frames old other))

-- ---- arguments

-- an argument all of whose names were passed says nothing
pub nothing_said : {A : Type 0} (names : List (List ℕ)) (passed : ℕ) (other : List ℕ) (old said : List A) → length names ≤ passed →
    old ≡ old ++ (if begins_with other (drop passed names) then said else [])
nothing_said names passed other old said above = rw (drop_all passed names above) (sym (append-nil old))

-- the next name of an argument
pub next_said : {A : Type 0} (names : List (List ℕ)) (passed : ℕ) (name other : List ℕ) (old new said is : List A) → passed < length names → name ≡ get_or names passed name →
    new ≡ old ++ (if bytes_eq name other then said else []) → said ≡ is →
    new ≡ old ++ (if begins_with other (drop passed names) then is else [])
next_said names passed name other old new said is below at more same =
    rw (drop_more names passed name below, sym at) (more ∙ ap (λ xs. old ++ (if bytes_eq name other then xs else [])) same)

-- one more of what is made of a list
pub mapped_more : {A X B : Type 0} (f : A → B) (g : X → B) (made new : List A) (a : A) (xs : List X) (i : ℕ) (x : X) → i < length xs → x ≡ get_or xs i x →
    new ≡ made ++ a ∷ [] → f a ≡ g x → map f made ≡ map g (take i xs) → map f new ≡ map g (take (i + 1) xs)
mapped_more f g made new a xs i x below at is same before =
    ap (map f) is ∙ map-append f made (a ∷ []) ∙ ap (λ ys. ys ++ f a ∷ []) before ∙ ap (λ b. map g (take i xs) ++ b ∷ []) same
    ∙ sym (map-append g (take i xs) (x ∷ [])) ∙ ap (map g) (ap (λ y. take i xs ++ y ∷ []) at ∙ sym (take_more xs i x below))

-- ---- what is declared anew first

module _ (frames : List Frame) (xs : List SaidAt) (i : ℕ) (x : SaidAt) (below : i < length xs) (at : x ≡ get_or xs i x) where
  front : drop i xs ≡ x ∷ drop (i + 1) xs
  front = drop_more xs i x below ∙ ap (λ y. y ∷ drop (i + 1) xs) (sym at)

  pub anew_skipped : (left : Left) (all : Option Redeclared) → said_in frames x ≡ Goes_on left → anew_first (map (said_in frames) (drop i xs)) ≡ all → anew_first (map (said_in frames) (drop (i + 1) xs)) ≡ all
  anew_skipped left all is before =
      sym (ap (λ ys. anew_first (map (said_in frames) ys)) front ∙ ap (λ said. anew_first (said ∷ map (said_in frames) (drop (i + 1) xs))) is) ∙ before

  pub anew_found : (declares : Declares) (left : Left) (all : Option Redeclared) → said_in frames x ≡ Anew declares left → anew_first (map (said_in frames) (drop i xs)) ≡ all →
      Some (record { declares = declares; scope = left.scope }) ≡ all
  anew_found declares left all is before =
      sym (ap (λ ys. anew_first (map (said_in frames) ys)) front ∙ ap (λ said. anew_first (said ∷ map (said_in frames) (drop (i + 1) xs))) is) ∙ before

pub anew_nowhere : (frames : List Frame) (xs : List SaidAt) (i : ℕ) (all : Option Redeclared) → length xs ≤ i → anew_first (map (said_in frames) (drop i xs)) ≡ all → None ≡ all
anew_nowhere frames xs i all above before = sym (ap (λ ys. anew_first (map (said_in frames) ys)) (drop_all i xs above)) ∙ before
