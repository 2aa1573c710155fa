-- Tables that are made of the parts of others.
use Rattle.std.proofs.Common.{◌≡◌, ℕ, Bool, List, [], ◌∷◌, ◌++◌, Option, None, Ordering, Less, Equal, Greater, nat_cmp, refl, ap, sym, ◌∙◌}
use Rattle.std.specs.Prelude.{IfOk, Ok, Result, option_map}
use Rattle.std.specs.Borrow.{Bor}
use Rattle.std.specs.BTreeMap.{BTreeMap, insert_entry}
use Rattle.std.specs.Cmp.Lexicographic.{slice_cmp}
use Rattle.std.specs.List.{AllByRecursion}
use Rattle.std.specs.List.Sorted.{IsStrictlySortedBy}
use Rattle.std.specs.Map.{keys_of}
use Rattle.std.specs.Ordering.{match_ordering, ordering_reverse}
use Rattle.std.proofs.lemmas.Cmp.{nat_list_cmp_total}
use Rattle.mo_syntax.specs.declared.expr.Expr.{Expr}
use Rattle.mo_scope.specs.Frames.{Frame}
use Rattle.mo_scope.specs.Worlds.{scope_in}
use Rattle.mo_scope.specs.declared.source.ScopeAt.{ScopeAt}
use Rattle.mo_mods.specs.declared.env.MergedEnv.{MergedEnv, fold_out-MergedEnv, out-MergedEnv}
use Rattle.mo_mods.specs.declared.env.MergedValue.{MergedValue}
use Rattle.mo_mods.specs.declared.env.RedeclaredAt.{RedeclaredAt}
use Rattle.mo_mods.specs.Made.{AreParts}
use Rattle.mo_mods.specs.Merged.{Merged, Table_of, Below, Nothing_below, Below_then, Merged_value, Redeclared}
use Rattle.mo_mods.specs.Steps.{entered_value, entered_table, entered_below, stepped}
use Rattle.mo_mods.specs.Sights.{below_seen, merged_in, merged_node, name_cmp, redeclared_in, value_in}
use Rattle.mo_mods.proofs.Finding.{below_map}

-- a value by its parts
pub value_made : (frames : List Frame) (made : MergedValue) (value : Expr) (pending : List ℕ) (scope : ScopeAt) (each : List Bool) → made.value.now ≡ value → made.pending ≡ pending →
    made.scope ≡ scope → made.each ≡ each →
    value_in frames made ≡ record { picked = record { value = value; scope = scope_in frames scope.frame.0 scope.iters; pending = pending }; each = each }
value_made frames made value pending scope each v p s e = rw (sym v, sym p, sym s, sym e) refl

-- a table by its parts
pub env_is : (frames : List Frame) (env : MergedEnv) →
    merged_in frames env
    ≡ Table_of (option_map (value_in frames) (out-MergedEnv env).value) (option_map (redeclared_in frames) (out-MergedEnv env).redeclared) (below_seen frames (out-MergedEnv env).below.entries)
env_is frames env =
    fold_out-MergedEnv Merged (merged_node frames) env
    ∙ ap (Table_of (option_map (value_in frames) (out-MergedEnv env).value) (option_map (redeclared_in frames) (out-MergedEnv env).redeclared)) (below_map frames (out-MergedEnv env).below.entries)

pub none_seen : {E : Type 0} (frames : List Frame) (made : Option RedeclaredAt) → ◌≡◌ {A = Result (Option RedeclaredAt) E} (Ok None) (Ok made) → option_map (redeclared_in frames) made ≡ None
none_seen frames made same = let is : None ≡ made = cc in ap (option_map (redeclared_in frames)) (sym is)

-- a table made of the parts of another one
pub made_of : (value value_is : Option Merged_value) (redeclared redeclared_is : Option Redeclared) (below below_is : Below) → value ≡ value_is → redeclared ≡ redeclared_is → below ≡ below_is →
    Table_of value redeclared below ≡ Table_of value_is redeclared_is below_is
made_of value value_is redeclared redeclared_is below below_is v r b =
    ap (λ x. Table_of x redeclared below) v ∙ ap (λ x. Table_of value_is x below) r ∙ ap (Table_of value_is redeclared_is) b

pub entered_is : {E : Type 0} (frames : List Frame) (index : List ℕ) (made env : MergedEnv) (value : Result (Option MergedValue) E) (redeclared : Result (Option RedeclaredAt) E)
    (below : Result (BTreeMap (Bor (List ℕ)) MergedEnv) E) → AreParts value redeclared below (out-MergedEnv made) →
    IfOk value (λ one. option_map (value_in frames) one ≡ option_map (entered_value index) (option_map (value_in frames) (out-MergedEnv env).value)) →
    IfOk redeclared (λ one. option_map (redeclared_in frames) one ≡ option_map (redeclared_in frames) (out-MergedEnv env).redeclared) →
    IfOk below (λ one. below_seen frames one.entries ≡ entered_below index (below_seen frames (out-MergedEnv env).below.entries)) →
    merged_in frames made ≡ entered_table index (merged_in frames env)
entered_is frames index made env value redeclared below parts v r b =
    env_is frames made ∙ made_of _ _ _ _ _ _ (rw parts.value_is at v) (rw parts.redeclared_is at r) (rw parts.below_is at b) ∙ sym (ap (entered_table index) (env_is frames env))

pub stepped_is : {E : Type 0} (frames : List Frame) (index : List ℕ) (made env : MergedEnv) (value : Result (Option MergedValue) E) (redeclared : Result (Option RedeclaredAt) E)
    (below : Result (BTreeMap (Bor (List ℕ)) MergedEnv) E) → AreParts value redeclared below (out-MergedEnv made) →
    IfOk value (λ one. option_map (value_in frames) one ≡ option_map (entered_value index) (option_map (value_in frames) (out-MergedEnv env).value)) →
    redeclared ≡ Ok None → IfOk below (λ one. below_seen frames one.entries ≡ entered_below index (below_seen frames (out-MergedEnv env).below.entries)) →
    merged_in frames made ≡ stepped index (merged_in frames env)
stepped_is frames index made env value redeclared below parts v none b =
    env_is frames made
    ∙ made_of _ _ _ _ _ _ (rw parts.value_is at v) (none_seen frames (out-MergedEnv made).redeclared (sym none ∙ parts.redeclared_is)) (rw parts.below_is at b)
    ∙ sym (ap (stepped index) (env_is frames env))

-- ---- a table that is put under a name

abbrev pub Entry : Type 0
Entry = Bor (List ℕ) × MergedEnv

abbrev put : List ℕ → Merged → Below → Below
put name table Nothing_below = Below_then name table Nothing_below
put name table (Below_then other there others) =
    match_ordering (slice_cmp nat_cmp name other) (Below_then name table (Below_then other there others)) (Below_then other table others) (Below_then other there (put name table others))

seen_ordering : (frames : List Frame) (o : Ordering) (a b c : List Entry) →
    below_seen frames (match_ordering o a b c) ≡ match_ordering o (below_seen frames a) (below_seen frames b) (below_seen frames c)
seen_ordering frames Less a b c = refl
seen_ordering frames Equal a b c = refl
seen_ordering frames Greater a b c = refl

seen_inserted : (frames : List Frame) (es : List Entry) (k : Bor (List ℕ)) (v : MergedEnv) → below_seen frames (insert_entry name_cmp es k v) ≡ put k.now (merged_in frames v) (below_seen frames es)
seen_inserted frames [] k v = refl
seen_inserted frames (e ∷ es) k v = seen_ordering frames (name_cmp k e.0) _ _ _ ∙ rw (seen_inserted frames es k v) refl

before_middle : (first : Entry) (es : List Entry) (e : Entry) (more : List Entry) → AllByRecursion (λ y. name_cmp first.0 y ≡ Less) (keys_of (es ++ e ∷ more)) → name_cmp first.0 e.0 ≡ Less
before_middle first [] e more h = h.0
before_middle first (x ∷ es) e more h = before_middle first es e more h.1

-- a name that is above those before it goes last
put_last : (frames : List Frame) (index : List ℕ) (done : List Entry) (e : Entry) (more : List Entry) → IsStrictlySortedBy name_cmp (keys_of (done ++ e ∷ more)) →
    put e.0.now (entered_table index (merged_in frames e.1)) (entered_below index (below_seen frames done)) ≡ entered_below index (below_seen frames (done ++ e ∷ []))
unfolding IsStrictlySortedBy
put_last frames index [] e more h = refl
put_last frames index (first ∷ done) e more h =
    let above : slice_cmp nat_cmp e.0.now first.0.now ≡ Greater =
    nat_list_cmp_total.antisymm e.0.now first.0.now ∙ ap ordering_reverse (before_middle first done e more h.0) in
    rw above (ap (Below_then first.0.now (entered_table index (merged_in frames first.1))) (put_last frames index done e more h.1))

-- one more table of a map, entered at an index
pub entered_more : (frames : List Frame) (index : List ℕ) (done : List Entry) (e : Entry) (more : List Entry) (made new : List Entry) (k : Bor (List ℕ)) (v : MergedEnv) →
    IsStrictlySortedBy name_cmp (keys_of (done ++ e ∷ more)) → k.now ≡ e.0.now → merged_in frames v ≡ entered_table index (merged_in frames e.1) → new ≡ insert_entry name_cmp made k v →
    below_seen frames made ≡ entered_below index (below_seen frames done) →
    below_seen frames new ≡ entered_below index (below_seen frames (done ++ e ∷ []))
entered_more frames index done e more made new k v sorted named is inserted before =
    ap (below_seen frames) inserted ∙ seen_inserted frames made k v ∙ ap (λ n. put n (merged_in frames v) (below_seen frames made)) named
    ∙ ap (λ t. put e.0.now t (below_seen frames made)) is ∙ ap (put e.0.now (entered_table index (merged_in frames e.1))) before
    ∙ put_last frames index done e more sorted
