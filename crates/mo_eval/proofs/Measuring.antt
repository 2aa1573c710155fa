-- The dimensions of components one after another.
use Rattle.std.proofs.Common.{◌≡◌, ℕ, ◌+◌, ◌<◌, ◌≤◌, List, [], ◌∷◌, ◌++◌, length, drop, get_or, Option, Some, None, Ok, Err, refl, ap, sym, subst, ◌∙◌, append_assoc, length-append, arith}
use Rattle.std.proofs.lemmas.List.{append-nil, drop_all, drop_more, length-map}
use Rattle.std.proofs.lemmas.List.Sums.{sum_by-append}
use Rattle.mo_syntax.specs.Outcome.{Outcome as Seen, and_then as then_seen, Outcome, and_then, breaks}
use Rattle.mo_syntax.specs.declared.expr.Expr.{Expr}
use Rattle.mo_syntax.specs.declared.place.Stop.{Stop}
use Rattle.mo_syntax.specs.declared.place.Stop.TheVariants.{Broken as broken_by, NoMemory as no_memory}
use Rattle.mo_scope.specs.Frames.{Frame, Iterations, Scope, Member}
use Rattle.mo_scope.specs.Names.{Child, child_of_member}
use Rattle.mo_scope.specs.Outcome.{Gives as GivesSeen}
use Rattle.mo_scope.specs.Parts.{Picked, picked_here}
use Rattle.mo_scope.specs.Rows.{Table}
use Rattle.mo_scope.specs.Sizes.{Sizes, count_sizes, declared_sizes, type_sizes}
use Rattle.mo_scope.specs.Worlds.{World, Grows, IsFrame, frames_of, scope_in, table_in}
use Rattle.mo_names.specs.Sights.{IsMember, member_of}
use Rattle.mo_names.proofs.Later.{frame_later, table_later}
use Rattle.mo_syntax.specs.declared.rules.TheConstants.{NO_VALUE}
use Rattle.mo_typing.specs.Dims.{Dims}
use Rattle.mo_typing.specs.Outcome.{Gives}
use Rattle.mo_eval.specs.declared.dimensions.Measured.{Measured}
use Rattle.mo_eval.specs.Values.{reading}
use Rattle.mo_eval.specs.Virtuals.{Ask}
use Rattle.mo_eval.specs.Components.{binding_dims, dim_at, dims_from, dims_of_component, each_dim}
use Rattle.mo_lookup.specs.declared.sizes.Sizes.{Sizes as SizesAt}
use Rattle.mo_eval.specs.steps.Measuring.{GoesOn, bound_in, dims_more, dims_of_binding, scoped}
use Rattle.mo_lookup.specs.Sizing.{AreSized, all_sizes, sizes_seen}
use Rattle.mo_eval.proofs.Earlier.{every_at, of_member}
use Rattle.mo_eval.proofs.Subscripting.{behind_nothing}

module _ (table : Table) (ask : Ask) (bound : Outcome Dims) where
  -- one more dimension
  one_dim : (made : Dims) (dim : Scope × Option Expr) (others : List (Scope × Option Expr)) (n : ℕ) → dim_at table ask bound dim.0 (length made) dim.1 ≡ Ok n →
      dims_more table ask bound made (dim ∷ others) ≡ dims_more table ask bound (made ++ n ∷ []) others
  one_dim made dim others n is = rw is (go (dims_from table ask bound (length made + 1) others) ∙ ap (λ k. and_then (dims_from table ask bound k others) (λ more. Ok ((made ++ n ∷ []) ++ more))) (sym (length-append made (n ∷ []))))
    where
      go : (o : Outcome Dims) → and_then (and_then {B = Dims} o (λ ns. Ok (n ∷ ns))) (λ more. Ok (made ++ more)) ≡ and_then o (λ more. Ok ((made ++ n ∷ []) ++ more))
      go (Ok ns) = ap Ok (sym (append_assoc made (n ∷ []) ns))
      go (Err broken) = refl

  dim_halts : (made : Dims) (dim : Scope × Option Expr) (others : List (Scope × Option Expr)) (stop : Stop) → Gives {T = ℕ} (Err stop) (dim_at table ask bound dim.0 (length made) dim.1) →
      Gives {T = Dims} (Err stop) (dims_more table ask bound made (dim ∷ others))
  dim_halts made dim others (broken_by broken) h = rw h refl
  dim_halts made dim others no_memory h = tt

  module _ (scope : Scope) (subs : List (Option Expr)) (made : Dims) (k : ℕ) (whole : List (Scope × Option Expr) → Outcome Dims)
      (before : (others : List (Scope × Option Expr)) → dims_more table ask bound made (scoped scope (drop k subs) ++ others) ≡ whole others) where
    opened : (sub : Option Expr) (others : List (Scope × Option Expr)) → k < length subs → sub ≡ get_or subs k sub →
        dims_more table ask bound made ((scope, sub) ∷ (scoped scope (drop (k + 1) subs) ++ others)) ≡ whole others
    opened sub others small is =
        ap (λ xs. dims_more table ask bound made (scoped scope xs ++ others)) (ap (λ x. x ∷ drop (k + 1) subs) is ∙ sym (drop_more subs k sub small)) ∙ before others

    pub dim_more : (sub : Option Expr) (n : ℕ) → k < length subs → sub ≡ get_or subs k sub → dim_at table ask bound scope (length made) sub ≡ Ok n →
        (others : List (Scope × Option Expr)) → dims_more table ask bound (made ++ n ∷ []) (scoped scope (drop (k + 1) subs) ++ others) ≡ whole others
    dim_more sub n small is has others = sym (one_dim made (scope, sub) (scoped scope (drop (k + 1) subs) ++ others) n has) ∙ opened sub others small is

    pub dim_stops : (sub : Option Expr) (stop : Stop) → k < length subs → sub ≡ get_or subs k sub → Gives {T = ℕ} (Err stop) (dim_at table ask bound scope (length made) sub) →
        (others : List (Scope × Option Expr)) → Gives {T = Dims} (Err stop) (whole others)
    dim_stops sub stop small is h others =
        subst (Gives {T = Dims} (Err stop)) (opened sub others small is) (dim_halts made (scope, sub) (scoped scope (drop (k + 1) subs) ++ others) stop h)

    pub dims_done : length subs ≤ k → (others : List (Scope × Option Expr)) → dims_more table ask bound made others ≡ whole others
    dims_done all others = ap (λ xs. dims_more table ask bound made (scoped scope xs ++ others)) (sym (drop_all k subs all)) ∙ before others

-- all that are written
pub no_dims : (table : Table) (ask : Ask) (bound : Outcome Dims) (made : Dims) → dims_more table ask bound made [] ≡ Ok made
no_dims table ask bound made = ap Ok (append-nil made)

count_one : (scope : Scope) (subs : List (Option Expr)) (n m : ℕ) → n ≡ m → length (scoped scope subs) + n ≡ length subs + m
count_one scope subs n m same = ap (λ k. k + n) (length-map subs (λ dim. (scope, dim))) ∙ ap (λ k. length subs + k) same

alone : (one : Sizes) → count_sizes (one ∷ []) ≡ length one.subscripts
alone one = omega arith

count_each : (sizes : List Sizes) → length (each_dim sizes) ≡ count_sizes sizes
count_each [] = refl
count_each (one ∷ others) =
    let all : length (each_dim (one ∷ others)) ≡ length (scoped one.scope one.subscripts) + length (each_dim others) = length-append (scoped one.scope one.subscripts) (each_dim others) in
    let some : length (scoped one.scope one.subscripts) + length (each_dim others) ≡ length one.subscripts + count_sizes others =
    count_one one.scope one.subscripts (length (each_dim others)) (count_sizes others) (count_each others) in
    let sum : length one.subscripts + count_sizes others ≡ count_sizes (one ∷ others) =
    sym (sum_by-append (λ (s : Sizes). length s.subscripts) (one ∷ []) others ∙ ap (λ n. n + count_sizes others) (alone one)) in
    all ∙ (some ∙ sum)

-- the dimensions of a component by all that are written
pub component_by : (table : Table) (ask : Ask) (member : Member) →
    dims_of_component table ask member ≡ and_then (all_sizes table member) (λ sizes. dims_more table ask (binding_dims table ask member (count_sizes sizes)) [] (each_dim sizes))
component_by table ask member = by (child_of_member table member [])
  where
    counted : (sizes : List Sizes) → dims_from table ask (binding_dims table ask member (length (each_dim sizes))) 0 (each_dim sizes) ≡ dims_more table ask (binding_dims table ask member (count_sizes sizes)) [] (each_dim sizes)
    counted sizes =
        ap (λ n. dims_from table ask (binding_dims table ask member n) 0 (each_dim sizes)) (count_each sizes)
        ∙ sym (behind_nothing (dims_from table ask (binding_dims table ask member (count_sizes sizes)) 0 (each_dim sizes)))

    by : (o : Seen Child) →
        and_then o (λ child. dims_from table ask (binding_dims table ask member (length (each_dim (declared_sizes member child.redeclared ++ type_sizes table child.class)))) 0 (each_dim (declared_sizes member child.redeclared ++ type_sizes table child.class)))
        ≡ and_then (then_seen o (λ child. Ok (declared_sizes member child.redeclared ++ type_sizes table child.class))) (λ sizes. dims_more table ask (binding_dims table ask member (count_sizes sizes)) [] (each_dim sizes))
    by (Ok child) = counted (declared_sizes member child.redeclared ++ type_sizes table child.class)
    by (Err broken) = refl

-- ---- in later worlds

pub bound_earlier : (u v : World) → Grows u v → (of : Measured) → IsMember u of.member.now → bound_in v of ≡ bound_in u of
bound_earlier u v g of is = of_member (λ table member. binding_dims table (reading table of.left) member of.count) u v g of.member.now is

pub more_earlier : (u v : World) → Grows u v → (of : Measured) → IsMember u of.member.now → (made : Dims) (others : List (Scope × Option Expr)) →
    dims_more (table_in v) (reading (table_in v) of.left) (bound_in v of) made others ≡ dims_more (table_in u) (reading (table_in u) of.left) (bound_in u of) made others
more_earlier u v g of is made others =
    ap (λ t. dims_more t (reading t of.left) (bound_in v of) made others) (table_later u v g)
    ∙ ap (λ b. dims_more (table_in u) (reading (table_in u) of.left) b made others) (bound_earlier u v g of is)

pub dim_earlier : (u v : World) → Grows u v → (of : Measured) → IsMember u of.member.now → (n : ℕ) (iterations : Iterations) → IsFrame u n → (place : ℕ) (sub : Option Expr) →
    dim_at (table_in v) (reading (table_in v) of.left) (bound_in v of) (scope_in (frames_of v) n iterations) place sub
    ≡ dim_at (table_in u) (reading (table_in u) of.left) (bound_in u of) (scope_in (frames_of u) n iterations) place sub
dim_earlier u v g of is n iterations frame place sub =
    ap (λ t. dim_at t (reading t of.left) (bound_in v of) (scope_in (frames_of v) n iterations) place sub) (table_later u v g)
    ∙ (ap (λ b. dim_at (table_in u) (reading (table_in u) of.left) b (scope_in (frames_of v) n iterations) place sub) (bound_earlier u v g of is)
    ∙ ap (λ (f : Frame). dim_at (table_in u) (reading (table_in u) of.left) (bound_in u of) (record { frame = f; iterations = iterations }) place sub) (frame_later u v n g frame))

-- all dimensions of one scope, and of those behind it
pub scoped_earlier : (u v : World) → Grows u v → (of : Measured) → IsMember u of.member.now → (n : ℕ) (iterations : Iterations) → IsFrame u n → (made : Dims) (subs : List (Option Expr)) (others : List (Scope × Option Expr)) →
    dims_more (table_in v) (reading (table_in v) of.left) (bound_in v of) made (scoped (scope_in (frames_of v) n iterations) subs ++ others)
    ≡ dims_more (table_in u) (reading (table_in u) of.left) (bound_in u of) made (scoped (scope_in (frames_of u) n iterations) subs ++ others)
scoped_earlier u v g of is n iterations frame made subs others =
    more_earlier u v g of is made (scoped (scope_in (frames_of v) n iterations) subs ++ others)
    ∙ ap (λ (f : Frame). dims_more (table_in u) (reading (table_in u) of.left) (bound_in u of) made (scoped (record { frame = f; iterations = iterations }) subs ++ others)) (frame_later u v n g frame)

module _ (u v : World) (g : Grows u v) (of : Measured) (is : IsMember u of.member.now) (sizes : List SizesAt) (are : AreSized u sizes) (made : Dims) (i : ℕ) (one : SizesAt) (whole : Outcome Dims)
    (small : i < length sizes) (at : one ≡ get_or sizes i one)
    (left : dims_more (table_in u) (reading (table_in u) of.left) (bound_in u of) made (each_dim (sizes_seen (frames_of u) (drop i sizes))) ≡ whole) where
  abbrev others : List (Scope × Option Expr)
  others = each_dim (sizes_seen (frames_of u) (drop (i + 1) sizes))

  frame_here : IsFrame u one.scope.frame.0
  frame_here = subst (λ (x : SizesAt). IsFrame u x.scope.frame.0) (sym at) (every_at (λ (x : SizesAt). IsFrame u x.scope.frame.0) sizes i one small are)

  opened_sizes : dims_more (table_in u) (reading (table_in u) of.left) (bound_in u of) made (scoped (scope_in (frames_of u) one.scope.frame.0 one.scope.iters) one.subscripts.now ++ others) ≡ whole
  opened_sizes =
      ap (λ xs. dims_more (table_in u) (reading (table_in u) of.left) (bound_in u of) made (each_dim (sizes_seen (frames_of u) xs))) (ap (λ x. x ∷ drop (i + 1) sizes) at ∙ sym (drop_more sizes i one small)) ∙ left

  opened_earlier : dims_more (table_in v) (reading (table_in v) of.left) (bound_in v of) made (scoped (scope_in (frames_of v) one.scope.frame.0 one.scope.iters) one.subscripts.now ++ others) ≡ whole
  opened_earlier = scoped_earlier u v g of is one.scope.frame.0 one.scope.iters frame_here made one.subscripts.now others ∙ opened_sizes

  pub sizes_more : (after : Dims) →
      dims_more (table_in v) (reading (table_in v) of.left) (bound_in v of) made (scoped (scope_in (frames_of v) one.scope.frame.0 one.scope.iters) one.subscripts.now ++ others) ≡ dims_more (table_in v) (reading (table_in v) of.left) (bound_in v of) after others →
      dims_more (table_in u) (reading (table_in u) of.left) (bound_in u of) after others ≡ whole
  sizes_more after told = sym (more_earlier u v g of is after others) ∙ (sym told ∙ opened_earlier)

  pub sizes_stop : {T : Type 0} (stop : Stop) (after : T → Outcome Dims) →
      GoesOn {T = T} (Err stop) (dims_more (table_in v) (reading (table_in v) of.left) (bound_in v of) made (scoped (scope_in (frames_of v) one.scope.frame.0 one.scope.iters) one.subscripts.now ++ others)) after →
      Gives {T = Dims} (Err stop) whole
  sizes_stop (broken_by broken) after told = sym opened_earlier ∙ told
  sizes_stop no_memory after told = tt

pub sizes_done : (table : Table) (ask : Ask) (bound : Outcome Dims) (made : Dims) (sizes : List SizesAt) (frames : List Frame) (i : ℕ) (whole : Outcome Dims) → length sizes ≤ i →
    dims_more table ask bound made (each_dim (sizes_seen frames (drop i sizes))) ≡ whole → whole ≡ Ok made
sizes_done table ask bound made sizes frames i whole all left =
    sym left ∙ (ap (λ xs. dims_more table ask bound made (each_dim (sizes_seen frames xs))) (drop_all i sizes all) ∙ no_dims table ask bound made)

-- ---- bindings

module _ (table : Table) (ask : Ask) (member : Member) (count : ℕ) where
  pub binding_halts : {T : Type 0} (view : T → Child) (stop : Stop) → GivesSeen view (Err stop) (child_of_member table member []) → Gives {T = Dims} (Err stop) (binding_dims table ask member count)
  binding_halts view (broken_by broken) h = rw h refl
  binding_halts view no_memory h = tt

  pub no_binding : (child : Child) → child_of_member table member [] ≡ Ok child → picked_here child.sources ≡ None → binding_dims table ask member count ≡ breaks NO_VALUE member.declares.place
  no_binding child h none = rw (h, none) refl

  pub dims_bound : (child : Child) (picked : Picked) → child_of_member table member [] ≡ Ok child → picked_here child.sources ≡ Some picked → binding_dims table ask member count ≡ dims_of_binding table ask count picked
  dims_bound child picked h some = rw (h, some) refl

-- all dimensions of a component, told in a later world
pub dims_as : (u v : World) → Grows u v → (of : Measured) → IsMember u of.member.now → (sizes : List Sizes) → all_sizes (table_in u) (member_of (frames_of u) of.member.now) ≡ Ok sizes → of.count ≡ count_sizes sizes →
    dims_more (table_in v) (reading (table_in v) of.left) (bound_in v of) [] (each_dim sizes) ≡ dims_of_component (table_in u) (reading (table_in u) of.left) (member_of (frames_of u) of.member.now)
dims_as u v g of is sizes all counted =
    let table = table_in u in
    let ask = reading table of.left in
    let member = member_of (frames_of u) of.member.now in
    more_earlier u v g of is [] (each_dim sizes)
    ∙ (ap (λ n. dims_more table ask (binding_dims table ask member n) [] (each_dim sizes)) counted
    ∙ sym (component_by table ask member ∙ ap (λ (o : Seen (List Sizes)). and_then o (λ sizes. dims_more table ask (binding_dims table ask member (count_sizes sizes)) [] (each_dim sizes))) all))
