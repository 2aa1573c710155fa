-- What is resolved of an expression is the same in later worlds.
use Rattle.std.proofs.Common.{◌≡◌, ℕ, List, Result, Option, None, Ok, Err, Some, ap, sym, subst, ◌∙◌}
use Rattle.std.specs.Prelude.{IfSome, OnOk, Vec}
use Rattle.std.specs.Global.{Global}
use Rattle.mo_flat.specs.declared.expr.FlatExpr.{FlatExpr}
use Rattle.mo_syntax.specs.Outcome.{IfBroken, Outcome}
use Rattle.mo_syntax.specs.declared.expr.Expr.{Expr}
use Rattle.mo_syntax.specs.declared.place.Stop.{Stop}
use Rattle.mo_syntax.specs.declared.place.Stop.TheVariants.{Broken as broken_by, NoMemory as no_memory}
use Rattle.mo_scope.specs.Outcome as seen
use Rattle.mo_scope.specs.declared.source.ScopeAt.{ScopeAt}
use Rattle.mo_scope.specs.Frames.{Frame}
use Rattle.mo_scope.specs.Rows.{Table}
use Rattle.mo_scope.specs.Sights.{scope_at}
use Rattle.mo_scope.specs.Worlds.{World, Grows, IsFrame, frames_of, table_in}
use Rattle.mo_names.proofs.Later.{frame_later}
use Rattle.mo_eval.specs.InScope.{resolved_in_scope}
use Rattle.mo_eval.specs.Seen.{AreThere, resolved_seen, virtuals_at}
use Rattle.mo_eval.specs.Values.{most_references, resolved}
use Rattle.mo_eval.specs.Virtuals.{Resolved}
use Rattle.mo_eval.proofs.Grown.{same_table, same_virtuals, there_still}
use Rattle.mo_eval.specs.declared.virtuals.Resolved.{Resolved as ResolvedAt}
use Rattle.mo_eval.specs.declared.virtuals.Virtual.{Virtual as VirtualAt}
use Rattle.mo_equations.specs.declared.desk.Resolution.{Resolution}
use Rattle.mo_equations.specs.declared.flat.Flat.{Flat}
use Rattle.mo_equations.specs.declared.leaves.Leaves.{Leaves}
use Rattle.mo_equations.specs.Leaves.{Tree, number_of}
use Rattle.mo_equations.specs.Replacing.{flat_variable, of_variable}
use Rattle.mo_equations.specs.steps.Resolutions.{IsResolution, IsResolvedSo}
use Rattle.mo_equations.specs.steps.Standing.{AreReplaced, replacing_in, tree_in}

-- what replaces its variables
variables_later : (u v : World) (before after : Leaves) (virtuals : List VirtualAt) → Grows u v → tree_in v after ≡ tree_in u before → AreThere u virtuals →
    of_variable (replacing_in v after most_references) (virtuals_at v virtuals) ≡ of_variable (replacing_in u before most_references) (virtuals_at u virtuals)
variables_later u v before after virtuals grows same there =
    ap (λ (tree : Tree). of_variable (flat_variable tree.classes (number_of tree) most_references) (virtuals_at v virtuals)) same
    ∙ ap (of_variable (replacing_in u before most_references)) (same_virtuals u v grows virtuals there)

pub resolution_later : (u v : World) (before after : Leaves) (resolution : Resolution) → Grows u v → tree_in v after ≡ tree_in u before → IsResolution u before resolution → IsResolution v after resolution
resolution_later u v before after resolution grows same one = record {
  there = there_still u v grows resolution.resolved.virtuals one.there;
  layers = one.layers;
  replaced = subst (λ (V : ℕ → Outcome FlatExpr). AreReplaced V resolution.replaced.items) (sym (variables_later u v before after resolution.resolved.virtuals grows same one.there)) one.replaced;
}

-- more variables were asked of
pub resolution_with : (u v : World) (before after : Leaves) (resolution : Resolution) (replaced : Vec (Option Flat) Global) → Grows u v → tree_in v after ≡ tree_in u before → IsResolution u before resolution →
    AreReplaced (of_variable (replacing_in u before most_references) (virtuals_at u resolution.resolved.virtuals)) replaced.items → IsResolution v after (record resolution { replaced = replaced })
resolution_with u v before after resolution replaced grows same one are = record {
  there = there_still u v grows resolution.resolved.virtuals one.there;
  layers = one.layers;
  replaced = subst (λ (V : ℕ → Outcome FlatExpr). AreReplaced V replaced.items) (sym (variables_later u v before after resolution.resolved.virtuals grows same one.there)) are;
}

pub resolution_made : (v : World) (leaves : Leaves) (found : Option Resolution) (of : ResolvedAt) → AreThere v of.virtuals → IfSome found (λ resolution. IsResolvedSo resolution of) → IfSome found (IsResolution v leaves)
resolution_made v leaves None of there so = tt
resolution_made v leaves (Some resolution) of there so = record {
  there = subst (λ (r : ResolvedAt). AreThere v r.virtuals) (sym so.resolved) there;
  layers = so.layers;
  replaced = so.unasked (of_variable (replacing_in v leaves most_references) (virtuals_at v resolution.resolved.virtuals));
}

pub resolved_so : (v : World) (found : Option Resolution) (of : ResolvedAt) (told : Outcome Resolved) → told ≡ Ok (resolved_seen (frames_of v) of) →
    IfSome found (λ resolution. IsResolvedSo resolution of) → IfSome found (λ resolution. told ≡ Ok (resolved_seen (frames_of v) resolution.resolved))
resolved_so v None of told is so = tt
resolved_so v (Some resolution) of told is so = is ∙ ap (λ (r : ResolvedAt). Ok (resolved_seen (frames_of v) r)) (sym so.resolved)

-- what is asked with all references left
pub left_all : (world : World) (left : ℕ) (at : ScopeAt) (e : Expr) → left ≡ most_references → resolved_in_scope world left at e ≡ resolved (table_in world) most_references (scope_at world at) e
left_all world left at e all = ap (λ n. resolved (table_in world) n (scope_at world at) e) all

-- it is the same in later worlds
pub resolved_still : (u v : World) (left : ℕ) (at : ScopeAt) (e : Expr) → Grows u v → IsFrame u at.frame.0 → resolved_in_scope v left at e ≡ resolved_in_scope u left at e
resolved_still u v left at e grows is =
    ap (λ (table : Table). resolved table left (scope_at v at) e) (same_table u v grows)
    ∙ ap (λ (frame : Frame). resolved (table_in u) left (record { frame = frame; iterations = at.iters }) e) (frame_later u v at.frame.0 grows is)

-- a refusal
pub refused_so : {U : Type 0} (T : Type 0) (view : U → Resolved) (told : Outcome Resolved) (stop : Stop) → IfBroken {T = T} (Err stop) (λ broken. told ≡ Err broken) → seen.Gives view (Err stop) told
refused_so T view told (broken_by broken) is = is
refused_so T view told no_memory is = tt

pub refused_of : {U : Type 0} (T : Type 0) (view : U → Resolved) (told : Outcome Resolved) (stop : Stop) → seen.Gives view (Err stop) told → IfBroken {T = T} (Err stop) (λ broken. told ≡ Err broken)
refused_of T view told (broken_by broken) is = is
refused_of T view told no_memory is = tt

-- where there is an answer
pub then_ok : {P Q : Type 0} (result : Result Flat Stop) → (P → Q) → OnOk result P → OnOk result Q
then_ok (Ok flat) next is = next is
then_ok (Err stop) next is = tt
