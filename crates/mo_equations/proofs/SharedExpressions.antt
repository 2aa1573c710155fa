-- The expressions that elements share are the same in later worlds, and are asked of by what they are.
use Rattle.std.proofs.Common.{◌≡◌, ℕ, zero, suc, ◌+◌, List, [], ◌∷◌, ◌++◌, take, drop, Ok, ap, sym, subst, ◌∙◌}
use Rattle.mo_syntax.specs.declared.expr.Expr.{Expr}
use Rattle.mo_scope.specs.Frames.{Frame}
use Rattle.mo_scope.specs.Places.{Every}
use Rattle.mo_scope.specs.Sights.{scope_at}
use Rattle.mo_scope.specs.Worlds.{World, Grows, IsFrame, frames_of, scope_in, table_in}
use Rattle.mo_names.proofs.Later.{frame_later, is_frame_later}
use Rattle.mo_eval.specs.InScope.{resolved_in_scope}
use Rattle.mo_eval.specs.Seen.{resolved_seen}
use Rattle.mo_eval.specs.Values.{most_references, resolved}
use Rattle.mo_eval.specs.declared.virtuals.Resolved.{Resolved as ResolvedAt}
use Rattle.mo_eval.proofs.Grown.{same_table, same_virtuals}
use Rattle.mo_equations.specs.declared.desk.Resolution.{Resolution}
use Rattle.mo_equations.specs.declared.desk.SharedExpression.{SharedExpression}
use Rattle.mo_equations.specs.declared.leaves.Leaves.{Leaves}
use Rattle.mo_equations.specs.declared.standing.Asked.{Asked}
use Rattle.mo_equations.specs.steps.Sharing.{IsShared, IsSharedBy}
use Rattle.mo_equations.specs.steps.Resolutions.{IsResolution}
use Rattle.mo_equations.specs.steps.Standing.{tree_in}
use Rattle.mo_equations.proofs.Lists.{every_mapped}
use Rattle.mo_equations.proofs.ResolvedOnce.{left_all, resolution_later}

still_resolved : (u v : World) (leaves : Leaves) (shared : SharedExpression) → Grows u v → IsShared u leaves shared →
    resolved (table_in v) most_references (scope_in (frames_of v) shared.frame.0 []) shared.value.now ≡ Ok (resolved_seen (frames_of v) shared.resolution.resolved)
still_resolved u v leaves shared grows one =
    ap (λ table. resolved table most_references (scope_in (frames_of v) shared.frame.0 []) shared.value.now) (same_table u v grows)
    ∙ (ap (λ (frame : Frame). resolved (table_in u) most_references (record { frame = frame; iterations = [] }) shared.value.now) (frame_later u v shared.frame.0 grows one.frame)
    ∙ (one.is
    ∙ ap (λ virtuals. Ok (record { expression = shared.resolution.resolved.expression; virtuals = virtuals })) (sym (same_virtuals u v grows shared.resolution.resolved.virtuals one.resolution.there))))

pub shared_later : (u v : World) (before after : Leaves) (shared : SharedExpression) → Grows u v → tree_in v after ≡ tree_in u before → IsShared u before shared → IsShared v after shared
shared_later u v before after shared grows same one = record {
  frame = is_frame_later u v shared.frame.0 grows one.frame;
  resolution = resolution_later u v before after shared.resolution grows same one.resolution;
  is = still_resolved u v before shared grows one;
}

-- where more variables were asked of
pub shared_with : (u v : World) (before after : Leaves) (shared : SharedExpression) (resolution : Resolution) → Grows u v → IsShared u before shared → IsResolution v after resolution →
    resolution.resolved ≡ shared.resolution.resolved → IsShared v after (record shared { resolution = resolution })
shared_with u v before after shared resolution grows one is same = record {
  frame = is_frame_later u v shared.frame.0 grows one.frame;
  resolution = is;
  is = still_resolved u v before shared grows one ∙ ap (λ (r : ResolvedAt). Ok (resolved_seen (frames_of v) r)) (sym same);
}

pub all_shared_later : (u v : World) (before after : Leaves) (all : List SharedExpression) → Grows u v → tree_in v after ≡ tree_in u before → Every (IsShared u before) all → Every (IsShared v after) all
all_shared_later u v before after all grows same are = every_mapped (IsShared u before) (IsShared v after) (λ shared is. shared_later u v before after shared grows same is) all are

-- what is asked of is that expression
same_asked : (u : World) (shared : SharedExpression) (asked : Asked) → IsSharedBy shared asked → asked.left ≡ most_references →
    resolved_in_scope u asked.left asked.at.now asked.value.now ≡ resolved (table_in u) most_references (scope_in (frames_of u) shared.frame.0 []) shared.value.now
same_asked u shared asked by left =
    left_all u asked.left asked.at.now asked.value.now left
    ∙ (ap (λ (e : Expr). resolved (table_in u) most_references (scope_at u asked.at.now) e) (sym by.value)
    ∙ (ap (λ iters. resolved (table_in u) most_references (scope_in (frames_of u) asked.at.now.frame.0 iters) shared.value.now) by.outside
    ∙ ap (λ (frame : ℕ). resolved (table_in u) most_references (scope_in (frames_of u) frame []) shared.value.now) (sym by.frame)))

-- it is what is resolved
pub resolved_by : (u : World) (leaves : Leaves) (shared : SharedExpression) (asked : Asked) → IsShared u leaves shared → IsSharedBy shared asked → asked.left ≡ most_references →
    resolved_in_scope u asked.left asked.at.now asked.value.now ≡ Ok (resolved_seen (frames_of u) shared.resolution.resolved)
resolved_by u leaves shared asked is by left = same_asked u shared asked by left ∙ is.is

pub shared_made : (u v : World) (leaves : Leaves) (shared : SharedExpression) (asked : Asked) → Grows u v → IsFrame u asked.at.now.frame.0 → IsResolution v leaves shared.resolution → IsSharedBy shared asked → asked.left ≡ most_references →
    resolved_in_scope u asked.left asked.at.now asked.value.now ≡ Ok (resolved_seen (frames_of v) shared.resolution.resolved) → IsShared v leaves shared
shared_made u v leaves shared asked grows frame resolution by left told =
    let here : IsFrame u shared.frame.0 = subst (IsFrame u) (sym by.frame) frame in
    record {
      frame = is_frame_later u v shared.frame.0 grows here;
      resolution = resolution;
      is = ap (λ table. resolved table most_references (scope_in (frames_of v) shared.frame.0 []) shared.value.now) (same_table u v grows)
          ∙ (ap (λ (frame : Frame). resolved (table_in u) most_references (record { frame = frame; iterations = [] }) shared.value.now) (frame_later u v shared.frame.0 grows here)
          ∙ (sym (same_asked u shared asked by left) ∙ told));
    }

-- ---- the list of them

taken : (u : World) (leaves : Leaves) (all : List SharedExpression) (n : ℕ) → Every (IsShared u leaves) all → Every (IsShared u leaves) (take n all)
taken u leaves all zero are = tt
taken u leaves [] (suc n) are = tt
taken u leaves (x ∷ all) (suc n) are = (are.0, taken u leaves all n are.1)

dropped : (u : World) (leaves : Leaves) (all : List SharedExpression) (n : ℕ) → Every (IsShared u leaves) all → Every (IsShared u leaves) (drop n all)
dropped u leaves all zero are = are
dropped u leaves [] (suc n) are = tt
dropped u leaves (x ∷ all) (suc n) are = dropped u leaves all n are.1

joined : (u : World) (leaves : Leaves) (all others : List SharedExpression) → Every (IsShared u leaves) all → Every (IsShared u leaves) others → Every (IsShared u leaves) (all ++ others)
joined u leaves [] others are more = more
joined u leaves (x ∷ all) others are more = (are.0, joined u leaves all others are.1 more)

-- without the one at a place
pub without : (u : World) (leaves : Leaves) (all rest : List SharedExpression) (place : ℕ) → rest ≡ take place all ++ drop (place + 1) all → Every (IsShared u leaves) all → Every (IsShared u leaves) rest
without u leaves all rest place is are =
    subst (Every (IsShared u leaves)) (sym is) (joined u leaves (take place all) (drop (place + 1) all) (taken u leaves all place are) (dropped u leaves all (place + 1) are))

-- with one more
pub held_more : (u : World) (leaves : Leaves) (all now : List SharedExpression) (shared : SharedExpression) → now ≡ all ++ shared ∷ [] → Every (IsShared u leaves) all → IsShared u leaves shared → Every (IsShared u leaves) now
held_more u leaves all now shared is are one = subst (Every (IsShared u leaves)) (sym is) (joined u leaves all (shared ∷ []) are (one, tt))
