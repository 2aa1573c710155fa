-- What is read of components stands: their conditions, their dimensions and the values of their bindings, however many references may still
-- be read.
use Rattle.std.proofs.Common.{ℕ, zero, suc, [], ◌∷◌, length, Some, None}
use Rattle.std.specs.Prelude.{nat_eq}
use Rattle.mo_syntax.specs.declared.expr.Expr.{Expr}
use Rattle.mo_syntax.specs.declared.meaning.Kind.{Kind}
use Rattle.mo_syntax.specs.declared.place.Place.{Place}
use Rattle.mo_scope.specs.Frames.{Scope, Member}
use Rattle.mo_scope.specs.Names.{child_of_member}
use Rattle.mo_scope.specs.Parts.{Picked}
use Rattle.mo_scope.specs.Rows.{Table}
use Rattle.mo_syntax.specs.declared.rules.TheConstants.{CONDITION_NOT_BOOLEAN}
use Rattle.mo_typing.specs.Dims.{Dims}
use Rattle.mo_typing.specs.Indices.{Index, is_index}
use Rattle.mo_typing.specs.Kinds.{accepts, is_accepted}
use Rattle.mo_eval.specs.Components.{binding_of, condition_in, element_value, place_of, reader, reading_by, value_in}
use Rattle.mo_values.specs.Asked.{fitted, for_value, layered}
use Rattle.mo_eval.specs.Contexts.{truth_of}
use Rattle.mo_eval.specs.References.{is_replaced}
use Rattle.mo_eval.specs.Resolving.{resolved_in}
use Rattle.mo_eval.specs.Values.{reading}
use Rattle.mo_eval.specs.Virtuals.{Ask, Element, known_at}
use Rattle.mo_values.specs.declared.context.Context.{Context}
use Rattle.mo_places.specs.InFiles.{Descends}
use Rattle.mo_places.specs.Resolved.{AskStands, ElementStands, ReadingStands, ResolvedStands}
use Rattle.mo_places.specs.Stands.{ChildStands, Answers, Anything, FrameStands, IfAny, MemberStands, PickedStands, TableStands}
use Rattle.mo_places.specs.Written.{Written, At, Valued}
use Rattle.mo_places.proofs.laws.Layers.{LayersStand, layered_answers, must_be_truth_answers, truth_of_answers}
use Rattle.mo_places.proofs.laws.Naming.{child_of_member_stands}
use Rattle.mo_places.proofs.laws.Resolving.{reads_stand}
use Rattle.mo_places.proofs.laws.Sources.{picked_stands}
use Rattle.mo_places.proofs.laws.Standing.{if_answers, then_answers}

pub fitted_answers : (P : Written → Type 0) (place : Place) → P (At place) → (index : Index) (dims : Dims) → Answers P Anything (fitted place index dims)
fitted_answers P place hp [] [] = record { holds = tt }
fitted_answers P place hp (k ∷ index) [] = record { holds = hp }
fitted_answers P place hp [] (n ∷ dims) = if_answers P Anything (nat_eq 0 (length (n ∷ dims))) _ _ (record { holds = hp }) (record { holds = hp })
fitted_answers P place hp (k ∷ index) (n ∷ dims) =
    if_answers P Anything (nat_eq (length (k ∷ index)) (length (n ∷ dims))) _ _ (if_answers P Anything (is_index (n ∷ dims) (k ∷ index)) _ _ (record { holds = tt }) (record { holds = hp })) (record { holds = hp })

-- what resolving an expression says, with what may be read; the law of Nodes by induction over expressions gives it
abbrev pub ResolvesIn : (Written → Type 0) → Table → Ask → Type 0
ResolvesIn P table ask = (scope : Scope) → FrameStands P scope.frame → (context : Context) (e : Expr) → P (Valued e) → Answers P (ResolvedStands P) (resolved_in table ask scope context e)

-- what the elements of a component are bound to
pub binds : (P : Written → Type 0) (table : Table) → TableStands P table → (member : Member) (index : Index) → MemberStands P member → Answers P (IfAny (PickedStands P)) (binding_of table member index)
binds P table stands member index hm =
    then_answers P (ChildStands P) (IfAny (PickedStands P)) (child_of_member table member index) _ (child_of_member_stands P table stands member index hm)
    (λ child hc. record { holds = picked_stands P table stands child.sources [] hc.sources })

pub value_place : (P : Written → Type 0) → Descends P → (e : Expr) → P (Valued e) → P (At (place_of e))
value_place P descends e h = (descends.expression e h).0

module _ (P : Written → Type 0) (descends : Descends P) (layers : LayersStand P) (table : Table) (stands : TableStands P table) (ask : Ask) (asks : AskStands P ask) (resolves : ResolvesIn P table ask) where
  pub condition_answers : (scope : Scope) (e : Expr) → FrameStands P scope.frame → P (Valued e) → Answers P Anything (condition_in table ask scope e)
  condition_answers scope e hf he =
      then_answers P (ResolvedStands P) Anything (resolved_in table ask scope for_value e) _ (resolves scope hf for_value e he) (λ resolved hr.
      then_answers P Anything Anything (truth_of (reader ask) CONDITION_NOT_BOOLEAN (place_of e) resolved) _ (truth_of_answers P layers (reader ask) (reads_stand P ask asks) CONDITION_NOT_BOOLEAN (place_of e) (value_place P descends e he) resolved hr)
      (λ known _. must_be_truth_answers P (place_of e) (value_place P descends e he) known))

  value_in_answers : (kind : Kind) (binding : Picked) → PickedStands P binding → Answers P Anything (value_in table ask kind binding)
  value_in_answers kind binding h =
      then_answers P (ResolvedStands P) Anything (resolved_in table ask binding.scope for_value binding.value) _ (resolves binding.scope h.scope for_value binding.value h.value) (λ resolved hr.
      then_answers P Anything Anything (layered (λ got. accepts kind got (place_of binding.value)) (fitted (place_of binding.value) binding.pending) resolved.expression) _
      (layered_answers P layers Anything (λ got. accepts kind got (place_of binding.value)) (fitted (place_of binding.value) binding.pending) resolved.expression hr.expression
      (λ got. if_answers P Anything (is_accepted kind got) _ _ (record { holds = tt }) (record { holds = value_place P descends binding.value h.value }))
      (fitted_answers P (place_of binding.value) (value_place P descends binding.value h.value) binding.pending)) (λ _ _.
      then_answers P Anything Anything (known_at (reader ask) resolved binding.pending) _ (layers.known (reader ask) (reads_stand P ask asks) resolved hr binding.pending) (λ known _. record { holds = tt })))

  pub element_value_answers : (element : Element) → ElementStands P element → Answers P Anything (element_value table ask element)
  element_value_answers element h =
      then_answers P (IfAny (PickedStands P)) Anything (binding_of table element.member element.index) _ (binds P table stands element.member element.index h.member)
      (elim [
        | None ↦ λ _. if_answers P Anything (is_replaced element) _ _ (record { holds = h.place }) (record { holds = tt })
        | Some binding ↦ λ hb. value_in_answers element.kind binding hb
      ])

-- ---- however many references may still be read

-- What is read with one reference more stands where what is read with those left does.
abbrev pub Deepens : (Written → Type 0) → Table → Type 0
Deepens P table = (ask : Ask) → AskStands P ask → ReadingStands P (reading_by table ask)

pub reading_stands : (P : Written → Type 0) (table : Table) → Deepens P table → (left : ℕ) → AskStands P (reading table left)
unfolding reading
reading_stands P table deepens zero = λ place hp. record { holds = hp }
reading_stands P table deepens (suc left) = λ place hp. record { holds = deepens (reading table left) (reading_stands P table deepens left) }
