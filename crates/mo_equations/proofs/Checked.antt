-- What the checks of an expansion say.
use Rattle.std.proofs.Common.{◌≡◌, ℕ, ◌+◌, ◌<◌, ◌≤◌, List, length, take, get_or, All, subst}
use Rattle.std.proofs.lemmas.List.{take_all}
use Rattle.std.proofs.lemmas.List.Elements.{All-more}
use Rattle.mo_flat.specs.declared.connect.Connects.{Connects}
use Rattle.mo_flat.specs.declared.connect.End.{End}
use Rattle.mo_flat.specs.declared.connect.EndLeaf.{EndLeaf}
use Rattle.mo_flat.specs.declared.model.FlatVar.{FlatVar}
use Rattle.mo_flat.specs.SoundConnects.{IsAt, IsLeafIn, IsLeafOf}
use Rattle.mo_connect.specs.Equations.{IsNumericVariable}
use Rattle.mo_equations.specs.steps.Checking.{AreNumbers, JoinsNumbers}

pub all_next : {X : Type 0} (P : X → Type 0) (xs : List X) (i : ℕ) (x : X) → i < length xs → x ≡ get_or xs i x → P x → All P (take i xs) → All P (take (i + 1) xs)
all_next P xs i x small is this before = All-more P xs i x small before (subst P is this)

pub all_done : {X : Type 0} (P : X → Type 0) (xs : List X) (i : ℕ) → length xs ≤ i → All P (take i xs) → All P xs
all_done P xs i past all = subst (All P) (take_all i xs past) all

all_at : {X : Type 0} (P : X → Type 0) (xs : List X) (k : ℕ) (x : X) → All P xs → IsAt xs k x → P x
all_at P xs k x all at = subst P at.is (all k x at.within)

leaf_of : (vars : List FlatVar) (end : End) (leaf : EndLeaf) → All (AreNumbers vars) end.elements → IsLeafOf end leaf → IsNumericVariable vars leaf.variable
leaf_of vars end leaf all l =
    all_at (λ (x : EndLeaf). IsNumericVariable vars x.variable) l.element l.number leaf (all_at (AreNumbers vars) end.elements l.at l.element all l.there) l.is

pub leaves_are : (vars : List FlatVar) (c : Connects) → All (JoinsNumbers vars) c.list → (leaf : EndLeaf) → IsLeafIn c leaf → IsNumericVariable vars leaf.variable
leaves_are vars c all leaf (IsLeafIn.left k x at l) = leaf_of vars x.left leaf (all_at (JoinsNumbers vars) c.list k x all at).left l
leaves_are vars c all leaf (IsLeafIn.right k x at l) = leaf_of vars x.right leaf (all_at (JoinsNumbers vars) c.list k x all at).right l
