-- One more is kept.
use Rattle.std.proofs.Common.{◌≡◌, ◌++◌, ◌∷◌, [], ℕ, List, Result, Ok, Err, Some, refl, sym, subst}
use Rattle.std.specs.Prelude.{OnOk, OnErr, slice_get}
use Rattle.mo_scope.specs.Worlds.{World}
use Rattle.mo_eval.proofs.Remembered.{each_pushed}
use Rattle.mo_equations.specs.declared.desk.Desk.{Desk}
use Rattle.mo_equations.specs.declared.desk.KeptConstant.{KeptConstant}
use Rattle.mo_equations.specs.steps.Desks.{IsConstantKept, IsDesk, Stays}
use Rattle.mo_equations.proofs.Staying.{stays_still}
use Rattle.mo_equations.proofs.constants.keep_constant.Goals as goal

kept_more : (world : World) (desk : Desk) (row : KeptConstant) (constants : List KeptConstant) → IsDesk world desk → IsConstantKept world desk.leaves row → constants ≡ desk.constants ++ row ∷ [] →
    Stays world world desk (record desk { constants = constants })
kept_more world desk row constants is one e =
    let still = stays_still world desk is in
    record {
      goes = record {
        grows = still.goes.grows;
        leaves = refl;
        asked = refl;
        desk = record {
          reader = is.reader;
          leaves = is.leaves;
          constants = subst (λ (xs : List KeptConstant). (k : ℕ) (kept : KeptConstant) → slice_get xs k ≡ Some kept → IsConstantKept world desk.leaves kept) (sym e) (each_pushed (IsConstantKept world desk.leaves) desk.constants row is.constants one);
          binding = is.binding;
          read = is.read;
          shared = is.shared;
          asked = is.asked;
        };
      };
      turns = refl;
    }

kept_same : (world : World) (desk : Desk) (constants : List KeptConstant) → IsDesk world desk → constants ≡ desk.constants → Stays world world desk (record desk { constants = constants })
kept_same world desk constants is e = subst (λ (xs : List KeptConstant). Stays world world desk (record desk { constants = xs })) (sym e) (stays_still world desk is)

either : {T E : Type 0} (world : World) (desk : Desk) (row : KeptConstant) (constants : List KeptConstant) (result : Result T E) → IsDesk world desk → IsConstantKept world desk.leaves row →
    OnOk result (constants ≡ desk.constants ++ row ∷ []) → OnErr result (constants ≡ desk.constants) → Stays world world desk (record desk { constants = constants })
either world desk row constants (Ok x) is one ok err = kept_more world desk row constants is one ok
either world desk row constants (Err x) is one ok err = kept_same world desk constants is err

pub returns : goal.returns
returns c =
    let row : KeptConstant = record { element = c.in_ok-element.element; left = c.args.left; flat = c.in_ok-flat.flat } in
    let one : IsConstantKept c.args._s.now c.args.desk.now.leaves row = rw (c.in_ok-element.ensures, c.in_ok-flat.ensures) (record { member = c.requires.member; e = c.requires.is.0; is = c.requires.is.1; flat = c.requires.is.2 }) in
    either c.args._s.now c.args.desk.now row c.push.new.self c.push.result c.requires.desk one c.push.ensures.ok c.push.ensures.err
