use Rattle.std.proofs.Common.{◌≡◌, List, ◌++◌, ◌∷◌, [], Some, ap, sym, subst, ◌∙◌}
use Rattle.std.specs.Prelude.{slice_get}
use Rattle.mo_eval.specs.Keeping.{IsBinding, IsBindingKept}
use Rattle.mo_eval.specs.declared.reader.KeptBinding.{KeptBinding}
use Rattle.mo_eval.proofs.Remembered.{each_pushed, or_this}
use Rattle.mo_eval.proofs.kept.keep_binding.Goals as goal

pub returns-in_err-push : goal.returns-in_err-push
returns-in_err-push c = λ world kept member binding.
    let same : c.push.new.self.items ≡ c.args.reader.now.bindings.items = c.in_err-push.ensures.items in
    record {
      values = kept.values;
      conditions = kept.conditions;
      dims = kept.dims;
      bindings = λ k it at. kept.bindings k it (sym (ap (λ (rows : List KeptBinding). slice_get rows k) same) ∙ at);
    }

pub returns : goal.returns
returns c = λ world kept member binding.
    let row : KeptBinding = record { member = c.args.element.now.member; left = c.args.left; bound = Some c.args.bound } in
    let pushed : c.push.new.self.items ≡ c.args.reader.now.bindings.items ++ row ∷ [] = c.in_ok-push.ensures.items in
    let each = each_pushed (IsBindingKept world) c.args.reader.now.bindings.items row kept.bindings
    (record { member = member; is = λ bound e. subst (IsBinding world c.args.left c.args.element.now.member) (ap (or_this c.args.bound) e) binding }) in
    record {
      values = kept.values;
      conditions = kept.conditions;
      dims = kept.dims;
      bindings = λ k it at. each k it (sym (ap (λ (rows : List KeptBinding). slice_get rows k) pushed) ∙ at);
    }
