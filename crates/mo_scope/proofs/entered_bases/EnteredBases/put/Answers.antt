-- One base more is held.
use Rattle.std.proofs.Common.{ℕ, cond, Option, Some, ap, ◌∙◌}
use Rattle.std.specs.HashMap.{get}
use Rattle.mo_scope.specs.KeptBases.{base_held, base_key_eq, is_base_key}
use Rattle.mo_scope.proofs.KeptBases.{one_base_more}
use Rattle.mo_scope.proofs.entered_bases.EnteredBases.put.Goals as goal

pub returns : goal.returns
returns c =
    let old : (frame at class : ℕ) → Option ℕ = base_held c.args.self.now in
    let new : (frame at class : ℕ) → Option ℕ = λ frame at class. get base_key_eq c.insert.new.self (record { frame = frame; at = at; class = class }) in
    one_base_more old new c.args.frame.0 c.args.at c.args.class.0 c.args.base.0
    (λ f p k.
    c.in_ok-insert.ensures.updates.0 (record { frame = f; at = p; class = k })
    ∙ ap (λ x. cond (is_base_key x c.key_of.result.at c.key_of.result.class f p k) (Some c.args.base.0) (old f p k)) c.key_of.ensures.frame
    ∙ ap (λ x. cond (is_base_key c.args.frame.0 x c.key_of.result.class f p k) (Some c.args.base.0) (old f p k)) c.key_of.ensures.at
    ∙ ap (λ x. cond (is_base_key c.args.frame.0 c.args.at x f p k) (Some c.args.base.0) (old f p k)) c.key_of.ensures.class)
