-- One assert, kept where all its parts are built.
use Rattle.std.proofs.Common.{◌++◌, ◌∷◌, [], List, ap, sym, ◌∙◌}
use Rattle.mo_flat.specs.declared.model.FlatAssert.{FlatAssert}
use Rattle.mo_equations.proofs.Making.{assert_put, no_asserts, none_some, some_is}
use Rattle.mo_equations.proofs.made.one_assert.Goals.{in-Some+in_ok-push, in_default}
use Rattle.mo_equations.proofs.made.one_assert.Goals as goal

pub returns : goal.returns
returns c = λ condition message level is has at.
    let start = c.new-made.result in
    let kept = no_asserts start c.new-made.ensures in
    let levels = c.level_of-level_nodes.ensures in
    let nodes = rw (c.saturating_add.ensures, levels) at c.saturating_add-nodes.ensures in
    let told = rw levels at c.assert_of.ensures in
    elim c.match-assert_of.branch [
      | in-Some+in_ok-push w ↦
          assert_put c.args.condition c.args.message c.args.level condition message level is has at start c.match-assert_of.made c.saturating_add-nodes.result w.push.new.self c.new-made.ensures w.made-is nodes
          (λ one h. w.in_ok-push.ensures.ok ∙ (ap (λ (xs : List FlatAssert). xs ++ w.in-Some.one ∷ []) kept ∙ ap (λ (a : FlatAssert). a ∷ []) (some_is one w.in-Some.one (sym h ∙ (sym told ∙ w.in-Some.is)))))
      | in_default w ↦
          assert_put c.args.condition c.args.message c.args.level condition message level is has at start c.match-assert_of.made c.saturating_add-nodes.result start.asserts c.new-made.ensures w.made-is nodes
          (λ one h. none_some one (sym w.in_default.is ∙ (told ∙ h)))
    ]
