use Rattle.std.proofs.Common.{◌∙◌, Err, ap, sym, rules}
use Rattle.mo_scope.specs.Lookup.{Class, Literal, Iteration, Function, Time}
use Rattle.mo_scope.specs.Worlds.{frame_in, frames_of, table_in}
use Rattle.mo_names.specs.Sights.{found_in, member_of}
use Rattle.mo_eval.proofs.Growing.{gives_as}
use Rattle.mo_eval.proofs.Naming.{no_subs, other_counted, some_counted}
use Rattle.mo_names.proofs.Later.{grows_refl}
use Rattle.mo_eval.proofs.names.counted.Goals as goal

pub returns-then-is_empty-clause-exact : goal.returns-then-is_empty-clause-exact
returns-then-is_empty-clause-exact c = λ f.
    no_subs (table_in c.args.s.now) (found_in (frames_of c.args.s.now) c.args.at.now.found) f c.args.at.now.part.now c.is_empty.result c.is_empty.ensures (search rules)

pub returns-in-Component-clause-exact : goal.returns-in-Component-clause-exact
returns-in-Component-clause-exact c = λ f.
    rw c.in-Component.is
    (gives_as c.counted_in.result _ _
    (sym (some_counted (table_in c.args.s.now) (frame_in (frames_of c.args.s.now) c.in-Component.field-0.0) (member_of (frames_of c.args.s.now) c.in-Component.member) f c.args.at.now.part.now c.is_empty.result c.is_empty.ensures (search rules))) c.counted_in.ensures.exact)

pub returns-in-Class-clause-exact : goal.returns-in-Class-clause-exact
returns-in-Class-clause-exact c = λ f.
    rw c.in-Class.is (other_counted (table_in c.args.s.now) (Class (frame_in (frames_of c.args.s.now) c.in-Class.field-0.0) c.in-Class.field-1) f c.args.at.now.part.now c.is_empty.result tt c.is_empty.ensures (search rules) ∙ ap Err (sym (search rules)))

pub returns-in-Literal-clause-exact : goal.returns-in-Literal-clause-exact
returns-in-Literal-clause-exact c = λ f.
    rw c.in-Literal.is (other_counted (table_in c.args.s.now) (Literal c.in-Literal.field-0.0 c.in-Literal.field-1) f c.args.at.now.part.now c.is_empty.result tt c.is_empty.ensures (search rules) ∙ ap Err (sym (search rules)))

pub returns-in-Iteration-clause-exact : goal.returns-in-Iteration-clause-exact
returns-in-Iteration-clause-exact c = λ f.
    rw c.in-Iteration.is (other_counted (table_in c.args.s.now) (Iteration c.in-Iteration.field-0) f c.args.at.now.part.now c.is_empty.result tt c.is_empty.ensures (search rules) ∙ ap Err (sym (search rules)))

pub returns-in-Function-clause-exact : goal.returns-in-Function-clause-exact
returns-in-Function-clause-exact c = λ f.
    rw c.in-Function.is (other_counted (table_in c.args.s.now) (Function c.in-Function.field-0) f c.args.at.now.part.now c.is_empty.result tt c.is_empty.ensures (search rules) ∙ ap Err (sym (search rules)))

pub returns-in-Time-clause-exact : goal.returns-in-Time-clause-exact
returns-in-Time-clause-exact c = λ f.
    rw c.in-Time.is (other_counted (table_in c.args.s.now) Time f c.args.at.now.part.now c.is_empty.result tt c.is_empty.ensures (search rules) ∙ ap Err (sym (search rules)))

pub returns-then-is_empty-clause-grows : goal.returns-then-is_empty-clause-grows
returns-then-is_empty-clause-grows c = grows_refl _

pub returns-in-Class-clause-grows : goal.returns-in-Class-clause-grows
returns-in-Class-clause-grows c = grows_refl _

pub returns-in-Literal-clause-grows : goal.returns-in-Literal-clause-grows
returns-in-Literal-clause-grows c = grows_refl _

pub returns-in-Iteration-clause-grows : goal.returns-in-Iteration-clause-grows
returns-in-Iteration-clause-grows c = grows_refl _

pub returns-in-Function-clause-grows : goal.returns-in-Function-clause-grows
returns-in-Function-clause-grows c = grows_refl _

pub returns-in-Time-clause-grows : goal.returns-in-Time-clause-grows
returns-in-Time-clause-grows c = grows_refl _
