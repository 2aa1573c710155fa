use Rattle.mo_scope.specs.Worlds.{frames_of, table_in}
use Rattle.mo_scope.specs.Names.{found_reference}
use Rattle.mo_names.specs.declared.found.Found.{Found as FoundAt}
use Rattle.mo_names.specs.Sights.{found_in}
use Rattle.mo_eval.specs.steps.Sites.{part_in, scope_of}
use Rattle.mo_eval.specs.Calls.{function_found}
use Rattle.mo_eval.specs.steps.Parts.{as_reference}
use Rattle.mo_eval.proofs.Calling.{bare_reference, seen_halts}
use Rattle.mo_eval.proofs.callee.function_named.Goals as goal

pub returns-in-Err-clause-exact : goal.returns-in-Err-clause-exact
returns-in-Err-clause-exact c =
    rw (bare_reference (table_in c.args.s.now) (scope_of c.args.s.now c.args.site.now) (part_in c.args.s.now c.args.site.now) c.args.reference.now)
    (seen_halts {T = FoundAt} (found_in (frames_of c.find_path.new.s)) c.in-Err.stop
    (found_reference (table_in c.args.s.now) (scope_of c.args.s.now c.args.site.now) c.args.reference.now)
    (function_found c.args.place (as_reference (part_in c.args.s.now c.args.site.now) c.args.reference.now)) c.in-Err.ensures.value)

pub returns-in-Ok-clause-exact : goal.returns-in-Ok-clause-exact
returns-in-Ok-clause-exact c =
    rw (bare_reference (table_in c.args.s.now) (scope_of c.args.s.now c.args.site.now) (part_in c.args.s.now c.args.site.now) c.args.reference.now, c.in-Ok.ensures.value)
    (rw (c.function_found.ensures (frames_of c.find_path.new.s) (part_in c.args.s.now c.args.site.now)) at c.answer.ensures)
