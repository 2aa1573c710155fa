use Rattle.std.proofs.Common.{◌≡◌, drop, map}
use Rattle.mo_syntax.specs.declared.expr.Expr.{Expr}
use Rattle.mo_scope.specs.Worlds.{Grows, frames_of, table_in}
use Rattle.mo_names.specs.Sights.{IsFound, found_in}
use Rattle.mo_eval.specs.Contexts.{Part}
use Rattle.mo_eval.specs.steps.Naming.{AreNames, named_on, names_seen}
use Rattle.mo_eval.specs.steps.Parts.{as_identifier}
use Rattle.mo_eval.proofs.names.parts_behind.Given as goal

abbrev pub invariant-loop-next : goal.invariant-loop-next
invariant-loop-next l = record {
  grows : Grows l.initial.s l.s;
  found : IsFound l.s l.at.found;
  names : AreNames l.s l.names;
  is : (f : Expr → Part) →
      named_on (table_in l.initial.s) (names_seen f (frames_of l.s) l.names) (found_in (frames_of l.s) l.at.found) (as_identifier f l.at.part.now) (map (as_identifier f) (drop l.next-index l.others))
      ≡ named_on (table_in l.initial.s) (names_seen f (frames_of l.initial.s) l.initial.names) (found_in (frames_of l.initial.s) l.initial.at.found) (as_identifier f l.initial.at.part.now) (map (as_identifier f) l.others);
}
