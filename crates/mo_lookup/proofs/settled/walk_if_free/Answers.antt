-- Where no class is having its bases found, none of these is.
use Rattle.std.proofs.Common.{◌≡◌, ◌≤◌, false, ap, arith, sym, ◌∙◌}
use Rattle.mo_scope.specs.Lookup.{contains}
use Rattle.mo_scope.specs.Worlds.{frame_at, table_in}
use Rattle.mo_lookup.proofs.Settling.{free_elements}
use Rattle.mo_names.specs.Sights.{walk_at}
use Rattle.mo_lookup.proofs.settled.walk_if_free.Goals as goal

pub returns-clause-is : goal.returns-clause-is
returns-clause-is c =
    let other : contains c.args.made.classes c.class_of.result.0 ≡ false =
    ap (λ classes. contains classes c.class_of.result.0) (sym c.as_slice.ensures) ∙ sym c.is_busy.ensures ∙ c.if-is_busy.false in
    let less : c.args.made.deep ≤ c.class_count.result = omega arith in
    λ place. free_elements (table_in c.args.s.now) (frame_at c.args.s.now c.args.frame.0) (walk_at c.args.s.now c.args.made.walk) c.args.made.classes c.args.made.deep c.class_count.result place
    (ap (contains c.args.made.classes) (sym c.class_of.ensures.is) ∙ other) c.requires.told less c.class_count.ensures

pub returns-clause-stand : goal.returns-clause-stand
returns-clause-stand c = c.requires.stand
