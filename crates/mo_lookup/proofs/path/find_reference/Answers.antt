-- The first identifier, then the others.
use Rattle.std.proofs.Common.{drop}
use Rattle.mo_scope.specs.Names.{found_behind}
use Rattle.mo_scope.specs.Worlds.{table_in}
use Rattle.mo_scope.specs.Sights.{scope_at}
use Rattle.mo_names.specs.Children.{first_found}
use Rattle.mo_names.proofs.Circling.{later_gives, then_ok}
use Rattle.mo_lookup.proofs.Paths.{reference_step}
use Rattle.mo_names.proofs.Reading.{at_element}
use Rattle.mo_names.specs.Sights.{found_at}
use Rattle.mo_names.proofs.Later.{grows_refl, grows_trans}
use Rattle.mo_lookup.proofs.path.find_reference.Goals as goal

pub returns-in_ok-first-in-len1-up-clause-value : goal.returns-in_ok-first-in-len1-up-clause-value
returns-in_ok-first-in-len1-up-clause-value c =
    later_gives _ c.find_all_behind.result c.args.s.now c.find_first.new.s
    (λ t. found_behind t (found_at c.find_first.new.s c.in_ok-first-in-len1-up.first) (drop 1 c.args.parts.now)) _
    c.in_ok-first-in-len1-up.ensures.grows c.find_all_behind.ensures.value
    (then_ok (first_found (table_in c.args.s.now) c.args.top (scope_at c.args.s.now c.args.at.now) c.part-item.result.name c.part-item.result.place)
    (λ first. found_behind (table_in c.args.s.now) first (drop 1 c.args.parts.now))
    (found_at c.find_first.new.s c.in_ok-first-in-len1-up.first) _
    (reference_step (table_in c.args.s.now) (scope_at c.args.s.now c.args.at.now) (record { top = c.args.top; parts = c.args.parts.now }) c.part-item.result (drop 1 c.args.parts.now)
    (at_element c.args.parts.now 0 c.part-item.result c.in-len1-up.len_at_least c.part-item.is))
    c.in_ok-first-in-len1-up.ensures.value)

pub returns-in-empty-clause-grows : goal.returns-in-empty-clause-grows
returns-in-empty-clause-grows c = grows_refl _

pub returns-in_ok-first-in-len1-up-clause-grows : goal.returns-in_ok-first-in-len1-up-clause-grows
returns-in_ok-first-in-len1-up-clause-grows c = grows_trans _ _ _ c.in_ok-first-in-len1-up.ensures.grows c.find_all_behind.ensures.grows
