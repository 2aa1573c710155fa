-- The sections of a class, an external clause behind them.
use Rattle.std.proofs.Common.{◌≡◌, ◌++◌, ◌∷◌, [], List, Ok, Err, flat_map, map, if◌then◌else◌, refl, sym, subst, ◌∙◌, rules}
use Rattle.std.proofs.lemmas.List.{append-nil}
use Rattle.mo_syntax.specs.Outcome.{breach}
use Rattle.mo_syntax.specs.declared.class.Body.{out-Body}
use Rattle.mo_syntax.specs.declared.class.Body.TheVariants.{outs-Long}
use Rattle.mo_scope.specs.Worlds.{frame_in, frames_of}
use Rattle.mo_equations.specs.Expansion.{Placed, made_placed}
use Rattle.mo_equations.specs.Gathering.{turn_each}
use Rattle.mo_equations.specs.Sections.{Section, Left_out, section_in, sections_in}
use Rattle.mo_equations.specs.steps.Standing.{tree_in}
use Rattle.mo_equations.specs.steps.Placing.{PutsParts, item_placed, placed_as}
use Rattle.mo_equations.proofs.Parted.{in_class, left_out_breaks, puts_breaks, puts_nothing, puts_stop}
use Rattle.mo_equations.proofs.Staying.{stays_still}
use Rattle.mo_syntax.specs.declared.rules.TheConstants.{OUTSIDE_PROFILE}
use Rattle.mo_equations.proofs.sections.put_class.Goals as goal

pub returns-in_err-put_items-in-Long-clause-exact : goal.returns-in_err-put_items-in-Long-clause-exact
returns-in_err-put_items-in-Long-clause-exact c =
    let desk = c.args.desk.now in
    let tree = tree_in c.args.s.now desk.leaves in
    let frames = frames_of c.args.s.now in
    let placed = c.args.placed.now in
    let parts = c.args.parts.now in
    let x = c.in-Long in
    let external : List Section = if x.external then Left_out ∷ [] else [] in
    let told : sections_in (out-Body placed.class.now.body) ≡ flat_map section_in x.items ++ external = rw (x.is, outs-Long x.extending x.items x.external) refl in
    let stop = c.in_err-put_items-in-Long.field-0.0 in
    let p : c.from_residual.result ≡ Err stop = search rules in
    rw p (subst (λ (ps : List Placed). PutsParts (Err stop) parts c.put_items.new.parts c.put_items.new.desk (turn_each (made_placed tree) ps desk.turns)) (sym (in_class frames placed x.items external told))
    (puts_stop tree [] (flat_map (item_placed frames placed) x.items) (map (placed_as frames placed) external) desk.turns parts parts c.put_items.new.parts desk c.put_items.new.desk stop
    (puts_nothing parts desk desk.turns refl) (rw c.as_slice.ensures at c.in_err-put_items-in-Long.ensures.exact)))

pub returns-then-external-clause-exact : goal.returns-then-external-clause-exact
returns-then-external-clause-exact c =
    let desk = c.args.desk.now in
    let tree = tree_in c.args.s.now desk.leaves in
    let frames = frames_of c.args.s.now in
    let placed = c.args.placed.now in
    let parts = c.args.parts.now in
    let more = c.put_items.new.parts in
    let later = c.put_items.new.desk in
    let x = c.in-Long in
    let left : Placed = placed_as frames placed Left_out in
    let told : sections_in (out-Body placed.class.now.body) ≡ flat_map section_in x.items ++ Left_out ∷ [] = rw (x.is, outs-Long x.extending x.items x.external, c.if-external.true) refl in
    subst (λ (ps : List Placed). PutsParts (Err c.stop.result) parts more later (turn_each (made_placed tree) ps desk.turns)) (sym (in_class frames placed x.items (Left_out ∷ []) told))
    (puts_stop tree (flat_map (item_placed frames placed) x.items) (left ∷ []) [] desk.turns parts more more later later c.stop.result (rw c.as_slice.ensures at c.in_ok-put_items-in-Long.ensures.exact)
    (puts_breaks more more later (turn_each (made_placed tree) (left ∷ []) later.turns) c.stop.result (breach OUTSIDE_PROFILE placed.class.now.place) c.stop.ensures (left_out_breaks tree (frame_in frames placed.frame.0) placed.class.now.place later.turns)))

pub returns-else-external-clause-exact : goal.returns-else-external-clause-exact
returns-else-external-clause-exact c =
    let desk = c.args.desk.now in
    let tree = tree_in c.args.s.now desk.leaves in
    let frames = frames_of c.args.s.now in
    let placed = c.args.placed.now in
    let x = c.in-Long in
    let told : sections_in (out-Body placed.class.now.body) ≡ flat_map section_in x.items ++ [] = rw (x.is, outs-Long x.extending x.items x.external, c.if-external.false) refl in
    subst (λ (ps : List Placed). PutsParts (Ok tt) c.args.parts.now c.put_items.new.parts c.put_items.new.desk (turn_each (made_placed tree) ps desk.turns))
    (sym (in_class frames placed x.items [] told ∙ append-nil (flat_map (item_placed frames placed) x.items))) (rw c.as_slice.ensures at c.in_ok-put_items-in-Long.ensures.exact)

-- ---- what goes on

pub returns-in_err-put_items-in-Long-clause-goes : goal.returns-in_err-put_items-in-Long-clause-goes
returns-in_err-put_items-in-Long-clause-goes c = c.in_err-put_items-in-Long.ensures.goes

pub returns-then-external-clause-goes : goal.returns-then-external-clause-goes
returns-then-external-clause-goes c = c.in_ok-put_items-in-Long.ensures.goes

pub returns-else-external-clause-goes : goal.returns-else-external-clause-goes
returns-else-external-clause-goes c = c.in_ok-put_items-in-Long.ensures.goes

pub returns-in-Short-clause-goes : goal.returns-in-Short-clause-goes
returns-in-Short-clause-goes c = (stays_still c.args.s.now c.args.desk.now c.requires.desk).goes

pub returns-in-Enumeration-clause-goes : goal.returns-in-Enumeration-clause-goes
returns-in-Enumeration-clause-goes c = (stays_still c.args.s.now c.args.desk.now c.requires.desk).goes

pub returns-in-Der-clause-goes : goal.returns-in-Der-clause-goes
returns-in-Der-clause-goes c = (stays_still c.args.s.now c.args.desk.now c.requires.desk).goes
