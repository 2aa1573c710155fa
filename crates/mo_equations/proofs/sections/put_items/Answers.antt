-- One item more.
use Rattle.std.proofs.Common.{◌≡◌, ◌+◌, [], List, Ok, Err, flat_map, take, drop, refl, ap, sym, subst, ◌∙◌, rules}
use Rattle.std.proofs.lemmas.List.{take_all}
use Rattle.mo_syntax.specs.declared.class.Item.{Item}
use Rattle.mo_scope.specs.Worlds.{frames_of}
use Rattle.mo_names.proofs.Later.{is_frame_later}
use Rattle.mo_equations.specs.Expansion.{Placed, made_placed}
use Rattle.mo_equations.specs.Gathering.{turn_each}
use Rattle.mo_equations.specs.Leaves.{Tree}
use Rattle.mo_equations.specs.steps.Standing.{tree_in}
use Rattle.mo_equations.specs.steps.Placing.{PutsParts, item_placed}
use Rattle.mo_equations.proofs.Lists.{flat_split, flat_taken}
use Rattle.mo_equations.proofs.Parted.{placed_later, puts_as, puts_more, puts_nothing, puts_stop}
use Rattle.mo_equations.proofs.Staying.{goes_on, same_tree, stays_still}
use Rattle.mo_equations.proofs.sections.put_items.Goals as goal

pub loop-item-init : goal.loop-item-init
loop-item-init c = record {
  goes = (stays_still c.args.s.now c.args.desk.now c.requires.desk).goes;
  put = puts_nothing c.args.parts.now c.args.desk.now c.args.desk.now.turns refl;
}

pub put_item-requires-clause-frame : goal.put_item-requires-clause-frame
put_item-requires-clause-frame c = is_frame_later c.args.s.now c.loop-item.s c.args.placed.now.frame.0 c.loop-item.invariant.goes.grows c.requires.frame

pub put_item-requires-clause-desk : goal.put_item-requires-clause-desk
put_item-requires-clause-desk c = c.loop-item.invariant.goes.desk

pub loop-item-preserved : goal.loop-item-preserved
loop-item-preserved c =
    let u = c.args.s.now in
    let v = c.loop-item.s in
    let desk = c.args.desk.now in
    let before = c.loop-item.desk in
    let after = c.put_item.new.desk in
    let placed = c.args.placed.now in
    let items = c.args.items.now in
    let i = c.loop-item.item-index in
    let item = c.item-item.result in
    let inv = c.loop-item.invariant in
    let tree = tree_in u desk.leaves in
    let one = item_placed (frames_of u) placed in
    let same = ap (λ (tr : Tree). turn_each (made_placed tr) (item_placed (frames_of v) placed item) before.turns) (same_tree u v desk before c.requires.desk inv.goes)
    ∙ ap (λ (ps : List Placed). turn_each (made_placed tree) ps before.turns) (placed_later u v placed item inv.goes.grows c.requires.frame) in
    let more = puts_more tree (flat_map one (take i items)) (one item) [] desk.turns c.args.parts.now c.loop-item.parts c.put_item.new.parts before after inv.put
    (puts_as (Ok tt) c.loop-item.parts c.put_item.new.parts after _ _ same c.in_ok-put_item.ensures.exact) in
    record {
      goes = goes_on u v c.put_item.new.s desk before after inv.goes c.in_ok-put_item.ensures.goes;
      put = subst (λ (ps : List Placed). PutsParts (Ok tt) c.args.parts.now c.put_item.new.parts after (turn_each (made_placed tree) ps desk.turns)) (sym (flat_taken one items i item c.loop-item-test.true c.item-item.is)) more;
    }

pub returns-in_err-put_item-clause-goes : goal.returns-in_err-put_item-clause-goes
returns-in_err-put_item-clause-goes c = goes_on c.args.s.now c.loop-item.s c.put_item.new.s c.args.desk.now c.loop-item.desk c.put_item.new.desk c.loop-item.invariant.goes c.in_err-put_item.ensures.goes

pub returns-in_err-put_item-clause-exact : goal.returns-in_err-put_item-clause-exact
returns-in_err-put_item-clause-exact c =
    let u = c.args.s.now in
    let v = c.loop-item.s in
    let desk = c.args.desk.now in
    let before = c.loop-item.desk in
    let after = c.put_item.new.desk in
    let placed = c.args.placed.now in
    let items = c.args.items.now in
    let i = c.loop-item.item-index in
    let item = c.item-item.result in
    let inv = c.loop-item.invariant in
    let tree = tree_in u desk.leaves in
    let one = item_placed (frames_of u) placed in
    let same = ap (λ (tr : Tree). turn_each (made_placed tr) (item_placed (frames_of v) placed item) before.turns) (same_tree u v desk before c.requires.desk inv.goes)
    ∙ ap (λ (ps : List Placed). turn_each (made_placed tree) ps before.turns) (placed_later u v placed item inv.goes.grows c.requires.frame) in
    let stop = c.in_err-put_item.field-0.0 in
    let p : c.from_residual.result ≡ Err stop = search rules in
    rw p (subst (λ (ps : List Placed). PutsParts (Err stop) c.args.parts.now c.put_item.new.parts after (turn_each (made_placed tree) ps desk.turns)) (sym (flat_split one items i item c.loop-item-test.true c.item-item.is))
    (puts_stop tree (flat_map one (take i items)) (one item) (flat_map one (drop (i + 1) items)) desk.turns c.args.parts.now c.loop-item.parts c.put_item.new.parts before after stop inv.put
    (puts_as (Err stop) c.loop-item.parts c.put_item.new.parts after _ _ same c.in_err-put_item.ensures.exact)))

pub returns-clause-exact : goal.returns-clause-exact
returns-clause-exact c =
    subst (λ (is : List Item). PutsParts (Ok tt) c.args.parts.now c.loop-item.parts c.loop-item.desk (turn_each (made_placed (tree_in c.args.s.now c.args.desk.now.leaves)) (flat_map (item_placed (frames_of c.args.s.now) c.args.placed.now) is) c.args.desk.now.turns))
    (take_all c.loop-item.item-index c.args.items.now c.loop-item-test.false) c.loop-item.invariant.put
