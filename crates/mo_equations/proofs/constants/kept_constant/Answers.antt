-- The expression that was kept is that of the constant.
use Rattle.std.proofs.Common.{◌≡◌, ℕ, Ok, Some, sym, subst, rules}
use Rattle.std.specs.Prelude.{slice_get}
use Rattle.mo_scope.specs.Worlds.{frames_of, table_in}
use Rattle.mo_names.specs.Sights.{member_of}
use Rattle.mo_eval.specs.Seen.{element_seen}
use Rattle.mo_equations.specs.declared.flat.Flat.{Flat}
use Rattle.mo_equations.specs.Leaves.{number_of}
use Rattle.mo_equations.specs.Replacing.{constant}
use Rattle.mo_equations.specs.steps.Standing.{tree_in}
use Rattle.mo_equations.specs.steps.Flats.{IsFlat}
use Rattle.mo_equations.proofs.Anywhere.{constant_same}
use Rattle.mo_equations.proofs.Lists.{got}
use Rattle.mo_equations.proofs.constants.kept_constant.Goals as goal

pub returns-then-is_same_element : goal.returns-then-is_same_element
returns-then-is_same_element c =
    let world = c.args._s.now in
    let desk = c.args.desk.now in
    let row = c.kept-item.result in
    let element = c.args.element.now in
    let i = c.loop-kept.kept-index in
    let at : slice_get desk.constants i ≡ Some row = got desk.constants i row (rw c.as_slice-kept-items.ensures at c.loop-kept-test.true) (rw c.as_slice-kept-items.ensures at c.kept-item.is) in
    let one = c.requires.desk.constants i row at in
    let left : row.left ≡ c.args.left = search rules in
    let members : member_of (frames_of world) row.element.member ≡ member_of (frames_of world) element.member = c.is_same_element.ensures.member (search rules) world one.member c.requires.member in
    let indices : row.element.index ≡ element.index = c.is_same_element.ensures.index (search rules) in
    let kinds : row.element.kind ≡ element.kind = c.is_same_element.ensures.kind (search rules) in
    let constants : row.element.constant ≡ element.constant = c.is_same_element.ensures.constant (search rules) in
    let number = number_of (tree_in world desk.leaves) in
    let is = subst (λ (n : ℕ). constant (table_in world) number n (element_seen (frames_of world) row.element) ≡ Ok one.e) left one.is in (
      one.e,
      constant_same (table_in world) number c.args.left (member_of (frames_of world) row.element.member) (member_of (frames_of world) element.member) row.element.index element.index row.element.kind element.kind
          row.element.constant element.constant row.element.place element.place one.e members indices kinds constants is,
      subst (λ (f : Flat). IsFlat f one.e) (sym c.in_ok-copied.ensures) one.flat,
    )
