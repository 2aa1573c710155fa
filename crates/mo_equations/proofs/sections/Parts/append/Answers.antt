-- What comes of a section more.
use Rattle.std.proofs.Common.{◌≡◌, [], ◌++◌, List, Bool, true, false, map, refl, ap, sym, subst, rules}
use Rattle.mo_flat.specs.declared.connect.Connect.{Connect}
use Rattle.mo_equations.specs.declared.sections.Parts.{Parts as PartsAt}
use Rattle.mo_equations.specs.Gathering.{all_beside}
use Rattle.mo_equations.specs.steps.Makings.{IsMade}
use Rattle.mo_equations.specs.steps.Placing.{AreParts, part_of_section}
use Rattle.mo_equations.proofs.Making.{on_ok}
use Rattle.mo_equations.proofs.Parted.{apart, initial_more, usual_more}
use Rattle.mo_equations.proofs.sections.Parts.append.Goals as goal

pub returns-then-not-initial : goal.returns-then-not-initial
returns-then-not-initial c =
    let usual : c.args.initial ≡ false = search (rules, c.if-not-initial.true) in
    let new : PartsAt = record { initial = c.args.self.now.initial; usual = c.append.new.self } in
    on_ok c.append.result
    (λ h parts one are is. subst (λ (b : Bool). AreParts new (parts ++ part_of_section b one)) (sym usual)
    (usual_more c.args.self.now new parts one are refl (h (all_beside (map (λ p. p.usual) parts)) one are.usual is)))
    c.append.ensures

pub returns : goal.returns
returns c =
    let initial : c.args.initial ≡ true = search (rules, c.if-not-initial.false) in
    let held = c.args.made in
    let old = c.args.self.now in
    let new : PartsAt = record { initial = c.append-3.new.self; usual = record old.usual { connects = c.append-2.new.self } } in
    let same : new.usual ≡ record old.usual { connects = old.usual.connects ++ held.connects } = ap (λ (cs : List Connect). record old.usual { connects = cs }) c.in_ok-append.ensures.ok in
    on_ok c.append-3.result
    (λ h parts one are is. subst (λ (b : Bool). AreParts new (parts ++ part_of_section b one)) (sym initial)
    (initial_more old new parts held one are is same
    (h (all_beside (map (λ p. p.initial) parts)) (record { equations = one.equations; asserts = one.asserts; connects = [] }) are.initial
    (subst (λ (cs : List Connect). IsMade (record held { connects = cs }) (record { equations = one.equations; asserts = one.asserts; connects = [] })) (sym c.new.ensures) (apart held one is)))))
    c.append-3.ensures
