-- The equations of a section, one form after another.
use Rattle.std.proofs.Common.{◌≡◌, ℕ, ℤ, ◌+◌, ◌-◌, ◌≤◌, true, false, List, [], ◌∷◌, ◌++◌, Some, Ok, Err, map, take, drop, length, ap, sym, subst, ◌∙◌, arith, rules}
use Rattle.std.proofs.lemmas.List.{drop_all, take_all}
use Rattle.std.proofs.lemmas.Int.{to_z-of_z}
use Rattle.mo_syntax.specs.declared.equation.EquationKind.{EquationKind}
use Rattle.mo_syntax.specs.declared.equation.EquationOf.{EquationOf}
use Rattle.mo_syntax.specs.declared.expr.Expr.{Expr}
use Rattle.mo_syntax.specs.declared.place.Stop.{Stop}
use Rattle.mo_typing.specs.Outcome as told
use Rattle.mo_values.specs.Scalars.{Known}
use Rattle.mo_scope.specs.Worlds.{frames_of}
use Rattle.mo_names.proofs.Later.{is_frame_later}
use Rattle.mo_values.specs.declared.value.Scalar.TheVariants.{Truth}
use Rattle.mo_equations.specs.declared.desk.Desk.{Desk}
use Rattle.mo_equations.specs.declared.made.Made.{Made as MadeAt}
use Rattle.mo_equations.specs.Equations.{Former, Site, condition_known, flat_condition, in_branch, made_kind, made_loop, numbers_of_index, with_iteration}
use Rattle.mo_equations.specs.Gathering.{beside, gathered, nothing, one_turn}
use Rattle.mo_equations.specs.Joining.{made_if}
use Rattle.mo_equations.specs.declared.flat.Flat.{Flat}
use Rattle.mo_equations.specs.declared.forms.Site.{Site as SiteAt}
use Rattle.mo_equations.specs.steps.Choices.{AreBranches}
use Rattle.mo_syntax.specs.declared.expr.IndexOf.{IndexOf}
use Rattle.mo_equations.specs.Leaves.{Tree, place_of_root}
use Rattle.mo_equations.specs.steps.Desks.{Goes}
use Rattle.mo_equations.specs.steps.Standing.{tree_in}
use Rattle.mo_equations.specs.steps.Flats.{IsFlat}
use Rattle.mo_equations.specs.steps.Ranges.{numbers_seen}
use Rattle.mo_equations.specs.steps.Turns.{GivesBranch, GivesMade, all_made_at, choice_at, formed_at, made_turns, site_in, undecided_at}
use Rattle.mo_equations.proofs.Bare.{choice_is_bare}
use Rattle.mo_equations.proofs.Branched.{both_branch}
use Rattle.mo_equations.proofs.Depths.{equations_below}
use Rattle.mo_equations.proofs.Deciding.{put_front, branches_more, false_left, from_place, front_none, last_made, last_stops, other_left, other_stops, step_halts, true_made, true_stops}
use Rattle.mo_equations.proofs.EachForm.{at_Call, at_Connect, at_Equal, at_For, at_If, at_When}
use Rattle.mo_equations.proofs.Formed.{branch_halts, gathers_stop, goes_taken, if_halts, if_made, inner_site, loop_body, loop_halts, loop_then, made_as, made_none, mapped_split, mapped_taken, same_site, same_told, turn_stops, turn_taken}
use Rattle.mo_equations.proofs.Lists.{empty_list, opened, split_at, split_got, taken_got}
use Rattle.mo_equations.proofs.Staying.{goes_on, same_tree, stays_still}
use Rattle.mo_equations.proofs.Turning.{Gathers, gathers, gathers_more, gathers_none}
use Rattle.mo_equations.proofs.forms.+forms.Goals as goal
use Rattle.mo_equations.proofs.forms.+forms.Goals.{choice-in-Some-Truth-false, choice-in_default+in_ok-undecided_branch-in_default+in_ok-push-in_default, choice-in_default-via-in-Some+in_default, choice-in_default-via-in_default}

-- ---- made_section

pub made_section-loop-equation-init : goal.made_section-loop-equation-init
made_section-loop-equation-init t c = record {
  goes = (stays_still c.args.s.now c.args.desk.now c.requires.desk).goes;
  made = nothing;
  is = c.new-made.ensures;
  gathers = gathers_none (λ (equation : EquationOf Former). equation.what equation.place (site_in (frames_of c.args.s.now) c.args.site.now)) c.args.desk.now.turns;
}

pub made_section-returns-in_err-more-clause-exact : goal.made_section-returns-in_err-more-clause-exact
made_section-returns-in_err-more-clause-exact t c =
    let tree = tree_in c.args.s.now c.args.desk.now.leaves in
    let site : Site = site_in (frames_of c.args.s.now) c.args.site.now in
    let equations = c.args.equations.now in
    let i = c.loop-equation.equation-index in
    let equation = c.equation-item.result in
    let inv = c.loop-equation.invariant in
    let make = λ (e : EquationOf Former). e.what e.place site in
    let trees = same_tree c.args.s.now c.loop-equation.s c.args.desk.now c.loop-equation.desk c.requires.desk inv.goes in
    let sites = same_site c.args.s.now c.loop-equation.s c.args.site.now inv.goes.grows c.requires.frame in
    let same = ap (λ (tr : Tree). made_kind tr equation.what equation.place (site_in (frames_of c.loop-equation.s) c.args.site.now) c.loop-equation.desk.turns) trees
    ∙ ap (λ (st : Site). made_kind tree equation.what equation.place st c.loop-equation.desk.turns) sites in
    let stop = c.in_err-more.field-0.0 in
    let p : c.from_residual.result ≡ Err stop = search rules in
    let all : map (formed_at tree) equations ≡ map (formed_at tree) (take i equations) ++ formed_at tree equation ∷ map (formed_at tree) (drop (i + 1) equations) =
    ap (map (formed_at tree)) (split_at equations i equation c.loop-equation-test.true c.equation-item.is) ∙ mapped_split (formed_at tree) (take i equations) (drop (i + 1) equations) equation in
    rw p
    (subst (λ (xs : List (EquationOf Former)). GivesMade (Err stop) c.made_equation.new.desk (gathered make xs c.args.desk.now.turns)) (sym all)
    (gathers_stop make (map (formed_at tree) (take i equations)) (map (formed_at tree) (drop (i + 1) equations)) (formed_at tree equation) c.args.desk.now.turns c.loop-equation.desk.turns inv.made inv.gathers
    c.made_equation.new.desk c.made_equation.new.desk stop (made_as (Err stop) c.made_equation.new.desk _ _ same c.in_err-more.ensures.exact)))

pub made_section-loop-equation-preserved : goal.made_section-loop-equation-preserved
made_section-loop-equation-preserved t c =
    let tree = tree_in c.args.s.now c.args.desk.now.leaves in
    let site : Site = site_in (frames_of c.args.s.now) c.args.site.now in
    let equations = c.args.equations.now in
    let i = c.loop-equation.equation-index in
    let equation = c.equation-item.result in
    let inv = c.loop-equation.invariant in
    let make = λ (e : EquationOf Former). e.what e.place site in
    let trees = same_tree c.args.s.now c.loop-equation.s c.args.desk.now c.loop-equation.desk c.requires.desk inv.goes in
    let sites = same_site c.args.s.now c.loop-equation.s c.args.site.now inv.goes.grows c.requires.frame in
    let same = ap (λ (tr : Tree). made_kind tr equation.what equation.place (site_in (frames_of c.loop-equation.s) c.args.site.now) c.loop-equation.desk.turns) trees
    ∙ ap (λ (st : Site). made_kind tree equation.what equation.place st c.loop-equation.desk.turns) sites in
    let one = c.in_ok-more.ensures.exact in
    let more = gathers_more make (map (formed_at tree) (take i equations)) (formed_at tree equation) c.args.desk.now.turns c.loop-equation.desk.turns c.made_equation.new.desk.turns inv.made one.0 inv.gathers (sym same ∙ one.1) in
    record {
      goes = goes_on c.args.s.now c.loop-equation.s c.made_equation.new.s c.args.desk.now c.loop-equation.desk c.made_equation.new.desk inv.goes c.in_ok-more.ensures.goes;
      made = beside inv.made one.0;
      is = c.in_ok-append.ensures inv.made one.0 inv.is one.2;
      gathers = subst (λ (xs : List (EquationOf Former)). Gathers make xs c.args.desk.now.turns (beside inv.made one.0) c.made_equation.new.desk.turns)
          (sym (mapped_taken (formed_at tree) equations i equation equation c.loop-equation-test.true c.equation-item.is)) more;
    }

pub made_section-returns-clause-exact : goal.made_section-returns-clause-exact
made_section-returns-clause-exact t c =
    let tree = tree_in c.args.s.now c.args.desk.now.leaves in
    let site : Site = site_in (frames_of c.args.s.now) c.args.site.now in
    let equations = c.args.equations.now in
    let inv = c.loop-equation.invariant in
    let make = λ (e : EquationOf Former). e.what e.place site in
    let all = ap (map (formed_at tree)) (take_all c.loop-equation.equation-index equations c.loop-equation-test.false) in (
      inv.made,
      gathers make (map (formed_at tree) equations) c.args.desk.now.turns inv.made c.loop-equation.desk.turns
          (subst (λ (xs : List (EquationOf Former)). Gathers make xs c.args.desk.now.turns inv.made c.loop-equation.desk.turns) all inv.gathers),
      inv.is,
    )

-- ---- made_equation

pub made_equation-returns-in-Equal-clause-exact : goal.made_equation-returns-in-Equal-clause-exact
made_equation-returns-in-Equal-clause-exact t c =
    let tree = tree_in c.args.s.now c.args.desk.now.leaves in
    let site : Site = site_in (frames_of c.args.s.now) c.args.site.now in
    let place = c.args.equation.now.place in
    let x = c.in-Equal in
    let told = ap (made_kind tree) x.is ∙ at_Equal tree x.left x.right in
    subst (λ (f : Former). GivesMade c.equalities.result c.equalities.new.desk (f place site c.args.desk.now.turns)) (sym told)
    (made_none c.equalities.result c.equalities.new.desk _ c.args.desk.now.turns c.equalities.ensures.stays.turns c.equalities.ensures.exact)

pub made_equation-returns-in_err-choice-in-If-clause-exact : goal.made_equation-returns-in_err-choice-in-If-clause-exact
made_equation-returns-in_err-choice-in-If-clause-exact t c =
    let tree = tree_in c.args.s.now c.args.desk.now.leaves in
    let site : Site = site_in (frames_of c.args.s.now) c.args.site.now in
    let place = c.args.equation.now.place in
    let turns = c.args.desk.now.turns in
    let stop = c.in_err-choice-in-If.field-0.0 in
    let p : c.from_residual.result ≡ Err stop = search rules in
    let x = c.in-If in
    let told = ap (made_kind tree) x.is ∙ at_If tree x.branches x.others in
    rw p (subst (λ (f : Former). GivesMade (Err stop) c.choice.new.desk (f place site turns)) (sym told)
    (if_halts c.choice.new.desk c.choice.new.desk (choice_at tree site x.branches x.others turns) place stop (rw (c.as_slice-branches.ensures, c.as_slice-others.ensures) at c.in_err-choice-in-If.ensures.exact)))

pub made_equation-returns-in_ok-choice-in-If-clause-exact : goal.made_equation-returns-in_ok-choice-in-If-clause-exact
made_equation-returns-in_ok-choice-in-If-clause-exact t c =
    let tree = tree_in c.args.s.now c.args.desk.now.leaves in
    let site : Site = site_in (frames_of c.args.s.now) c.args.site.now in
    let place = c.args.equation.now.place in
    let turns = c.args.desk.now.turns in
    let x = c.in-If in
    let told = ap (made_kind tree) x.is ∙ at_If tree x.branches x.others in
    let exact = rw (c.as_slice-branches.ensures, c.as_slice-others.ensures) at c.in_ok-choice-in-If.ensures.exact in
    let bare = choice_is_bare tree site x.branches x.others turns exact.0 c.choice.new.desk.turns exact.1 in
    subst (λ (f : Former). GivesMade c.made_if.result c.choice.new.desk (f place site turns)) (sym told)
    (if_made c.made_if.result c.choice.new.desk (choice_at tree site x.branches x.others turns) place exact.0 exact.1 (c.made_if.ensures exact.0 exact.2 bare))

pub made_equation-returns-in-For-clause-exact : goal.made_equation-returns-in-For-clause-exact
made_equation-returns-in-For-clause-exact t c =
    let tree = tree_in c.args.s.now c.args.desk.now.leaves in
    let site : Site = site_in (frames_of c.args.s.now) c.args.site.now in
    let place = c.args.equation.now.place in
    let x = c.in-For in
    let told = ap (made_kind tree) x.is ∙ at_For tree x.indices x.body in
    subst (λ (f : Former). GivesMade c.looped.result c.looped.new.desk (f place site c.args.desk.now.turns)) (sym told)
    (rw (c.as_slice-indices.ensures, c.as_slice-body.ensures) at c.looped.ensures.exact)

pub made_equation-returns-in-When-clause-exact : goal.made_equation-returns-in-When-clause-exact
made_equation-returns-in-When-clause-exact t c =
    let tree = tree_in c.args.s.now c.args.desk.now.leaves in
    let site : Site = site_in (frames_of c.args.s.now) c.args.site.now in
    let place = c.args.equation.now.place in
    let x = c.in-When in
    let told = ap (made_kind tree) x.is ∙ at_When tree x.field-0 in
    subst (λ (s : Stop). GivesMade (Err s) c.args.desk.now (made_kind tree c.args.equation.now.what place site c.args.desk.now.turns)) (sym c.stop.ensures)
    (ap (λ (f : Former). f place site c.args.desk.now.turns) told)

pub made_equation-returns-in-Connect-clause-exact : goal.made_equation-returns-in-Connect-clause-exact
made_equation-returns-in-Connect-clause-exact t c =
    let tree = tree_in c.args.s.now c.args.desk.now.leaves in
    let site : Site = site_in (frames_of c.args.s.now) c.args.site.now in
    let place = c.args.equation.now.place in
    let x = c.in-Connect in
    let told = ap (made_kind tree) x.is ∙ at_Connect tree x.left x.right in
    subst (λ (f : Former). GivesMade c.connect.result c.connect.new.desk (f place site c.args.desk.now.turns)) (sym told)
    (made_none c.connect.result c.connect.new.desk _ c.args.desk.now.turns c.connect.ensures.stays.turns c.connect.ensures.exact)

pub made_equation-returns-in-Call-clause-exact : goal.made_equation-returns-in-Call-clause-exact
made_equation-returns-in-Call-clause-exact t c =
    let tree = tree_in c.args.s.now c.args.desk.now.leaves in
    let site : Site = site_in (frames_of c.args.s.now) c.args.site.now in
    let place = c.args.equation.now.place in
    let x = c.in-Call in
    let told = ap (made_kind tree) x.is ∙ at_Call tree x.called x.arguments in
    subst (λ (f : Former). GivesMade c.call.result c.call.new.desk (f place site c.args.desk.now.turns)) (sym told)
    (made_none c.call.result c.call.new.desk _ c.args.desk.now.turns c.call.ensures.stays.turns c.call.ensures.exact)

-- ---- looped

pub looped-returns-in-empty-clause-exact : goal.looped-returns-in-empty-clause-exact
looped-returns-in-empty-clause-exact t c =
    let tree = tree_in c.args.s.now c.args.desk.now.leaves in
    let site : Site = site_in (frames_of c.args.s.now) c.args.site.now in
    loop_body tree c.args.place c.args.indices.now (all_made_at tree c.args.body.now) site c.args.desk.now.turns c.made_section.result c.made_section.new.desk
    (empty_list c.args.indices.now (omega (arith, c.in-empty.len_below))) c.made_section.ensures.exact

pub looped-returns-in_err-numbers-in-len1-up-clause-exact : goal.looped-returns-in_err-numbers-in-len1-up-clause-exact
looped-returns-in_err-numbers-in-len1-up-clause-exact t c =
    let tree = tree_in c.args.s.now c.args.desk.now.leaves in
    let site : Site = site_in (frames_of c.args.s.now) c.args.site.now in
    let indices = c.args.indices.now in
    let index = c.index-item.result in
    let stop = c.in_err-numbers-in-len1-up.field-0.0 in
    let p : c.from_residual.result ≡ Err stop = search rules in
    let cut = opened indices index c.in-len1-up.len_at_least c.index-item.is in
    rw p (subst (λ (is : List (IndexOf Expr)). GivesMade (Err stop) c.numbers_of_index.new.desk (made_loop tree c.args.place is (all_made_at tree c.args.body.now) site c.args.desk.now.turns)) (sym cut)
    (loop_halts numbers_seen tree c.args.place index (take (length indices - 1) (drop 1 indices)) (all_made_at tree c.args.body.now) site c.args.desk.now.turns c.numbers_of_index.new.desk stop c.in_err-numbers-in-len1-up.ensures.exact))

pub looped-turns-requires : goal.looped-turns-requires
looped-turns-requires t c =
    let long = c.in-len1-up.len_at_least in
    let cut = ap (λ (is : List (IndexOf Expr)). length is) (opened c.args.indices.now c.index-item.result long c.index-item.is) in (
      omega (arith, long, cut),
      (is_frame_later c.args.s.now c.numbers_of_index.new.s c.args.site.now.at.now.frame.0 c.in_ok-numbers-in-len1-up.ensures.stays.goes.grows c.requires.frame, c.in_ok-numbers-in-len1-up.ensures.stays.goes.desk),
    )

pub looped-returns-in_ok-numbers-in-len1-up-clause-exact : goal.looped-returns-in_ok-numbers-in-len1-up-clause-exact
looped-returns-in_ok-numbers-in-len1-up-clause-exact t c =
    let s = c.args.s.now in
    let desk = c.args.desk.now in
    let later = c.numbers_of_index.new in
    let tree = tree_in s desk.leaves in
    let site : Site = site_in (frames_of s) c.args.site.now in
    let indices = c.args.indices.now in
    let index = c.index-item.result in
    let more = take (length indices - 1) (drop 1 indices) in
    let body = c.args.body.now in
    let stays = c.in_ok-numbers-in-len1-up.ensures.stays in
    let numbers = numbers_seen c.in_ok-numbers-in-len1-up.numbers in
    let cut = opened indices index c.in-len1-up.len_at_least c.index-item.is in
    let same = same_told (λ tr st. made_turns tr index.name numbers c.args.place more (all_made_at tr body) st later.desk.turns) s later.s desk later.desk c.args.site.now c.requires.desk stays.goes c.requires.frame
    ∙ ap (made_turns tree index.name numbers c.args.place more (all_made_at tree body) site) stays.turns in
    subst (λ (is : List (IndexOf Expr)). GivesMade c.turns.result c.turns.new.desk (made_loop tree c.args.place is (all_made_at tree body) site desk.turns)) (sym cut)
    (loop_then tree c.args.place index more (all_made_at tree body) site desk.turns c.turns.result c.turns.new.desk numbers c.in_ok-numbers-in-len1-up.ensures.exact
    (made_as c.turns.result c.turns.new.desk _ _ same c.turns.ensures.exact))

-- ---- turns

pub turns-loop-k-init : goal.turns-loop-k-init
turns-loop-k-init t c =
    let tree = tree_in c.args.s.now c.args.desk.now.leaves in
    let site : Site = site_in (frames_of c.args.s.now) c.args.site.now in
    let it = c.args.iteration.now in
    record {
      goes = (stays_still c.args.s.now c.args.desk.now c.requires.desk).goes;
      made = nothing;
      is = c.new-made.ensures;
      gathers = gathers_none (λ (n : ℤ). one_turn (place_of_root tree) (made_loop tree it.place c.args.indices.now (all_made_at tree c.args.body.now) (with_iteration site it.name.now n))) c.args.desk.now.turns;
    }

pub turns-returns-in_err-turn-clause-exact : goal.turns-returns-in_err-turn-clause-exact
turns-returns-in_err-turn-clause-exact t c =
    let tree = tree_in c.args.s.now c.args.desk.now.leaves in
    let site : Site = site_in (frames_of c.args.s.now) c.args.site.now in
    let it = c.args.iteration.now in
    let numbers = numbers_seen it.numbers.now in
    let k = c.loop-k.k in
    let n = c.in_ok-n.n in
    let inv = c.loop-k.invariant in
    let loop = λ (m : ℤ). made_loop tree it.place c.args.indices.now (all_made_at tree c.args.body.now) (with_iteration site it.name.now m) in
    let make = λ (m : ℤ). one_turn (place_of_root tree) (loop m) in
    let stop = c.in_err-turn.field-0.0 in
    let p : c.from_residual-in_err-turn.result ≡ Err stop = search rules in
    let asked = inv.goes.asked ∙ c.requires.desk.asked in
    rw p (subst (λ (xs : List ℤ). GivesMade (Err stop) c.turn.new.desk (gathered make xs c.args.desk.now.turns)) (sym (split_got numbers k n c.in_ok-n.ensures))
    (gathers_stop make (take k numbers) (drop (k + 1) numbers) n c.args.desk.now.turns c.loop-k.desk.turns inv.made inv.gathers c.turn.new.desk c.turn.new.desk stop
    (turn_stops (Unit {0}) (place_of_root tree) (loop n) c.loop-k.desk.turns c.turn.new.desk c.loop-k.desk.asked stop asked c.in_err-turn.ensures.refused)))

pub turns-returns-in_err-turn-clause-goes : goal.turns-returns-in_err-turn-clause-goes
turns-returns-in_err-turn-clause-goes t c =
    subst (λ (d : Desk). Goes c.args.s.now c.loop-k.s c.args.desk.now d) (sym c.in_err-turn.ensures.kept) c.loop-k.invariant.goes

pub turns-returns-in_err-at-clause-goes : goal.turns-returns-in_err-at-clause-goes
turns-returns-in_err-at-clause-goes t c =
    goes_taken c.args.s.now c.loop-k.s c.args.desk.now c.loop-k.desk c.turn.new.desk c.loop-k.invariant.goes c.in_ok-turn.ensures.taken.1

pub turns-returns-in_err-more-clause-goes : goal.turns-returns-in_err-more-clause-goes
turns-returns-in_err-more-clause-goes t c =
    let goes = goes_taken c.args.s.now c.loop-k.s c.args.desk.now c.loop-k.desk c.turn.new.desk c.loop-k.invariant.goes c.in_ok-turn.ensures.taken.1 in
    goes_on c.args.s.now c.loop-k.s c.looped.new.s c.args.desk.now c.turn.new.desk c.looped.new.desk goes c.in_err-more.ensures.goes

pub turns-returns-in_err-append-clause-goes : goal.turns-returns-in_err-append-clause-goes
turns-returns-in_err-append-clause-goes t c =
    let goes = goes_taken c.args.s.now c.loop-k.s c.args.desk.now c.loop-k.desk c.turn.new.desk c.loop-k.invariant.goes c.in_ok-turn.ensures.taken.1 in
    goes_on c.args.s.now c.loop-k.s c.looped.new.s c.args.desk.now c.turn.new.desk c.looped.new.desk goes c.in_ok-more.ensures.goes

pub turns-looped-requires : goal.turns-looped-requires
turns-looped-requires t c =
    let goes = goes_taken c.args.s.now c.loop-k.s c.args.desk.now c.loop-k.desk c.turn.new.desk c.loop-k.invariant.goes c.in_ok-turn.ensures.taken.1 in (
      omega arith,
      (rw c.in_ok-at.ensures.frame (is_frame_later c.args.s.now c.loop-k.s c.args.site.now.at.now.frame.0 c.loop-k.invariant.goes.grows c.requires.frame), goes.desk),
    )

pub turns-returns-in_err-more-clause-exact : goal.turns-returns-in_err-more-clause-exact
turns-returns-in_err-more-clause-exact t c =
    let s = c.args.s.now in
    let desk = c.args.desk.now in
    let tree = tree_in s desk.leaves in
    let site : Site = site_in (frames_of s) c.args.site.now in
    let it = c.args.iteration.now in
    let indices = c.args.indices.now in
    let body = c.args.body.now in
    let numbers = numbers_seen it.numbers.now in
    let k = c.loop-k.k in
    let n = c.in_ok-n.n in
    let inv = c.loop-k.invariant in
    let loop = λ (m : ℤ). made_loop tree it.place indices (all_made_at tree body) (with_iteration site it.name.now m) in
    let make = λ (m : ℤ). one_turn (place_of_root tree) (loop m) in
    let goes = goes_taken s c.loop-k.s desk c.loop-k.desk c.turn.new.desk inv.goes c.in_ok-turn.ensures.taken.1 in
    let iters : c.in_ok-at.at.iters ≡ (it.name.now, n) ∷ c.args.site.now.at.now.iters = grind (arith, to_z-of_z, c.in_ok-at.ensures.iterations) in
    let at = inner_site (frames_of c.loop-k.s) c.args.site.now c.in_ok-at.at it.name.now n c.in_ok-at.ensures.frame iters in
    let later = tree_in c.loop-k.s c.turn.new.desk.leaves in
    let same = ap (λ (st : Site). made_loop later it.place indices (all_made_at later body) st c.turn.new.desk.turns) at
    ∙ same_told (λ tr st. made_loop tr it.place indices (all_made_at tr body) (with_iteration st it.name.now n) c.turn.new.desk.turns) s c.loop-k.s desk c.turn.new.desk c.args.site.now c.requires.desk goes c.requires.frame
    ∙ ap (loop n) (ap (λ (d : Desk). d.turns) c.in_ok-turn.ensures.taken.1)
    ∙ sym (turn_taken (place_of_root tree) (loop n) c.loop-k.desk.turns c.in_ok-turn.ensures.taken.0) in
    let stop = c.in_err-more.field-0.0 in
    let p : c.from_residual-in_err-more.result ≡ Err stop = search rules in
    rw p (subst (λ (xs : List ℤ). GivesMade (Err stop) c.looped.new.desk (gathered make xs desk.turns)) (sym (split_got numbers k n c.in_ok-n.ensures))
    (gathers_stop make (take k numbers) (drop (k + 1) numbers) n desk.turns c.loop-k.desk.turns inv.made inv.gathers c.looped.new.desk c.looped.new.desk stop
    (made_as (Err stop) c.looped.new.desk _ _ same c.in_err-more.ensures.exact)))

pub turns-loop-k-preserved : goal.turns-loop-k-preserved
turns-loop-k-preserved t c =
    let s = c.args.s.now in
    let desk = c.args.desk.now in
    let tree = tree_in s desk.leaves in
    let site : Site = site_in (frames_of s) c.args.site.now in
    let it = c.args.iteration.now in
    let indices = c.args.indices.now in
    let body = c.args.body.now in
    let numbers = numbers_seen it.numbers.now in
    let k = c.loop-k.k in
    let n = c.in_ok-n.n in
    let inv = c.loop-k.invariant in
    let loop = λ (m : ℤ). made_loop tree it.place indices (all_made_at tree body) (with_iteration site it.name.now m) in
    let make = λ (m : ℤ). one_turn (place_of_root tree) (loop m) in
    let goes = goes_taken s c.loop-k.s desk c.loop-k.desk c.turn.new.desk inv.goes c.in_ok-turn.ensures.taken.1 in
    let iters : c.in_ok-at.at.iters ≡ (it.name.now, n) ∷ c.args.site.now.at.now.iters = grind (arith, to_z-of_z, c.in_ok-at.ensures.iterations) in
    let at = inner_site (frames_of c.loop-k.s) c.args.site.now c.in_ok-at.at it.name.now n c.in_ok-at.ensures.frame iters in
    let later = tree_in c.loop-k.s c.turn.new.desk.leaves in
    let same = ap (λ (st : Site). made_loop later it.place indices (all_made_at later body) st c.turn.new.desk.turns) at
    ∙ same_told (λ tr st. made_loop tr it.place indices (all_made_at tr body) (with_iteration st it.name.now n) c.turn.new.desk.turns) s c.loop-k.s desk c.turn.new.desk c.args.site.now c.requires.desk goes c.requires.frame
    ∙ ap (loop n) (ap (λ (d : Desk). d.turns) c.in_ok-turn.ensures.taken.1)
    ∙ sym (turn_taken (place_of_root tree) (loop n) c.loop-k.desk.turns c.in_ok-turn.ensures.taken.0) in
    let one = c.in_ok-more.ensures.exact in
    let more = gathers_more make (take k numbers) n desk.turns c.loop-k.desk.turns c.looped.new.desk.turns inv.made one.0 inv.gathers (sym same ∙ one.1) in
    record {
      goes = goes_on s c.loop-k.s c.looped.new.s desk c.turn.new.desk c.looped.new.desk goes c.in_ok-more.ensures.goes;
      made = beside inv.made one.0;
      is = c.in_ok-append.ensures inv.made one.0 inv.is one.2;
      gathers = subst (λ (xs : List ℤ). Gathers make xs desk.turns (beside inv.made one.0) c.looped.new.desk.turns) (sym (taken_got numbers k n c.in_ok-n.ensures)) more;
    }

pub turns-returns-clause-exact : goal.turns-returns-clause-exact
turns-returns-clause-exact t c =
    let tree = tree_in c.args.s.now c.args.desk.now.leaves in
    let site : Site = site_in (frames_of c.args.s.now) c.args.site.now in
    let it = c.args.iteration.now in
    let numbers = numbers_seen it.numbers.now in
    let inv = c.loop-k.invariant in
    let make = λ (m : ℤ). one_turn (place_of_root tree) (made_loop tree it.place c.args.indices.now (all_made_at tree c.args.body.now) (with_iteration site it.name.now m)) in
    let all = take_all c.loop-k.k numbers (subst (λ (n : ℕ). n ≤ c.loop-k.k) c.count-k-end.ensures c.loop-k-test.false) in (
      inv.made,
      gathers make numbers c.args.desk.now.turns inv.made c.loop-k.desk.turns (subst (λ (xs : List ℤ). Gathers make xs c.args.desk.now.turns inv.made c.loop-k.desk.turns) all inv.gathers),
      inv.is,
    )

-- ---- undecided_branch

pub undecided_branch-returns-clause-exact : goal.undecided_branch-returns-clause-exact
undecided_branch-returns-clause-exact t c =
    let s = c.args.s.now in
    let desk = c.args.desk.now in
    let later = c.flat_condition.new in
    let tree = tree_in s desk.leaves in
    let site : Site = site_in (frames_of s) c.args.site.now in
    let inside : SiteAt = record { at = c.args.site.now.at; undecided = true } in
    let equations = c.args.equations.now in
    let told = c.in_ok-condition.ensures.exact in
    let stays = c.in_ok-condition.ensures.stays in
    let same = same_told (λ tr st. all_made_at tr equations st later.desk.turns) s later.s desk later.desk inside c.requires.desk stays.goes c.requires.frame
    ∙ ap (all_made_at tree equations (in_branch site)) stays.turns in
    both_branch tree site c.args.condition.now equations desk.turns c.both.result c.in_ok-condition.condition c.made_section-made.result c.made_section-made.new.desk told.0
    c.both.ensures.values c.both.ensures.error told.1 told.2 (made_as c.made_section-made.result c.made_section-made.new.desk _ _ same c.made_section-made.ensures.exact)

pub undecided_branch-returns-in_err-condition-clause-exact : goal.undecided_branch-returns-in_err-condition-clause-exact
undecided_branch-returns-in_err-condition-clause-exact t c =
    let tree = tree_in c.args.s.now c.args.desk.now.leaves in
    let site : Site = site_in (frames_of c.args.s.now) c.args.site.now in
    let stop = c.in_err-condition.field-0.0 in
    let p : c.from_residual.result ≡ Err stop = search rules in
    rw p (branch_halts tree site c.args.condition.now c.args.equations.now c.args.desk.now.turns {T = Flat} IsFlat c.flat_condition.new.desk stop c.in_err-condition.ensures.exact)

-- ---- choice

pub choice-loop-branch-init : goal.choice-loop-branch-init
choice-loop-branch-init t c = record {
  goes = (stays_still c.args.s.now c.args.desk.now c.requires.desk).goes;
  branches = [];
  are = subst (λ (xs : List (Flat × MadeAt)). AreBranches xs []) (sym c.new-made.ensures) tt;
  left = front_none (choice_at (tree_in c.args.s.now c.args.desk.now.leaves) (site_in (frames_of c.args.s.now) c.args.site.now) c.args.branches.now c.args.others.now) c.args.desk.now.turns;
}

pub choice-returns-in_err-condition_known-clause-exact : goal.choice-returns-in_err-condition_known-clause-exact
choice-returns-in_err-condition_known-clause-exact t c =
    let s = c.args.s.now in
    let desk = c.args.desk.now in
    let inv = c.loop-branch.invariant in
    let tree = tree_in s desk.leaves in
    let here : SiteAt = record { at = c.args.site.now.at; undecided = c.loop-branch.undecided } in
    let site : Site = site_in (frames_of s) here in
    let branches = c.args.branches.now in
    let others = c.args.others.now in
    let all = choice_at tree (site_in (frames_of s) c.args.site.now) branches others desk.turns in
    let branch = c.branch-item.result in
    let rest = drop (c.loop-branch.branch-index + 1) branches in
    let left = subst (λ (bs : List (Expr × List (EquationOf EquationKind))). put_front inv.branches (choice_at tree site bs others) c.loop-branch.desk.turns ≡ all)
    (from_place branches c.loop-branch.branch-index branch c.loop-branch-test.true c.branch-item.is) inv.left in
    let known = same_told (λ tr st. condition_known tr st.scope branch.0) s c.loop-branch.s desk c.loop-branch.desk here c.requires.desk inv.goes c.requires.frame in
    let stop = c.in_err-condition_known.field-0.0 in
    let p : c.from_residual.result ≡ Err stop = search rules in
    rw p (step_halts tree site branch rest others c.loop-branch.desk.turns c.condition_known.new.desk inv.branches all stop left (subst (told.Gives {T = Known} (Err stop)) known c.in_err-condition_known.ensures.exact))

pub choice-returns-in_err-other-in-Some-Truth-true-clause-exact : goal.choice-returns-in_err-other-in-Some-Truth-true-clause-exact
choice-returns-in_err-other-in-Some-Truth-true-clause-exact t c =
    let s = c.args.s.now in
    let desk = c.args.desk.now in
    let inv = c.loop-branch.invariant in
    let tree = tree_in s desk.leaves in
    let here : SiteAt = record { at = c.args.site.now.at; undecided = c.loop-branch.undecided } in
    let site : Site = site_in (frames_of s) here in
    let branches = c.args.branches.now in
    let others = c.args.others.now in
    let all = choice_at tree (site_in (frames_of s) c.args.site.now) branches others desk.turns in
    let branch = c.branch-item.result in
    let rest = drop (c.loop-branch.branch-index + 1) branches in
    let left = subst (λ (bs : List (Expr × List (EquationOf EquationKind))). put_front inv.branches (choice_at tree site bs others) c.loop-branch.desk.turns ≡ all)
    (from_place branches c.loop-branch.branch-index branch c.loop-branch-test.true c.branch-item.is) inv.left in
    let known = same_told (λ tr st. condition_known tr st.scope branch.0) s c.loop-branch.s desk c.loop-branch.desk here c.requires.desk inv.goes c.requires.frame in
    let stays = c.in_ok-condition_known.ensures.stays in
    let goes = goes_on s c.loop-branch.s c.condition_known.new.s desk c.loop-branch.desk c.condition_known.new.desk inv.goes stays.goes in
    let is : c.in_ok-condition_known.field-0 ≡ Some (Truth true) = search rules in
    let holds = sym known ∙ c.in_ok-condition_known.ensures.exact ∙ ap (λ (k : Known). Ok k) is in
    let later = c.condition_known.new in
    let same = ap (λ (es : List (EquationOf EquationKind)). all_made_at (tree_in later.s later.desk.leaves) es (site_in (frames_of later.s) here) later.desk.turns) c.as_slice-equations.ensures
    ∙ same_told (λ tr st. all_made_at tr branch.1 st later.desk.turns) s later.s desk later.desk here c.requires.desk goes c.requires.frame
    ∙ ap (all_made_at tree branch.1 site) stays.turns in
    let stop = c.in_err-other-in-Some-Truth-true.field-0.0 in
    let p : c.from_residual-in_err-other-in-Some-Truth-true.result ≡ Err stop = search rules in
    rw p (true_stops tree site branch rest others c.loop-branch.desk.turns c.made_section.new.desk c.made_section.new.desk inv.branches all stop left holds
    (made_as (Err stop) c.made_section.new.desk _ _ same c.in_err-other-in-Some-Truth-true.ensures.exact))

pub choice-returns-in-Some-Truth-true-clause-exact : goal.choice-returns-in-Some-Truth-true-clause-exact
choice-returns-in-Some-Truth-true-clause-exact t c =
    let s = c.args.s.now in
    let desk = c.args.desk.now in
    let inv = c.loop-branch.invariant in
    let tree = tree_in s desk.leaves in
    let here : SiteAt = record { at = c.args.site.now.at; undecided = c.loop-branch.undecided } in
    let site : Site = site_in (frames_of s) here in
    let branches = c.args.branches.now in
    let others = c.args.others.now in
    let all = choice_at tree (site_in (frames_of s) c.args.site.now) branches others desk.turns in
    let branch = c.branch-item.result in
    let rest = drop (c.loop-branch.branch-index + 1) branches in
    let left = subst (λ (bs : List (Expr × List (EquationOf EquationKind))). put_front inv.branches (choice_at tree site bs others) c.loop-branch.desk.turns ≡ all)
    (from_place branches c.loop-branch.branch-index branch c.loop-branch-test.true c.branch-item.is) inv.left in
    let known = same_told (λ tr st. condition_known tr st.scope branch.0) s c.loop-branch.s desk c.loop-branch.desk here c.requires.desk inv.goes c.requires.frame in
    let stays = c.in_ok-condition_known.ensures.stays in
    let goes = goes_on s c.loop-branch.s c.condition_known.new.s desk c.loop-branch.desk c.condition_known.new.desk inv.goes stays.goes in
    let is : c.in_ok-condition_known.field-0 ≡ Some (Truth true) = search rules in
    let holds = sym known ∙ c.in_ok-condition_known.ensures.exact ∙ ap (λ (k : Known). Ok k) is in
    let later = c.condition_known.new in
    let same = ap (λ (es : List (EquationOf EquationKind)). all_made_at (tree_in later.s later.desk.leaves) es (site_in (frames_of later.s) here) later.desk.turns) c.as_slice-equations.ensures
    ∙ same_told (λ tr st. all_made_at tr branch.1 st later.desk.turns) s later.s desk later.desk here c.requires.desk goes c.requires.frame
    ∙ ap (all_made_at tree branch.1 site) stays.turns in
    let other = c.in_ok-other-in-Some-Truth-true.other in
    true_made tree site branch rest others c.loop-branch.desk.turns c.made_section.new.desk c.loop-branch.made other inv.branches all left inv.are holds
    (made_as (Ok other) c.made_section.new.desk _ _ same c.in_ok-other-in-Some-Truth-true.ensures.exact)

pub choice-undecided_branch-requires : goal.choice-undecided_branch-requires
choice-undecided_branch-requires t c =
    let goes = goes_on c.args.s.now c.loop-branch.s c.condition_known.new.s c.args.desk.now c.loop-branch.desk c.condition_known.new.desk c.loop-branch.invariant.goes c.in_ok-condition_known.ensures.stays.goes in
    let deeper = equations_below c.args.branches.now c.loop-branch.branch-index c.branch-item.result c.as_slice-equations.result.now c.loop-branch-test.true c.branch-item.is c.as_slice-equations.ensures in
    (omega (arith, deeper), (is_frame_later c.args.s.now c.condition_known.new.s c.args.site.now.at.now.frame.0 goes.grows c.requires.frame, goes.desk))

pub choice-made_section-requires : goal.choice-made_section-requires
choice-made_section-requires t c =
    let goes = goes_on c.args.s.now c.loop-branch.s c.condition_known.new.s c.args.desk.now c.loop-branch.desk c.condition_known.new.desk c.loop-branch.invariant.goes c.in_ok-condition_known.ensures.stays.goes in
    let deeper = equations_below c.args.branches.now c.loop-branch.branch-index c.branch-item.result c.as_slice-equations.result.now c.loop-branch-test.true c.branch-item.is c.as_slice-equations.ensures in
    (omega (arith, deeper), (is_frame_later c.args.s.now c.condition_known.new.s c.args.site.now.at.now.frame.0 goes.grows c.requires.frame, goes.desk))

pub choice-returns-in_err-undecided_branch-in_default-clause-exact : goal.choice-returns-in_err-undecided_branch-in_default-clause-exact
choice-returns-in_err-undecided_branch-in_default-clause-exact t c =
    let s = c.args.s.now in
    let desk = c.args.desk.now in
    let inv = c.loop-branch.invariant in
    let tree = tree_in s desk.leaves in
    let here : SiteAt = record { at = c.args.site.now.at; undecided = c.loop-branch.undecided } in
    let site : Site = site_in (frames_of s) here in
    let branches = c.args.branches.now in
    let others = c.args.others.now in
    let all = choice_at tree (site_in (frames_of s) c.args.site.now) branches others desk.turns in
    let branch = c.branch-item.result in
    let rest = drop (c.loop-branch.branch-index + 1) branches in
    let left = subst (λ (bs : List (Expr × List (EquationOf EquationKind))). put_front inv.branches (choice_at tree site bs others) c.loop-branch.desk.turns ≡ all)
    (from_place branches c.loop-branch.branch-index branch c.loop-branch-test.true c.branch-item.is) inv.left in
    let known = same_told (λ tr st. condition_known tr st.scope branch.0) s c.loop-branch.s desk c.loop-branch.desk here c.requires.desk inv.goes c.requires.frame in
    let later = c.condition_known.new in
    let stays = c.in_ok-condition_known.ensures.stays in
    let goes = goes_on s c.loop-branch.s later.s desk c.loop-branch.desk later.desk inv.goes stays.goes in
    let k = c.in_ok-condition_known.field-0 in
    let holds = sym known ∙ c.in_ok-condition_known.ensures.exact in
    let same = ap (λ (es : List (EquationOf EquationKind)). undecided_at (tree_in later.s later.desk.leaves) (site_in (frames_of later.s) here) branch.0 es later.desk.turns) c.as_slice-equations.ensures
    ∙ same_told (λ tr st. undecided_at tr st branch.0 branch.1 later.desk.turns) s later.s desk later.desk here c.requires.desk goes c.requires.frame
    ∙ ap (undecided_at tree site branch.0 branch.1) stays.turns in
    let no : k ≡ Some (Truth true) → ⊥ = elim c.in_default.branch [ choice-in_default-via-in-Some+in_default w ↦ λ h. search (rules, h, w) | choice-in_default-via-in_default w ↦ λ h. search (rules, h, w) ] in
    let nor : k ≡ Some (Truth false) → ⊥ = elim c.in_default.branch [ choice-in_default-via-in-Some+in_default w ↦ λ h. search (rules, h, w) | choice-in_default-via-in_default w ↦ λ h. search (rules, h, w) ] in
    let stop = c.in_err-undecided_branch-in_default.field-0.0 in
    let p : c.from_residual-in_err-undecided_branch-in_default.result ≡ Err stop = search rules in
    rw p (other_stops tree site branch rest others c.loop-branch.desk.turns c.undecided_branch.new.desk c.undecided_branch.new.desk inv.branches all k stop left holds no nor
    (subst (GivesBranch (Err stop) c.undecided_branch.new.desk) same c.in_err-undecided_branch-in_default.ensures.exact))

pub choice-loop-branch-preserved : goal.choice-loop-branch-preserved
choice-loop-branch-preserved t c =
    let s = c.args.s.now in
    let desk = c.args.desk.now in
    let inv = c.loop-branch.invariant in
    let tree = tree_in s desk.leaves in
    let here : SiteAt = record { at = c.args.site.now.at; undecided = c.loop-branch.undecided } in
    let site : Site = site_in (frames_of s) here in
    let branches = c.args.branches.now in
    let others = c.args.others.now in
    let all = choice_at tree (site_in (frames_of s) c.args.site.now) branches others desk.turns in
    let branch = c.branch-item.result in
    let rest = drop (c.loop-branch.branch-index + 1) branches in
    let left = subst (λ (bs : List (Expr × List (EquationOf EquationKind))). put_front inv.branches (choice_at tree site bs others) c.loop-branch.desk.turns ≡ all)
    (from_place branches c.loop-branch.branch-index branch c.loop-branch-test.true c.branch-item.is) inv.left in
    let known = same_told (λ tr st. condition_known tr st.scope branch.0) s c.loop-branch.s desk c.loop-branch.desk here c.requires.desk inv.goes c.requires.frame in
    let later = c.condition_known.new in
    let stays = c.in_ok-condition_known.ensures.stays in
    let goes = goes_on s c.loop-branch.s later.s desk c.loop-branch.desk later.desk inv.goes stays.goes in
    let k = c.in_ok-condition_known.field-0 in
    let holds = sym known ∙ c.in_ok-condition_known.ensures.exact in
    let same = ap (λ (es : List (EquationOf EquationKind)). undecided_at (tree_in later.s later.desk.leaves) (site_in (frames_of later.s) here) branch.0 es later.desk.turns) c.as_slice-equations.ensures
    ∙ same_told (λ tr st. undecided_at tr st branch.0 branch.1 later.desk.turns) s later.s desk later.desk here c.requires.desk goes c.requires.frame
    ∙ ap (undecided_at tree site branch.0 branch.1) stays.turns in
    elim c.match-branch-2.branch [
      | choice-in-Some-Truth-false w ↦
          let is : k ≡ Some (Truth false) = search (rules, w) in
          rw (w.s-is, w.desk-is, w.undecided-is, w.made-is) (record {
            goes = goes;
            branches = inv.branches;
            are = inv.are;
            left = subst (λ (n : ℕ). put_front inv.branches (choice_at tree site rest others) n ≡ all) (sym stays.turns)
                (false_left tree site branch rest others c.loop-branch.desk.turns inv.branches all left (holds ∙ ap (λ (o : Known). Ok o) is));
          })
      | choice-in_default+in_ok-undecided_branch-in_default+in_ok-push-in_default w ↦
          let no : k ≡ Some (Truth true) → ⊥ = elim w.in_default.branch [ choice-in_default-via-in-Some+in_default w' ↦ λ h. search (rules, h, w') | choice-in_default-via-in_default w' ↦ λ h. search (rules, h, w') ] in
          let nor : k ≡ Some (Truth false) → ⊥ = elim w.in_default.branch [ choice-in_default-via-in-Some+in_default w' ↦ λ h. search (rules, h, w') | choice-in_default-via-in_default w' ↦ λ h. search (rules, h, w') ] in
          let one = w.in_ok-undecided_branch-in_default.ensures.exact in
          let held = w.in_ok-undecided_branch-in_default.field-0 in
          rw (w.s-is, w.desk-is, w.undecided-is, w.made-is) (record {
            goes = goes_on s later.s w.undecided_branch.new.s desk later.desk w.undecided_branch.new.desk goes w.in_ok-undecided_branch-in_default.ensures.goes;
            branches = inv.branches ++ one.0 ∷ [];
            are = subst (λ (xs : List (Flat × MadeAt)). AreBranches xs (inv.branches ++ one.0 ∷ [])) (sym w.in_ok-push-in_default.ensures.ok)
                (branches_more c.loop-branch.made held.0 held.1 inv.branches one.0 inv.are one.2.0 one.2.1);
            left = other_left tree site branch rest others c.loop-branch.desk.turns inv.branches one.0 w.undecided_branch.new.desk.turns all k left holds no nor (sym same ∙ one.1);
          })
    ]

pub choice-returns-in_err-other-clause-exact : goal.choice-returns-in_err-other-clause-exact
choice-returns-in_err-other-clause-exact t c =
    let s = c.args.s.now in
    let desk = c.args.desk.now in
    let inv = c.loop-branch.invariant in
    let tree = tree_in s desk.leaves in
    let here : SiteAt = record { at = c.args.site.now.at; undecided = c.loop-branch.undecided } in
    let site : Site = site_in (frames_of s) here in
    let branches = c.args.branches.now in
    let others = c.args.others.now in
    let all = choice_at tree (site_in (frames_of s) c.args.site.now) branches others desk.turns in
    let left = subst (λ (bs : List (Expr × List (EquationOf EquationKind))). put_front inv.branches (choice_at tree site bs others) c.loop-branch.desk.turns ≡ all)
    (drop_all c.loop-branch.branch-index branches c.loop-branch-test.false) inv.left in
    let same = same_told (λ tr st. all_made_at tr others st c.loop-branch.desk.turns) s c.loop-branch.s desk c.loop-branch.desk here c.requires.desk inv.goes c.requires.frame in
    let stop = c.in_err-other.field-0.0 in
    let p : c.from_residual-in_err-other.result ≡ Err stop = search rules in
    rw p (last_stops tree site others c.loop-branch.desk.turns c.made_section-2.new.desk c.made_section-2.new.desk inv.branches all stop left
    (made_as (Err stop) c.made_section-2.new.desk _ _ same c.in_err-other.ensures.exact))

pub choice-returns-clause-exact : goal.choice-returns-clause-exact
choice-returns-clause-exact t c =
    let s = c.args.s.now in
    let desk = c.args.desk.now in
    let inv = c.loop-branch.invariant in
    let tree = tree_in s desk.leaves in
    let here : SiteAt = record { at = c.args.site.now.at; undecided = c.loop-branch.undecided } in
    let site : Site = site_in (frames_of s) here in
    let branches = c.args.branches.now in
    let others = c.args.others.now in
    let all = choice_at tree (site_in (frames_of s) c.args.site.now) branches others desk.turns in
    let left = subst (λ (bs : List (Expr × List (EquationOf EquationKind))). put_front inv.branches (choice_at tree site bs others) c.loop-branch.desk.turns ≡ all)
    (drop_all c.loop-branch.branch-index branches c.loop-branch-test.false) inv.left in
    let same = same_told (λ tr st. all_made_at tr others st c.loop-branch.desk.turns) s c.loop-branch.s desk c.loop-branch.desk here c.requires.desk inv.goes c.requires.frame in
    last_made tree site others c.loop-branch.desk.turns c.made_section-2.new.desk c.loop-branch.made c.in_ok-other.other inv.branches all left inv.are
    (made_as (Ok c.in_ok-other.other) c.made_section-2.new.desk _ _ same c.in_ok-other.ensures.exact)

-- ---- what goes on

pub made_section-returns-in_err-more-clause-goes : goal.made_section-returns-in_err-more-clause-goes
made_section-returns-in_err-more-clause-goes t c =
    goes_on c.args.s.now c.loop-equation.s c.made_equation.new.s c.args.desk.now c.loop-equation.desk c.made_equation.new.desk c.loop-equation.invariant.goes c.in_err-more.ensures.goes

pub made_section-returns-in_err-append-clause-goes : goal.made_section-returns-in_err-append-clause-goes
made_section-returns-in_err-append-clause-goes t c =
    goes_on c.args.s.now c.loop-equation.s c.made_equation.new.s c.args.desk.now c.loop-equation.desk c.made_equation.new.desk c.loop-equation.invariant.goes c.in_ok-more.ensures.goes

pub made_section-returns-clause-goes : goal.made_section-returns-clause-goes
made_section-returns-clause-goes t c =
    c.loop-equation.invariant.goes

pub made_equation-returns-in-Equal-clause-goes : goal.made_equation-returns-in-Equal-clause-goes
made_equation-returns-in-Equal-clause-goes t c =
    c.equalities.ensures.stays.goes

pub made_equation-returns-in_err-choice-in-If-clause-goes : goal.made_equation-returns-in_err-choice-in-If-clause-goes
made_equation-returns-in_err-choice-in-If-clause-goes t c =
    c.in_err-choice-in-If.ensures.goes

pub made_equation-returns-in_ok-choice-in-If-clause-goes : goal.made_equation-returns-in_ok-choice-in-If-clause-goes
made_equation-returns-in_ok-choice-in-If-clause-goes t c =
    c.in_ok-choice-in-If.ensures.goes

pub made_equation-returns-in-For-clause-goes : goal.made_equation-returns-in-For-clause-goes
made_equation-returns-in-For-clause-goes t c =
    c.looped.ensures.goes

pub made_equation-returns-in-When-clause-goes : goal.made_equation-returns-in-When-clause-goes
made_equation-returns-in-When-clause-goes t c =
    (stays_still c.args.s.now c.args.desk.now c.requires.desk).goes

pub made_equation-returns-in-Connect-clause-goes : goal.made_equation-returns-in-Connect-clause-goes
made_equation-returns-in-Connect-clause-goes t c =
    c.connect.ensures.stays.goes

pub made_equation-returns-in-Call-clause-goes : goal.made_equation-returns-in-Call-clause-goes
made_equation-returns-in-Call-clause-goes t c =
    c.call.ensures.stays.goes

pub looped-returns-in-empty-clause-goes : goal.looped-returns-in-empty-clause-goes
looped-returns-in-empty-clause-goes t c =
    c.made_section.ensures.goes

pub looped-returns-in_err-numbers-in-len1-up-clause-goes : goal.looped-returns-in_err-numbers-in-len1-up-clause-goes
looped-returns-in_err-numbers-in-len1-up-clause-goes t c =
    c.in_err-numbers-in-len1-up.ensures.stays.goes

pub looped-returns-in_ok-numbers-in-len1-up-clause-goes : goal.looped-returns-in_ok-numbers-in-len1-up-clause-goes
looped-returns-in_ok-numbers-in-len1-up-clause-goes t c =
    goes_on c.args.s.now c.numbers_of_index.new.s c.turns.new.s c.args.desk.now c.numbers_of_index.new.desk c.turns.new.desk c.in_ok-numbers-in-len1-up.ensures.stays.goes c.turns.ensures.goes

pub turns-returns-in_err-n-clause-goes : goal.turns-returns-in_err-n-clause-goes
turns-returns-in_err-n-clause-goes t c =
    c.loop-k.invariant.goes

pub turns-returns-clause-goes : goal.turns-returns-clause-goes
turns-returns-clause-goes t c =
    c.loop-k.invariant.goes

pub undecided_branch-returns-in_err-condition-clause-goes : goal.undecided_branch-returns-in_err-condition-clause-goes
undecided_branch-returns-in_err-condition-clause-goes t c =
    c.in_err-condition.ensures.stays.goes

pub undecided_branch-returns-clause-goes : goal.undecided_branch-returns-clause-goes
undecided_branch-returns-clause-goes t c =
    goes_on c.args.s.now c.flat_condition.new.s c.made_section-made.new.s c.args.desk.now c.flat_condition.new.desk c.made_section-made.new.desk c.in_ok-condition.ensures.stays.goes c.made_section-made.ensures.goes

pub choice-returns-in_err-condition_known-clause-goes : goal.choice-returns-in_err-condition_known-clause-goes
choice-returns-in_err-condition_known-clause-goes t c =
    goes_on c.args.s.now c.loop-branch.s c.condition_known.new.s c.args.desk.now c.loop-branch.desk c.condition_known.new.desk c.loop-branch.invariant.goes c.in_err-condition_known.ensures.stays.goes

pub choice-returns-in_err-other-in-Some-Truth-true-clause-goes : goal.choice-returns-in_err-other-in-Some-Truth-true-clause-goes
choice-returns-in_err-other-in-Some-Truth-true-clause-goes t c =
    let goes = goes_on c.args.s.now c.loop-branch.s c.condition_known.new.s c.args.desk.now c.loop-branch.desk c.condition_known.new.desk c.loop-branch.invariant.goes c.in_ok-condition_known.ensures.stays.goes in
    goes_on c.args.s.now c.condition_known.new.s c.made_section.new.s c.args.desk.now c.condition_known.new.desk c.made_section.new.desk goes c.in_err-other-in-Some-Truth-true.ensures.goes

pub choice-returns-in-Some-Truth-true-clause-goes : goal.choice-returns-in-Some-Truth-true-clause-goes
choice-returns-in-Some-Truth-true-clause-goes t c =
    let goes = goes_on c.args.s.now c.loop-branch.s c.condition_known.new.s c.args.desk.now c.loop-branch.desk c.condition_known.new.desk c.loop-branch.invariant.goes c.in_ok-condition_known.ensures.stays.goes in
    goes_on c.args.s.now c.condition_known.new.s c.made_section.new.s c.args.desk.now c.condition_known.new.desk c.made_section.new.desk goes c.in_ok-other-in-Some-Truth-true.ensures.goes

pub choice-returns-in_err-undecided_branch-in_default-clause-goes : goal.choice-returns-in_err-undecided_branch-in_default-clause-goes
choice-returns-in_err-undecided_branch-in_default-clause-goes t c =
    let goes = goes_on c.args.s.now c.loop-branch.s c.condition_known.new.s c.args.desk.now c.loop-branch.desk c.condition_known.new.desk c.loop-branch.invariant.goes c.in_ok-condition_known.ensures.stays.goes in
    goes_on c.args.s.now c.condition_known.new.s c.undecided_branch.new.s c.args.desk.now c.condition_known.new.desk c.undecided_branch.new.desk goes c.in_err-undecided_branch-in_default.ensures.goes

pub choice-returns-in_err-push-in_default-clause-goes : goal.choice-returns-in_err-push-in_default-clause-goes
choice-returns-in_err-push-in_default-clause-goes t c =
    let goes = goes_on c.args.s.now c.loop-branch.s c.condition_known.new.s c.args.desk.now c.loop-branch.desk c.condition_known.new.desk c.loop-branch.invariant.goes c.in_ok-condition_known.ensures.stays.goes in
    goes_on c.args.s.now c.condition_known.new.s c.undecided_branch.new.s c.args.desk.now c.condition_known.new.desk c.undecided_branch.new.desk goes c.in_ok-undecided_branch-in_default.ensures.goes

pub choice-returns-in_err-other-clause-goes : goal.choice-returns-in_err-other-clause-goes
choice-returns-in_err-other-clause-goes t c =
    goes_on c.args.s.now c.loop-branch.s c.made_section-2.new.s c.args.desk.now c.loop-branch.desk c.made_section-2.new.desk c.loop-branch.invariant.goes c.in_err-other.ensures.goes

pub choice-returns-clause-goes : goal.choice-returns-clause-goes
choice-returns-clause-goes t c =
    goes_on c.args.s.now c.loop-branch.s c.made_section-2.new.s c.args.desk.now c.loop-branch.desk c.made_section-2.new.desk c.loop-branch.invariant.goes c.in_ok-other.ensures.goes
