use Rattle.std.proofs.Common.{◌≡◌, [], ap, sym, ◌∙◌, false, rules}
use Rattle.mo_names.specs.Sights.{member_of}
use Rattle.mo_scope.specs.Sights.{redeclaration_in}
use Rattle.std.specs.Prelude.{option_map}
use Rattle.mo_lookup.specs.Sizing.{sizes_seen}
use Rattle.mo_lookup.proofs.Written.{full_by, original, replaced, seen_nothing}
use Rattle.mo_lookup.proofs.sizes.declared.Goals as goal

pub returns-then-not-is_empty-clause-there : goal.returns-then-not-is_empty-clause-there
returns-then-not-is_empty-clause-there c = λ world is some. c.in_ok-made.ensures.there world some

pub returns-then-not-is_empty-clause-exact : goal.returns-then-not-is_empty-clause-exact
returns-then-not-is_empty-clause-exact c = λ frames.
    let made = c.in_ok-made.made in
    let full : c.is_empty.result ≡ false = search rules in
    replaced (member_of frames c.args.member.now) (option_map (redeclaration_in frames) c.args.redeclared.now) (sizes_seen frames made) (c.in_ok-made.ensures.exact frames)
    (λ e. full_by c.is_empty.result made c.is_empty.ensures full (seen_nothing frames made e))

pub returns-clause-there : goal.returns-clause-there
returns-clause-there c = λ world is some. c.in_ok-put_declared.ensures.there world is (c.in_ok-made.ensures.there world some)

pub returns-clause-exact : goal.returns-clause-exact
returns-clause-exact c = λ frames.
    let member = member_of frames c.args.member.now in
    let redeclared = option_map (redeclaration_in frames) c.args.redeclared.now in
    let none : c.in_ok-made.made ≡ [] = search rules in
    let nothing : sizes_seen frames c.in_ok-made.made ≡ [] = ap (sizes_seen frames) none in
    (rw (none, c.new.ensures) at (c.in_ok-put_declared.ensures.exact frames)) ∙ original member redeclared (sym (c.in_ok-made.ensures.exact frames) ∙ nothing)
