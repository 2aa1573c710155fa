-- What is declared, then what the type adds.
use Rattle.std.proofs.Common.{◌++◌, ap, ◌∙◌}
use Rattle.std.proofs.lemmas.List.{map-append}
use Rattle.std.specs.Prelude.{option_map}
use Rattle.mo_scope.specs.Sights.{redeclaration_in}
use Rattle.mo_scope.specs.Sizes.{declared_sizes}
use Rattle.mo_scope.specs.Worlds.{IsFrame, frames_of}
use Rattle.mo_names.proofs.Later.{grows_refl}
use Rattle.mo_names.specs.Sights.{member_of}
use Rattle.mo_lookup.specs.Sizing.{size_seen, sizes_seen}
use Rattle.mo_lookup.proofs.Written.{are_sized_later, every_append, sizes_later}
use Rattle.mo_lookup.proofs.sizes.sizes_of.Goals as goal

pub returns-in_err-made-clause-grows : goal.returns-in_err-made-clause-grows
returns-in_err-made-clause-grows c = grows_refl _

pub returns-clause-there : goal.returns-clause-there
returns-clause-there c =
    let own = c.in_ok-made.ensures.there c.args.s.now c.requires.member.home c.requires.child.redeclared in
    rw c.in_ok-append.ensures.ok (every_append (λ sizes. IsFrame c.sizes_of_type.new.s sizes.scope.frame.0) c.in_ok-made.made c.in_ok-behind.behind
    (are_sized_later c.args.s.now c.sizes_of_type.new.s c.in_ok-behind.ensures.grows c.in_ok-made.made own) c.in_ok-behind.ensures.there)

pub returns-clause-exact : goal.returns-clause-exact
returns-clause-exact c =
    let s = c.args.s.now in
    let later = c.sizes_of_type.new.s in
    let own = c.in_ok-made.ensures.there s c.requires.member.home c.requires.child.redeclared in
    rw c.in_ok-append.ensures.ok (map-append (size_seen (frames_of later)) c.in_ok-made.made c.in_ok-behind.behind
    ∙ (ap (λ xs. xs ++ sizes_seen (frames_of later) c.in_ok-behind.behind) (sizes_later s later c.in_ok-behind.ensures.grows c.in_ok-made.made own ∙ c.in_ok-made.ensures.exact (frames_of s))
    ∙ ap (λ xs. declared_sizes (member_of (frames_of s) c.args.member.now) (option_map (redeclaration_in (frames_of s)) c.args.child.now.redeclared) ++ xs) c.in_ok-behind.ensures.exact))
