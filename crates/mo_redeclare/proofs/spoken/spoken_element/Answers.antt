-- An element with `redeclare` redeclares the element of its name.
use Rattle.std.proofs.Common.{[], ◌∷◌, ap, sym, ◌∙◌}
use Rattle.mo_scope.specs.Frames.{Source}
use Rattle.mo_scope.specs.Rows.{Declares}
use Rattle.mo_scope.specs.Sights.{declares_seen, source_at}
use Rattle.mo_scope.specs.Spoken.{spoken_element}
use Rattle.mo_scope.specs.Worlds.{frames_of, table_in}
use Rattle.mo_redeclare.specs.steps.Comparing.{redeclares_in}
use Rattle.mo_redeclare.proofs.Speaking.{element_speaks}
use Rattle.mo_redeclare.proofs.spoken.spoken_element.Goals as goal

pub returns-clause-is : goal.returns-clause-is
returns-clause-is c =
    let T = table_in c.args.s.now in
    let S = source_at c.args.s.now c.args.source.now in
    let D = declares_seen c.declared-declares.result in
    ap (λ (s : Source). (D.name, record { declares = D; place = D.place; keeps = D.flags.replaceable; source = s }) ∷ []) (c.in_ok-behind.ensures.is (frames_of c.args.s.now))
    ∙ sym (element_speaks T S D)
    ∙ ap (λ (d : Declares). redeclares_in (spoken_element T S d)) c.declared-declares.ensures.is
