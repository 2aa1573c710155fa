-- The parts of the frame's sources, then what the declaration adds.
use Rattle.std.proofs.Common.{◌≡◌, ℕ, ◌++◌, Bool, true, List, is_some, map, ap, sym, ◌∙◌}
use Rattle.mo_scope.specs.declared.saying.Saying.{Saying as SayingAt}
use Rattle.mo_scope.specs.Frames.{Source, sources_of}
use Rattle.mo_scope.specs.Parts.{Saying, declared_sources, first_of, redeclarations_in, redeclared, said_by_all, sources_said}
use Rattle.mo_scope.specs.Sights.{member_seen, saying_in, source_seen}
use Rattle.mo_scope.specs.Worlds.{SourceEntry, World, frame_at, frames_of, member_in, sources_in, table_in}
use Rattle.mo_scope.proofs.Numbered.{is_no_top}
use Rattle.mo_scope.proofs.Scoped.{IsReal, sources_said_scoped, declared_sources_scoped, said_real, frames_is, frames_more}
use Rattle.mo_scope.proofs.scopes.Scopes.element_sources.Goals as goal

-- what the sources of the frame say, and whether that redeclares
said_is : (w : World) (name index : List ℕ) (entries : List SourceEntry) (of_frame : List Source) (says : List Saying) → sources_in (frames_of w) entries ≡ of_frame →
    says ≡ said_by_all (table_in w) name index (sources_in (frames_of w) entries) → says ≡ said_by_all (table_in w) name index of_frame
said_is w name index entries of_frame says are is = is ∙ ap (said_by_all (table_in w) name index) are

wins_is : (w : World) (name index : List ℕ) (sayings ys : List SayingAt) (of_frame : List Source) (replaced : Bool) → ys ≡ sayings →
    map (saying_in (frames_of w)) sayings ≡ said_by_all (table_in w) name index of_frame →
    replaced ≡ is_some (first_of (redeclarations_in (map (saying_in (frames_of w)) ys))) → is_some (redeclared (table_in w) of_frame name index) ≡ replaced
wins_is w name index sayings ys of_frame replaced same are is =
    sym (is ∙ ap (λ (zs : List SayingAt). is_some (first_of (redeclarations_in (map (saying_in (frames_of w)) zs)))) same ∙ ap (λ (zs : List Saying). is_some (first_of (redeclarations_in zs))) are)

pub returns-clause-are : goal.returns-clause-are
returns-clause-are c =
    let w = c.args.self.now in
    let F = frames_of w in
    let T = table_in w in
    let member = member_in F (member_seen c.args.member.now) in
    let says = map (saying_in F) c.in_ok-sayings.sayings in
    let sources = sources_of (frame_at w c.args.member.now.home.0) in
    let wins = redeclared T sources member.name c.args.index.now in
    let said : says ≡ said_by_all T member.name c.args.index.now sources
    = said_is w member.name c.args.index.now c.sources_by_name.result.now sources says c.sources_by_name.ensures.is c.in_ok-sayings.ensures in
    c.in_ok-extend_declared.ensures F wins
    (wins_is w member.name c.args.index.now c.in_ok-sayings.sayings c.as_slice.result.now sources c.is_redeclared-replaced.result c.as_slice.ensures said (c.is_redeclared-replaced.ensures F))
    ∙ ap (λ xs. xs ++ declared_sources member c.args.index.now wins) (c.in_ok-made.ensures F ∙ ap (sources_said true) said)

pub returns-clause-exist : goal.returns-clause-exist
returns-clause-exist c =
    let w = c.args.self.now in
    let F = frames_of w in
    let T = table_in w in
    let member = member_in F (member_seen c.args.member.now) in
    let says = map (saying_in F) c.in_ok-sayings.sayings in
    let sources = sources_of (frame_at w c.args.member.now.home.0) in
    let wins = redeclared T sources member.name c.args.index.now in
    let said : says ≡ said_by_all T member.name c.args.index.now sources
    = said_is w member.name c.args.index.now c.sources_by_name.result.now sources says c.sources_by_name.ensures.is c.in_ok-sayings.ensures in
    frames_more w (map source_seen c.in_ok-made.made) (map source_seen c.extend_declared.new.made) (declared_sources member c.args.index.now wins)
    (c.in_ok-extend_declared.ensures F wins
    (wins_is w member.name c.args.index.now c.in_ok-sayings.sayings c.as_slice.result.now sources c.is_redeclared-replaced.result c.as_slice.ensures said (c.is_redeclared-replaced.ensures F)))
    (frames_is w (map source_seen c.in_ok-made.made) (sources_said true says) (c.in_ok-made.ensures F)
    (sources_said_scoped IsReal T true says
    (said_real w T member.name c.args.index.now c.sources_by_name.result.now says c.sources_by_name.ensures.exist c.in_ok-sayings.ensures)))
    (declared_sources_scoped IsReal T member c.args.index.now wins (is_no_top w c.args.member.now.home.0 c.requires))
