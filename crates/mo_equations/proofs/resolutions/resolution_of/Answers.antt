-- What is resolved, with its kind and its dimensions.
use Rattle.std.proofs.Common.{◌≡◌, Err, Option, rules}
use Rattle.mo_scope.specs.Worlds.{frames_of}
use Rattle.mo_eval.specs.Seen.{resolved_seen}
use Rattle.mo_equations.specs.declared.desk.Resolution.{Resolution}
use Rattle.mo_equations.proofs.ResolvedOnce.{refused_of, resolution_made, resolved_so}
use Rattle.mo_equations.proofs.Staying.{reads}
use Rattle.mo_equations.proofs.resolutions.resolution_of.Goals as goal

pub returns-in_err-resolved-clause-refused : goal.returns-in_err-resolved-clause-refused
returns-in_err-resolved-clause-refused c =
    let stop = c.in_err-resolved.field-0.0 in
    let p : c.from_residual.result ≡ Err stop = search rules in
    rw p (refused_of (Option Resolution) (resolved_seen (frames_of c.resolved.new.s)) _ stop c.in_err-resolved.ensures.exact)

pub returns-clause-resolution : goal.returns-clause-resolution
returns-clause-resolution c = resolution_made c.resolved.new.s c.args.desk.now.leaves _ c.in_ok-resolved.resolved c.in_ok-resolved.ensures.there c.in_ok-with_layers.ensures

pub returns-clause-is : goal.returns-clause-is
returns-clause-is c = resolved_so c.resolved.new.s _ c.in_ok-resolved.resolved _ c.in_ok-resolved.ensures.exact c.in_ok-with_layers.ensures

-- ---- what stays

pub returns-in_err-resolved-clause-stays : goal.returns-in_err-resolved-clause-stays
returns-in_err-resolved-clause-stays c = reads c.args.s.now c.resolved.new.s c.args.desk.now c.resolved.new.self c.in_err-resolved.ensures.grows c.in_err-resolved.ensures.kept c.requires.desk

pub returns-in_err-with_layers-clause-stays : goal.returns-in_err-with_layers-clause-stays
returns-in_err-with_layers-clause-stays c = reads c.args.s.now c.resolved.new.s c.args.desk.now c.resolved.new.self c.in_ok-resolved.ensures.grows c.in_ok-resolved.ensures.kept c.requires.desk

pub returns-clause-stays : goal.returns-clause-stays
returns-clause-stays c = reads c.args.s.now c.resolved.new.s c.args.desk.now c.resolved.new.self c.in_ok-resolved.ensures.grows c.in_ok-resolved.ensures.kept c.requires.desk
