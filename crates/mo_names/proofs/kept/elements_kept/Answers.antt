-- The table holds the elements of the frame.
use Rattle.mo_scope.specs.Worlds.{frames_of}
use Rattle.mo_names.proofs.Listing.{kept_elements, kept_homes}
use Rattle.mo_names.proofs.Later.{grows_refl}
use Rattle.mo_names.proofs.kept.elements_kept.Goals as goal

pub keep-requires-clause-elements : goal.keep-requires-clause-elements
keep-requires-clause-elements c = kept_elements (frames_of c.args.s.now) c.args.members.now c.in_ok-table.table _ c.requires.elements c.in_ok-table.ensures

pub keep-requires-clause-homes : goal.keep-requires-clause-homes
keep-requires-clause-homes c = kept_homes c.args.s.now c.args.members.now c.in_ok-table.table c.requires.members c.in_ok-table.ensures

pub returns-in_err-table : goal.returns-in_err-table
returns-in_err-table c = record { grows = grows_refl _ }
