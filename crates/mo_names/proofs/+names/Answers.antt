-- The answers of the circle, each with the file that has it.
use Rattle.mo_names.proofs.+names.Answers.Bases as bases
use Rattle.mo_names.proofs.+names.Answers.ClassNames as class_names
use Rattle.mo_names.proofs.+names.Answers.ImportPaths as import_paths
use Rattle.mo_names.proofs.+names.Answers.Importing as importing
use Rattle.mo_names.proofs.+names.Answers.Outwards as outwards
use Rattle.mo_names.proofs.+names.Answers.Reaching as reaching
use Rattle.mo_names.proofs.+names.Goals as goal
mod Bases
mod ClassNames
mod ImportPaths
mod Importing
mod Outwards
mod Reaching

pub circle::walked-returns-then-ask-eq0-clause-value : goal.circle::walked-returns-then-ask-eq0-clause-value
circle::walked-returns-then-ask-eq0-clause-value = reaching.walked-returns-then-ask-eq0-clause-value

pub circle::walked-returns-then-is_busy-clause-value : goal.circle::walked-returns-then-is_busy-clause-value
circle::walked-returns-then-is_busy-clause-value = reaching.walked-returns-then-is_busy-clause-value

pub circle::walked-returns-clause-value : goal.circle::walked-returns-clause-value
circle::walked-returns-clause-value = reaching.walked-returns-clause-value

pub circle::walked-returns-then-ask-eq0-clause-grows : goal.circle::walked-returns-then-ask-eq0-clause-grows
circle::walked-returns-then-ask-eq0-clause-grows = reaching.walked-returns-then-ask-eq0-clause-grows

pub circle::walked-returns-then-is_busy-clause-grows : goal.circle::walked-returns-then-is_busy-clause-grows
circle::walked-returns-then-is_busy-clause-grows = reaching.walked-returns-then-is_busy-clause-grows

pub circle::walked-returns-in_err-depth-clause-grows : goal.circle::walked-returns-in_err-depth-clause-grows
circle::walked-returns-in_err-depth-clause-grows = reaching.walked-returns-in_err-depth-clause-grows

pub circle::walked-returns-in_err-busy-clause-grows : goal.circle::walked-returns-in_err-busy-clause-grows
circle::walked-returns-in_err-busy-clause-grows = reaching.walked-returns-in_err-busy-clause-grows

pub circle::walked-returns-clause-grows : goal.circle::walked-returns-clause-grows
circle::walked-returns-clause-grows = reaching.walked-returns-clause-grows

pub circle::walked-returns-clause-stand : goal.circle::walked-returns-clause-stand
circle::walked-returns-clause-stand = reaching.walked-returns-clause-stand

pub circle::walked_and_kept-walk_given-requires-clause-is : goal.circle::walked_and_kept-walk_given-requires-clause-is
circle::walked_and_kept-walk_given-requires-clause-is = reaching.walked_and_kept-walk_given-requires-clause-is

pub circle::walked_and_kept-returns-clause-value : goal.circle::walked_and_kept-returns-clause-value
circle::walked_and_kept-returns-clause-value = reaching.walked_and_kept-returns-clause-value

pub circle::walked_and_kept-walked-walk-requires : goal.circle::walked_and_kept-walked-walk-requires
circle::walked_and_kept-walked-walk-requires = reaching.walked_and_kept-walked-walk-requires

pub circle::walked_and_kept-walk_given-requires-clause-frame : goal.circle::walked_and_kept-walk_given-requires-clause-frame
circle::walked_and_kept-walk_given-requires-clause-frame = reaching.walked_and_kept-walk_given-requires-clause-frame

pub circle::walked_and_kept-returns-clause-grows : goal.circle::walked_and_kept-returns-clause-grows
circle::walked_and_kept-returns-clause-grows = reaching.walked_and_kept-returns-clause-grows

pub circle::walked_and_kept-walk_given-requires-clause-stands : goal.circle::walked_and_kept-walk_given-requires-clause-stands
circle::walked_and_kept-walk_given-requires-clause-stands = reaching.walked_and_kept-walk_given-requires-clause-stands

pub circle::walked_and_kept-returns-clause-stand : goal.circle::walked_and_kept-returns-clause-stand
circle::walked_and_kept-returns-clause-stand = reaching.walked_and_kept-returns-clause-stand

pub circle::reached-returns-in-None-clause-value : goal.circle::reached-returns-in-None-clause-value
circle::reached-returns-in-None-clause-value = reaching.reached-returns-in-None-clause-value

pub circle::reached-walked_and_kept-walk-requires : goal.circle::reached-walked_and_kept-walk-requires
circle::reached-walked_and_kept-walk-requires = reaching.reached-walked_and_kept-walk-requires

pub circle::reached-returns-in-Some-clause-grows : goal.circle::reached-returns-in-Some-clause-grows
circle::reached-returns-in-Some-clause-grows = reaching.reached-returns-in-Some-clause-grows

pub circle::reached-reached_given-requires : goal.circle::reached-reached_given-requires
circle::reached-reached_given-requires = reaching.reached-reached_given-requires

pub circle::reached-returns-in-None-clause-grows : goal.circle::reached-returns-in-None-clause-grows
circle::reached-returns-in-None-clause-grows = reaching.reached-returns-in-None-clause-grows

pub circle::reached-returns-in-None-clause-stand : goal.circle::reached-returns-in-None-clause-stand
circle::reached-returns-in-None-clause-stand = reaching.reached-returns-in-None-clause-stand

pub circle::is_package-returns-clause-value : goal.circle::is_package-returns-clause-value
circle::is_package-returns-clause-value = reaching.is_package-returns-clause-value

pub circle::is_package-walked_and_kept-walk-requires : goal.circle::is_package-walked_and_kept-walk-requires
circle::is_package-walked_and_kept-walk-requires = reaching.is_package-walked_and_kept-walk-requires

pub circle::is_package-returns-in-Some-clause-grows : goal.circle::is_package-returns-in-Some-clause-grows
circle::is_package-returns-in-Some-clause-grows = reaching.is_package-returns-in-Some-clause-grows

pub circle::is_package-returns-then-is_busy-clause-grows : goal.circle::is_package-returns-then-is_busy-clause-grows
circle::is_package-returns-then-is_busy-clause-grows = reaching.is_package-returns-then-is_busy-clause-grows

pub circle::is_package-returns-clause-grows : goal.circle::is_package-returns-clause-grows
circle::is_package-returns-clause-grows = reaching.is_package-returns-clause-grows

pub circle::counted-is_package-requires : goal.circle::counted-is_package-requires
circle::counted-is_package-requires = reaching.counted-is_package-requires

pub circle::counted-returns-in_err-is_package-clause-grows : goal.circle::counted-returns-in_err-is_package-clause-grows
circle::counted-returns-in_err-is_package-clause-grows = reaching.counted-returns-in_err-is_package-clause-grows

pub circle::counted_given-returns-in_err-counted-in-Ok-Element-clause-grows : goal.circle::counted_given-returns-in_err-counted-in-Ok-Element-clause-grows
circle::counted_given-returns-in_err-counted-in-Ok-Element-clause-grows = reaching.counted_given-returns-in_err-counted-in-Ok-Element-clause-grows

pub circle::counted_given-returns-in_ok-counted-in-Ok-Element-clause-grows : goal.circle::counted_given-returns-in_ok-counted-in-Ok-Element-clause-grows
circle::counted_given-returns-in_ok-counted-in-Ok-Element-clause-grows = reaching.counted_given-returns-in_ok-counted-in-Ok-Element-clause-grows

pub circle::counted_given-returns-in-Ok-Other-clause-grows : goal.circle::counted_given-returns-in-Ok-Other-clause-grows
circle::counted_given-returns-in-Ok-Other-clause-grows = reaching.counted_given-returns-in-Ok-Other-clause-grows

pub circle::counted_given-returns-in-Ok-Absent-clause-grows : goal.circle::counted_given-returns-in-Ok-Absent-clause-grows
circle::counted_given-returns-in-Ok-Absent-clause-grows = reaching.counted_given-returns-in-Ok-Absent-clause-grows

pub circle::counted_given-returns-in-Err-clause-grows : goal.circle::counted_given-returns-in-Err-clause-grows
circle::counted_given-returns-in-Err-clause-grows = reaching.counted_given-returns-in-Err-clause-grows

pub circle::counted_given-returns-in_err-counted-in-Ok-Element-clause-stand : goal.circle::counted_given-returns-in_err-counted-in-Ok-Element-clause-stand
circle::counted_given-returns-in_err-counted-in-Ok-Element-clause-stand = reaching.counted_given-returns-in_err-counted-in-Ok-Element-clause-stand

pub circle::behind_class-returns-clause-value : goal.circle::behind_class-returns-clause-value
circle::behind_class-returns-clause-value = reaching.behind_class-returns-clause-value

pub circle::behind_class-reached-any-requires : goal.circle::behind_class-reached-any-requires
circle::behind_class-reached-any-requires = reaching.behind_class-reached-any-requires

pub circle::behind_class-counted_given-counts-requires : goal.circle::behind_class-counted_given-counts-requires
circle::behind_class-counted_given-counts-requires = reaching.behind_class-counted_given-counts-requires

pub circle::behind_class-behind_given-requires-clause-frame : goal.circle::behind_class-behind_given-requires-clause-frame
circle::behind_class-behind_given-requires-clause-frame = reaching.behind_class-behind_given-requires-clause-frame

pub circle::behind_class-returns-clause-grows : goal.circle::behind_class-returns-clause-grows
circle::behind_class-returns-clause-grows = reaching.behind_class-returns-clause-grows

pub circle::behind_class-behind_given-requires-clause-any : goal.circle::behind_class-behind_given-requires-clause-any
circle::behind_class-behind_given-requires-clause-any = reaching.behind_class-behind_given-requires-clause-any

pub circle::behind_class-returns-clause-stand : goal.circle::behind_class-returns-clause-stand
circle::behind_class-returns-clause-stand = reaching.behind_class-returns-clause-stand

pub circle::import_step-returns-in_err-frame-clause-grows : goal.circle::import_step-returns-in_err-frame-clause-grows
circle::import_step-returns-in_err-frame-clause-grows = import_paths.import_step-returns-in_err-frame-clause-grows

pub circle::import_step-behind_class-requires : goal.circle::import_step-behind_class-requires
circle::import_step-behind_class-requires = import_paths.import_step-behind_class-requires

pub circle::import_step-returns-in_err-frame-clause-stand : goal.circle::import_step-returns-in_err-frame-clause-stand
circle::import_step-returns-in_err-frame-clause-stand = import_paths.import_step-returns-in_err-frame-clause-stand

pub circle::import_step-returns-clause-grows : goal.circle::import_step-returns-clause-grows
circle::import_step-returns-clause-grows = import_paths.import_step-returns-clause-grows

pub circle::import_step-returns-clause-stand : goal.circle::import_step-returns-clause-stand
circle::import_step-returns-clause-stand = import_paths.import_step-returns-clause-stand

pub circle::import_behind-returns-in-Err-clause-value : goal.circle::import_behind-returns-in-Err-clause-value
circle::import_behind-returns-in-Err-clause-value = import_paths.import_behind-returns-in-Err-clause-value

pub circle::import_behind-loop-at-preserved : goal.circle::import_behind-loop-at-preserved
circle::import_behind-loop-at-preserved = import_paths.import_behind-loop-at-preserved

pub circle::import_behind-import_step-requires : goal.circle::import_behind-import_step-requires
circle::import_behind-import_step-requires = import_paths.import_behind-import_step-requires

pub circle::import_behind-returns-in-Err-clause-grows : goal.circle::import_behind-returns-in-Err-clause-grows
circle::import_behind-returns-in-Err-clause-grows = import_paths.import_behind-returns-in-Err-clause-grows

pub circle::import_behind-loop-at-init : goal.circle::import_behind-loop-at-init
circle::import_behind-loop-at-init = import_paths.import_behind-loop-at-init

pub circle::import_behind-returns-clause-grows : goal.circle::import_behind-returns-clause-grows
circle::import_behind-returns-clause-grows = import_paths.import_behind-returns-clause-grows

pub circle::import_behind-returns-clause-stand : goal.circle::import_behind-returns-clause-stand
circle::import_behind-returns-clause-stand = import_paths.import_behind-returns-clause-stand

pub circle::imported-import_behind-requires : goal.circle::imported-import_behind-requires
circle::imported-import_behind-requires = import_paths.imported-import_behind-requires

pub circle::imported-returns-in-Ok-clause-grows : goal.circle::imported-returns-in-Ok-clause-grows
circle::imported-returns-in-Ok-clause-grows = import_paths.imported-returns-in-Ok-clause-grows

pub circle::imported-returns-in-empty-clause-grows : goal.circle::imported-returns-in-empty-clause-grows
circle::imported-returns-in-empty-clause-grows = import_paths.imported-returns-in-empty-clause-grows

pub circle::imported-returns-in-Err-clause-grows : goal.circle::imported-returns-in-Err-clause-grows
circle::imported-returns-in-Err-clause-grows = import_paths.imported-returns-in-Err-clause-grows

pub circle::imported-returns-in-Ok-clause-stand : goal.circle::imported-returns-in-Ok-clause-stand
circle::imported-returns-in-Ok-clause-stand = import_paths.imported-returns-in-Ok-clause-stand

pub circle::package_step-returns-clause-value : goal.circle::package_step-returns-clause-value
circle::package_step-returns-clause-value = import_paths.package_step-returns-clause-value

pub circle::package_step-behind_class-found-requires : goal.circle::package_step-behind_class-found-requires
circle::package_step-behind_class-found-requires = import_paths.package_step-behind_class-found-requires

pub circle::package_step-class_given-requires : goal.circle::package_step-class_given-requires
circle::package_step-class_given-requires = import_paths.package_step-class_given-requires

pub circle::package_step-returns-clause-grows : goal.circle::package_step-returns-clause-grows
circle::package_step-returns-clause-grows = import_paths.package_step-returns-clause-grows

pub circle::package_step-returns-clause-stand : goal.circle::package_step-returns-clause-stand
circle::package_step-returns-clause-stand = import_paths.package_step-returns-clause-stand

pub circle::package_behind-returns-in_err-frame-clause-value : goal.circle::package_behind-returns-in_err-frame-clause-value
circle::package_behind-returns-in_err-frame-clause-value = import_paths.package_behind-returns-in_err-frame-clause-value

pub circle::package_behind-loop-name-preserved : goal.circle::package_behind-loop-name-preserved
circle::package_behind-loop-name-preserved = import_paths.package_behind-loop-name-preserved

pub circle::package_behind-package_step-requires : goal.circle::package_behind-package_step-requires
circle::package_behind-package_step-requires = import_paths.package_behind-package_step-requires

pub circle::package_behind-returns-in_err-frame-clause-grows : goal.circle::package_behind-returns-in_err-frame-clause-grows
circle::package_behind-returns-in_err-frame-clause-grows = import_paths.package_behind-returns-in_err-frame-clause-grows

pub circle::package_behind-loop-name-init : goal.circle::package_behind-loop-name-init
circle::package_behind-loop-name-init = import_paths.package_behind-loop-name-init

pub circle::package_behind-returns-in_err-frame-clause-stand : goal.circle::package_behind-returns-in_err-frame-clause-stand
circle::package_behind-returns-in_err-frame-clause-stand = import_paths.package_behind-returns-in_err-frame-clause-stand

pub circle::package_behind-returns-clause-grows : goal.circle::package_behind-returns-clause-grows
circle::package_behind-returns-clause-grows = import_paths.package_behind-returns-clause-grows

pub circle::package_behind-returns-clause-stand : goal.circle::package_behind-returns-clause-stand
circle::package_behind-returns-clause-stand = import_paths.package_behind-returns-clause-stand

pub circle::package_named-returns-in_err-first-clause-value : goal.circle::package_named-returns-in_err-first-clause-value
circle::package_named-returns-in_err-first-clause-value = import_paths.package_named-returns-in_err-first-clause-value

pub circle::package_named-returns-clause-value : goal.circle::package_named-returns-clause-value
circle::package_named-returns-clause-value = import_paths.package_named-returns-clause-value

pub circle::package_named-package_behind-requires : goal.circle::package_named-package_behind-requires
circle::package_named-package_behind-requires = import_paths.package_named-package_behind-requires

pub circle::package_named-returns-in_err-first-clause-grows : goal.circle::package_named-returns-in_err-first-clause-grows
circle::package_named-returns-in_err-first-clause-grows = import_paths.package_named-returns-in_err-first-clause-grows

pub circle::package_named-returns-clause-grows : goal.circle::package_named-returns-clause-grows
circle::package_named-returns-clause-grows = import_paths.package_named-returns-clause-grows

pub circle::package_named-returns-in_err-first-clause-stand : goal.circle::package_named-returns-in_err-first-clause-stand
circle::package_named-returns-in_err-first-clause-stand = import_paths.package_named-returns-in_err-first-clause-stand

pub circle::package_named-returns-clause-stand : goal.circle::package_named-returns-clause-stand
circle::package_named-returns-clause-stand = import_paths.package_named-returns-clause-stand

pub circle::imported_package-returns-in-empty-clause-grows : goal.circle::imported_package-returns-in-empty-clause-grows
circle::imported_package-returns-in-empty-clause-grows = import_paths.imported_package-returns-in-empty-clause-grows

pub circle::imported_package-returns-in-len1-up-clause-grows : goal.circle::imported_package-returns-in-len1-up-clause-grows
circle::imported_package-returns-in-len1-up-clause-grows = import_paths.imported_package-returns-in-len1-up-clause-grows

pub circle::imported_package-returns-in-len1-up-clause-stand : goal.circle::imported_package-returns-in-len1-up-clause-stand
circle::imported_package-returns-in-len1-up-clause-stand = import_paths.imported_package-returns-in-len1-up-clause-stand

pub circle::through_star-returns-clause-value : goal.circle::through_star-returns-clause-value
circle::through_star-returns-clause-value = importing.through_star-returns-clause-value

pub circle::through_star-reached-any-requires : goal.circle::through_star-reached-any-requires
circle::through_star-reached-any-requires = importing.through_star-reached-any-requires

pub circle::through_star-counted_given-counts-requires : goal.circle::through_star-counted_given-counts-requires
circle::through_star-counted_given-counts-requires = importing.through_star-counted_given-counts-requires

pub circle::through_star-star_given-requires-clause-frame : goal.circle::through_star-star_given-requires-clause-frame
circle::through_star-star_given-requires-clause-frame = importing.through_star-star_given-requires-clause-frame

pub circle::through_star-returns-clause-grows : goal.circle::through_star-returns-clause-grows
circle::through_star-returns-clause-grows = importing.through_star-returns-clause-grows

pub circle::through_star-shown-public-requires : goal.circle::through_star-shown-public-requires
circle::through_star-shown-public-requires = importing.through_star-shown-public-requires

pub circle::through_star-star_given-requires-clause-any : goal.circle::through_star-star_given-requires-clause-any
circle::through_star-star_given-requires-clause-any = importing.through_star-star_given-requires-clause-any

pub circle::through_star-returns-clause-stand : goal.circle::through_star-returns-clause-stand
circle::through_star-returns-clause-stand = importing.through_star-returns-clause-stand

pub circle::found_by_import-returns-in-Ok-None-clause-grows : goal.circle::found_by_import-returns-in-Ok-None-clause-grows
circle::found_by_import-returns-in-Ok-None-clause-grows = importing.found_by_import-returns-in-Ok-None-clause-grows

pub circle::found_by_import-returns-clause-grows : goal.circle::found_by_import-returns-clause-grows
circle::found_by_import-returns-clause-grows = importing.found_by_import-returns-clause-grows

pub circle::found_by_star-returns-in_ok-frame-in-All-clause-value : goal.circle::found_by_star-returns-in_ok-frame-in-All-clause-value
circle::found_by_star-returns-in_ok-frame-in-All-clause-value = importing.found_by_star-returns-in_ok-frame-in-All-clause-value

pub circle::found_by_star-through_star-requires : goal.circle::found_by_star-through_star-requires
circle::found_by_star-through_star-requires = importing.found_by_star-through_star-requires

pub circle::found_by_star-returns-in_err-frame-in-All-clause-grows : goal.circle::found_by_star-returns-in_err-frame-in-All-clause-grows
circle::found_by_star-returns-in_err-frame-in-All-clause-grows = importing.found_by_star-returns-in_err-frame-in-All-clause-grows

pub circle::found_by_star-returns-in_ok-frame-in-All-clause-grows : goal.circle::found_by_star-returns-in_ok-frame-in-All-clause-grows
circle::found_by_star-returns-in_ok-frame-in-All-clause-grows = importing.found_by_star-returns-in_ok-frame-in-All-clause-grows

pub circle::found_by_star-returns-in-Renamed-clause-grows : goal.circle::found_by_star-returns-in-Renamed-clause-grows
circle::found_by_star-returns-in-Renamed-clause-grows = importing.found_by_star-returns-in-Renamed-clause-grows

pub circle::found_by_star-returns-in-Named-clause-grows : goal.circle::found_by_star-returns-in-Named-clause-grows
circle::found_by_star-returns-in-Named-clause-grows = importing.found_by_star-returns-in-Named-clause-grows

pub circle::found_by_star-returns-in-Group-clause-grows : goal.circle::found_by_star-returns-in-Group-clause-grows
circle::found_by_star-returns-in-Group-clause-grows = importing.found_by_star-returns-in-Group-clause-grows

pub circle::found_by_star-returns-in_err-frame-in-All-clause-stand : goal.circle::found_by_star-returns-in_err-frame-in-All-clause-stand
circle::found_by_star-returns-in_err-frame-in-All-clause-stand = importing.found_by_star-returns-in_err-frame-in-All-clause-stand

pub circle::found_by_star-returns-in_ok-frame-in-All-clause-stand : goal.circle::found_by_star-returns-in_ok-frame-in-All-clause-stand
circle::found_by_star-returns-in_ok-frame-in-All-clause-stand = importing.found_by_star-returns-in_ok-frame-in-All-clause-stand

pub circle::found_by-returns-then-star-clause-grows : goal.circle::found_by-returns-then-star-clause-grows
circle::found_by-returns-then-star-clause-grows = importing.found_by-returns-then-star-clause-grows

pub circle::found_by-returns-then-star-clause-stand : goal.circle::found_by-returns-then-star-clause-stand
circle::found_by-returns-then-star-clause-stand = importing.found_by-returns-then-star-clause-stand

pub circle::found_by-returns-else-star-clause-grows : goal.circle::found_by-returns-else-star-clause-grows
circle::found_by-returns-else-star-clause-grows = importing.found_by-returns-else-star-clause-grows

pub circle::found_by-returns-else-star-clause-stand : goal.circle::found_by-returns-else-star-clause-stand
circle::found_by-returns-else-star-clause-stand = importing.found_by-returns-else-star-clause-stand

pub circle::also_by-returns-clause-value : goal.circle::also_by-returns-clause-value
circle::also_by-returns-clause-value = importing.also_by-returns-clause-value

pub circle::also_by-also_given-requires-clause-so_far : goal.circle::also_by-also_given-requires-clause-so_far
circle::also_by-also_given-requires-clause-so_far = importing.also_by-also_given-requires-clause-so_far

pub circle::also_by-also_given-requires-clause-found : goal.circle::also_by-also_given-requires-clause-found
circle::also_by-also_given-requires-clause-found = importing.also_by-also_given-requires-clause-found

pub circle::also_by-returns-clause-grows : goal.circle::also_by-returns-clause-grows
circle::also_by-returns-clause-grows = importing.also_by-returns-clause-grows

pub circle::also_by-returns-clause-stand : goal.circle::also_by-returns-clause-stand
circle::also_by-returns-clause-stand = importing.also_by-returns-clause-stand

pub circle::found_by_each-returns-in-Err-clause-value : goal.circle::found_by_each-returns-in-Err-clause-value
circle::found_by_each-returns-in-Err-clause-value = importing.found_by_each-returns-in-Err-clause-value

pub circle::found_by_each-loop-at-preserved : goal.circle::found_by_each-loop-at-preserved
circle::found_by_each-loop-at-preserved = importing.found_by_each-loop-at-preserved

pub circle::found_by_each-also_by-requires : goal.circle::found_by_each-also_by-requires
circle::found_by_each-also_by-requires = importing.found_by_each-also_by-requires

pub circle::found_by_each-returns-in-Err-clause-grows : goal.circle::found_by_each-returns-in-Err-clause-grows
circle::found_by_each-returns-in-Err-clause-grows = importing.found_by_each-returns-in-Err-clause-grows

pub circle::found_by_each-returns-clause-grows : goal.circle::found_by_each-returns-clause-grows
circle::found_by_each-returns-clause-grows = importing.found_by_each-returns-clause-grows

pub circle::found_by_each-returns-clause-stand : goal.circle::found_by_each-returns-clause-stand
circle::found_by_each-returns-clause-stand = importing.found_by_each-returns-clause-stand

pub circle::found_by_imports-found_by_each-requires : goal.circle::found_by_imports-found_by_each-requires
circle::found_by_imports-found_by_each-requires = importing.found_by_imports-found_by_each-requires

pub circle::found_by_imports-found_by_each-requires-in-Ok-None : goal.circle::found_by_imports-found_by_each-requires-in-Ok-None
circle::found_by_imports-found_by_each-requires-in-Ok-None = importing.found_by_imports-found_by_each-requires-in-Ok-None

pub circle::found_by_imports-returns-in-Ok-None-clause-grows : goal.circle::found_by_imports-returns-in-Ok-None-clause-grows
circle::found_by_imports-returns-in-Ok-None-clause-grows = importing.found_by_imports-returns-in-Ok-None-clause-grows

pub circle::found_by_imports-returns-in-Err-clause-grows : goal.circle::found_by_imports-returns-in-Err-clause-grows
circle::found_by_imports-returns-in-Err-clause-grows = importing.found_by_imports-returns-in-Err-clause-grows

pub circle::found_by_imports-returns-in-Ok-Some-clause-grows : goal.circle::found_by_imports-returns-in-Ok-Some-clause-grows
circle::found_by_imports-returns-in-Ok-Some-clause-grows = importing.found_by_imports-returns-in-Ok-Some-clause-grows

pub circle::found_by_imports-returns-in-Ok-None-clause-stand : goal.circle::found_by_imports-returns-in-Ok-None-clause-stand
circle::found_by_imports-returns-in-Ok-None-clause-stand = importing.found_by_imports-returns-in-Ok-None-clause-stand

pub circle::found_element-returns-clause-value : goal.circle::found_element-returns-clause-value
circle::found_element-returns-clause-value = outwards.found_element-returns-clause-value

pub circle::found_element-reached-any-requires : goal.circle::found_element-reached-any-requires
circle::found_element-reached-any-requires = outwards.found_element-reached-any-requires

pub circle::found_element-element_given-requires-clause-frame : goal.circle::found_element-element_given-requires-clause-frame
circle::found_element-element_given-requires-clause-frame = outwards.found_element-element_given-requires-clause-frame

pub circle::found_element-returns-clause-grows : goal.circle::found_element-returns-clause-grows
circle::found_element-returns-clause-grows = outwards.found_element-returns-clause-grows

pub circle::found_element-element_given-requires-clause-any : goal.circle::found_element-element_given-requires-clause-any
circle::found_element-element_given-requires-clause-any = outwards.found_element-element_given-requires-clause-any

pub circle::found_element-returns-then-bare-clause-grows : goal.circle::found_element-returns-then-bare-clause-grows
circle::found_element-returns-then-bare-clause-grows = outwards.found_element-returns-then-bare-clause-grows

pub circle::found_element-returns-then-bare-clause-stand : goal.circle::found_element-returns-then-bare-clause-stand
circle::found_element-returns-then-bare-clause-stand = outwards.found_element-returns-then-bare-clause-stand

pub circle::found_element-returns-clause-stand : goal.circle::found_element-returns-clause-stand
circle::found_element-returns-clause-stand = outwards.found_element-returns-clause-stand

pub circle::met_by_imports-returns-clause-value : goal.circle::met_by_imports-returns-clause-value
circle::met_by_imports-returns-clause-value = importing.met_by_imports-returns-clause-value

pub circle::met_by_imports-found_by_imports-found-requires : goal.circle::met_by_imports-found_by_imports-found-requires
circle::met_by_imports-found_by_imports-found-requires = importing.met_by_imports-found_by_imports-found-requires

pub circle::met_by_imports-met_given-requires : goal.circle::met_by_imports-met_given-requires
circle::met_by_imports-met_given-requires = importing.met_by_imports-met_given-requires

pub circle::met_by_imports-returns-clause-grows : goal.circle::met_by_imports-returns-clause-grows
circle::met_by_imports-returns-clause-grows = importing.met_by_imports-returns-clause-grows

pub circle::met_by_imports-returns-clause-stand : goal.circle::met_by_imports-returns-clause-stand
circle::met_by_imports-returns-clause-stand = importing.met_by_imports-returns-clause-stand

pub circle::found_in-returns-in-Err-clause-value : goal.circle::found_in-returns-in-Err-clause-value
circle::found_in-returns-in-Err-clause-value = outwards.found_in-returns-in-Err-clause-value

pub circle::found_in-returns-in-Ok-Some-clause-value : goal.circle::found_in-returns-in-Ok-Some-clause-value
circle::found_in-returns-in-Ok-Some-clause-value = outwards.found_in-returns-in-Ok-Some-clause-value

pub circle::found_in-returns-in-Ok-None-clause-value : goal.circle::found_in-returns-in-Ok-None-clause-value
circle::found_in-returns-in-Ok-None-clause-value = outwards.found_in-returns-in-Ok-None-clause-value

pub circle::found_in-found_element-requires : goal.circle::found_in-found_element-requires
circle::found_in-found_element-requires = outwards.found_in-found_element-requires

pub circle::found_in-met_by_imports-requires : goal.circle::found_in-met_by_imports-requires
circle::found_in-met_by_imports-requires = outwards.found_in-met_by_imports-requires

pub circle::found_in-returns-in-Ok-None-clause-grows : goal.circle::found_in-returns-in-Ok-None-clause-grows
circle::found_in-returns-in-Ok-None-clause-grows = outwards.found_in-returns-in-Ok-None-clause-grows

pub circle::found_in-returns-in-Err-clause-grows : goal.circle::found_in-returns-in-Err-clause-grows
circle::found_in-returns-in-Err-clause-grows = outwards.found_in-returns-in-Err-clause-grows

pub circle::found_in-returns-in-Ok-Some-clause-grows : goal.circle::found_in-returns-in-Ok-Some-clause-grows
circle::found_in-returns-in-Ok-Some-clause-grows = outwards.found_in-returns-in-Ok-Some-clause-grows

pub circle::found_in-returns-in-Ok-None-clause-stand : goal.circle::found_in-returns-in-Ok-None-clause-stand
circle::found_in-returns-in-Ok-None-clause-stand = outwards.found_in-returns-in-Ok-None-clause-stand

pub bases::found_from-returns-in-Ends-clause-value : goal.bases::found_from-returns-in-Ends-clause-value
bases::found_from-returns-in-Ends-clause-value = outwards.found_from-returns-in-Ends-clause-value

pub bases::found_from-loop-met-preserved : goal.bases::found_from-loop-met-preserved
bases::found_from-loop-met-preserved = outwards.found_from-loop-met-preserved

pub bases::found_from-loop-met-smaller : goal.bases::found_from-loop-met-smaller
bases::found_from-loop-met-smaller = outwards.found_from-loop-met-smaller

pub bases::found_from-found_in-here-requires : goal.bases::found_from-found_in-here-requires
bases::found_from-found_in-here-requires = outwards.found_from-found_in-here-requires

pub bases::found_from-next_past-requires-clause-frame : goal.bases::found_from-next_past-requires-clause-frame
bases::found_from-next_past-requires-clause-frame = outwards.found_from-next_past-requires-clause-frame

pub bases::found_from-returns-in-Ends-clause-grows : goal.bases::found_from-returns-in-Ends-clause-grows
bases::found_from-returns-in-Ends-clause-grows = outwards.found_from-returns-in-Ends-clause-grows

pub bases::found_from-loop-met-init : goal.bases::found_from-loop-met-init
bases::found_from-loop-met-init = outwards.found_from-loop-met-init

pub bases::found_from-next_past-requires-clause-here : goal.bases::found_from-next_past-requires-clause-here
bases::found_from-next_past-requires-clause-here = outwards.found_from-next_past-requires-clause-here

pub bases::found_around-found_from-met-requires : goal.bases::found_around-found_from-met-requires
bases::found_around-found_from-met-requires = outwards.found_around-found_from-met-requires

pub bases::found_around-kept_outwards-requires-clause-frame : goal.bases::found_around-kept_outwards-requires-clause-frame
bases::found_around-kept_outwards-requires-clause-frame = outwards.found_around-kept_outwards-requires-clause-frame

pub bases::found_around-kept_outwards-requires-clause-is : goal.bases::found_around-kept_outwards-requires-clause-is
bases::found_around-kept_outwards-requires-clause-is = outwards.found_around-kept_outwards-requires-clause-is

pub bases::found_around-kept_outwards-requires-clause-stands : goal.bases::found_around-kept_outwards-requires-clause-stands
bases::found_around-kept_outwards-requires-clause-stands = outwards.found_around-kept_outwards-requires-clause-stands

pub bases::found_around-returns-in-Some-clause-grows : goal.bases::found_around-returns-in-Some-clause-grows
bases::found_around-returns-in-Some-clause-grows = outwards.found_around-returns-in-Some-clause-grows

pub bases::found_around-returns-in-Some-clause-value : goal.bases::found_around-returns-in-Some-clause-value
bases::found_around-returns-in-Some-clause-value = outwards.found_around-returns-in-Some-clause-value

pub bases::found_around-returns-in-Some-clause-stand : goal.bases::found_around-returns-in-Some-clause-stand
bases::found_around-returns-in-Some-clause-stand = outwards.found_around-returns-in-Some-clause-stand

pub bases::found_around-returns-in-None-clause-grows : goal.bases::found_around-returns-in-None-clause-grows
bases::found_around-returns-in-None-clause-grows = outwards.found_around-returns-in-None-clause-grows

pub bases::found_around-returns-in-None-clause-value : goal.bases::found_around-returns-in-None-clause-value
bases::found_around-returns-in-None-clause-value = outwards.found_around-returns-in-None-clause-value

pub bases::found_around-returns-in-None-clause-stand : goal.bases::found_around-returns-in-None-clause-stand
bases::found_around-returns-in-None-clause-stand = outwards.found_around-returns-in-None-clause-stand

pub bases::found_near-found_in-here-requires : goal.bases::found_near-found_in-here-requires
bases::found_near-found_in-here-requires = outwards.found_near-found_in-here-requires

pub bases::found_near-next_past-requires-clause-frame : goal.bases::found_near-next_past-requires-clause-frame
bases::found_near-next_past-requires-clause-frame = outwards.found_near-next_past-requires-clause-frame

pub bases::found_near-next_past-requires-clause-here : goal.bases::found_near-next_past-requires-clause-here
bases::found_near-next_past-requires-clause-here = outwards.found_near-next_past-requires-clause-here

pub bases::found_near-found_around-requires : goal.bases::found_near-found_around-requires
bases::found_near-found_around-requires = outwards.found_near-found_around-requires

pub bases::found_near-returns-in-Ends-clause-grows : goal.bases::found_near-returns-in-Ends-clause-grows
bases::found_near-returns-in-Ends-clause-grows = outwards.found_near-returns-in-Ends-clause-grows

pub bases::found_near-returns-in-Ends-clause-value : goal.bases::found_near-returns-in-Ends-clause-value
bases::found_near-returns-in-Ends-clause-value = outwards.found_near-returns-in-Ends-clause-value

pub bases::found_near-returns-in-Around-clause-grows : goal.bases::found_near-returns-in-Around-clause-grows
bases::found_near-returns-in-Around-clause-grows = outwards.found_near-returns-in-Around-clause-grows

pub bases::found_near-returns-in-Around-clause-value : goal.bases::found_near-returns-in-Around-clause-value
bases::found_near-returns-in-Around-clause-value = outwards.found_near-returns-in-Around-clause-value

pub bases::found_near-returns-in-Around-clause-stand : goal.bases::found_near-returns-in-Around-clause-stand
bases::found_near-returns-in-Around-clause-stand = outwards.found_near-returns-in-Around-clause-stand

pub bases::found_first-found_near-requires : goal.bases::found_first-found_near-requires
bases::found_first-found_near-requires = outwards.found_first-found_near-requires

pub bases::found_first-returns-in-Some-clause-grows : goal.bases::found_first-returns-in-Some-clause-grows
bases::found_first-returns-in-Some-clause-grows = outwards.found_first-returns-in-Some-clause-grows

pub bases::found_first-returns-then-top-clause-grows : goal.bases::found_first-returns-then-top-clause-grows
bases::found_first-returns-then-top-clause-grows = outwards.found_first-returns-then-top-clause-grows

pub bases::found_first-returns-then-top-clause-stand : goal.bases::found_first-returns-then-top-clause-stand
bases::found_first-returns-then-top-clause-stand = outwards.found_first-returns-then-top-clause-stand

pub bases::found_first-returns-in-None-clause-grows : goal.bases::found_first-returns-in-None-clause-grows
bases::found_first-returns-in-None-clause-grows = outwards.found_first-returns-in-None-clause-grows

pub bases::found_first-returns-in-None-clause-stand : goal.bases::found_first-returns-in-None-clause-stand
bases::found_first-returns-in-None-clause-stand = outwards.found_first-returns-in-None-clause-stand

pub bases::first_class-returns-clause-value : goal.bases::first_class-returns-clause-value
bases::first_class-returns-clause-value = class_names.first_class-returns-clause-value

pub bases::first_class-classed_met-requires : goal.bases::first_class-classed_met-requires
bases::first_class-classed_met-requires = class_names.first_class-classed_met-requires

pub bases::first_class-returns-clause-grows : goal.bases::first_class-returns-clause-grows
bases::first_class-returns-clause-grows = class_names.first_class-returns-clause-grows

pub bases::first_class-returns-clause-stand : goal.bases::first_class-returns-clause-stand
bases::first_class-returns-clause-stand = class_names.first_class-returns-clause-stand

pub bases::class_first-first_class-requires : goal.bases::class_first-first_class-requires
bases::class_first-first_class-requires = class_names.class_first-first_class-requires

pub bases::class_first-returns-in-None-clause-grows : goal.bases::class_first-returns-in-None-clause-grows
bases::class_first-returns-in-None-clause-grows = class_names.class_first-returns-in-None-clause-grows

pub bases::class_first-returns-in-Some-clause-grows : goal.bases::class_first-returns-in-Some-clause-grows
bases::class_first-returns-in-Some-clause-grows = class_names.class_first-returns-in-Some-clause-grows

pub bases::class_first-returns-in-Some-clause-stand : goal.bases::class_first-returns-in-Some-clause-stand
bases::class_first-returns-in-Some-clause-stand = class_names.class_first-returns-in-Some-clause-stand

pub bases::found_behind-behind_class-found-requires : goal.bases::found_behind-behind_class-found-requires
bases::found_behind-behind_class-found-requires = class_names.found_behind-behind_class-found-requires

pub bases::found_behind-kept_behind-requires-clause-frame : goal.bases::found_behind-kept_behind-requires-clause-frame
bases::found_behind-kept_behind-requires-clause-frame = class_names.found_behind-kept_behind-requires-clause-frame

pub bases::found_behind-kept_behind-requires-clause-is : goal.bases::found_behind-kept_behind-requires-clause-is
bases::found_behind-kept_behind-requires-clause-is = class_names.found_behind-kept_behind-requires-clause-is

pub bases::found_behind-kept_behind-requires-clause-stands : goal.bases::found_behind-kept_behind-requires-clause-stands
bases::found_behind-kept_behind-requires-clause-stands = class_names.found_behind-kept_behind-requires-clause-stands

pub bases::found_behind-returns-in-Some-clause-grows : goal.bases::found_behind-returns-in-Some-clause-grows
bases::found_behind-returns-in-Some-clause-grows = class_names.found_behind-returns-in-Some-clause-grows

pub bases::found_behind-returns-in-Some-clause-value : goal.bases::found_behind-returns-in-Some-clause-value
bases::found_behind-returns-in-Some-clause-value = class_names.found_behind-returns-in-Some-clause-value

pub bases::found_behind-returns-in-Some-clause-stand : goal.bases::found_behind-returns-in-Some-clause-stand
bases::found_behind-returns-in-Some-clause-stand = class_names.found_behind-returns-in-Some-clause-stand

pub bases::found_behind-returns-in-None-clause-grows : goal.bases::found_behind-returns-in-None-clause-grows
bases::found_behind-returns-in-None-clause-grows = class_names.found_behind-returns-in-None-clause-grows

pub bases::found_behind-returns-in-None-clause-value : goal.bases::found_behind-returns-in-None-clause-value
bases::found_behind-returns-in-None-clause-value = class_names.found_behind-returns-in-None-clause-value

pub bases::found_behind-returns-in-None-clause-stand : goal.bases::found_behind-returns-in-None-clause-stand
bases::found_behind-returns-in-None-clause-stand = class_names.found_behind-returns-in-None-clause-stand

pub bases::class_step-returns-clause-value : goal.bases::class_step-returns-clause-value
bases::class_step-returns-clause-value = class_names.class_step-returns-clause-value

pub bases::class_step-classed_given-requires : goal.bases::class_step-classed_given-requires
bases::class_step-classed_given-requires = class_names.class_step-classed_given-requires

pub bases::class_step-returns-clause-grows : goal.bases::class_step-returns-clause-grows
bases::class_step-returns-clause-grows = class_names.class_step-returns-clause-grows

pub bases::class_step-returns-clause-stand : goal.bases::class_step-returns-clause-stand
bases::class_step-returns-clause-stand = class_names.class_step-returns-clause-stand

pub bases::class_behind-returns-in_err-class-clause-value : goal.bases::class_behind-returns-in_err-class-clause-value
bases::class_behind-returns-in_err-class-clause-value = class_names.class_behind-returns-in_err-class-clause-value

pub bases::class_behind-loop-part-preserved : goal.bases::class_behind-loop-part-preserved
bases::class_behind-loop-part-preserved = class_names.class_behind-loop-part-preserved

pub bases::class_behind-class_step-requires : goal.bases::class_behind-class_step-requires
bases::class_behind-class_step-requires = class_names.class_behind-class_step-requires

pub bases::class_behind-returns-in_err-class-clause-grows : goal.bases::class_behind-returns-in_err-class-clause-grows
bases::class_behind-returns-in_err-class-clause-grows = class_names.class_behind-returns-in_err-class-clause-grows

pub bases::class_behind-loop-part-init : goal.bases::class_behind-loop-part-init
bases::class_behind-loop-part-init = class_names.class_behind-loop-part-init

pub bases::class_behind-returns-in_err-class-clause-stand : goal.bases::class_behind-returns-in_err-class-clause-stand
bases::class_behind-returns-in_err-class-clause-stand = class_names.class_behind-returns-in_err-class-clause-stand

pub bases::class_behind-returns-clause-grows : goal.bases::class_behind-returns-clause-grows
bases::class_behind-returns-clause-grows = class_names.class_behind-returns-clause-grows

pub bases::class_behind-returns-clause-stand : goal.bases::class_behind-returns-clause-stand
bases::class_behind-returns-clause-stand = class_names.class_behind-returns-clause-stand

pub bases::class_named-returns-in_err-first-clause-value : goal.bases::class_named-returns-in_err-first-clause-value
bases::class_named-returns-in_err-first-clause-value = class_names.class_named-returns-in_err-first-clause-value

pub bases::class_named-returns-clause-value : goal.bases::class_named-returns-clause-value
bases::class_named-returns-clause-value = class_names.class_named-returns-clause-value

pub bases::class_named-class_first-requires : goal.bases::class_named-class_first-requires
bases::class_named-class_first-requires = class_names.class_named-class_first-requires

pub bases::class_named-class_behind-requires : goal.bases::class_named-class_behind-requires
bases::class_named-class_behind-requires = class_names.class_named-class_behind-requires

pub bases::class_named-returns-in_err-first-clause-grows : goal.bases::class_named-returns-in_err-first-clause-grows
bases::class_named-returns-in_err-first-clause-grows = class_names.class_named-returns-in_err-first-clause-grows

pub bases::class_named-returns-clause-grows : goal.bases::class_named-returns-clause-grows
bases::class_named-returns-clause-grows = class_names.class_named-returns-clause-grows

pub bases::class_named-returns-in_err-first-clause-stand : goal.bases::class_named-returns-in_err-first-clause-stand
bases::class_named-returns-in_err-first-clause-stand = class_names.class_named-returns-in_err-first-clause-stand

pub bases::class_named-returns-clause-stand : goal.bases::class_named-returns-clause-stand
bases::class_named-returns-clause-stand = class_names.class_named-returns-clause-stand

pub bases::base_class-returns-in_err-class-clause-grows : goal.bases::base_class-returns-in_err-class-clause-grows
bases::base_class-returns-in_err-class-clause-grows = bases.base_class-returns-in_err-class-clause-grows

pub bases::base_class-returns-then-class-clause-grows : goal.bases::base_class-returns-then-class-clause-grows
bases::base_class-returns-then-class-clause-grows = bases.base_class-returns-then-class-clause-grows

pub bases::base_class-returns-clause-grows : goal.bases::base_class-returns-clause-grows
bases::base_class-returns-clause-grows = bases.base_class-returns-clause-grows

pub bases::base_class-returns-in_err-class-clause-stand : goal.bases::base_class-returns-in_err-class-clause-stand
bases::base_class-returns-in_err-class-clause-stand = bases.base_class-returns-in_err-class-clause-stand

pub bases::base_class-returns-clause-stand : goal.bases::base_class-returns-clause-stand
bases::base_class-returns-clause-stand = bases.base_class-returns-clause-stand

pub bases::base_found-base_class-requires : goal.bases::base_found-base_class-requires
bases::base_found-base_class-requires = bases.base_found-base_class-requires

pub bases::base_found-base_entered-requires-clause-frame : goal.bases::base_found-base_entered-requires-clause-frame
bases::base_found-base_entered-requires-clause-frame = bases.base_found-base_entered-requires-clause-frame

pub bases::base_found-base_entered-requires-clause-clause : goal.bases::base_found-base_entered-requires-clause-clause
bases::base_found-base_entered-requires-clause-clause = bases.base_found-base_entered-requires-clause-clause

pub bases::base_found-base_entered-requires-clause-class : goal.bases::base_found-base_entered-requires-clause-class
bases::base_found-base_entered-requires-clause-class = bases.base_found-base_entered-requires-clause-class

pub bases::base_found-returns-then-is_none-clause-grows : goal.bases::base_found-returns-then-is_none-clause-grows
bases::base_found-returns-then-is_none-clause-grows = bases.base_found-returns-then-is_none-clause-grows

pub bases::base_found-returns-in_err-class-clause-grows : goal.bases::base_found-returns-in_err-class-clause-grows
bases::base_found-returns-in_err-class-clause-grows = bases.base_found-returns-in_err-class-clause-grows

pub bases::base_found-returns-in_err-base_entered-clause-grows : goal.bases::base_found-returns-in_err-base_entered-clause-grows
bases::base_found-returns-in_err-base_entered-clause-grows = bases.base_found-returns-in_err-base_entered-clause-grows

pub bases::base_found-returns-clause-grows : goal.bases::base_found-returns-clause-grows
bases::base_found-returns-clause-grows = bases.base_found-returns-clause-grows

pub bases::base_found-returns-in_err-class-clause-stand : goal.bases::base_found-returns-in_err-class-clause-stand
bases::base_found-returns-in_err-class-clause-stand = bases.base_found-returns-in_err-class-clause-stand

pub bases::base_found-returns-in_err-base_entered-clause-stand : goal.bases::base_found-returns-in_err-base_entered-clause-stand
bases::base_found-returns-in_err-base_entered-clause-stand = bases.base_found-returns-in_err-base_entered-clause-stand

pub bases::base_found-returns-clause-stand : goal.bases::base_found-returns-clause-stand
bases::base_found-returns-clause-stand = bases.base_found-returns-clause-stand

pub bases::base_found-returns-then-is_none-clause-stand : goal.bases::base_found-returns-then-is_none-clause-stand
bases::base_found-returns-then-is_none-clause-stand = bases.base_found-returns-then-is_none-clause-stand

pub bases::base_elements-base_found-requires : goal.bases::base_elements-base_found-requires
bases::base_elements-base_found-requires = bases.base_elements-base_found-requires

pub bases::base_elements-returns-in_err-base-clause-grows : goal.bases::base_elements-returns-in_err-base-clause-grows
bases::base_elements-returns-in_err-base-clause-grows = bases.base_elements-returns-in_err-base-clause-grows

pub bases::base_elements-returns-in_err-walked-clause-grows : goal.bases::base_elements-returns-in_err-walked-clause-grows
bases::base_elements-returns-in_err-walked-clause-grows = bases.base_elements-returns-in_err-walked-clause-grows

pub bases::base_elements-returns-clause-grows : goal.bases::base_elements-returns-clause-grows
bases::base_elements-returns-clause-grows = bases.base_elements-returns-clause-grows

pub bases::base_elements-returns-clause-stand : goal.bases::base_elements-returns-clause-stand
bases::base_elements-returns-clause-stand = bases.base_elements-returns-clause-stand

pub bases::base_elements-returns-in_err-base-clause-stand : goal.bases::base_elements-returns-in_err-base-clause-stand
bases::base_elements-returns-in_err-base-clause-stand = bases.base_elements-returns-in_err-base-clause-stand

pub bases::base_elements-returns-in_err-walked-clause-stand : goal.bases::base_elements-returns-in_err-walked-clause-stand
bases::base_elements-returns-in_err-walked-clause-stand = bases.base_elements-returns-in_err-walked-clause-stand

pub bases::base_walked-with_base-requires-clause-so_far : goal.bases::base_walked-with_base-requires-clause-so_far
bases::base_walked-with_base-requires-clause-so_far = bases.base_walked-with_base-requires-clause-so_far

pub bases::base_walked-base_elements-requires : goal.bases::base_walked-base_elements-requires
bases::base_walked-base_elements-requires = bases.base_walked-base_elements-requires

pub bases::base_walked-returns-in_err-base-clause-grows : goal.bases::base_walked-returns-in_err-base-clause-grows
bases::base_walked-returns-in_err-base-clause-grows = bases.base_walked-returns-in_err-base-clause-grows

pub bases::base_walked-returns-in_err-base-clause-stand : goal.bases::base_walked-returns-in_err-base-clause-stand
bases::base_walked-returns-in_err-base-clause-stand = bases.base_walked-returns-in_err-base-clause-stand

pub bases::base_walked-returns-clause-grows : goal.bases::base_walked-returns-clause-grows
bases::base_walked-returns-clause-grows = bases.base_walked-returns-clause-grows

pub bases::base_walked-returns-clause-stand : goal.bases::base_walked-returns-clause-stand
bases::base_walked-returns-clause-stand = bases.base_walked-returns-clause-stand

pub bases::part_walked-base_walked-requires : goal.bases::part_walked-base_walked-requires
bases::part_walked-base_walked-requires = bases.part_walked-base_walked-requires

pub bases::part_walked-returns-in_err-own_walked-in-Element-clause-grows : goal.bases::part_walked-returns-in_err-own_walked-in-Element-clause-grows
bases::part_walked-returns-in_err-own_walked-in-Element-clause-grows = bases.part_walked-returns-in_err-own_walked-in-Element-clause-grows

pub bases::part_walked-returns-in_ok-own_walked-in-Element-clause-grows : goal.bases::part_walked-returns-in_ok-own_walked-in-Element-clause-grows
bases::part_walked-returns-in_ok-own_walked-in-Element-clause-grows = bases.part_walked-returns-in_ok-own_walked-in-Element-clause-grows

pub bases::part_walked-returns-in_err-base_walked-in-Base-clause-grows : goal.bases::part_walked-returns-in_err-base_walked-in-Base-clause-grows
bases::part_walked-returns-in_err-base_walked-in-Base-clause-grows = bases.part_walked-returns-in_err-base_walked-in-Base-clause-grows

pub bases::part_walked-returns-in_ok-base_walked-in-Base-clause-grows : goal.bases::part_walked-returns-in_ok-base_walked-in-Base-clause-grows
bases::part_walked-returns-in_ok-base_walked-in-Base-clause-grows = bases.part_walked-returns-in_ok-base_walked-in-Base-clause-grows

pub bases::walked_parts-returns-in_err-item-clause-value : goal.bases::walked_parts-returns-in_err-item-clause-value
bases::walked_parts-returns-in_err-item-clause-value = bases.walked_parts-returns-in_err-item-clause-value

pub bases::walked_parts-part_walked-requires : goal.bases::walked_parts-part_walked-requires
bases::walked_parts-part_walked-requires = bases.walked_parts-part_walked-requires

pub bases::walked_parts-loop-at-preserved : goal.bases::walked_parts-loop-at-preserved
bases::walked_parts-loop-at-preserved = bases.walked_parts-loop-at-preserved

pub bases::walked_parts-returns-in_err-item-clause-grows : goal.bases::walked_parts-returns-in_err-item-clause-grows
bases::walked_parts-returns-in_err-item-clause-grows = bases.walked_parts-returns-in_err-item-clause-grows

pub bases::walked_parts-returns-in_err-item-clause-stand : goal.bases::walked_parts-returns-in_err-item-clause-stand
bases::walked_parts-returns-in_err-item-clause-stand = bases.walked_parts-returns-in_err-item-clause-stand

pub bases::walked_parts-returns-clause-grows : goal.bases::walked_parts-returns-clause-grows
bases::walked_parts-returns-clause-grows = bases.walked_parts-returns-clause-grows

pub bases::walked_parts-returns-clause-stand : goal.bases::walked_parts-returns-clause-stand
bases::walked_parts-returns-clause-stand = bases.walked_parts-returns-clause-stand

pub bases::walked_class-returns-in_err-walk-clause-value : goal.bases::walked_class-returns-in_err-walk-clause-value
bases::walked_class-returns-in_err-walk-clause-value = bases.walked_class-returns-in_err-walk-clause-value

pub bases::walked_class-returns-clause-value : goal.bases::walked_class-returns-clause-value
bases::walked_class-returns-clause-value = bases.walked_class-returns-clause-value

pub bases::walked_class-walked_parts-done-requires : goal.bases::walked_class-walked_parts-done-requires
bases::walked_class-walked_parts-done-requires = bases.walked_class-walked_parts-done-requires

pub bases::walked_class-returns-in_err-walk-clause-grows : goal.bases::walked_class-returns-in_err-walk-clause-grows
bases::walked_class-returns-in_err-walk-clause-grows = bases.walked_class-returns-in_err-walk-clause-grows

pub bases::walked_class-returns-in_err-walk-clause-stand : goal.bases::walked_class-returns-in_err-walk-clause-stand
bases::walked_class-returns-in_err-walk-clause-stand = bases.walked_class-returns-in_err-walk-clause-stand

pub bases::walked_class-walk_checked-requires : goal.bases::walked_class-walk_checked-requires
bases::walked_class-walk_checked-requires = bases.walked_class-walk_checked-requires

pub bases::walked_class-returns-clause-grows : goal.bases::walked_class-returns-clause-grows
bases::walked_class-returns-clause-grows = bases.walked_class-returns-clause-grows

pub bases::walked_class-returns-clause-stand : goal.bases::walked_class-returns-clause-stand
bases::walked_class-returns-clause-stand = bases.walked_class-returns-clause-stand
