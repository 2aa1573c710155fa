-- The files, and the report behind them.
use Rattle.std.proofs.Common.{rules}
use Rattle.mo_front.proofs.Loaded.{rose_later}
use Rattle.mo_front.proofs.Verifying.{fault_of_files, fault_of_report, files_refused, report_refused, same_report}
use Rattle.mo_front.proofs.printed.read_both.Goals as goal

pub returns-in-Ok-read_printed-clause-bytes : goal.returns-in-Ok-read_printed-clause-bytes
returns-in-Ok-read_printed-clause-bytes g c =
    same_report (g.S.Shelf.told c.args.shelf.now) _ _ _ c.in-Ok.ensures.same c.in-Ok-read_printed.ensures.bytes

pub returns-in-Err-clause-refused : goal.returns-in-Err-clause-refused
returns-in-Err-clause-refused g c = files_refused (g.S.Shelf.told c.args.shelf.now) _ _ _ c.in-Err.ensures.refused

pub returns-in-Err-clause-fault_name : goal.returns-in-Err-clause-fault_name
returns-in-Err-clause-fault_name g c = λ u. fault_of_files _ _ _ (c.in-Err.ensures.fault_name u)

pub returns-in-Err-read_printed-clause-refused : goal.returns-in-Err-read_printed-clause-refused
returns-in-Err-read_printed-clause-refused g c =
    report_refused (g.S.Shelf.told c.args.shelf.now) _ c.args.files.now _ c.args.report.now _ _ c.in-Ok.ensures.same (search rules) c.in-Ok.ensures.texts c.in-Err-read_printed.ensures.refused

pub returns-in-Err-read_printed-clause-fault : goal.returns-in-Err-read_printed-clause-fault
returns-in-Err-read_printed-clause-fault g c = λ u. rose_later _ _ _ c.in-Ok.ensures.faults_later (c.in-Err-read_printed.ensures.fault u)

pub returns-in-Err-read_printed-clause-fault_name : goal.returns-in-Err-read_printed-clause-fault_name
returns-in-Err-read_printed-clause-fault_name g c = λ u. fault_of_report _ _ _ (c.in-Err-read_printed.ensures.fault_name u)
