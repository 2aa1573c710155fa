-- What a group import gives for a name.
use Rattle.std.proofs.Common.{map}
use Rattle.mo_names.proofs.Ends.{group_none, group_some}
use Rattle.mo_names.proofs.importing.imported_names.Goals as goal

pub returns-then-not-is_listed : goal.returns-then-not-is_listed
returns-then-not-is_listed c = group_none c.args.clause.now c.in-Group.path c.in-Group.names c.as_slice-in-Group.result.now c.in-Group.place c.args.name.now c.is_listed.result
    c.in-Group.is c.as_slice-in-Group.ensures c.is_listed.ensures c.if-not-is_listed.true

pub returns-in_ok-names_with-in-Group : goal.returns-in_ok-names_with-in-Group
returns-in_ok-names_with-in-Group c = group_some c.args.clause.now c.in-Group.path c.in-Group.names c.as_slice-in-Group.result.now c.as_slice-in-Group-2.result.now (map (λ name. name.now) c.in_ok-names_with-in-Group.field-0)
    c.in-Group.place c.args.name.now c.is_listed.result c.in-Group.is c.as_slice-in-Group.ensures c.is_listed.ensures c.if-not-is_listed.false c.as_slice-in-Group-2.ensures c.in_ok-names_with-in-Group.ensures
