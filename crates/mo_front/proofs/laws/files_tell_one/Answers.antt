use Rattle.mo_front.specs.Told.{FilesGive, line_of_broken, bytes_of_all}
use Rattle.mo_front.proofs.Once.{one_of_files}
use Rattle.mo_front.proofs.OneTold.{one_told}
use Rattle.mo_front.proofs.laws.files_tell_one.Goals as goal

pub returns : goal.returns
returns c = λ path names emit contents status other text more.
    one_told (FilesGive path names contents) (one_of_files path names contents) (line_of_broken names (bytes_of_all contents names)) emit status other text more
