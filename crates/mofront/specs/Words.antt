-- How a run ends whose words could not be taken up.
use Rattle.std.specs.declared.io.ErrorKind.{ErrorKind}
use Rattle.std.specs.declared.io.ErrorKind.TheVariants.{InvalidData}
use Rattle.mo_front.specs.declared.status.Status.{Status}
use Rattle.mo_front.specs.declared.status.Status.TheVariants.{Usage, NoMemory}

-- a word that is not UTF-8 is no word of any form; otherwise memory is wanting
abbrev pub status_without_words : ErrorKind → Status
status_without_words InvalidData = Usage
status_without_words kind = NoMemory
