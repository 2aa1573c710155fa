-- The place of each rule that is told of named files is a byte of one of them, from 0 to its length; only that no class has the asked path is told
-- on the command line.
use Rattle.std.specs.Prelude.{◌≡◌, ◌⊎◌, ℕ, ◌+◌, List, length}
use Rattle.mo_syntax.specs.Outcome.{breach}
use Rattle.mo_syntax.specs.declared.place.Broken.{Broken}
use Rattle.mo_flat.specs.declared.model.FlatModel.{FlatModel}
use Rattle.mo_ports.specs.Contents.{Contents}
use Rattle.mo_front.specs.declared.words.Emit.{Emit}
use Rattle.mo_front.specs.declared.words.Emit.TheVariants as emit
use Rattle.mo_front.specs.Ladder.{ladder_path, ladder_texts}
use Rattle.mo_front.specs.Told.{FilesGive, TextsGive, Breaks, flat, broken, bytes_of_all}
use Rattle.mo_places.specs.TreeWritten.{nowhere}
use Rattle.mo_places.specs.MadeStands.{ModelStands}
use Rattle.mo_front.specs.Verified.{FilesGiveWith, IsTooLong}
use Rattle.mo_bytes.specs.Bytes.{IsByteOf, IsByteOfSome}
use Rattle.mo_bytes.specs.Held.{HoldsAll}
use Rattle.mo_syntax.specs.declared.rules.TheConstants.{CLASS_NOT_FOUND}

-- at a byte of a named file; or it is rule 11, on the command line
abbrev pub RefusalStands : Contents → List (List ℕ) → Broken → Type 0
RefusalStands contents names b = IsByteOfSome 1 (bytes_of_all contents names) b.place ⊎ (b ≡ breach CLASS_NOT_FOUND nowhere)

-- the first rule that the named files break, asked for a class
abbrev pub RefusalsStand : Type 0
RefusalsStand = (path names : List (List ℕ)) (contents : Contents) (b : Broken) → FilesGive path names contents (broken b) → RefusalStands contents names b

-- the flat model that they give: the places of the model, of its variables and of its equations
abbrev pub ModelsStand : Type 0
ModelsStand =
    (path names : List (List ℕ)) (contents : Contents) (m : FlatModel) → FilesGive path names contents (flat m) →
    ModelStands (HoldsAll (IsByteOfSome 1 (bytes_of_all contents names))) m

-- and the first rule that is broken on the way to what is asked for of them
abbrev pub ToldRefusalsStand : Type 0
ToldRefusalsStand =
    (path names : List (List ℕ)) (emit : Emit) (contents : Contents) (b : Broken) → Breaks (FilesGive path names contents) emit b → RefusalStands contents names b

-- and the first rule that is broken on the way to the line of a ladder, at a byte of its text
abbrev pub LadderRefusalsStand : Type 0
LadderRefusalsStand =
    (n : ℕ) (b : Broken) → Breaks (TextsGive ladder_path (ladder_texts n)) emit.Report b → IsByteOfSome 1 (ladder_texts n) b.place ⊎ (b ≡ breach CLASS_NOT_FOUND nowhere)

-- and the first rule that is broken on the way to the verdict on a printed report behind them, where the report is within its limit
abbrev pub VerdictRefusalsStand : Type 0
VerdictRefusalsStand =
    (path names : List (List ℕ)) (report : List ℕ) (contents : Contents) (b : Broken) → Breaks (FilesGiveWith path names report contents) emit.Report b → RefusalStands contents names b

-- The rule that a report past its limit breaks is broken at a byte of it, in the file of the number behind those of the files.
abbrev pub LongReportsStand : Type 0
LongReportsStand =
    (names : List (List ℕ)) (report : List ℕ) (contents : Contents) (b : Broken) (long : IsTooLong names report contents b) → IsByteOf (length names + 1) long.bytes b.place
