-- The line that names a broken rule and its place.
use Rattle.std.specs.Prelude.{ℕ, ◌+◌, ◌-◌, ◌==◌, List, [], ◌∷◌, ◌++◌, length, take, count_by, codes, decimal, if◌then◌else◌, slice_index_or}
use Rattle.std.specs.List.{after_last}
use Rattle.mo_syntax.specs.declared.place.Broken.{Broken}
use Rattle.mo_syntax.specs.declared.place.Place.{Place}

-- what the line says of each rule, from rule 1 on
unfoldable pub rule_texts : List (List ℕ)
rule_texts =
    codes "file too long" ∷ codes "not UTF-8" ∷ codes "bad character" ∷ codes "text without end" ∷
    codes "literal too wide" ∷ codes "token cannot stand here" ∷ codes "end name differs" ∷ codes "nesting too deep" ∷
    codes "name declared twice" ∷ codes "within names no class" ∷ codes "class not found" ∷ codes "name not found" ∷
    codes "wrong kind of name" ∷ codes "name imported twice" ∷ codes "not a constant" ∷ codes "not a package" ∷
    codes "protected" ∷ codes "base class cycle" ∷ codes "inherited elements clash" ∷ codes "modified element not found" ∷
    codes "modified twice" ∷ codes "final" ∷ codes "each" ∷ codes "replaceable" ∷
    codes "not compatible" ∷ codes "partial" ∷ codes "instance too deep" ∷ codes "no value" ∷
    codes "reference chain too long" ∷ codes "Integer arithmetic" ∷ codes "size" ∷ codes "subscript" ∷
    codes "type" ∷ codes "outside the profile" ∷ codes "branch counts differ" ∷ codes "connect under an open condition" ∷
    codes "not a connector" ∷ codes "connectors differ" ∷ codes "enumeration" ∷ codes "condition not Boolean" ∷
    codes "flat model too large" ∷ codes "incidence too large" ∷ codes "derivative of an input" ∷ codes "result too large" ∷
    codes "no inner" ∷ codes "inner differs" ∷ []

-- what the line says of a rule
abbrev pub rule_text : ℕ → List ℕ
rule_text rule = slice_index_or rule_texts (rule - 1) []

-- the line of a byte: 1 and the line feeds before it
abbrev pub line_of : List ℕ → ℕ → ℕ
line_of bytes byte = 1 + count_by (λ b. b == 10) (take byte bytes)

-- the column of a byte: 1 and the bytes between the last line feed before it and it
abbrev pub column_of : List ℕ → ℕ → ℕ
column_of bytes byte = 1 + length (after_last (λ b. b == 10) (take byte bytes))

-- a place in a file is its name, line and column; file 0 is the command line
abbrev pub place_text : List ℕ → List ℕ → Place → List ℕ
place_text file bytes place =
    if place.file == 0
    then codes "command line"
    else file ++ codes ":" ++ decimal (line_of bytes place.byte) ++ codes ":" ++ decimal (column_of bytes place.byte)

-- the refusal line of a file of that name with these bytes
abbrev pub refusal_line : List ℕ → List ℕ → Broken → List ℕ
refusal_line file bytes broken =
    place_text file bytes broken.place ++ codes ": rule " ++ decimal broken.rule ++ codes ": " ++ rule_text broken.rule ++ codes "\n"
