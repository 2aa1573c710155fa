-- The text of the ladder: a source that feeds rungs of a resistor and a capacitor, one behind another. It is Modelica text
-- (Modelica Language Specification 3.5, appendix A).
use Rattle.std.specs.Prelude.{ℕ, ◌+◌, ◌-◌, List, [], ◌++◌, codes, decimal}
use Rattle.std.proofs.Common.{zero, suc}

-- the lines of the numbers from 1 to n
abbrev pub lines_to : (ℕ → List ℕ) → ℕ → List ℕ
lines_to line zero = []
lines_to line (suc n) = lines_to line n ++ line (n + 1)

-- the classes of the parts
unfoldable pub part_classes : List ℕ
part_classes =
    codes "connector Pin Real v; flow Real i; end Pin;\n" ++
    codes "partial model TwoPin Pin p; Pin n; Real v; Real i; equation v = p.v - n.v; 0 = p.i + n.i; i = p.i; end TwoPin;\n" ++
    codes "model Resistor extends TwoPin; parameter Real R = 1.0; equation v = R*i; end Resistor;\n" ++
    codes "model Capacitor extends TwoPin; parameter Real C = 1.0; equation i = C*der(v); end Capacitor;\n" ++
    codes "model Source extends TwoPin; parameter Real V = 1.0; equation v = V; end Source;\n" ++
    codes "model Ground Pin p; equation p.v = 0; end Ground;\n"

-- a text and behind it a number
unfoldable pub numbered : List ℕ → ℕ → List ℕ
numbered text k = text ++ decimal k

-- the resistor and the capacitor of rung k
abbrev pub part_line : ℕ → List ℕ
part_line k = numbered (codes "  Resistor r") k ++ numbered (codes "; Capacitor c") k ++ codes ";\n"

-- the resistor leads to the capacitor, and that to the ground
abbrev pub rung_line : ℕ → List ℕ
rung_line k =
    numbered (codes "  connect(r") k ++ numbered (codes ".n, c") k ++ numbered (codes ".p); connect(c") k ++ codes ".n, g.p);\n"

-- the resistor leads to the next one
abbrev pub rail_line : ℕ → List ℕ
rail_line k = numbered (codes "  connect(r") k ++ numbered (codes ".n, r") (k + 1) ++ codes ".p);\n"

-- the parts of a ladder of n rungs
abbrev pub declarations : ℕ → List ℕ
declarations n = codes "model Ladder\n  Source s;\n  Ground g;\n" ++ lines_to part_line n

-- and how they are connected
abbrev pub connections : ℕ → List ℕ
connections n =
    codes "equation\n  connect(s.n, g.p);\n  connect(s.p, r1.p);\n" ++ lines_to rung_line n ++ lines_to rail_line (n - 1)

-- the ladder of n rungs, n from 1 on
abbrev pub ladder_text : ℕ → List ℕ
ladder_text n = part_classes ++ declarations n ++ connections n ++ codes "end Ladder;\n"
