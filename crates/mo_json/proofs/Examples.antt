-- The lines of two small models: one equation in one unknown, and two equations in one of two unknowns.
use Rattle.std.proofs.Common.{◌≡◌, ℕ, [], ◌∷◌, ◌++◌, Some, None, refl}
use Rattle.std.specs.Prelude.{codes, Vec}
use Rattle.std.specs.Global.{Global}
use Rattle.std.specs.Fmt.{digits}
use Rattle.serde_json.specs.Data.{Data, number, unsigned, string, array, object, no_items, item, no_members, member}
use Rattle.serde_json.specs.Written.{compact_text}
use Rattle.serde_json.proofs.OnLiterals.{serde_json_on_literals}
use Rattle.mo_incidence.specs.declared.findings.Offsets.{Offsets}
use Rattle.mo_incidence.specs.declared.findings.Deficit.{Deficit}
use Rattle.mo_report.specs.declared.report.Report.{Report}
use Rattle.mo_json.specs.Values.{report_data}

abbrev count : ℕ → Data
count n = number (unsigned n)

abbrev one_of_one : Data
one_of_one = object
    (member (codes "blocks") (array (item (array (item (count 1) no_items)) no_items))
    (member (codes "dummies") (array no_items)
    (member (codes "equation_count") (count 1)
    (member (codes "equations") (array (item (object (member (codes "c") (count 0) (member (codes "order") (count 0) (member (codes "pair") (string (codes "x")) no_members)))) no_items))
    (member (codes "freedom") (count 0)
    (member (codes "index") (count 1)
    (member (codes "kind") (string (codes "square"))
    (member (codes "model") (string (codes "M"))
    (member (codes "reasons") (array no_items)
    (member (codes "states") (array no_items)
    (member (codes "unknown_count") (count 1)
    (member (codes "unknowns") (array (item (object (member (codes "d") (count 0) (member (codes "name") (string (codes "x")) no_members))) no_items)) no_members))))))))))))

abbrev two_of_one : Data
two_of_one = object
    (member (codes "deficit") (object (member (codes "equations") (array (item (count 1) (item (count 2) no_items))) (member (codes "mentions") (array (item (string (codes "x")) no_items)) no_members)))
    (member (codes "equation_count") (count 2)
    (member (codes "kind") (string (codes "deficit"))
    (member (codes "model") (string (codes "M"))
    (member (codes "unknown_count") (count 2) no_members)))))

one_text : compact_text one_of_one ++ codes "\n" ≡ codes "{\"blocks\":[[1]],\"dummies\":[],\"equation_count\":1,\"equations\":[{\"c\":0,\"order\":0,\"pair\":\"x\"}],\"freedom\":0,\"index\":1,\"kind\":\"square\",\"model\":\"M\",\"reasons\":[],\"states\":[],\"unknown_count\":1,\"unknowns\":[{\"d\":0,\"name\":\"x\"}]}\n"
unfolding digits serde_json_on_literals
one_text = refl

two_text : compact_text two_of_one ++ codes "\n" ≡ codes "{\"deficit\":{\"equations\":[1,2],\"mentions\":[\"x\"]},\"equation_count\":2,\"kind\":\"deficit\",\"model\":\"M\",\"unknown_count\":2}\n"
unfolding digits serde_json_on_literals
two_text = refl

one_data : (r : Report) (offsets : Offsets) (block : Vec ℕ Global) → r.name ≡ codes "M" → r.unknowns ≡ codes "x" ∷ [] → r.equations ≡ 1 → r.orders.items ≡ 0 ∷ []
    → r.deficit ≡ None → r.offsets ≡ Some offsets → offsets.c.items ≡ 0 ∷ [] → offsets.d.items ≡ 0 ∷ [] → offsets.pairs.items ≡ 1 ∷ []
    → r.reasons.items ≡ [] → r.blocks.0.items ≡ block ∷ [] → block.items ≡ 1 ∷ [] → r.dummies.chosen.items ≡ [] → r.dummies.states.items ≡ []
    → r.index ≡ 1 → r.freedom ≡ 0 → report_data r ≡ one_of_one
one_data r offsets block name unknowns equations orders no_deficit found c d pairs reasons blocks block_is dummies states index freedom =
    rw (no_deficit, found, name, unknowns, equations, orders, c, d, pairs, reasons, blocks, block_is, dummies, states, index, freedom) refl

two_data : (r : Report) (deficit : Deficit) → r.name ≡ codes "M" → r.unknowns ≡ codes "x" ∷ codes "y" ∷ [] → r.equations ≡ 2
    → r.deficit ≡ Some deficit → deficit.equations.items ≡ 1 ∷ 2 ∷ [] → deficit.unknowns.items ≡ 1 ∷ [] → report_data r ≡ two_of_one
two_data r deficit name unknowns equations found over mentioned = rw (found, name, unknowns, equations, over, mentioned) refl
