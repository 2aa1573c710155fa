-- The reports that have what is printed, part by part.
use Rattle.std.proofs.Common.{◌≡◌, ◌≢◌, ℕ, ◌+◌, ◌<◌, [], length, Some, refl, ap, ◌∙◌}
use Rattle.std.specs.Prelude.{Vec}
use Rattle.std.specs.Global.{Global}
use Rattle.mo_flat.specs.declared.model.FlatModel.{FlatModel}
use Rattle.mo_incidence.specs.declared.findings.Blocks.{Blocks}
use Rattle.mo_incidence.specs.declared.findings.Deficit.{Deficit}
use Rattle.mo_incidence.specs.declared.findings.Dummies.{Dummies}
use Rattle.mo_incidence.specs.declared.findings.Offsets.{Offsets}
use Rattle.mo_incidence.specs.declared.findings.Reason.{Reason}
use Rattle.mo_incidence.specs.Counting.{sum_below}
use Rattle.mo_incidence.specs.Signature.{Signature, equations}
use Rattle.mo_incidence.specs.Assignment.{IsDeficit, IsUndetermined, ListsWhere}
use Rattle.mo_incidence.specs.Offsets.{sum_unknowns, c_of, d_of, pairs_of}
use Rattle.mo_incidence.specs.Reasons.{AreReasonsOf}
use Rattle.mo_incidence.specs.Blocks.{AreBlocksInOrder, numbers_in}
use Rattle.mo_incidence.specs.Dummies.{dummies_of, states_of}
use Rattle.mo_incidence.specs.Model.{incidence_of}
use Rattle.mo_report.specs.declared.report.Report.{Report}
use Rattle.mo_report.specs.Right.{index_of, singular}
use Rattle.mo_verify.specs.Printed.{Printed}
use Rattle.mo_verify.specs.Steps.{IsBlankReport, PutsReasons, PutsBlocks, PutsDummies}
use Rattle.mo_verify.specs.Verdict.{IsDeficitReport, IsUndeterminedReport, IsSquareReport}
use Rattle.mo_verify.proofs.Judging.{equations_of}

module _ (m : FlatModel) (g : Signature) (same : g ≡ incidence_of m) (blank : Report) (b : IsBlankReport m g blank) where
  count : equations g ≡ length m.equations
  count = ap equations same ∙ equations_of m []

  pub deficit_shown : (deficit : Deficit) (k : ℕ) → IsDeficit g deficit.equations.items deficit.unknowns.items k → k ≢ 0 → IsDeficitReport m (record blank { deficit = Some deficit })
  deficit_shown deficit k is some = record {
    right = record {
      name = b.name;
      unknowns = b.unknowns;
      equations = b.equations ∙ count;
      found = singular deficit k some refl (rw same at is) b.offsets b.orders b.loose (record {
        reasons = b.square.reasons;
        blocks = b.square.blocks;
        dummies = b.square.dummies;
        states = b.square.states;
        index = b.square.index;
        freedom = b.square.freedom;
      });
    };
    deficit = deficit;
    given = refl;
  }

  module _ (p : Printed) (offsets : Offsets) (orders : Vec ℕ Global) (c_is : offsets.c.items ≡ p.c) (d_is : offsets.d.items ≡ p.d) (pairs_are : offsets.pairs.items ≡ p.pairs) (orders_are : orders.items ≡ p.orders) where
    pub undetermined_shown : (loose : Vec ℕ Global) → equations g < g.unknowns → ListsWhere (IsUndetermined g) g.unknowns loose.items
        → IsUndeterminedReport m p (record blank { orders = orders; offsets = Some offsets; loose = loose })
    undetermined_shown loose fewer lists = record {
      offsets = offsets;
      has = record {
        name = b.name;
        unknowns = b.unknowns;
        equations = b.equations ∙ count;
        no_deficit = b.deficit;
        given = refl;
        c = c_is;
        d = d_is;
        pairs = pairs_are;
        orders = orders_are;
      };
      fewer = rw same at fewer;
      loose = rw same at lists;
      no_square = record {
        reasons = b.square.reasons;
        blocks = b.square.blocks;
        dummies = b.square.dummies;
        states = b.square.states;
        index = b.square.index;
        freedom = b.square.freedom;
      };
    }

    pub square_shown : (reasons : Vec Reason Global) (blocks : Blocks) (dummies : Dummies) (index freedom : ℕ) → equations g ≡ g.unknowns
        → AreReasonsOf g (c_of offsets) (d_of offsets) (pairs_of offsets) reasons.items
        → AreBlocksInOrder g (c_of offsets) (d_of offsets) (pairs_of offsets) (numbers_in blocks.0.items)
        → dummies.chosen.items ≡ dummies_of (c_of offsets) (d_of offsets) (pairs_of offsets) (equations g)
        → dummies.states.items ≡ states_of (c_of offsets) (d_of offsets) (pairs_of offsets) (equations g) g.unknowns
        → index ≡ index_of g (c_of offsets) (d_of offsets)
        → freedom ≡ length dummies.states.items → length dummies.states.items + sum_below (c_of offsets) (equations g) ≡ sum_unknowns g (d_of offsets)
        → IsSquareReport m p (record blank { orders = orders; offsets = Some offsets; reasons = reasons; blocks = blocks; dummies = dummies; index = index; freedom = freedom })
    square_shown reasons blocks dummies index freedom square are order chosen states_are index_is freedom_is counted =
        let freedom_of : freedom + sum_below (c_of offsets) (equations (incidence_of m)) ≡ sum_unknowns (incidence_of m) (d_of offsets) = rw freedom_is (rw same at counted) in
        record {
          offsets = offsets;
          has = record {
            name = b.name;
            unknowns = b.unknowns;
            equations = b.equations ∙ count;
            no_deficit = b.deficit;
            given = refl;
            c = c_is;
            d = d_is;
            pairs = pairs_are;
            orders = orders_are;
          };
          square = rw same at square;
          parts = record {
            reasons = rw same at are;
            blocks = rw same at order;
            dummies = rw same at chosen;
            states = rw same at states_are;
            index = rw same at index_is;
            freedom = freedom_of;
          };
        }

    -- the same, put into the report one after the other
    pub square_put : (one two three : Report) → equations g ≡ g.unknowns → PutsReasons g offsets blank one → PutsBlocks g offsets one two → PutsDummies g offsets two three
        → IsSquareReport m p (record three { orders = orders; offsets = Some offsets })
    square_put one two three square reasons blocks dummies =
        rw (dummies.is, blocks.is, reasons.is)
        (square_shown reasons.reasons blocks.blocks dummies.dummies dummies.index dummies.freedom square reasons.are blocks.are dummies.chosen dummies.states dummies.index_is dummies.freedom_is dummies.counted)
