-- All parts, where they are not too large.
use Rattle.std.proofs.Common.{◌∙◌, sym}
use Rattle.mo_equations.proofs.Oversize.{connects_are, whole_is}
use Rattle.mo_equations.proofs.whole.put_together.Goals as goal

pub returns : goal.returns
returns c = λ all of e declared are is n p f.
    let past = c.has_too_many-past.ensures all of e declared are is in
    record {
      whole = λ few. whole_is c.args.declared c.args.parts all of e declared are is (sym past ∙ few) c.args.name c.args.place c.args.flows c.append.new.self n p f c.in_ok-append.ensures.ok;
      past = λ over. sym past ∙ over;
      name = sym n;
      place = sym p;
      connects = connects_are c.args.declared c.args.parts all of e declared are is c.args.flows f;
    }
