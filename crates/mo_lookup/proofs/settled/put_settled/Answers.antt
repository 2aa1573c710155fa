-- One more frame whose elements are known.
use Rattle.std.proofs.Common.{◌≡◌, ◌+◌, false, ap, rules, sym, subst, ◌∙◌}
use Rattle.mo_scope.specs.Lookup.{contains}
use Rattle.mo_scope.specs.Worlds.{frames_of}
use Rattle.mo_lookup.specs.steps.Settled.{AreSettled}
use Rattle.mo_lookup.proofs.Settling.{one_more_settled}
use Rattle.mo_lookup.proofs.settled.put_settled.Goals as goal

pub returns : goal.returns
returns c =
    let other : contains c.args.made.classes c.class_of-class.result.0 ≡ false =
    ap (λ classes. contains classes c.class_of-class.result.0) (sym c.as_slice.ensures) ∙ sym c.is_busy.ensures ∙ c.if-is_busy.false in
    let deeper : c.in_ok-deeper.deeper ≡ c.args.made.deep + 1 = search rules in
    subst (AreSettled c.args.s.now) (sym c.in_ok-push-2.ensures.ok)
    (one_more_settled c.args.s.now c.args.known.now (record { frame = c.args.frame; classes = c.push.new.self; deep = c.in_ok-deeper.deeper; alike = c.args.made.alike; elements = c.without_names.result })
    c.args.made.walk c.args.made.classes c.args.made.deep c.class_of-class.result.0 c.requires.known c.requires.frame
    (c.without_names.ensures.stand c.args.s.now c.requires.made) (c.without_names.ensures.is (frames_of c.args.s.now)) c.in_ok-push.ensures.ok deeper c.class_of-class.ensures.is other c.requires.told c.requires.owned)
