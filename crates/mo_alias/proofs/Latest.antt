-- The latest link between two unknowns, step by step.
use Rattle.std.proofs.Common.{◌≡◌, ℕ, suc, ◌<◌, ◌≤◌, false, inl, inr, length, sym, ◌∙◌, subst, arith}
use Rattle.std.proofs.lemmas.Bool.{cases_eq, cases_lt}
use Rattle.mo_alias.specs.declared.trees.Latest.{Latest}
use Rattle.mo_alias.specs.declared.trees.Trees.{Trees}
use Rattle.mo_alias.specs.steps.Climbing.{top, up}
use Rattle.mo_alias.specs.steps.Forests.{AreOnce, AreTrees, ends_in, first, HaveRoot, IsLatest, LatestTo, minus_in, parent_in, Reaches, second, since_in}
use Rattle.mo_alias.proofs.Climbing.{climbs_all, climbs_on, climbs_one, climbs_still, climbs_up}
use Rattle.mo_alias.specs.Recognized.{sign_product}

module _ (t : Trees) (trees : AreTrees t) where
  -- unknowns joined at a moment are joined later
  pub later_root : (at k u v : ℕ) → at ≤ k → k ≤ 18446744073709551615 → HaveRoot t at u v → HaveRoot t k u v
  later_root at k u v l early h =
      let more = climbs_all (parent_in t) (since_in t) (minus_in t) k 18446744073709551615 early trees.rises 18446744073709551615 h.root (omega (arith, early)) in
      record {
        root = more.0;
        sign = _;
        other_sign = _;
        above = climbs_on (parent_in t) (since_in t) (minus_in t) at k l u h.root more.0 h.sign more.1 h.above more.2;
        other_above = climbs_on (parent_in t) (since_in t) (minus_in t) at k l v h.root more.0 h.other_sign more.1 h.other_above more.2;
      }

  pub root_back : (at u v : ℕ) → HaveRoot t at u v → HaveRoot t at v u
  root_back at u v h = record { root = h.root; sign = h.other_sign; other_sign = h.sign; above = h.other_above; other_above = h.above }

  module _ (once : AreOnce t) (one other : ℕ) where
    pub latest_init : (last : Latest) → (one ≡ other → ⊥) → one < length t.parent.items → other < length t.parent.items → HaveRoot t 18446744073709551615 one other → LatestTo t one other one other last
    latest_init last ne l k h = record {
      one_inside = l;
      other_inside = k;
      at = 0;
      sign = false;
      other_sign = false;
      one_low = omega arith;
      other_low = omega arith;
      one_side = top (omega arith);
      other_side = top (omega arith);
      joined = h;
      latest = λ e. absurd (ne e);
    }

    not_both : (a b : ℕ) → (a ≡ b → ⊥) → HaveRoot t 18446744073709551615 a b → 18446744073709551615 ≤ since_in t a → 18446744073709551615 ≤ since_in t b → ⊥
    not_both a b ne h la lb =
        let x = climbs_one (parent_in t) (since_in t) (minus_in t) 18446744073709551615 a a h.root false h.sign (top la) h.above in
        let y = climbs_one (parent_in t) (since_in t) (minus_in t) 18446744073709551615 b b h.root false h.other_sign (top lb) h.other_above in
        ne (x.0 ∙ sym y.0)

    -- the second is no root
    pub second_early : (a b : ℕ) (last : Latest) → LatestTo t one other a b last → (a ≡ b → ⊥) → since_in t b ≤ since_in t a → since_in t b < 18446744073709551615
    second_early a b last h ne less = elim (cases_lt (since_in t b) 18446744073709551615) [
      | inl l ↦ l
      | inr l ↦ absurd (not_both a b ne h.joined (omega (arith, l, less)) l)
    ]

    -- past the first one
    pub latest_first : (a b : ℕ) (last next : Latest) → LatestTo t one other a b last → (a ≡ b → ⊥) → since_in t a < since_in t b
        → next.at ≡ since_in t a → next.near ≡ (ends_in t a).0 → next.far ≡ (ends_in t a).1 → LatestTo t one other (parent_in t a) b next
    latest_first a b last next h ne less at near far =
        let low = trees.low b in
        let early : since_in t a < 18446744073709551615 = omega (arith, less, low) in
        let rise = trees.rises a early in
        let way = climbs_up (parent_in t) (since_in t) (minus_in t) 18446744073709551615 a h.joined.root h.joined.sign early h.joined.above in
        let up-to : Reaches t (since_in t a) one a h.sign = climbs_still (parent_in t) (since_in t) (minus_in t) h.at (since_in t a) h.one_low one a h.sign (omega arith) h.one_side in
        let over : Reaches t (suc (since_in t a)) a (parent_in t a) (sign_product (minus_in t a) false) = up (omega arith) (top (omega (arith, rise))) in
        record {
          one_inside = trees.inside a h.one_inside;
          other_inside = h.other_inside;
          at = suc (since_in t a);
          sign = _;
          other_sign = h.other_sign;
          one_low = omega (arith, rise);
          other_low = omega (arith, less);
          one_side = climbs_on (parent_in t) (since_in t) (minus_in t) (since_in t a) (suc (since_in t a)) (omega arith) one a (parent_in t a) h.sign _ up-to over;
          other_side = climbs_still (parent_in t) (since_in t) (minus_in t) h.at (suc (since_in t a)) (omega (arith, h.one_low)) other b h.other_sign (omega (arith, less)) h.other_side;
          joined = record { root = h.joined.root; sign = way.0; other_sign = h.joined.other_sign; above = way.1; other_above = h.joined.other_above };
          latest = λ e. latest_at e;
        }
      where
        latest_at : parent_in t a ≡ b → IsLatest t one other next
        latest_at e =
            let low = trees.low b in
            let early : since_in t a < 18446744073709551615 = omega (arith, less, low) in
            first a h.sign h.other_sign (sym at) (omega (arith, at, early)) (sym near) (sym far)
            (subst (λ w. Reaches t w one a h.sign) (sym at) (climbs_still (parent_in t) (since_in t) (minus_in t) h.at (since_in t a) h.one_low one a h.sign (omega arith) h.one_side))
            (subst (λ w. Reaches t w other (parent_in t a) h.other_sign) (sym at)
            (subst (λ w. Reaches t (since_in t a) other w h.other_sign) (sym e) (climbs_still (parent_in t) (since_in t) (minus_in t) h.at (since_in t a) h.one_low other b h.other_sign (omega (arith, less)) h.other_side)))

    -- past the second
    pub latest_second : (a b : ℕ) (last next : Latest) → LatestTo t one other a b last → (a ≡ b → ⊥) → since_in t b ≤ since_in t a
        → next.at ≡ since_in t b → next.near ≡ (ends_in t b).1 → next.far ≡ (ends_in t b).0 → LatestTo t one other a (parent_in t b) next
    latest_second a b last next h ne less at near far =
        let early = second_early a b last h ne less in
        let less' = strict early in
        let rise = trees.rises b early in
        let way = climbs_up (parent_in t) (since_in t) (minus_in t) 18446744073709551615 b h.joined.root h.joined.other_sign early h.joined.other_above in
        let up-to : Reaches t (since_in t b) other b h.other_sign = climbs_still (parent_in t) (since_in t) (minus_in t) h.at (since_in t b) h.other_low other b h.other_sign (omega arith) h.other_side in
        let over : Reaches t (suc (since_in t b)) b (parent_in t b) (sign_product (minus_in t b) false) = up (omega arith) (top (omega (arith, rise))) in
        record {
          one_inside = h.one_inside;
          other_inside = trees.inside b h.other_inside;
          at = suc (since_in t b);
          sign = h.sign;
          other_sign = _;
          one_low = omega (arith, less');
          other_low = omega (arith, rise);
          one_side = climbs_still (parent_in t) (since_in t) (minus_in t) h.at (suc (since_in t b)) (omega (arith, h.other_low)) one a h.sign (omega (arith, less')) h.one_side;
          other_side = climbs_on (parent_in t) (since_in t) (minus_in t) (since_in t b) (suc (since_in t b)) (omega arith) other b (parent_in t b) h.other_sign _ up-to over;
          joined = record { root = h.joined.root; sign = h.joined.sign; other_sign = way.0; above = h.joined.above; other_above = way.1 };
          latest = λ e. latest_at early e;
        }
      where
        strict : since_in t b < 18446744073709551615 → since_in t b < since_in t a
        strict early = elim (cases_eq (since_in t b) (since_in t a)) [
          | inl e ↦ absurd (ne (sym (once b a early e)))
          | inr e ↦ omega (arith, e, less)
        ]

        latest_at : since_in t b < 18446744073709551615 → a ≡ parent_in t b → IsLatest t one other next
        latest_at early e =
            second b h.sign h.other_sign (sym at) (omega (arith, at, early)) (sym near) (sym far)
            (subst (λ w. Reaches t w one (parent_in t b) h.sign) (sym at)
            (subst (λ w. Reaches t (since_in t b) one w h.sign) e (climbs_still (parent_in t) (since_in t) (minus_in t) h.at (since_in t b) h.other_low one a h.sign less h.one_side)))
            (subst (λ w. Reaches t w other b h.other_sign) (sym at) (climbs_still (parent_in t) (since_in t) (minus_in t) h.at (since_in t b) h.other_low other b h.other_sign (omega arith) h.other_side))
