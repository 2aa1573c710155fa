-- Counted equations with more behind them.
use Rattle.std.proofs.Common.{◌≡◌, ℕ, ◌+◌, ◌-◌, ◌<◌, ◌≤◌, List, [], ◌∷◌, ◌++◌, length, Option, Some, None, Result, Ok, Err, refl, ap, sym, ◌∙◌, arith, length-append}
use Rattle.std.specs.Prelude.{IfOk, OnOk}
use Rattle.std.proofs.lemmas.List.Sums.{sum_by-append, sum_by-cons}
use Rattle.mo_flat.specs.declared.model.FlatAssert.{FlatAssert}
use Rattle.mo_flat.specs.declared.expr.FlatExpr.{FlatExpr}
use Rattle.mo_flat.specs.Nodes.{node_count}
use Rattle.mo_equations.specs.declared.flat.Flat.{Flat}
use Rattle.mo_equations.specs.declared.made.Made.{Made as MadeAt}
use Rattle.mo_equations.specs.Gathering.{Made, beside, made_assert, nothing}
use Rattle.mo_equations.specs.Size.{most_nodes, nodes_of_assert, nodes_of_equation, nodes_of_option}
use Rattle.mo_equations.specs.steps.Flats.{IsFlat, capped}
use Rattle.mo_equations.specs.steps.Makings.{IsFlatOption, IsMade, assert_with, level_with, nodes_of_made}

nodes_beside : (m n : Made) → nodes_of_made (beside m n) ≡ nodes_of_made m + nodes_of_made n
nodes_beside m n =
    let one = sum_by-append nodes_of_equation m.equations n.equations in
    let two = sum_by-append nodes_of_assert m.asserts n.asserts in
    omega (arith, one, two)

count_of : (a b c x y z : ℕ) → a ≡ capped x → b ≡ capped y → z ≡ x + y → c ≡ capped (a + b) → c ≡ capped z
count_of a b c x y z p q r s = omega (arith, p, q, r, s)

low_left : (x y z : ℕ) → z ≡ x + y → z ≤ most_nodes → x ≤ most_nodes
low_left x y z e h = omega (arith, e, h)

low_right : (x y z : ℕ) → z ≡ x + y → z ≤ most_nodes → y ≤ most_nodes
low_right x y z e h = omega (arith, e, h)

low_sum : (a b x y z : ℕ) → a ≡ capped x → b ≡ capped y → z ≡ x + y → z ≤ most_nodes → capped (a + b) ≤ most_nodes
low_sum a b x y z p q r h = omega (arith, p, q, r, h)

-- what comes of two is held where lists are joined as long as there are not too many nodes
pub made_beside : (a b c : MadeAt) (m n : Made) → IsMade a m → IsMade b n → c.count ≡ capped (a.count + b.count) → c.nodes ≡ capped (a.nodes + b.nodes) →
    c.connects ≡ a.connects ++ b.connects → (c.nodes ≤ most_nodes → c.equations ≡ a.equations ++ b.equations) → (c.nodes ≤ most_nodes → c.asserts ≡ a.asserts ++ b.asserts) →
    IsMade c (beside m n)
made_beside a b c m n p q count nodes connects equations asserts = record {
  count = count_of a.count b.count c.count (length m.equations) (length n.equations) (length (m.equations ++ n.equations)) p.count q.count (length-append m.equations n.equations) count;
  nodes = count_of a.nodes b.nodes c.nodes (nodes_of_made m) (nodes_of_made n) (nodes_of_made (beside m n)) p.nodes q.nodes (nodes_beside m n) nodes;
  equations = λ low. equations (rw nodes (sum low)) ∙ ap (λ xs. xs ++ b.equations) (p.equations (left low)) ∙ ap (λ xs. m.equations ++ xs) (q.equations (right low));
  asserts = λ low. asserts (rw nodes (sum low)) ∙ ap (λ xs. xs ++ b.asserts) (p.asserts (left low)) ∙ ap (λ xs. m.asserts ++ xs) (q.asserts (right low));
  connects = connects ∙ ap (λ xs. xs ++ b.connects) p.connects ∙ ap (λ xs. m.connects ++ xs) q.connects;
}
  where
    sum : nodes_of_made (beside m n) ≤ most_nodes → capped (a.nodes + b.nodes) ≤ most_nodes
    sum low = low_sum a.nodes b.nodes (nodes_of_made m) (nodes_of_made n) (nodes_of_made (beside m n)) p.nodes q.nodes (nodes_beside m n) low

    left : nodes_of_made (beside m n) ≤ most_nodes → nodes_of_made m ≤ most_nodes
    left low = low_left (nodes_of_made m) (nodes_of_made n) (nodes_of_made (beside m n)) (nodes_beside m n) low

    right : nodes_of_made (beside m n) ≤ most_nodes → nodes_of_made n ≤ most_nodes
    right low = low_right (nodes_of_made m) (nodes_of_made n) (nodes_of_made (beside m n)) (nodes_beside m n) low

-- ---- answers

pub on_ok : {T E : Type 0} {A B : Type 0} (result : Result T E) → (A → B) → OnOk result A → OnOk result B
on_ok (Ok value) f h = f h
on_ok (Err e) f h = tt

pub if_ok : {T E : Type 0} {P Q : T → Type 0} (result : Result T E) → ((value : T) → P value → Q value) → IfOk result P → IfOk result Q
if_ok (Ok value) f h = f value h
if_ok (Err e) f h = tt

-- ---- one assert

pub some_is : {A : Type 0} (a b : A) → Some a ≡ Some b → b ≡ a
some_is {A} a b e = sym (ap held e)
  where
    held : Option A → A
    held None = a
    held (Some x) = x

pub none_some : {A B : Type 0} (a : A) → None ≡ Some a → B
none_some a e = absurd (no e)
  where
    no : None ≡ Some a → ⊥
    no e = cc

some_none : {A B : Type 0} (a : A) → Some a ≡ None → B
some_none a e = absurd (no e)
  where
    no : Some a ≡ None → ⊥
    no e = cc

level_nodes : (level : Option Flat) (l : Option FlatExpr) → IsFlatOption level l → (level_with level).0 ≡ capped (nodes_of_option l)
level_nodes None None is = omega arith
level_nodes (Some flat) (Some e) is = go flat.built refl
  where
    go : (b : Option FlatExpr) → flat.built ≡ b → (level_with (Some flat)).0 ≡ capped (node_count e)
    go (Some u) h = rw h is.nodes
    go None h = rw h is.nodes
level_nodes None (Some e) is = absurd is
level_nodes (Some flat) None is = absurd is

level_built : (level : Option Flat) (l o : Option FlatExpr) → IsFlatOption level l → (level_with level).1 ≡ Some o → o ≡ l
level_built None None o is h = some_is None o h
level_built (Some flat) (Some e) o is h = go flat.built refl
  where
    go : (b : Option FlatExpr) → flat.built ≡ b → o ≡ Some e
    go (Some u) some = some_is (Some u) o (rw some at h) ∙ ap Some (is.built u some)
    go None none = none_some o (rw none at h)
level_built None (Some e) o is h = absurd is
level_built (Some flat) None o is h = absurd is

level_unbuilt : (level : Option Flat) (l : Option FlatExpr) → IsFlatOption level l → (level_with level).1 ≡ None → most_nodes < nodes_of_option l
level_unbuilt None None is h = some_none None h
level_unbuilt (Some flat) (Some e) is h = go flat.built refl
  where
    go : (b : Option FlatExpr) → flat.built ≡ b → most_nodes < node_count e
    go (Some u) some = some_none (Some u) (rw some at h)
    go None none = is.past none
level_unbuilt None (Some e) is h = absurd is
level_unbuilt (Some flat) None is h = absurd is

module _ (condition message : Flat) (level : Option Flat) (c m : FlatExpr) (l : Option FlatExpr) (is : IsFlat condition c) (has : IsFlat message m) (at : IsFlatOption level l) where
  abbrev whole : FlatAssert
  whole = record { condition = c; message = m; level = l }

  assert_built : (one : FlatAssert) → assert_with condition.built message.built (level_with level).1 ≡ Some one → one ≡ whole
  assert_built one h = go condition.built message.built (level_with level).1 refl refl refl h
    where
      go : (a b : Option FlatExpr) (d : Option (Option FlatExpr)) → condition.built ≡ a → message.built ≡ b → (level_with level).1 ≡ d → assert_with a b d ≡ Some one → one ≡ whole
      go (Some x) (Some y) (Some z) p q r h =
          some_is (record { condition = x; message = y; level = z }) one h
          ∙ (ap (λ u. record { condition = u; message = y; level = z }) (is.built x p)
          ∙ (ap (λ u. record { condition = c; message = u; level = z }) (has.built y q) ∙ ap (λ u. record { condition = c; message = m; level = u }) (level_built level l z at r)))
      go (Some x) (Some y) None p q r h = none_some one h
      go (Some x) None d p q r h = none_some one h
      go None b d p q r h = none_some one h

  assert_unbuilt : assert_with condition.built message.built (level_with level).1 ≡ None → most_nodes < nodes_of_assert whole
  assert_unbuilt h = go condition.built message.built (level_with level).1 refl refl refl h
    where
      go : (a b : Option FlatExpr) (d : Option (Option FlatExpr)) → condition.built ≡ a → message.built ≡ b → (level_with level).1 ≡ d → assert_with a b d ≡ None → most_nodes < nodes_of_assert whole
      go (Some x) (Some y) (Some z) p q r h = some_none (record { condition = x; message = y; level = z }) h
      go (Some x) (Some y) None p q r h = omega (arith, level_unbuilt level l at r)
      go (Some x) None d p q r h = omega (arith, has.past q)
      go None b d p q r h = omega (arith, is.past p)

  pub assert_made : (held : MadeAt) → held.count ≡ 0 → held.equations ≡ [] → held.connects ≡ [] → held.nodes ≡ capped (capped (condition.nodes + message.nodes) + (level_with level).0) →
      ((one : FlatAssert) → assert_with condition.built message.built (level_with level).1 ≡ Some one → held.asserts ≡ one ∷ []) → IsMade held (made_assert whole)
  assert_made held count equations connects nodes asserts = record {
    count = rw count (omega arith);
    nodes = nodes ∙ summed;
    equations = λ low. equations;
    asserts = λ low. among (assert_with condition.built message.built (level_with level).1) refl low;
    connects = connects;
  }
    where
      all : nodes_of_made (made_assert whole) ≡ node_count c + node_count m + nodes_of_option l
      all = rw (sum_by-cons nodes_of_assert whole []) (omega arith)

      summed : capped (capped (condition.nodes + message.nodes) + (level_with level).0) ≡ capped (nodes_of_made (made_assert whole))
      summed = omega (arith, all, is.nodes, has.nodes, level_nodes level l at)

      among : (o : Option FlatAssert) → assert_with condition.built message.built (level_with level).1 ≡ o → nodes_of_made (made_assert whole) ≤ most_nodes → held.asserts ≡ whole ∷ []
      among (Some one) h low = asserts one h ∙ ap (λ (a : FlatAssert). a ∷ []) (assert_built one h)
      among None h low = let past = assert_unbuilt h in absurd (omega (arith, all, past))

  pub assert_put : (start held : MadeAt) (n : ℕ) (asserts : List FlatAssert) → IsMade start nothing →
      held ≡ record { count = start.count; nodes = n; equations = start.equations; asserts = asserts; connects = start.connects } →
      n ≡ capped (capped (condition.nodes + message.nodes) + (level_with level).0) →
      ((one : FlatAssert) → assert_with condition.built message.built (level_with level).1 ≡ Some one → asserts ≡ one ∷ []) → IsMade held (made_assert whole)
  assert_put start held n asserts begun same nodes one =
      assert_made held
      (ap (λ (h : MadeAt). h.count) same ∙ (begun.count ∙ omega arith))
      (ap (λ (h : MadeAt). h.equations) same ∙ begun.equations (omega arith))
      (ap (λ (h : MadeAt). h.connects) same ∙ begun.connects)
      (ap (λ (h : MadeAt). h.nodes) same ∙ nodes)
      (λ a h. ap (λ (m : MadeAt). m.asserts) same ∙ one a h)

-- nothing is kept at first
pub no_asserts : (start : MadeAt) → IsMade start nothing → start.asserts ≡ []
no_asserts start begun = begun.asserts (omega arith)
