-- The words that classes, elements and components begin with, as pieces that spell them.
use Rattle.std.proofs.Common.{◌≡◌, ◌==◌, ◌++◌, ℕ, Bool, true, false, List, [], ◌∷◌, inl, inr, Option, Some, None, IsTrue, refl, sym, ap, subst, ◌∙◌, append_assoc, eqb-true, codes}
use Rattle.std.specs.Prelude.{if◌then◌else◌}
use Rattle.mo_syntax.specs.declared.class.Causal.{Causal}
use Rattle.mo_syntax.specs.declared.class.Causal.TheVariants.{Input, Output}
use Rattle.mo_syntax.specs.declared.class.ClassKind.{ClassKind}
use Rattle.mo_syntax.specs.declared.class.ClassKind.TheVariants.{Plain, Model, Block as block_kind, Recd, Connector, TypeDef, Package, Function as function_kind}
use Rattle.mo_syntax.specs.declared.class.Prefix.{Prefix}
use Rattle.mo_syntax.specs.declared.class.Vary.{Vary}
use Rattle.mo_syntax.specs.declared.class.Vary.TheVariants.{Discrete, Parameter, Constant}
use Rattle.mo_grammar.specs.Codes.{block_word, class_word, connector_word, constant_word, discrete_word, expandable_word, flow_word, function_word, impure_word, input_word, model_word, operator_word, output_word, package_word, parameter_word, pure_word, record_word, stream_word, type_word}
use Rattle.mo_grammar.specs.Lexeme.{Lexeme, code_of}
use Rattle.mo_grammar.specs.Grammar.{Limits, either, made, seq, token, has}
use Rattle.mo_grammar.specs.Forms.{behind, flag, optional}
use Rattle.mo_grammar.specs.Symbols.{Symbol, ValueOf, Form}
use Rattle.mo_grammar.specs.ClassTrees.{Kinded, expandable_kind, is_code, kinded, one_word_kind, operator_or, prefix_of, pure_kind, vary_of, vary_or_free, way_of, way_or_neither}
use Rattle.mo_grammar.specs.Classes.{class_prefixes, prefix}
use Rattle.mo_grammar.proofs.Codes.{one_of}
use Rattle.mo_pieces.specs.Pieces.{Piece, a_word, a_blank, IsToken}
use Rattle.mo_pieces.specs.Lines.{word_if}
use Rattle.mo_pieces.specs.ShownElements.{pieces_of_causal, pieces_of_prefix, pieces_of_vary}
use Rattle.mo_pieces.specs.ShownClasses.{pieces_of_purity, word_of_kind}
use Rattle.mo_unparse.proofs.Holding.{Fact, HoldsEach, HoldsBy}
use Rattle.mo_unparse.proofs.Building.{IsPrinted, IsPieceOf, after_blank, before_blank, by_absent, by_behind, by_flag, by_left, by_made, by_no_flag, by_one, by_piece, by_pieces, by_present, by_right, by_seq}
use Rattle.mo_unparse.proofs.WordPieces.{block_word_is, class_word_is, connector_word_is, constant_word_is, discrete_word_is, expandable_word_is, flow_word_is, function_word_is, impure_word_is, input_word_is, model_word_is, operator_word_is, output_word_is, package_word_is, parameter_word_is, partial_word_is, pure_word_is, record_word_is, stream_word_is, type_word_is}
use Rattle.mo_unparse.proofs.Inverting.{HoldsOption, behind_holds, optional_holds}

-- a word that stands there or not
pub by_word : {l : Limits} {w : List ℕ} {c : ℕ} (stands : Bool) → IsPieceOf (a_word w) c → IsPrinted (flag c) l (word_if w stands) stands
by_word true k = before_blank (by_flag k)
by_word false k = by_no_flag

-- ---- words that their codes tell

-- pieces that are the word of a code, and a blank
abbrev pub IsWordOf : List Piece → ℕ → Type 0
IsWordOf ps c = (word : List ℕ) × IsPieceOf (a_word word) c × (ps ≡ a_word word ∷ a_blank ∷ [])

of_codes : (K : ℕ → Type 0) (cs : List ℕ) (c : ℕ) → HoldsEach K cs → IsTrue (has cs c) → K c
of_codes K [] c h e = cc
of_codes K (x ∷ xs) c h e = elim (one_of (x == c) (has xs c) e) [ inl same ↦ subst K (eqb-true x c same) h.0 | inr more ↦ of_codes K xs c h.1 more ]

-- a token of one of the codes, by the word of its code
pub by_coded : {l : Limits} {cs : List ℕ} (pieces : ℕ → List Piece) → HoldsEach (λ c. IsWordOf (pieces c) c) cs → (t : Lexeme) → IsTrue (has cs (code_of t)) → (u : Lexeme) × (code_of u ≡ code_of t) × IsPrinted (token cs) l (pieces (code_of t)) u
by_coded {cs = cs} pieces each t e =
    let word = of_codes (λ c. IsWordOf (pieces c) c) cs (code_of t) each e in
    (word.1.token, word.1.is_code, by_pieces (sym word.2) (before_blank (by_piece word.1 e)))

abbrev kind_at : ℕ → ClassKind
kind_at c =
    if c == model_word then Model else (if c == block_word then block_kind else (if c == record_word then Recd
    else (if c == connector_word then Connector else (if c == type_word then TypeDef else (if c == package_word then Package
    else (if c == function_word then function_kind else Plain))))))

abbrev kind_pieces : ℕ → List Piece
kind_pieces c = a_word (word_of_kind (kind_at c)) ∷ a_blank ∷ []

-- what stands behind `partial`
abbrev words_behind : Kinded → List Piece
words_behind k = pieces_of_purity k.1.purity ++ (word_if (codes "operator") k.1.operator ++ (word_if (codes "expandable") k.1.expandable ++ (a_word (word_of_kind k.0) ∷ a_blank ∷ [])))

-- the words that a class begins with, without `encapsulated`
abbrev pub kind_words : Kinded → List Piece
kind_words k = word_if (codes "partial") k.1.partial ++ words_behind k

-- what stands behind `partial`, in the grammar
abbrev kinds : List ℕ
kinds = class_word ∷ model_word ∷ record_word ∷ block_word ∷ connector_word ∷ type_word ∷ package_word ∷ function_word ∷ []

abbrev behind_partial : Form Kinded
behind_partial =
    either (made one_word_kind (token kinds))
    (either (made expandable_kind (behind expandable_word (token (connector_word ∷ []))))
    (either (made pure_kind (seq (token (pure_word ∷ impure_word ∷ [])) (seq (flag operator_word) (token (function_word ∷ [])))))
    (made operator_or (behind operator_word (optional (token (record_word ∷ function_word ∷ [])))))))

each_kind : HoldsEach (λ c. IsWordOf (kind_pieces c) c) kinds
each_kind =
    ((codes "class", class_word_is, refl), ((codes "model", model_word_is, refl), ((codes "record", record_word_is, refl), ((codes "block", block_word_is, refl), ((codes "connector", connector_word_is, refl), ((codes "type", type_word_is, refl), ((codes "package", package_word_is, refl), ((codes "function", function_word_is, refl), tt))))))))

each_operator : HoldsEach (λ c. IsWordOf (kind_pieces c) c) (record_word ∷ function_word ∷ [])
each_operator = ((codes "record", record_word_is, refl), ((codes "function", function_word_is, refl), tt))

abbrev purity_pieces : ℕ → List Piece
purity_pieces c = pieces_of_purity (Some (c == pure_word))

each_purity : HoldsEach (λ c. IsWordOf (purity_pieces c) c) (pure_word ∷ impure_word ∷ [])
each_purity = ((codes "pure", pure_word_is, refl), ((codes "impure", impure_word_is, refl), tt))

-- the words of a kind, by the tree that they make
abbrev KindPrinted : Form Kinded → Limits → Kinded → Type 0
KindPrinted g l k = IsPrinted g l (words_behind k) k

operator_printed : (l : Limits) (o : Option Lexeme) → HoldsOption (λ t. IsToken t × IsTrue (has (record_word ∷ function_word ∷ []) (code_of t))) o → KindPrinted (made operator_or (behind operator_word (optional (token (record_word ∷ function_word ∷ []))))) l (operator_or o)
operator_printed l None h = by_made refl (by_behind operator_word_is (after_blank by_absent))
operator_printed l (Some t) h =
    let word = by_coded {l = l} {cs = record_word ∷ function_word ∷ []} kind_pieces each_operator t h.1 in
    by_made (ap (λ c. kinded (kind_at c) true false None) word.1) (by_behind operator_word_is (after_blank (by_present word.2)))

module _ (P : Fact Symbol ValueOf) where
  behind_printed : (l : Limits) (k : Kinded) → HoldsBy P IsToken behind_partial l k → KindPrinted behind_partial l k
  behind_printed l k (inl (t, h, e)) =
      let word = by_coded {l = l} {cs = kinds} kind_pieces each_kind t h.1 in
      subst (KindPrinted behind_partial l) e (by_left (by_made (ap (λ c. kinded (kind_at c) false false None) word.1) word.2))
  behind_printed l k (inr (inl (t, h, e))) =
      subst (KindPrinted behind_partial l) e (by_right (by_left (by_made refl (by_behind expandable_word_is (after_blank (before_blank (by_one connector_word_is)))))))
  behind_printed l k (inr (inr (inl (x, h, e)))) =
      let word = by_coded {l = l} {cs = pure_word ∷ impure_word ∷ []} purity_pieces each_purity x.0 h.0.1 in
      subst (KindPrinted behind_partial l) e (by_right (by_right (by_left (by_made (ap (λ c. kinded function_kind x.1.0 false (Some (c == pure_word))) word.1)
      (by_seq word.2 (by_seq (by_word x.1.0 operator_word_is) (before_blank (by_one function_word_is))))))))
  behind_printed l k (inr (inr (inr (o, h, e)))) =
      subst (KindPrinted behind_partial l) e (by_right (by_right (by_right
      (operator_printed l o (optional_holds P IsToken (token (record_word ∷ function_word ∷ [])) l o (behind_holds P IsToken operator_word (optional (token (record_word ∷ function_word ∷ []))) l o h))))))

  pub kind_printed : (l : Limits) (k : Kinded) → HoldsBy P IsToken class_prefixes l k → IsPrinted class_prefixes l (kind_words k) k
  kind_printed l k (y, h, e) = subst (λ v. IsPrinted class_prefixes l (kind_words v) v) e (by_made refl (by_seq (by_word y.0 partial_word_is) (behind_printed l y.1 h.1)))

  -- `encapsulated` does not stand among them
  pub kind_open : (l : Limits) (k : Kinded) → HoldsBy P IsToken class_prefixes l k → k.1.encapsulated ≡ false
  kind_open l k (y, (hf, h), e) = ap (λ v. v.1.encapsulated) (sym e) ∙ go y.1 h
    where
      go : (x : Kinded) → HoldsBy P IsToken behind_partial l x → x.1.encapsulated ≡ false
      go x (inl (t, h, e)) = ap (λ v. v.1.encapsulated) (sym e)
      go x (inr (inl (t, h, e))) = ap (λ v. v.1.encapsulated) (sym e)
      go x (inr (inr (inl (t, h, e)))) = ap (λ v. v.1.encapsulated) (sym e)
      go x (inr (inr (inr (None, h, e)))) = ap (λ v. v.1.encapsulated) (sym e)
      go x (inr (inr (inr (Some t, h, e)))) = ap (λ v. v.1.encapsulated) (sym e)

-- ---- components

abbrev way_at : ℕ → Causal
way_at c = if c == input_word then Input else Output

each_way : HoldsEach (λ c. IsWordOf (pieces_of_causal (way_at c)) c) (input_word ∷ output_word ∷ [])
each_way = ((codes "input", input_word_is, refl), ((codes "output", output_word_is, refl), tt))

abbrev vary_at : ℕ → Vary
vary_at c = if c == discrete_word then Discrete else (if c == parameter_word then Parameter else Constant)

each_vary : HoldsEach (λ c. IsWordOf (pieces_of_vary (vary_at c)) c) (discrete_word ∷ parameter_word ∷ constant_word ∷ [])
each_vary = ((codes "discrete", discrete_word_is, refl), ((codes "parameter", parameter_word_is, refl), ((codes "constant", constant_word_is, refl), tt)))

abbrev connects_at : ℕ → List Piece
connects_at c = word_if (codes "flow") (c == flow_word) ++ word_if (codes "stream") (c == stream_word)

each_connects : HoldsEach (λ c. IsWordOf (connects_at c) c) (flow_word ∷ stream_word ∷ [])
each_connects = ((codes "flow", flow_word_is, refl), ((codes "stream", stream_word_is, refl), tt))

abbrev connects_words : Option Lexeme → List Piece
connects_words o = word_if (codes "flow") (is_code flow_word o) ++ word_if (codes "stream") (is_code stream_word o)

module _ (P : Fact Symbol ValueOf) where
  -- whether what stands there goes in or out
  pub way_printed : (l : Limits) (o : Option Causal) → HoldsBy P IsToken (optional (made way_of (token (input_word ∷ output_word ∷ [])))) l o → IsPrinted (optional (made way_of (token (input_word ∷ output_word ∷ [])))) l (pieces_of_causal (way_or_neither o)) o
  way_printed l o (inl (w, (t, h, e), s)) =
      let word = by_coded {l = l} {cs = input_word ∷ output_word ∷ []} (λ c. pieces_of_causal (way_at c)) each_way t h.1 in
      subst (λ v. IsPrinted (optional (made way_of (token (input_word ∷ output_word ∷ [])))) l (pieces_of_causal (way_or_neither v)) v) (ap Some e ∙ s) (by_present (by_made (ap way_at word.1) word.2))
  way_printed l o (inr e) = subst (λ v. IsPrinted (optional (made way_of (token (input_word ∷ output_word ∷ [])))) l (pieces_of_causal (way_or_neither v)) v) e by_absent

  vary_printed : (l : Limits) (o : Option Vary) → HoldsBy P IsToken (optional (made vary_of (token (discrete_word ∷ parameter_word ∷ constant_word ∷ [])))) l o → IsPrinted (optional (made vary_of (token (discrete_word ∷ parameter_word ∷ constant_word ∷ [])))) l (pieces_of_vary (vary_or_free o)) o
  vary_printed l o (inl (w, (t, h, e), s)) =
      let word = by_coded {l = l} {cs = discrete_word ∷ parameter_word ∷ constant_word ∷ []} (λ c. pieces_of_vary (vary_at c)) each_vary t h.1 in
      subst (λ v. IsPrinted (optional (made vary_of (token (discrete_word ∷ parameter_word ∷ constant_word ∷ [])))) l (pieces_of_vary (vary_or_free v)) v) (ap Some e ∙ s) (by_present (by_made (ap vary_at word.1) word.2))
  vary_printed l o (inr e) = subst (λ v. IsPrinted (optional (made vary_of (token (discrete_word ∷ parameter_word ∷ constant_word ∷ [])))) l (pieces_of_vary (vary_or_free v)) v) e by_absent

  -- the word of a connector's component, by a token of the same code
  connects_printed : (l : Limits) (o : Option Lexeme) → HoldsBy P IsToken (optional (token (flow_word ∷ stream_word ∷ []))) l o → (u : Option Lexeme) × (is_code flow_word u ≡ is_code flow_word o) × (is_code stream_word u ≡ is_code stream_word o) × IsPrinted (optional (token (flow_word ∷ stream_word ∷ []))) l (connects_words o) u
  connects_printed l o h = go o (optional_holds P IsToken (token (flow_word ∷ stream_word ∷ [])) l o h)
    where
      go : (o : Option Lexeme) → HoldsOption (λ t. IsToken t × IsTrue (has (flow_word ∷ stream_word ∷ []) (code_of t))) o → (u : Option Lexeme) × (is_code flow_word u ≡ is_code flow_word o) × (is_code stream_word u ≡ is_code stream_word o) × IsPrinted (optional (token (flow_word ∷ stream_word ∷ []))) l (connects_words o) u
      go None h = (None, refl, refl, by_absent)
      go (Some t) h =
          let word = by_coded {l = l} {cs = flow_word ∷ stream_word ∷ []} connects_at each_connects t h.1 in
          (Some word.0, ap (λ c. c == flow_word) word.1, ap (λ c. c == stream_word) word.1, by_present word.2)

  -- the prefixes of a component
  pub prefix_printed : (l : Limits) (p : Prefix) → HoldsBy P IsToken prefix l p → IsPrinted prefix l (pieces_of_prefix p) p
  prefix_printed l p (y, h, e) =
      let connects = connects_printed l y.0 h.0 in
      let same : prefix_of (connects.0, y.1) ≡ prefix_of y = both connects.0 y.0 connects.1 connects.2 in
      subst (λ v. IsPrinted prefix l (pieces_of_prefix v) v) e
      (by_pieces (append_assoc (word_if (codes "flow") (is_code flow_word y.0)) (word_if (codes "stream") (is_code stream_word y.0)) (pieces_of_vary (vary_or_free y.1.0) ++ pieces_of_causal (way_or_neither y.1.1)))
      (by_made same (by_seq connects.3 (by_seq (vary_printed l y.1.0 h.1.0) (way_printed l y.1.1 h.1.1)))))
    where
      both : (u o : Option Lexeme) → is_code flow_word u ≡ is_code flow_word o → is_code stream_word u ≡ is_code stream_word o → prefix_of (u, y.1) ≡ prefix_of (o, y.1)
      both u o f s = cc
