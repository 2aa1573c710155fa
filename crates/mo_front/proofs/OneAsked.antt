-- What words ask for is one thing, and so what is told of them.
use Rattle.std.proofs.Common.{◌≡◌, ℕ, List, Option, None, Some, ap, sym, ◌∙◌, subst}
use Rattle.mo_syntax.specs.declared.text.Path.{Path}
use Rattle.mo_lexer.proofs.Unique.{same_tokens}
use Rattle.mo_ports.specs.Contents.{Contents}
use Rattle.mo_front.specs.declared.status.Status.{Status}
use Rattle.mo_front.specs.declared.words.Emit.{Emit}
use Rattle.mo_front.specs.declared.words.Words.{Words}
use Rattle.mo_front.specs.declared.words.Words.TheVariants.{Job, Make}
use Rattle.mo_front.specs.Ladder.{TellsLadder, ladder_path, ladder_texts}
use Rattle.mo_front.specs.Run.{TellsAsked, TellsFiles, TellsWords}
use Rattle.mo_front.specs.Told.{FilesGive, bytes_of_all, line_of_broken}
use Rattle.mo_front.specs.Words.{Names, NamesClass, NamesRungs, dotted_names}
use Rattle.mo_front.proofs.Once.{one_of_files, one_of_texts}
use Rattle.mo_front.proofs.OneTold.{one_ladder, one_told}
use Rattle.mo_front.proofs.OneVerdict.{one_verdict_told}
use Rattle.mo_front.proofs.Writing.{job_of, one_emit, one_form, one_verify}

some_is : {A : Type 0} (a b : A) → Some a ≡ Some b → a ≡ b
some_is a b e = cc

-- a word names one class
one_class : (word : List ℕ) (path other : List (List ℕ)) → NamesClass word path → NamesClass word other → path ≡ other
one_class word path other a b = some_is path other (sym a.dotted ∙ ap dotted_names (same_tokens 0 word b.tokens a.tokens b.lexes a.lexes) ∙ b.dotted)

module _ (words : List (List ℕ)) where
  one_path : (class other : Path) (emit again : Emit) (files more : List (List ℕ)) (verify over : Option (List ℕ)) → Names words (Job class emit files verify) → Names words (Job other again more over) → class.0 ≡ other.0
  one_path class other emit again files more verify over a b =
      let job = job_of words class emit files verify a in
      let others = job_of words other again more over b in
      one_class job.class class.0 other.0 job.names_class
      (subst (λ (w : List ℕ). NamesClass w other.0) (some_is others.class job.class (sym others.class_given ∙ job.class_given)) others.names_class)

  same_files : (class other : Path) (emit again : Emit) (files more : List (List ℕ)) (verify over : Option (List ℕ)) → Names words (Job class emit files verify) → Names words (Job other again more over) → files ≡ more
  same_files class other emit again files more verify over a b =
      some_is files more (sym (job_of words class emit files verify a).files_given ∙ (job_of words other again more over b).files_given)

  same_rungs : (n m : ℕ) → Names words (Make n) → Names words (Make m) → n ≡ m
  same_rungs n m a b =
      let same : b.asks.word ≡ a.asks.word = some_is b.asks.word a.asks.word (sym b.asks.ladder_given ∙ a.asks.ladder_given) in
      let named : NamesRungs a.asks.word m = subst (λ (w : List ℕ). NamesRungs w m) same b.asks.names_rungs in
      a.asks.names_rungs.is ∙ sym named.is

  module _ (contents : Contents) (status other : Status) (text more : List ℕ) where
    one_job : (path : List (List ℕ)) (emit : Emit) (files : List (List ℕ)) (verify : Option (List ℕ)) → TellsFiles path emit files verify contents status text → TellsFiles path emit files verify contents other more
        → (status ≡ other) × (text ≡ more)
    one_job path emit files None =
        one_told (FilesGive path files contents) (one_of_files path files contents) (line_of_broken files (bytes_of_all contents files)) emit status other text more
    one_job path emit files (Some report) = one_verdict_told path files report contents status other text more

    same_job : (path path' : List (List ℕ)) (emit emit' : Emit) (files files' : List (List ℕ)) (verify verify' : Option (List ℕ)) → path ≡ path' → emit ≡ emit' → files ≡ files' → verify ≡ verify'
        → TellsFiles path' emit' files' verify' contents other more → TellsFiles path emit files verify contents other more
    same_job path path' emit emit' files files' verify verify' p e f v tells =
        subst (λ (x : List (List ℕ)). TellsFiles x emit files verify contents other more) (sym p)
        (subst (λ (x : Emit). TellsFiles path' x files verify contents other more) (sym e)
        (subst (λ (x : List (List ℕ)). TellsFiles path' emit' x verify contents other more) (sym f) (subst (λ (x : Option (List ℕ)). TellsFiles path' emit' files' x contents other more) (sym v) tells)))

    told_of : (asked again : Words) → Names words asked → Names words again → TellsAsked asked contents status text → TellsAsked again contents other more → (status ≡ other) × (text ≡ more)
    told_of (Job class emit files verify) (Job class' emit' files' verify') a b tells tells' =
        one_job class.0 emit files verify tells
        (same_job class.0 class'.0 emit emit' files files' verify verify' (one_path class class' emit emit' files files' verify verify' a b) (one_emit words class class' emit emit' files files' verify verify' a b)
        (same_files class class' emit emit' files files' verify verify' a b) (one_verify words class class' emit emit' files files' verify verify' a b) tells')
    told_of (Job class emit files verify) (Make n) a b tells tells' = one_form words class emit files verify n a b
    told_of (Make n) (Job class emit files verify) a b tells tells' = one_form words class emit files verify n b a
    told_of (Make n) (Make m) a b tells tells' =
        one_ladder n (one_of_texts ladder_path (ladder_texts n)) status other text more tells (subst (λ (k : ℕ). TellsLadder k other more) (sym (same_rungs n m a b)) tells')

    pub one_of_words : TellsWords words contents status text → TellsWords words contents other more → (status ≡ other) × (text ≡ more)
    one_of_words a b = told_of a.asked b.asked a.names b.names a.tells b.tells
