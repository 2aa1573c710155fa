-- Steps of reading a name piece by piece.
use Rattle.std.proofs.Common.{◌≡◌, ℕ, ◌+◌, ◌≤◌, List, [], ◌++◌, length, take, sym, ◌∙◌, ap, subst, Option, Some, None, unwrap_or, IfSome}
use Rattle.std.proofs.Math.Seq.{take-add}
use Rattle.mo_ports.specs.Counts.{raised}
use Rattle.mo_ports.specs.Contents.{Contents, ReadsAt}

-- what was read of the name after `at` bytes, where the shelf told and had counted what it had before
pub record IsReadUpTo (first now : Option Contents) (name : List ℕ) (limit at : ℕ) (bytes : List ℕ) (taken_first taken_now faults_first faults_now : ℕ) (failed_first failed_now : Option (List ℕ)) : Type 0 where
  pub same : now ≡ first
  pub within : at ≤ limit
  pub count : length bytes ≡ at
  pub front : IfSome first (λ contents. bytes ≡ take at (unwrap_or (contents name) []))
  pub taken : raised taken_first at ≤ taken_now
  pub taken_later : taken_first ≤ taken_now
  pub faults : faults_first ≤ faults_now
  pub failed : failed_now ≡ failed_first

-- before the first read, nothing was read
pub starts : (told : Option Contents) (name bytes : List ℕ) → bytes ≡ [] → IfSome told (λ contents. bytes ≡ take 0 (unwrap_or (contents name) []))
starts None name bytes is = tt
starts (Some contents) name bytes is = is

grows_at : (all : Option (List ℕ)) (at count : ℕ) (bytes after buf : List ℕ)
    → bytes ≡ take at (unwrap_or all []) → ReadsAt all at buf count → after ≡ bytes ++ take count buf
    → after ≡ take (at + count) (unwrap_or all [])
grows_at None at count bytes after buf is reads step = absurd reads
grows_at (Some all) at count bytes after buf is reads step =
    step ∙ ap (λ (x : List ℕ). x ++ take count buf) is ∙ ap (λ (x : List ℕ). take at all ++ x) reads.0 ∙ sym (take-add at count all)

-- a read gives the bytes that follow
pub grows : (told now : Option Contents) (name : List ℕ) (at count : ℕ) (bytes after buf : List ℕ)
    → now ≡ told
    → IfSome told (λ contents. bytes ≡ take at (unwrap_or (contents name) []))
    → IfSome now (λ contents. ReadsAt (contents name) at buf count)
    → after ≡ bytes ++ take count buf
    → IfSome told (λ contents. after ≡ take (at + count) (unwrap_or (contents name) []))
grows None now name at count bytes after buf same is reads step = tt
grows (Some contents) now name at count bytes after buf same is reads step =
    let P : Option Contents → Type 0 = λ o. IfSome o (λ contents'. ReadsAt (contents' name) at buf count) in
    grows_at (contents name) at count bytes after buf is (subst P same reads) step
