-- Files that are put into a folder, one after another.
use Rattle.std.proofs.Common.{◌≡◌, ℕ, ◌+◌, ◌<◌, ◌≤◌, List, [], ◌∷◌, ◌++◌, length, get_or, drop, map, Option, Some}
use Rattle.std.proofs.Common.{None, option_map, refl, sym, ap, ap₂, ◌∙◌, subst, append_assoc}
use Rattle.std.proofs.lemmas.List.{append-nil, drop_all, drop_more, length-append}
use Rattle.js_doc.specs.Seen.{value_of}
use Rattle.js_doc.specs.declared.doc.Doc.{Doc}
use Rattle.js_upgrade_cli.specs.Names.{path_in}
use Rattle.js_doc.specs.Value.{Text}
use Rattle.js_upgrade_cli.specs.Outputs.{Written, HasPut, IsPartlyPut, files_in}
use Rattle.js_output.specs.Values.{value_line}
use Rattle.js_command.specs.Words.{pairs_seen}
use Rattle.js_command.specs.declared.words.DocumentFile.{DocumentFile}

pub put_nothing : (known : Option Written) → HasPut known known []
put_nothing None = refl
put_nothing (Some files) = ap Some (sym (append-nil files))

pub put_then : (old between new : Option Written) (first second : Written) → HasPut old between first
    → HasPut between new second → HasPut old new (first ++ second)
put_then None between new first second p q = q ∙ ap (option_map (λ before. before ++ second)) p
put_then (Some files) between new first second p q =
    q ∙ ap (option_map (λ before. before ++ second)) p ∙ ap Some (append_assoc files first second)

-- those that are left
abbrev left_in : Text → List DocumentFile → List Doc → ℕ → Written
left_in path files documents at =
    files_in path (pairs_seen (drop at files)) (map value_of (drop at documents))

abbrev all_in : Text → List DocumentFile → List Doc → Written
all_in path files documents = files_in path (pairs_seen files) (map value_of documents)

-- this many were put, and those left are the others
pub record IsPutSoFar (path : Text) (files : List DocumentFile) (documents : List Doc) (at : ℕ)
    (before after : Option Written) : Type 0 where
  pub done : Written
  pub many : length done ≡ at
  pub put : HasPut before after done
  pub whole : all_in path files documents ≡ done ++ left_in path files documents at

pub put_none : (path : Text) (files : List DocumentFile) (documents : List Doc) (known : Option Written)
    → IsPutSoFar path files documents 0 known known
put_none path files documents known = record { done = []; many = refl; put = put_nothing known; whole = refl }

module _ (path : Text) (files : List DocumentFile) (documents : List Doc) (at : ℕ) where
  pub put_more : (f : DocumentFile) (d : Doc) (before between after : Option Written)
      → at < length files → at < length documents → d ≡ get_or documents at d
      → IsPutSoFar path files documents at before between
      → HasPut between after ((path_in path (get_or files at f).file.now, value_line (value_of d)) ∷ [])
      → IsPutSoFar path files documents (at + 1) before after
  put_more f d before between after low few here sofar put =
      let this : Text × List ℕ = (path_in path (get_or files at f).file.now, value_line (value_of d)) in
      let files_are : drop at files ≡ get_or files at f ∷ drop (at + 1) files = drop_more files at f low in
      let documents_are : drop at documents ≡ d ∷ drop (at + 1) documents = drop_more documents at d few
      ∙ ap (λ x. x ∷ drop (at + 1) documents) (sym here) in
      let left : left_in path files documents at ≡ this ∷ left_in path files documents (at + 1) =
      ap₂ (λ fs ds. files_in path (pairs_seen fs) (map value_of ds)) files_are documents_are in record {
        done = sofar.done ++ this ∷ [];
        many = length-append sofar.done (this ∷ []) ∙ ap (λ n. n + 1) sofar.many;
        put = put_then before between after sofar.done (this ∷ []) sofar.put put;
        whole = sofar.whole ∙ ap (λ ws. sofar.done ++ ws) left
            ∙ sym (append_assoc sofar.done (this ∷ []) (left_in path files documents (at + 1)));
      }

  none_left : (files_left : List DocumentFile) (documents_left : List Doc) → files_left ≡ []
      → files_in path (pairs_seen files_left) (map value_of documents_left) ≡ []
  none_left files_left documents_left e = ap (λ fs. files_in path (pairs_seen fs) (map value_of documents_left)) e

  none_to_put : (files_left : List DocumentFile) (documents_left : List Doc) → documents_left ≡ []
      → files_in path (pairs_seen files_left) (map value_of documents_left) ≡ []
  none_to_put [] documents_left e = refl
  none_to_put (f ∷ fs) documents_left e = ap (λ ds. files_in path (pairs_seen (f ∷ fs)) (map value_of ds)) e

  whole_put : (before after : Option Written) → left_in path files documents at ≡ []
      → IsPutSoFar path files documents at before after → HasPut before after (all_in path files documents)
  whole_put before after none sofar =
      subst (HasPut before after)
      (sym (sofar.whole ∙ ap (λ ws. sofar.done ++ ws) none ∙ append-nil sofar.done)) sofar.put

  pub put_all_files : (before after : Option Written) → length files ≤ at
      → IsPutSoFar path files documents at before after → HasPut before after (all_in path files documents)
  put_all_files before after end =
      whole_put before after (none_left (drop at files) (drop at documents) (drop_all at files end))

  pub put_all_documents : (before after : Option Written) → length documents ≤ at
      → IsPutSoFar path files documents at before after → HasPut before after (all_in path files documents)
  put_all_documents before after end =
      whole_put before after (none_to_put (drop at files) (drop at documents) (drop_all at documents end))

  pub put_partly : (before after : Option Written) → IsPutSoFar path files documents at before after
      → IsPartlyPut before after (all_in path files documents) (Some at)
  put_partly before after sofar =
      (sofar.done, left_in path files documents at, sofar.whole, sofar.put, ap Some (sym sofar.many))
